use Rattle.std.proofs.Common.{ap, ◌∙◌, ◌*◌, arith}
use Rattle.absdom_stack.proofs.MarkBits.{length-marks, marks_joined}
use Rattle.absdom_stack.proofs.marks.Marks.join.Goals as goal

pub returns-clause-both : goal.returns-clause-both
returns-clause-both c =
    rw (← c.self.view_is, ← c.other.view_is)
    (marks_joined c.self.inside.words c.other.inside.words c.loop-k.self-inside.words c.self.invariant.count c.other.invariant.count c.loop-k.invariant.size.count
    (λ k h. c.loop-k.invariant.both k (omega arith)))

pub returns-clause-length : goal.returns-clause-length
returns-clause-length c =
    length-marks c.loop-k.self-inside.words ∙ ap (λ n. 64 * n) c.loop-k.invariant.size.count
