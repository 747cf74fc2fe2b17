use Rattle.std.proofs.Common.{refl}
use Rattle.absdom_stack.specs.Bits.{marks_of}
use Rattle.absdom_stack.specs.Marks.{AreMarkedIn}
use Rattle.absdom_stack.proofs.MarkMasks.{kept_all, kept_bits, kept_next}
use Rattle.absdom_stack.proofs.marks.Marks.leq.Goals as goal

pub loop-word-preserved : goal.loop-word-preserved
loop-word-preserved c =
    rw (← c.self.view_is, ← c.other.view_is)
    (kept_next c.other.inside.words c.self.inside.words c.loop-word.word (c.has_all.ensures.0 c.if-not-has_all.false)
    (rw (c.self.view_is, c.other.view_is) c.loop-word.invariant))

pub returns-then-not-has_all : goal.returns-then-not-has_all
returns-then-not-has_all c = (
  λ is. absurd cc,
  λ kept.
      let there : AreMarkedIn (marks_of c.other.inside.words) (marks_of c.self.inside.words) = rw (c.self.view_is, c.other.view_is) kept in
      absurd (cc (c.has_all.ensures.1 (kept_bits c.other.inside.words c.self.inside.words c.loop-word.word there), c.if-not-has_all.true)),
)

pub returns : goal.returns
returns c = (
  λ is.
      rw (← c.self.view_is, ← c.other.view_is)
      (kept_all c.other.inside.words c.self.inside.words c.loop-word.word c.other.invariant.count c.loop-word-test.false
      (rw (c.self.view_is, c.other.view_is) c.loop-word.invariant)),
  λ kept. refl,
)
