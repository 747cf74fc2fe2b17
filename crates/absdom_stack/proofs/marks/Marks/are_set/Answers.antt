use Rattle.std.proofs.Common.{Bool, List, subst, sym, arith}
use Rattle.absdom_stack.proofs.MarkMasks.{AreMarkedBelow, set_all, set_next, set_none, unset_one}
use Rattle.absdom_stack.proofs.marks.Marks.are_set.Goals as goal

pub loop-word-init : goal.loop-word-init
loop-word-init c = record { so_far = set_none c.args.self.now c.args.first c.args.end; near = omega arith }

pub loop-word-preserved : goal.loop-word-preserved
loop-word-preserved c = record {
  so_far =
      rw (← c.self.view_is)
      (set_next c.self.inside.words c.args.first c.args.end c.loop-word.word c.bits_in.result c.bits_in.ensures (c.has_all.ensures.0 c.if-not-has_all.false)
      (subst (λ (marks : List Bool). AreMarkedBelow marks c.args.first c.args.end c.loop-word.word) (sym c.self.view_is) c.loop-word.invariant.so_far));
  near = omega (arith, c.loop-word-test.true);
}

pub returns-then-not-has_all : goal.returns-then-not-has_all
returns-then-not-has_all c =
    rw (← c.self.view_is)
    (sym (unset_one c.self.inside.words c.args.first c.args.end c.loop-word.word c.bits_in.result c.bits_in.ensures (λ has. absurd (cc (c.has_all.ensures.1 has, c.if-not-has_all.true)))))

pub returns : goal.returns
returns c =
    sym (set_all c.args.self.now c.args.first c.args.end c.loop-word.word (omega (arith, c.loop-word-test.false)) c.loop-word.invariant.so_far)
