use Rattle.std.proofs.Common.{◌∙◌, ap, sym, subst, length}
use Rattle.absdom_num.specs.declared.ranges.Range.{Range}
use Rattle.absdom_num.specs.Ranges.{IsRange}
use Rattle.absdom_stack.proofs.WordSteps.{length-whole, whole_proper}
use Rattle.absdom.proofs.state.State.forget_words.Goals as goal

pub invariant_of-self : goal.invariant_of-self
invariant_of-self c = record {
  sizes =
      record {
        registers = c.self.invariant.sizes.registers;
        bytes = c.self.invariant.sizes.bytes;
        words = ap length c.forget.ensures.whole ∙ length-whole;
      };
  kinds = c.self.invariant.kinds;
  ranges = λ k. subst (λ (r : Range). IsRange r) (sym (c.forget.ensures.unknown k)) whole_proper;
  unset = λ k e. c.forget.ensures.unknown k;
}
