use Rattle.std.proofs.Common.{◌∙◌, length-set, rules}
use Rattle.absdom.specs.State.{IsProper}
use Rattle.absdom.proofs.StateSteps.{proper_after}
use Rattle.absdom.proofs.state.State.write.Goals as goal

pub invariant_of-self : goal.invariant_of-self
invariant_of-self c = record {
  sizes =
      record {
        registers = length-set _ _ _ ∙ c.self.invariant.sizes.registers;
        bytes = c.self.invariant.sizes.bytes;
        words = c.self.invariant.sizes.words;
      };
  kinds =
      let proper : IsProper c.args.kind = search rules in
      proper_after _ _ c.args.kind proper c.self.invariant.kinds;
  ranges = c.self.invariant.ranges;
  unset = c.self.invariant.unset;
}
