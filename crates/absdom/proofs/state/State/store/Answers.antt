use Rattle.std.proofs.Common.{◌∙◌, ap, length, rules}
use Rattle.absdom_num.specs.Ranges.{IsRange}
use Rattle.absdom_stack.proofs.MarkSteps.{length-stored_marks}
use Rattle.absdom_stack.proofs.WordSteps.{whole_proper, length-stored, stored_each, stored_unset}
use Rattle.absdom.proofs.state.State.store.Goals as goal

pub invariant_of-self : goal.invariant_of-self
invariant_of-self c =
    let proper : IsRange c.args.value = search rules in
    record {
      sizes =
          record {
            registers = c.self.invariant.sizes.registers;
            bytes = ap length c.mark_stored.ensures ∙ length-stored_marks c.self.inside.marks c.args.bytes (c.args.lowest, c.args.highest) ∙ c.self.invariant.sizes.bytes;
            words = ap length c.store.ensures ∙ length-stored c.args.spill c.self.inside.words c.args.bytes (c.args.lowest, c.args.highest) c.args.value ∙ c.self.invariant.sizes.words;
          };
      kinds = c.self.invariant.kinds;
      ranges = λ k.
          rw c.store.ensures
          (stored_each IsRange c.args.spill c.self.inside.words c.args.bytes (c.args.lowest, c.args.highest) c.args.value proper whole_proper c.self.invariant.ranges k);
      unset = λ k.
          rw (c.store.ensures, c.mark_stored.ensures)
          (stored_unset c.args.spill c.self.inside.marks c.self.inside.words c.args.bytes (c.args.lowest, c.args.highest) c.args.value c.self.invariant.sizes.bytes c.requires.inside c.self.invariant.unset k);
    }
