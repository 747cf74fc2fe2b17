use Rattle.std.specs.Prelude.{is_none}
use Rattle.std.proofs.Common.{◌∙◌, Option, ap}
use Rattle.machine.specs.Memory.{header}
use Rattle.policy_table.specs.declared.mismatches.Mismatch.{Mismatch}
use Rattle.policy_table.proofs.Mismatching.{none_holds}
use Rattle.policy_table.proofs.rules.Rule.mismatch.Goals as goal

pub returns-clause-none : goal.returns-clause-none
returns-clause-none c =
    ap (λ (found : Option Mismatch). is_none found) c.first_mismatch.ensures
    ∙ none_holds c.args.self.now (header c.args.front.now c.args.tail.now)
