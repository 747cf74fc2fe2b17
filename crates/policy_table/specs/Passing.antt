-- Why the rules before the one that decides do not match.
use Rattle.std.specs.Prelude.{List, [], ◌∷◌, drop, slice_get, Option, Some, None}
use Rattle.machine.specs.declared.calls.Call.{Call}
use Rattle.machine.specs.Memory.{Header}
use Rattle.policy_table.specs.Mismatches.{passed}
use Rattle.policy_table.specs.declared.mismatches.Passed.{Passed}
use Rattle.policy_table.specs.declared.mismatches.Passed.TheVariants.{Unlike, Spent}
use Rattle.policy_table.specs.declared.rules.Rule.{Rule}

-- the draws after those of a rule that does not match
abbrev pub draws_after : Passed → List Call → List Call
draws_after (Unlike mismatch) draws = draws
draws_after (Spent call limit) draws = drop 1 draws

-- a rule that does not match, before those after it; none from the rule on that matches
abbrev pub passed_first : Option Passed → (later : List Call → List Passed) → (draws : List Call) → List Passed
passed_first None later draws = []
passed_first (Some why) later draws = why ∷ later (draws_after why draws)

-- why rules do not match a header, up to the first that does, if these are their draws, in order
abbrev pub passed_rules : List Rule → Header → (draws : List Call) → List Passed
passed_rules [] header draws = []
passed_rules (rule ∷ rules) header draws =
    passed_first (passed rule header (slice_get draws 0)) (λ left. passed_rules rules header left) draws
