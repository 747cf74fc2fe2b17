-- What a walk over the rules of a table leaves.
use Rattle.std.specs.Prelude.{◌≡◌, ◌++◌, ℕ, List}
use Rattle.machine.specs.declared.calls.Call.{Call}
use Rattle.machine.specs.Memory.{Header}
use Rattle.policy_table.specs.Matching.{matched}
use Rattle.policy_table.specs.Meaning.{decision, answers_in_turn}
use Rattle.policy_table.specs.Tickets.{tickets_left, tickets_given}
use Rattle.policy_table.specs.declared.matching.Match.{Match}
use Rattle.policy_table.specs.declared.rules.Rule.{Rule}

module _ {Tickets : Type 0} (next : Tickets → (map cell : ℕ) → ℕ) (after : Tickets → (map cell : ℕ) → Tickets) where
  -- what the tickets answer to the draws of a table
  abbrev pub reported : List Rule → Header → Tickets → ℕ → ℕ
  reported rules header tickets = answers_in_turn (tickets_given next after rules header tickets)

  -- the rule that matches was found, if the tickets answer the draws. The calls grew by the draws, and the tickets left
  -- are those after them
  pub record IsWalked (rules : List Rule) (header : Header) (before left : Tickets) (old new : List Call) (found : Match) : Type 0 where
    pub found_is : found ≡ matched rules header (reported rules header before)
    pub calls_are : new ≡ old ++ (decision rules header (reported rules header before)).0
    pub left_is : left ≡ tickets_left after before (decision rules header (reported rules header before)).0
