-- Laws of the meaning of policy tables.
use Rattle.std.specs.Prelude.{◌≡◌, ◌≤◌, ℕ, true, false, List, [], ◌∷◌, ◌++◌, length, None, All}
use Rattle.machine.specs.Memory.{Header, header}
use Rattle.machine.specs.Runs.{AreAnswered}
use Rattle.rmap.specs.Command.{CommandValue, key_of, initiator_of, extended_of, address_of, length_of, command_kind}
use Rattle.rmap.specs.Command.{increments}
use Rattle.rmap.specs.Verdict.{verdict_number}
use Rattle.rmap.specs.declared.verdict.Verdict.TheVariants.{NotAuthorised}
use Rattle.policy_table.specs.declared.rules.Rule.{Rule}
use Rattle.policy_table.specs.Meaning.{decision, fields_of, holds}

-- the fields of a command's header are the command's
pub record HaveFields (c : CommandValue) : Type 0 where
  pub key : key_of (fields_of (header c.front c.tail)) ≡ key_of c
  pub initiator : initiator_of (fields_of (header c.front c.tail)) ≡ initiator_of c
  pub extended : extended_of (fields_of (header c.front c.tail)) ≡ extended_of c
  pub address : address_of (fields_of (header c.front c.tail)) ≡ address_of c
  pub length : length_of (fields_of (header c.front c.tail)) ≡ length_of c
  pub kind : command_kind (fields_of (header c.front c.tail)) ≡ command_kind c
  pub increment : increments (fields_of (header c.front c.tail)) ≡ increments c

-- of every command
abbrev pub HeadersHaveFields : Type 0
HeadersHaveFields = (c : CommandValue) → HaveFields c

-- a table draws at most once a rule
abbrev pub DrawsAreFew : Type 0
DrawsAreFew =
    (rules : List Rule) (header : Header) (reported : ℕ → ℕ) → length (decision rules header reported).0 ≤ length rules

-- the given answers answer its draws, in order
abbrev pub DrawsAreAnswered : Type 0
DrawsAreAnswered =
    (rules : List Rule) (header : Header) (reported : ℕ → ℕ) → AreAnswered reported (decision rules header reported).0

-- if the first rule whose conditions hold has no quota, nothing is drawn, and the verdict is the rule's
abbrev pub FirstRuleDecides : Type 0
FirstRuleDecides =
    (before after : List Rule) (rule : Rule) (header : Header) (reported : ℕ → ℕ)
    → All (λ other. holds other header ≡ false) before → holds rule header ≡ true → rule.quota ≡ None
    → decision (before ++ rule ∷ after) header reported ≡ ([], verdict_number rule.verdict)

-- if the conditions of no rule hold, nothing is drawn, and the command is not authorised
abbrev pub NoRuleRefuses : Type 0
NoRuleRefuses =
    (rules : List Rule) (header : Header) (reported : ℕ → ℕ)
    → All (λ rule. holds rule header ≡ false) rules → decision rules header reported
    ≡ ([], verdict_number NotAuthorised)
