-- What a table with ports means: at each port it is the table of the rules that are asked there.
use Rattle.std.specs.Prelude.{◌<◌, ℕ, suc, if◌then◌else◌, false, List, [], ◌∷◌, Option, Some, None}
use Rattle.machine.specs.declared.calls.Call.{Call}
use Rattle.machine.specs.Memory.{Header}
use Rattle.policy_table.specs.Limits.{FitsFields}
use Rattle.policy_table.specs.Meaning.{agrees, decision}
use Rattle.policy_table.specs.declared.port_rules.PortRule.{PortRule}
use Rattle.policy_table.specs.declared.rules.Rule.{Rule}

-- the rules that are asked at a port, in order: those of this port, and those of every port
abbrev pub rules_at : (port : ℕ) → List PortRule → List Rule
rules_at port [] = []
rules_at port (own ∷ rules) = if agrees own.port port then own.rule ∷ rules_at port rules else rules_at port rules

-- the draws of a table on a header at a port, each with its answer, and the number of the verdict. The rules that are
-- asked there decide, so that a rule of another port draws nothing
abbrev pub port_decision : List PortRule → Header → (port : ℕ) → (reported : ℕ → ℕ) → List Call × ℕ
port_decision rules header port reported = decision (rules_at port rules) header reported

-- a rule that is asked at every port, in the line of this number
abbrev pub at_every_port : (line : ℕ) → Rule → PortRule
at_every_port line rule = record { rule = rule; port = None; line = line; named = false }

-- rules that are asked at every port, one a line, the first in the line of this number
abbrev pub on_lines : (line : ℕ) → List Rule → List PortRule
on_lines line [] = []
on_lines line (rule ∷ rules) = at_every_port line rule ∷ on_lines (suc line) rules

-- a field holds a port, if there is one
abbrev pub IsPortField : Option ℕ → Type 0
IsPortField None = Unit {0}
IsPortField (Some port) = port < 32

-- the numbers of a rule with a port fit their fields
pub record FitsPort (own : PortRule) : Type 0 where
  pub rule : FitsFields own.rule
  pub port : IsPortField own.port
