-- The rules that a table asks at a port.
use Rattle.std.specs.Prelude.{ℕ, List}
use Rattle.policy_table.specs.Policies.{PolicyValue}
use Rattle.policy_table.specs.PortTables.{lines_at}
use Rattle.policy_table.specs.Ports.{rules_at}
use Rattle.policy_table.specs.declared.rules.Rule.{Rule}

-- rules that are asked at a port, and their lines
pub record AskedValue : Type 0 where
  pub port : ℕ
  pub rules : List Rule
  pub lines : List ℕ

-- of these parts
abbrev pub asked : (port : ℕ) → List Rule → (lines : List ℕ) → AskedValue
asked port rules lines = record { port = port; rules = rules; lines = lines }

-- the rules of a table that are asked at a port, with their lines
abbrev pub asked_at : PolicyValue → (port : ℕ) → AskedValue
asked_at policy port = asked port (rules_at port policy.rules) (lines_at port policy.rules)
