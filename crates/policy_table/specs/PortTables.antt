-- The table of a port: the rules that are asked there, the lines in which they are, and which ports a rule names.
use Rattle.std.specs.Prelude.{◌≡◌, ◌==◌, ◌||◌, ℕ, Bool, false, if◌then◌else◌, List, [], ◌∷◌, Option, Some, None}
use Rattle.policy_table.specs.Meaning.{agrees}
use Rattle.policy_table.specs.Ports.{rules_at}
use Rattle.policy_table.specs.declared.port_rules.PortRule.{PortRule}

-- the numbers of the lines of the rules that are asked at a port, in order
abbrev pub lines_at : (port : ℕ) → List PortRule → List ℕ
lines_at port [] = []
lines_at port (own ∷ rules) = if agrees own.port port then own.line ∷ lines_at port rules else lines_at port rules

-- whether the port of a rule is this one
abbrev pub is_port : Option ℕ → (port : ℕ) → Bool
is_port None port = false
is_port (Some own) port = port == own

-- whether a rule names a port
abbrev pub is_named : (port : ℕ) → List PortRule → Bool
is_named port [] = false
is_named port (own ∷ rules) = is_port own.port port || is_named port rules

-- the same rules, of the same lines, are asked at two ports
pub record AreAskedAlike (rules : List PortRule) (one other : ℕ) : Type 0 where
  pub same_rules : rules_at one rules ≡ rules_at other rules
  pub same_lines : lines_at one rules ≡ lines_at other rules

-- so it is at all ports that no rule names
abbrev pub UnnamedPortsAreAlike : Type 0
UnnamedPortsAreAlike =
    (rules : List PortRule) (one other : ℕ) → is_named one rules ≡ false → is_named other rules ≡ false
    → AreAskedAlike rules one other
