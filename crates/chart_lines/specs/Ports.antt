-- The ports of which charts are made, and those for which each chart holds.
use Rattle.std.specs.Prelude.{◌≡◌, ◌⊎◌, ◌==◌, ◌&&◌, ◌||◌, ℕ, zero, suc, Bool, true, false, not, if◌then◌else◌, List, [], ◌∷◌, ◌++◌}
use Rattle.policy_table.specs.Policies.{PolicyValue}
use Rattle.policy_table.specs.PortTables.{is_named}
use Rattle.chart_lines.specs.declared.ports.Tables.{Tables}
use Rattle.chart_lines.specs.declared.ports.Tables.TheVariants.{One, Two}

-- whether a rule of a table names a port, or of either of two
abbrev pub names_port : Tables → (port : ℕ) → Bool
names_port (One table) port = is_named port table.now.rules
names_port (Two old new) port = is_named port old.now.rules || is_named port new.now.rules

-- whether a rule of either table names a port
abbrev pub is_named_by : (old new : PolicyValue) → (port : ℕ) → Bool
is_named_by old new port = is_named port old.rules || is_named port new.rules

-- a number, if it is wanted
abbrev pub one_if : (wanted : Bool) → ℕ → List ℕ
one_if wanted number = if wanted then number ∷ [] else []

-- the numbers below one that are wanted, from the least on
abbrev pub wanted_below : (wanted : ℕ → Bool) → ℕ → List ℕ
wanted_below wanted zero = []
wanted_below wanted (suc n) = wanted_below wanted n ++ one_if (wanted n) n

-- if these ports are named
module _ (named : (port : ℕ) → Bool) where
  -- whether each port below that one is named
  abbrev pub are_named : (port : ℕ) → Bool
  are_named zero = true
  are_named (suc port) = are_named port && named port

  -- whether a chart of a port is made: it is named, or it is the first that is not
  abbrev pub is_charted : (port : ℕ) → Bool
  is_charted port = named port || are_named port

  -- whether the chart of a port holds at another: at itself, and, if the port is not named, at all such ports
  abbrev pub stands_for : (own port : ℕ) → Bool
  stands_for own port = if named port then own == port else not (named own)

  -- the ports, of 32, at which it holds
  unfoldable pub ports_for : (own : ℕ) → List ℕ
  ports_for own = wanted_below (λ port. stands_for own port) 32

-- if a chart of the port is made, this holds; if not, nothing changes
abbrev pub AtPort : {T : Type 0} → (named : (port : ℕ) → Bool) → (reports : (port : ℕ) → (before after : T) → Type 0) → (port : ℕ)
    → (before after : T) → Type 0
AtPort {T} named reports port before after =
    ((is_charted named port ≡ true) × reports port before after) ⊎ ((is_charted named port ≡ false) × (after ≡ before))
