-- What is published before the first packet.
use Rattle.std.specs.Prelude.{◌≡◌, ◌≤◌, ℕ, List, [], ◌∷◌, map}
use Rattle.annals.specs.Chains.{LineValue}
use Rattle.annals.specs.Publishes.{line_loading}
use Rattle.bver.specs.Justified.{AcceptedValue}
use Rattle.machine.specs.Sizes.{Maps}
use Rattle.node_programs.specs.declared.publishes.Publish.{Publish}
use Rattle.node_programs.specs.Histories.{entry}

-- the program is for one of the four slots, and was accepted for maps of those sizes
abbrev pub IsFirstProgram : Maps → ℕ × AcceptedValue → Type 0
IsFirstProgram sizes first = (first.0 ≤ 3) × (first.1.sizes ≡ sizes)

-- its publish
abbrev pub first_entry : ℕ × AcceptedValue → Publish
first_entry first = entry first.0 first.1

-- the publishes of a node: its factory program, and after it those in order
abbrev pub programs_with : (factory : AcceptedValue) → List (ℕ × AcceptedValue) → List Publish
programs_with factory firsts = entry 0 factory ∷ map first_entry firsts

-- the line, after it asked for them in order
abbrev pub line_with_firsts : LineValue → List (ℕ × AcceptedValue) → LineValue
line_with_firsts line [] = line
line_with_firsts line (first ∷ firsts) = line_with_firsts (line_loading line (first_entry first)) firsts
