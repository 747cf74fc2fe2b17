-- Lists whose elements are taken in turn.
use Rattle.std.specs.Prelude.{ℕ, List, [], ◌∷◌}

-- the elements of two lists, one of each in turn, as long as both have one
abbrev pub in_turn : (first second : List ℕ) → List ℕ
in_turn [] second = []
in_turn (a ∷ first) [] = []
in_turn (a ∷ first) (b ∷ second) = a ∷ b ∷ in_turn first second
