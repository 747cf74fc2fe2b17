-- Characters in lanes.
use Rattle.std.specs.Prelude.{ℕ, List, [], ◌∷◌}

-- what is at the even places of a list, from 0
abbrev pub at_even : List ℕ → List ℕ
at_even [] = []
at_even (high ∷ []) = high ∷ []
at_even (high ∷ low ∷ rest) = high ∷ at_even rest

-- what is at the odd places of a list
abbrev pub at_odd : List ℕ → List ℕ
at_odd [] = []
at_odd (high ∷ []) = []
at_odd (high ∷ low ∷ rest) = low ∷ at_odd rest
