-- A line of a port, digits and the word of an end.
use Rattle.std.specs.Prelude.{ℕ, List, [], ◌∷◌, ◌++◌, codes}
use Rattle.std.specs.Fmt.{decimal}

-- a port, digits and the word of an end in a line, with its line feed (10)
abbrev pub suite_marked_line : (port : ℕ) → (digits mark : List ℕ) → List ℕ
suite_marked_line port digits mark = decimal port ++ codes " " ++ digits ++ codes " " ++ mark ++ 10 ∷ []
