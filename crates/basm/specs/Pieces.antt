-- The lines of a text that are still to come.
use Rattle.std.specs.Prelude.{ℕ, List, [], Option, Some, None}
use Rattle.std.specs.Borrow.{Bor}
use Rattle.basm_lex.specs.Lines.{pieces_of}

-- the lines of what is left of a text; if nothing is left, none
abbrev pub pieces_left : Option (Bor (List ℕ)) → List (List ℕ)
pieces_left None = []
pieces_left (Some text) = pieces_of text.now
