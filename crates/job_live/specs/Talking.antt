-- What comes to a talk, and what it sends.
use Rattle.std.specs.Prelude.{ℕ, List, Bool, true, false, Option, Some, None}

-- between two states of a talk: the line that came, without its line feed, or none if no more come
abbrev pub ComesLine : Type 0 → Type 1
ComesLine T = T → Option (List ℕ) → T → Type 0

-- between two states of a talk: the bytes that left it, of which none is held back
abbrev pub Sends : Type 0 → Type 1
Sends T = T → List ℕ → T → Type 0

-- between two states of a talk: what was done when the next line could not be read
abbrev pub Misses : Type 0 → Type 1
Misses T = T → T → Type 0

-- the line that was given, if one was
abbrev pub line_given : (is_given : Bool) → List ℕ → Option (List ℕ)
line_given true line = Some line
line_given false line = None
