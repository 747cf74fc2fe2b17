-- Texts at their spaces.
use Rattle.std.specs.Prelude.{◌≡◌, ◌≢◌, ◌<◌, ℕ, List, ◌∷◌, ◌++◌, length, slice_index}

-- no character of the text is a space (32)
abbrev pub HasNoSpace : List ℕ → Type 0
HasNoSpace text = (i : ℕ) → i < length text → slice_index text i ≢ 32

-- the text is what is before a space, the space, and what is after it
abbrev pub IsCut : (text before following : List ℕ) → Type 0
IsCut text before following = text ≡ before ++ 32 ∷ following
