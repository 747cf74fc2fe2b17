-- The words of printed lines.
use Rattle.std.specs.Prelude.{◌≡◌, ℕ, Bool, true, false, ◌==◌, ◌&&◌, not, List, [], ◌∷◌}
use Rattle.std.specs.List.{list_all}

-- whether a character ends no word, no operand, no instruction and no line
abbrev pub is_plain : ℕ → Bool
is_plain c = not (c == 10) && (not (c == 32) && (not (c == 44) && not (c == 59)))

-- whether it is one such character or more
abbrev pub is_word : List ℕ → Bool
is_word [] = false
is_word (c ∷ cs) = is_plain c && list_all is_plain cs

-- one character or more, none of which ends a word
abbrev pub IsWord : List ℕ → Type 0
IsWord word = is_word word ≡ true

-- each of them is a word
abbrev pub AreWords : List (List ℕ) → Type 0
AreWords [] = Unit {0}
AreWords (word ∷ words) = IsWord word × AreWords words
