-- The words of a line: its first word, and its operands.
use Rattle.std.specs.Prelude.{◌≡◌, ℕ, Bool, ◌==◌, if◌then◌else◌, List, [], ◌∷◌, ◌++◌, codes, map}
use Rattle.std.specs.Borrow.{Bor}
use Rattle.std.specs.List.{before_first, after_first, slice_split}
use Rattle.basm_lex.specs.Names.{IsName}

-- ---- the statement

-- the lines of a text: the parts between its line feeds (10)
abbrev pub pieces_of : List ℕ → List (List ℕ)
pieces_of text = slice_split (λ c. c == 10) text

-- the space between words
abbrev pub is_space : ℕ → Bool
is_space c = c == 32

-- the comma between operands
abbrev pub is_comma : ℕ → Bool
is_comma c = c == 44

-- the semicolon that begins a comment
abbrev pub is_semicolon : ℕ → Bool
is_semicolon c = c == 59

-- a text without the spaces before it
abbrev pub without_leading_spaces : List ℕ → List ℕ
without_leading_spaces [] = []
without_leading_spaces (c ∷ cs) = if is_space c then without_leading_spaces cs else c ∷ cs

-- a character and what follows it, or nothing if both are only spaces
abbrev pub trailing_part : ℕ → List ℕ → List ℕ
trailing_part c [] = if is_space c then [] else c ∷ []
trailing_part c (d ∷ ds) = c ∷ d ∷ ds

-- a text without the spaces after it
abbrev pub without_trailing_spaces : List ℕ → List ℕ
without_trailing_spaces [] = []
without_trailing_spaces (c ∷ cs) = trailing_part c (without_trailing_spaces cs)

-- a text without the spaces around it
abbrev pub trimmed_text : List ℕ → List ℕ
trimmed_text text = without_trailing_spaces (without_leading_spaces text)

-- a line without its comment and the spaces around it
unfoldable pub code_of : List ℕ → List ℕ
code_of line = trimmed_text (before_first is_semicolon line)

-- its first word
unfoldable pub word_of : List ℕ → List ℕ
word_of line = before_first is_space (code_of line)

-- the parts between commas, without the spaces around them
abbrev pub parts_between_commas : List ℕ → List (List ℕ)
parts_between_commas [] = []
parts_between_commas (c ∷ cs) = map trimmed_text (slice_split is_comma (c ∷ cs))

-- what follows the first word
unfoldable pub rest_of_line : List ℕ → List ℕ
rest_of_line line = after_first is_space (code_of line)

-- the operands
abbrev pub operands_of : List ℕ → List (List ℕ)
operands_of line = parts_between_commas (rest_of_line line)

-- the line is the label of the name, with nothing after it
abbrev pub IsLabel : List ℕ → List ℕ → Type 0
IsLabel line name = IsName name × (word_of line ≡ name ++ codes ":") × (operands_of line ≡ [])

-- ---- what else contracts and proofs say

-- the texts of words that are lent
abbrev pub texts : List (Bor (List ℕ)) → List (List ℕ)
texts words = map (λ word. word.now) words

-- the line is no label
abbrev pub IsNoLabel : List ℕ → Type 0
IsNoLabel line = (name : List ℕ) → ¬ IsLabel line name
