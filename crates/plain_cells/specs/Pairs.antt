-- Words beside their complements, and what helpers make of such a pair: of any pair, also one that no call leaves.
use Rattle.std.specs.Prelude.{◌<◌, ◌-◌, ◌^◌, ◌==◌, ℕ, Bool, List, [], length, map, slice_index_or, if◌then◌else◌}
use Rattle.machine.specs.declared.calls.Question.{Question}
use Rattle.machine.specs.declared.helpers.Helper.{Helper}
use Rattle.plain_cells.specs.Words.{answer_of_word, with_word, key_word_at, word_after_question}

-- the greatest word
abbrev pub greatest : ℕ
greatest = 2 ^ 64 - 1

-- the complement of a word: each of its 64 bits is the other one
abbrev pub complement : (word : ℕ) → ℕ
complement word = 2 ^ 64 - 1 - word

-- the second number of a pair is the complement of the first
abbrev pub agree : (word kept : ℕ) → Bool
agree word kept = kept == complement word

-- What a helper answers of a cell. If the pair does not agree, it is the greatest word, as for a cell that is spent.
abbrev pub answer_of_pair : Helper → (word kept argument : ℕ) → ℕ
answer_of_pair helper word kept argument = if agree word kept then answer_of_word helper word argument else greatest

-- The word after that. If the pair does not agree it is as it was.
abbrev pub word_of_pair : Helper → (word kept argument : ℕ) → ℕ
word_of_pair helper word kept argument = if agree word kept then word_after_question helper word argument else word

-- and its complement
abbrev pub kept_of_pair : Helper → (word kept argument : ℕ) → ℕ
kept_of_pair helper word kept argument =
    if agree word kept then complement (word_after_question helper word argument) else kept

-- the words of cells and what is kept beside each, by map and key
pub record PairsValue : Type 0 where
  pub words : List (List ℕ)
  pub kept : List (List ℕ)

-- the complements of words
abbrev pub complements : List (List ℕ) → List (List ℕ)
complements words = map (λ row. map complement row) words

-- what the pairs answer to a question
abbrev pub answer_by_pairs : PairsValue → Question → ℕ
answer_by_pairs p q = answer_of_pair q.helper (key_word_at p.words q.map q.key) (key_word_at p.kept q.map q.key) q.argument

-- the pairs after a question
abbrev pub pairs_after_question : PairsValue → Question → PairsValue
pairs_after_question p q = record {
  words = with_word p.words q.map q.key
      (word_of_pair q.helper (key_word_at p.words q.map q.key) (key_word_at p.kept q.map q.key) q.argument);
  kept = with_word p.kept q.map q.key
      (kept_of_pair q.helper (key_word_at p.words q.map q.key) (key_word_at p.kept q.map q.key) q.argument);
}

-- there is such a pair
pub record IsPair (p : PairsValue) (map key : ℕ) : Type 0 where
  pub word_map : map < length p.words
  pub word_key : key < length (slice_index_or p.words map [])
  pub kept_map : map < length p.kept
  pub kept_key : key < length (slice_index_or p.kept map [])

-- the words, each beside its complement
abbrev pub whole_pairs : List (List ℕ) → PairsValue
whole_pairs words = record { words = words; kept = complements words }
