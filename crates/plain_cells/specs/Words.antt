-- The words of a node's cells, by map and key, and what helpers make of them (a choice of this project).
use Rattle.std.specs.Prelude.{◌≡◌, ◌<◌, ◌+◌, ◌++◌, ◌%◌, ◌^◌, ◌==◌, ◌&&◌, ℕ, Bool, if◌then◌else◌, List, [], ◌∷◌}
use Rattle.std.specs.Prelude.{length, map, max, replicate, slice_get, slice_index, slice_index_or, slice_set}
use Rattle.std.specs.Prelude.{Option, None, Some}
use Rattle.machine.specs.Helpers.{helper_number}
use Rattle.machine.specs.Laws.{IsAnswerable}
use Rattle.machine.specs.Sizes.{Maps, kind_of_map}
use Rattle.machine.specs.declared.calls.Call.{Call}
use Rattle.machine.specs.declared.calls.Question.{Question}
use Rattle.machine.specs.declared.helpers.Helper.{Helper}
use Rattle.machine.specs.declared.helpers.Helper.TheVariants as helpers
use Rattle.machine.specs.declared.kinds.MapKind.TheVariants.{Counter}

-- ---- words

-- The word of a cell. If there is no such cell it means nothing.
abbrev pub key_word_at : List (List ℕ) → (map key : ℕ) → ℕ
key_word_at words map key = slice_index (slice_index_or words map []) key

-- the word of a key, if there are words of its map
abbrev pub word_of_key : Option (List ℕ) → (key : ℕ) → Option ℕ
word_of_key None key = None
word_of_key (Some words) key = slice_get words key

-- the word of a cell, if there is one
abbrev pub word_in : List (List ℕ) → (map key : ℕ) → Option ℕ
word_in words map key = word_of_key (slice_get words map) key

-- the words with another one of a cell
abbrev pub with_word : List (List ℕ) → (map key word : ℕ) → List (List ℕ)
with_word words map key word = slice_set words map (slice_set (slice_index_or words map []) key word)

-- that word for each cell of those maps
abbrev pub same_words : Maps → (word : ℕ) → List (List ℕ)
same_words sizes word = map (λ count. replicate count word) sizes.cells

-- a word of 0 for each cell of those maps
abbrev pub zero_words : Maps → List (List ℕ)
zero_words sizes = map (λ count. replicate count 0) sizes.cells

-- each word is 0
abbrev pub AreZeros : List (List ℕ) → Type 0
AreZeros words = (map key : ℕ) → key_word_at words map key ≡ 0

-- there are words of each map, one for each of its cells
pub record AreCells (sizes : Maps) (words : List (List ℕ)) : Type 0 where
  pub maps : length words ≡ length sizes.cells
  pub cells : (map : ℕ) → map < length sizes.cells → length (slice_index_or words map []) ≡ slice_index sizes.cells map

-- ---- what helpers make of them

-- what a helper answers of a cell with that word: `count` and `ticket` the word, `peak` the greater of it and the
-- argument
abbrev pub answer_of_word : Helper → (word argument : ℕ) → ℕ
answer_of_word helpers.Count word argument = word
answer_of_word helpers.Ticket word argument = word
answer_of_word helpers.Peak word argument = max word argument

-- The word of the cell after that. `count` leaves it, `ticket` counts itself, modulo 2^64, and `peak` leaves the
-- greater of it and the argument.
abbrev pub word_after_question : Helper → (word argument : ℕ) → ℕ
word_after_question helpers.Count word argument = word
word_after_question helpers.Ticket word argument = (word + 1) % 2 ^ 64
word_after_question helpers.Peak word argument = max word argument

-- what the words answer to a question
abbrev pub answer_by_words : List (List ℕ) → Question → ℕ
answer_by_words words q = answer_of_word q.helper (key_word_at words q.map q.key) q.argument

-- the words after a question
abbrev pub words_after_question : List (List ℕ) → Question → List (List ℕ)
words_after_question words q = with_word words q.map q.key (word_after_question q.helper (key_word_at words q.map q.key) q.argument)

-- the question is for a cell that is there, in a map of a kind of which its helper may ask
abbrev pub IsOfCell : Maps → Question → Type 0
IsOfCell sizes q = IsAnswerable sizes q.helper q.map q.key q.argument

-- The calls were answered in order, the first by these words and each other by those that the one before it left. After
-- the last the words are those.
abbrev pub AreCallsOn : Maps → (words : List (List ℕ)) → List Call → (following : List (List ℕ)) → Type 0
AreCallsOn sizes words [] following = following ≡ words
AreCallsOn sizes words (c ∷ cs) following =
    IsOfCell sizes c.question × (c.answer ≡ answer_by_words words c.question)
    × AreCallsOn sizes (words_after_question words c.question) cs following

-- the law: if calls were answered in order, the later ones were answered by the words that the earlier ones left
abbrev pub CallsGoOn : Type 0
CallsGoOn =
    (sizes : Maps) (words between following : List (List ℕ)) (before calls : List Call)
    → AreCallsOn sizes words before between → AreCallsOn sizes words (before ++ calls) following
    → AreCallsOn sizes between calls following

-- ---- what the word of a counter says

-- whether the question draws a ticket of the cell
abbrev pub is_draw : Question → (map key : ℕ) → Bool
is_draw q map key = helper_number q.helper == helper_number helpers.Ticket && q.map == map && q.key == key

-- how many of the calls drew a ticket of the cell
abbrev pub tickets_in : List Call → (map key : ℕ) → ℕ
tickets_in [] map key = 0
tickets_in (c ∷ cs) map key =
    if is_draw c.question map key then tickets_in cs map key + 1 else tickets_in cs map key

-- the law: the word of a counter rises by the tickets that are drawn, as long as there are words for that many
abbrev pub TicketsAreCounted : Type 0
TicketsAreCounted =
    (sizes : Maps) (words following : List (List ℕ)) (calls : List Call) (map key : ℕ) → AreCells sizes words
    → kind_of_map sizes map ≡ Counter → AreCallsOn sizes words calls following
    → key_word_at words map key + tickets_in calls map key < 2 ^ 64
    → key_word_at following map key ≡ key_word_at words map key + tickets_in calls map key

-- the law: calls leave a word for each cell
abbrev pub CallsKeepCells : Type 0
CallsKeepCells =
    (sizes : Maps) (words following : List (List ℕ)) (calls : List Call) → AreCells sizes words
    → AreCallsOn sizes words calls following → AreCells sizes following

-- the law: words of 0 are a word for each cell, and each is 0
abbrev pub ZerosAreCells : Type 0
ZerosAreCells = (sizes : Maps) → AreCells sizes (zero_words sizes) × AreZeros (zero_words sizes)
