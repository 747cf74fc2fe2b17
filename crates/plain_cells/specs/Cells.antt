-- The cells of a node of one thread.
use Rattle.std.specs.Prelude.{◌≡◌, ◌++◌, ℕ, List, [], ◌∷◌}
use Rattle.machine.specs.Runs.{call}
use Rattle.machine.specs.Sizes.{Maps}
use Rattle.machine.specs.declared.calls.Call.{Call}
use Rattle.machine.specs.declared.calls.Question.{Question}
use Rattle.plain_cells.specs.Words.{AreCallsOn, AreCells, answer_by_words, words_after_question, zero_words}

-- the cells of a node of one thread: its maps, the word of each cell, and the calls so far
pub record PlainCellsValue : Type 0 where
  pub sizes : Maps
  pub words : List (List ℕ)
  pub asked : List Call

-- the cells of these maps, with these words, after these calls
abbrev pub cells_of : Maps → List (List ℕ) → List Call → PlainCellsValue
cells_of sizes words asked = record { sizes = sizes; words = words; asked = asked }

-- the cells of those maps as they are made: each word is 0, and nothing was asked
abbrev pub fresh_cells : Maps → PlainCellsValue
fresh_cells sizes = cells_of sizes (zero_words sizes) []

-- there is a word for each cell, and the words are what the calls so far left of zeros
pub record AreInOrder (c : PlainCellsValue) : Type 0 where
  pub cells : AreCells c.sizes c.words
  pub calls : AreCallsOn c.sizes (zero_words c.sizes) c.asked c.words

-- The question was answered by the word of its cell, which then is what the helper makes of it. No other word changed.
pub record IsCalled (q : Question) (answer : ℕ) (old new : PlainCellsValue) : Type 0 where
  pub reported : answer ≡ answer_by_words old.words q
  pub left : new ≡ cells_of old.sizes (words_after_question old.words q) (old.asked ++ call q answer ∷ [])

-- The calls were answered in order by the words of the cells, which are then what the calls left, and the maps stay.
pub record AreAsked (calls : List Call) (before after : PlainCellsValue) : Type 0 where
  pub sizes : after.sizes ≡ before.sizes
  pub words : AreCallsOn before.sizes before.words calls after.words
