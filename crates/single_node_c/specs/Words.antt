-- What the call on the word of a cell reports.
use Rattle.std.specs.Prelude.{◌≡◌, ℕ, Option, None, Some}
use Rattle.plain_cells.specs.Words.{word_in}
use Rattle.single_node.specs.Nodes.{SingleNodeValue}
use Rattle.single_node_c.specs.declared.codes.TheConstants.{OK, NO_CELL}

-- the code of a question for a word, by whether there is one
abbrev pub found_code : Option ℕ → ℕ
found_code None = NO_CELL
found_code (Some word) = OK

-- the code of a question for the word of a cell
abbrev pub word_code : (map cell : ℕ) → SingleNodeValue → ℕ
word_code map cell node = found_code (word_in node.words map cell)

-- the word is that of the cell
abbrev pub ReportsWord : (map cell word : ℕ) → SingleNodeValue → Type 0
ReportsWord map cell word node = word_in node.words map cell ≡ Some word
