-- The lines of the cells of a node.
use Rattle.std.specs.Prelude.{ℕ, List, [], ◌∷◌, ◌++◌, codes, decimal, length, slice_index}
use Rattle.std.specs.List.{flat_map, range_with_len}
use Rattle.machine.specs.Sizes.{Maps}
use Rattle.plain_cells.specs.Words.{key_word_at}

-- the word of a cell, after a space
abbrev pub word_text : (words : List (List ℕ)) → (map key : ℕ) → List ℕ
word_text words map key = codes " " ++ decimal (key_word_at words map key)

-- the words of the first `count` cells of a map, by key
abbrev pub words_text : (words : List (List ℕ)) → (map count : ℕ) → List ℕ
words_text words map count = flat_map (word_text words map) (range_with_len 0 count)

-- the line of a map of `count` cells: `cells MAP WORD WORD ..`
abbrev pub map_line : (words : List (List ℕ)) → (map count : ℕ) → List ℕ
map_line words map count = codes "cells " ++ decimal map ++ words_text words map count ++ 10 ∷ []

-- the line of a map of these sizes
abbrev pub map_line_in : Maps → (words : List (List ℕ)) → (map : ℕ) → List ℕ
map_line_in sizes words map = map_line words map (slice_index sizes.cells map)

-- the line of how many maps there are
abbrev pub map_count_line : (count : ℕ) → List ℕ
map_count_line count = codes "cells " ++ decimal count ++ codes " maps" ++ 10 ∷ []

-- the lines of all maps of these sizes, in order, and after them how many they are
abbrev pub cells_text : Maps → (words : List (List ℕ)) → List ℕ
cells_text sizes words =
    flat_map (map_line_in sizes words) (range_with_len 0 (length sizes.cells)) ++ map_count_line (length sizes.cells)
