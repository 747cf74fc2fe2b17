use Rattle.std.proofs.Common.{◌≡◌, take}
use Rattle.std.specs.Prelude.{map, replicate}
use Rattle.plain_cells.proofs.words.CellWords.same.Given as goal

abbrev pub invariant-loop-map : goal.invariant-loop-map
invariant-loop-map l = l.maps.items ≡ map (λ n. replicate n l.word) (take l.map l.sizes.cells)
