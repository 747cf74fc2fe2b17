use Rattle.std.proofs.Common.{◌≡◌, length}
use Rattle.std.specs.Prelude.{map, take}
use Rattle.single_node_c.specs.Numbers.{map_of_numbers}
use Rattle.single_node_c.proofs.lists.maps_of.Given as goal

abbrev pub invariant-loop-k : goal.invariant-loop-k
invariant-loop-k l = (length l.maps ≡ 8) × (take l.k l.maps ≡ map map_of_numbers (take l.k l.numbers))
