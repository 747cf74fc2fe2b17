use Rattle.std.proofs.Common.{◌≡◌, length}
use Rattle.std.specs.Prelude.{map, take}
use Rattle.single_node_c.specs.Numbers.{bank_of_numbers}
use Rattle.single_node_c.proofs.lists.banks_of.Given as goal

abbrev pub invariant-loop-k : goal.invariant-loop-k
invariant-loop-k l = (length l.banks ≡ 8) × (take l.k l.banks ≡ map bank_of_numbers (take l.k l.numbers))
