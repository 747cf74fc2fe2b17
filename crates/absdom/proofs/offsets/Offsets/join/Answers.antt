use Rattle.std.proofs.Common.{arith}
use Rattle.std.proofs.lemmas.Int.{ints, clamps}
use Rattle.absdom.proofs.offsets.Offsets.join.Goals as goal

pub invariant_of-result : goal.invariant_of-result
invariant_of-result c = record {
  least = record { above = omega (arith, ints, clamps); below = omega (arith, ints, clamps) };
  greatest = record { above = omega (arith, ints, clamps); below = omega (arith, ints, clamps) };
  in_order = omega (arith, ints, clamps);
}
