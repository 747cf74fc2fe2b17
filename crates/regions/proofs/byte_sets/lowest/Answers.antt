use Rattle.std.proofs.Common.{ap, arith}
use Rattle.std.specs.Int.{w128}
use Rattle.std.specs.Prelude.{◌==◌}
use Rattle.std.proofs.lemmas.Nat.Bits.{bit_at-trailing_zeros}
use Rattle.regions.proofs.byte_sets.lowest.Goals as goal

pub returns : goal.returns
returns c =
    let lowest = bit_at-trailing_zeros w128 c.args.half (omega arith) (omega arith) in
    record { inside = lowest.0; set = ap (λ x. x == 1) lowest.1; below = λ j lt. ap (λ x. x == 1) (lowest.2 j lt) }
