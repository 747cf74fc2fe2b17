use Rattle.std.proofs.Common.{◌≡◌, ◌++◌, ◌+◌, ◌-◌, ◌≤◌, length, take, fold, map, vec_len}
use Rattle.std.specs.Vec.{vec_capacity}
use Rattle.spw.proofs.DigitPairs.{byte_of, with_pair}
use Rattle.spw.proofs.digits.append_pairs.Given as goal

abbrev pub invariant-loop-pair : goal.invariant-loop-pair
invariant-loop-pair l =
    (l.digits ≡ fold with_pair 0 (take l.pair-index l.pairs))
    × (l.bytes.items ≡ l.fn.bytes.items ++ map byte_of (take l.pair-index l.pairs))
    × (vec_len l.bytes + (length l.pairs - l.pair-index) ≤ vec_capacity l.bytes)
