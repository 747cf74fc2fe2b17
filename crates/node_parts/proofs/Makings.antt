-- The shares of each port while those of banks are distributed.
use Rattle.std.proofs.Common.{◌≡◌, ℕ, ◌+◌, ◌<◌, List, length, get_or, ◌∙◌, arith}
use Rattle.std.specs.Prelude.{map}
use Rattle.std.specs.List.{range_with_len}
use Rattle.std.proofs.lemmas.List.{replicate_more}
use Rattle.std.proofs.lemmas.List.FromFn.{get_or-map-range_with_len}
use Rattle.bank.specs.Records.{ShareValue, first_share}
use Rattle.node_parts.specs.Nodes.{AreDistributed, ArePortShares}

pub distributed_shares : (n ports : ℕ) (old new : List (List ShareValue)) (shares : List ShareValue) → ArePortShares n ports old → AreDistributed old shares new → shares ≡ map first_share (range_with_len 0 ports) → ArePortShares (n + 1) ports new
distributed_shares n ports old new shares by_port distributed all = record {
  count = distributed.count ∙ by_port.count;
  shares = λ k below.
      let within : k < length old = omega (arith, by_port.count) in
      let share : get_or shares k (first_share k) ≡ first_share k = rw all (get_or-map-range_with_len first_share 0 ports k k (first_share k) below (omega arith)) in
      distributed.by_port k within ∙ rw (by_port.shares k below, share) (replicate_more n (first_share k));
}
