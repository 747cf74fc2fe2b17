use Rattle.std.proofs.Common.{◌≡◌, ◌<◌, ◌≤◌, ℕ, [], ◌∷◌, ◌++◌, length, take, get_or}
use Rattle.std.specs.Prelude.{vec_len}
use Rattle.bank.specs.Records.{first_share}
use Rattle.node_parts.proofs.banks.distribute.Given as goal

abbrev pub invariant-loop-share : goal.invariant-loop-share
invariant-loop-share l = record {
  count : length l.by_port.items ≡ length l.initial.by_port.items;
  few : vec_len l.shares ≤ length l.initial.by_port.items;
  rest : l.shares.items ≡ take (vec_len l.shares) l.initial.shares.items;
  below : (k : ℕ) → k < vec_len l.shares → get_or l.by_port.items k [] ≡ get_or l.initial.by_port.items k [];
  above : (k : ℕ) → vec_len l.shares ≤ k → k < length l.initial.by_port.items → get_or l.by_port.items k [] ≡ get_or l.initial.by_port.items k [] ++ get_or l.initial.shares.items k (first_share k) ∷ [];
}

abbrev pub decreases-loop-share : goal.decreases-loop-share
decreases-loop-share l = vec_len l.shares
