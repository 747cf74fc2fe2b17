-- The ports of a node as they are made.
use Rattle.std.proofs.Common.{◌≡◌, ◌≢◌, ℕ, ◌+◌, ◌<◌, ◌≤◌, [], List, get_or, length, set, ◌∙◌, arith}
use Rattle.std.specs.Prelude.{replicate}
use Rattle.std.proofs.lemmas.List.{get_or_read, get_or-set_other}
use Rattle.bank.specs.Records.{ShareValue, first_share}

-- the shares that are taken are those of the port
pub taken : (by_port : List (List ShareValue)) (n ports port from : ℕ) (shares own : List ShareValue) → length by_port ≡ ports → port < ports → from ≡ port → shares ≡ own → own ≡ get_or by_port from own → ((k : ℕ) → port ≤ k → k < ports → get_or by_port k [] ≡ replicate n (first_share k)) → shares ≡ replicate n (first_share port)
taken by_port n ports port from shares own count below same is read rest =
    let within : from < length by_port = omega arith in
    is ∙ get_or_read by_port from own within read [] ∙ rw same (rest port (omega arith) below)

-- the shares of later ports are still there
pub later : (by_port : List (List ShareValue)) (n ports port from : ℕ) (left : List ShareValue) → from ≡ port → ((k : ℕ) → port ≤ k → k < ports → get_or by_port k [] ≡ replicate n (first_share k)) → (k : ℕ) → port + 1 ≤ k → k < ports → get_or (set by_port from left) k [] ≡ replicate n (first_share k)
later by_port n ports port from left same rest k above below =
    let other : k ≢ from = λ e. absurd (omega (arith, e, same, above)) in
    get_or-set_other by_port from k left [] other ∙ rest k (omega (arith, above)) below
