-- Cells whose tickets are numbered, one after the other.
use Rattle.std.proofs.Common.{◌≡◌, ◌<◌, ◌+◌, ℕ, Some, ⊎_elim, subst, arith}
use Rattle.std.specs.Prelude.{slice_get}
use Rattle.std.proofs.lemmas.Bool.{cases_lt}
use Rattle.std.proofs.lemmas.Option.{get_or_from_slice_get}
use Rattle.cells.specs.Seats.{CellsValue}
use Rattle.job_ports.specs.Quotas.{AreNumberedIn, IsNumberedAt}

-- One number more of which it holds.
pub one_more : (P : ℕ → Type 0) (k : ℕ) → ((i : ℕ) → i < k → P i) → P k → (i : ℕ) → i < k + 1 → P i
one_more P k earlier here i low = ⊎_elim
    (λ (less : i < k). earlier i less)
    (λ high.
    let place : k ≡ i = omega (arith, high, low) in
    subst P place here)
    (cases_lt i k)

-- The cells of a map are those of the numbers below its size.
pub inside_map : (it : CellsValue) (map count : ℕ) → slice_get it.sizes.cells map ≡ Some count → ((key : ℕ) → key < count → IsNumberedAt it map key) → AreNumberedIn it map
inside_map it map count some each = λ key inside kind.
    each key (subst (λ (n : ℕ). key < n) (get_or_from_slice_get it.sizes.cells map count 0 some) inside.key_exists) inside kind
