-- The four slots.
use Rattle.std.proofs.Common.{◌≡◌, ◌<◌, ℕ, zero, suc, List, [], ◌∷◌, length, false, refl, arith}
use Rattle.std.specs.Prelude.{slice_get}
use Rattle.scrub.specs.declared.kept.SlotSums.{SlotSums}
use Rattle.scrub.specs.Kept.{closed_in}

-- what holds of each of the four slots
pub four : (P : ℕ → Type 0) → P 0 → P 1 → P 2 → P 3 → (slot : ℕ) → slot < 4 → P slot
four P a b c d zero low = a
four P a b c d (suc zero) low = b
four P a b c d (suc (suc zero)) low = c
four P a b c d (suc (suc (suc zero))) low = d
four P a b c d (suc (suc (suc (suc n)))) low = absurd (omega (arith, low))

-- the slots of which each is open
pub none_closed : (sums : List SlotSums) → length sums ≡ 4 → closed_in (slice_get sums 0) ≡ false → closed_in (slice_get sums 1) ≡ false → closed_in (slice_get sums 2) ≡ false
    → closed_in (slice_get sums 3) ≡ false → (slot : ℕ) → closed_in (slice_get sums slot) ≡ false
none_closed [] few a b c d slot = absurd (cc few)
none_closed (p ∷ []) few a b c d slot = absurd (cc few)
none_closed (p ∷ q ∷ []) few a b c d slot = absurd (cc few)
none_closed (p ∷ q ∷ r ∷ []) few a b c d slot = absurd (cc few)
none_closed (p ∷ q ∷ r ∷ s ∷ t ∷ ts) few a b c d slot = absurd (cc few)
none_closed (p ∷ q ∷ r ∷ s ∷ []) few a b c d zero = a
none_closed (p ∷ q ∷ r ∷ s ∷ []) few a b c d (suc zero) = b
none_closed (p ∷ q ∷ r ∷ s ∷ []) few a b c d (suc (suc zero)) = c
none_closed (p ∷ q ∷ r ∷ s ∷ []) few a b c d (suc (suc (suc zero))) = d
none_closed (p ∷ q ∷ r ∷ s ∷ []) few a b c d (suc (suc (suc (suc n)))) = refl
