-- Cases on a test of numbers, with what the test says.
use Rattle.std.proofs.Common.{ℕ, ◌≡◌, ◌<◌, ◌≤◌, Bool, true, false, refl}
use Rattle.std.specs.Prelude.{◌==◌, nat_lt, nat_le}
use Rattle.std.proofs.lemmas.Bool.{ltb-true, ltb-false, leb-true, leb-false, eqb-true, eqb-false}

pub by_test : (P : Bool → Type 0) (t : Bool) → (t ≡ true → P true) → (t ≡ false → P false) → P t
by_test P true f g = f refl
by_test P false f g = g refl

pub by_lt : (P : Bool → Type 0) (x y : ℕ) → (x < y → P true) → (y ≤ x → P false) → P (nat_lt x y)
by_lt P x y f g = by_test P (nat_lt x y) (λ e. f (ltb-true x y e)) (λ e. g (ltb-false x y e))

pub by_le : (P : Bool → Type 0) (x y : ℕ) → (x ≤ y → P true) → (y < x → P false) → P (nat_le x y)
by_le P x y f g = by_test P (nat_le x y) (λ e. f (leb-true x y e)) (λ e. g (leb-false x y e))

pub by_eq : (P : Bool → Type 0) (x y : ℕ) → (x ≡ y → P true) → ((x ≡ y → ⊥) → P false) → P (x == y)
by_eq P x y f g = by_test P (x == y) (λ e. f (eqb-true x y e)) (λ e. g (eqb-false x y e))
