-- States from their kinds and their marks.
use Rattle.std.proofs.Common.{◌≡◌, ℕ, zero, suc, Bool, true, false, ◌↔◌, IsTrue, sym, ◌∙◌, List, [], ◌∷◌, set}
use Rattle.absdom.specs.declared.kinds.AbsKind.{AbsKind}
use Rattle.absdom.specs.State.{StateValue, IsStateBelow, AreKindsBelow, kind_in, IsProper}
use Rattle.absdom_stack.specs.Marks.{AreMarkedIn}
use Rattle.absdom_stack.specs.StackWords.{AreRangesWithin}

-- a state is below another if its kinds, its marks and its ranges are
pub below_by_ranges : (a b : StateValue) (r : Bool) → AreKindsBelow a.kinds b.kinds → AreMarkedIn b.marks a.marks → (IsTrue r ↔ AreRangesWithin a.ranges b.ranges) → IsTrue r ↔ IsStateBelow a b
below_by_ranges a b r kinds marks h =
    (λ t. record { kinds = kinds; marks = marks; ranges = h.0 t }, λ below. h.1 below.ranges)

-- if the kinds are not below, the states are not
pub not_below_by_kinds : (a b : StateValue) (r : Bool) → r ≡ false → (IsTrue r ↔ AreKindsBelow a.kinds b.kinds) → IsTrue false ↔ IsStateBelow a b
not_below_by_kinds a b r e k = (λ t. absurd cc, λ below. let never : true ≡ false = sym (k.1 below.kinds) ∙ e in absurd cc)

-- and if the marks are not
pub not_below_by_marks : (a b : StateValue) (r : Bool) → r ≡ false → (IsTrue r ↔ AreMarkedIn b.marks a.marks) → IsTrue false ↔ IsStateBelow a b
not_below_by_marks a b r e m = (λ t. absurd cc, λ below. let never : true ≡ false = sym (m.1 below.marks) ∙ e in absurd cc)

-- each kind is proper after a proper one was written
pub proper_after : (kinds : List AbsKind) (written : ℕ) (kind : AbsKind) → IsProper kind → ((register : ℕ) → IsProper (kind_in kinds register)) → (register : ℕ) → IsProper (kind_in (set kinds written kind) register)
proper_after [] written kind h all register = all register
proper_after (k ∷ kinds) zero kind h all zero = h
proper_after (k ∷ kinds) zero kind h all (suc register) = all (suc register)
proper_after (k ∷ kinds) (suc written) kind h all zero = all zero
proper_after (k ∷ kinds) (suc written) kind h all (suc register) =
    proper_after kinds written kind h (λ r. all (suc r)) register
