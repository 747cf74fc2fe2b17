-- Weights that are summed and multiplied one after the other. Each step is saturated.
use Rattle.std.proofs.Common.{◌≡◌, ℕ, zero, suc, ◌+◌, ◌*◌, ◌≤◌, ◌<◌, Bool, true, false, List, [], ◌∷◌, Option, refl, sym, ap, ◌∙◌, arith, drop, length, nat_le, get_or, add-one}
use Rattle.std.proofs.lemmas.Bool.Decides.{nat_tests}
use Rattle.std.proofs.Math.Seq.{drop-cons}
use Rattle.std.proofs.Math.Nat.{mul_assoc}
use Rattle.bpf_insn.specs.declared.insn.Insn.{Insn}
use Rattle.bpf.specs.declared.loops.Loop.{Loop}
use Rattle.bpf.specs.Weight.{passes_of, times_at, weight_part_of, weight_from, saturated_weight}

-- saturating a factor first changes nothing
pub saturated-mul : (a r : ℕ) → saturated_weight (saturated_weight a * r) ≡ saturated_weight (a * r)
saturated-mul a r = by_test (nat_le a 18446744073709551615) refl
  where
    above : (r : ℕ) → 18446744073709551615 < a → saturated_weight (18446744073709551615 * r) ≡ saturated_weight (a * r)
    above zero h = omega arith
    above (suc k) h = omega arith

    by_test : (b : Bool) → nat_le a 18446744073709551615 ≡ b → saturated_weight (saturated_weight a * r) ≡ saturated_weight (a * r)
    by_test true e = let same : saturated_weight a ≡ a = grind (arith, nat_tests) in rw same refl
    by_test false e =
        let h : 18446744073709551615 < a = grind (arith, nat_tests) in
        let same : saturated_weight a ≡ 18446744073709551615 = omega arith in
        rw same (above r h)

pub saturated-add : (a r : ℕ) → saturated_weight (saturated_weight a + r) ≡ saturated_weight (a + r)
saturated-add a r = omega arith

pub saturated-add_both : (a r s : ℕ) → saturated_weight (saturated_weight (a + saturated_weight r) + s) ≡ saturated_weight (a + (r + s))
saturated-add_both a r s = omega arith

pub times_step : (t : ℕ) (loops : List Loop) (i slot : ℕ) (x : Loop) (total : ℕ) → i < length loops → get_or loops i x ≡ x → saturated_weight (t * times_at (drop i loops) slot) ≡ total → saturated_weight (saturated_weight (t * passes_of x slot) * times_at (drop (i + 1) loops) slot) ≡ total
unfolding times_at
times_step t loops i slot x total lt item so_far =
    let cut : drop i loops ≡ x ∷ drop (suc i) loops = drop-cons loops i x lt ∙ ap (λ (y : Loop). y ∷ drop (suc i) loops) item in
    let one : saturated_weight (t * times_at (drop i loops) slot) ≡ saturated_weight (t * (passes_of x slot * times_at (drop (suc i) loops) slot)) = rw cut refl in
    let two : saturated_weight (saturated_weight (t * passes_of x slot) * times_at (drop (suc i) loops) slot) ≡ saturated_weight (t * passes_of x slot * times_at (drop (suc i) loops) slot) = saturated-mul _ _ in
    let three : t * passes_of x slot * times_at (drop (suc i) loops) slot ≡ t * (passes_of x slot * times_at (drop (suc i) loops) slot) = mul_assoc t (passes_of x slot) _ in
    rw add-one (two ∙ ap saturated_weight three ∙ sym one ∙ so_far)

pub weight_step : (w : ℕ) (loops : List Loop) (slots : List (Option Insn)) (i : ℕ) (x : Option Insn) (total : ℕ) → i < length slots → get_or slots i x ≡ x → saturated_weight (w + weight_from loops i (drop i slots)) ≡ total → saturated_weight (saturated_weight (w + saturated_weight (weight_part_of loops i x)) + weight_from loops (i + 1) (drop (i + 1) slots)) ≡ total
unfolding weight_from
weight_step w loops slots i x total lt item so_far =
    let cut : drop i slots ≡ x ∷ drop (suc i) slots = drop-cons slots i x lt ∙ ap (λ (y : Option Insn). y ∷ drop (suc i) slots) item in
    let one : saturated_weight (w + weight_from loops i (drop i slots)) ≡ saturated_weight (w + (weight_part_of loops i x + weight_from loops (i + 1) (drop (suc i) slots))) = rw cut refl in
    let two : saturated_weight (saturated_weight (w + saturated_weight (weight_part_of loops i x)) + weight_from loops (i + 1) (drop (suc i) slots)) ≡ saturated_weight (w + (weight_part_of loops i x + weight_from loops (i + 1) (drop (suc i) slots))) = saturated-add_both w (weight_part_of loops i x) _ in
    let next : drop (i + 1) slots ≡ drop (suc i) slots = ap (λ (k : ℕ). drop k slots) (add-one i) in
    ap (λ (d : List (Option Insn)). saturated_weight (saturated_weight (w + saturated_weight (weight_part_of loops i x)) + weight_from loops (i + 1) d)) next ∙ two ∙ sym one ∙ so_far

pub drop_end : {X : Type 0} (xs : List X) (i : ℕ) → length xs ≤ i → drop i xs ≡ []
drop_end [] zero h = refl
drop_end [] (suc i) h = refl
drop_end (x ∷ xs) zero h = absurd (omega arith)
drop_end (x ∷ xs) (suc i) h = drop_end xs i (omega arith)

pub times_done : (t : ℕ) (loops : List Loop) (i slot total : ℕ) → length loops ≤ i → t ≤ 18446744073709551615 → saturated_weight (t * times_at (drop i loops) slot) ≡ total → t ≡ total
unfolding times_at
times_done t loops i slot total le small so_far =
    let none : drop i loops ≡ [] = drop_end loops i le in
    let one : saturated_weight (t * 1) ≡ total = sym (ap (λ (d : List Loop). saturated_weight (t * times_at d slot)) none) ∙ so_far in
    omega arith

pub weight_done : (w : ℕ) (loops : List Loop) (slots : List (Option Insn)) (i total : ℕ) → length slots ≤ i → w ≤ 18446744073709551615 → saturated_weight (w + weight_from loops i (drop i slots)) ≡ total → w ≡ total
unfolding weight_from
weight_done w loops slots i total le small so_far =
    let none : drop i slots ≡ [] = drop_end slots i le in
    let one : saturated_weight (w + 0) ≡ total = sym (ap (λ (d : List (Option Insn)). saturated_weight (w + weight_from loops i d)) none) ∙ so_far in
    omega arith
