-- The weight of a program by costs: products and sums of which each step is saturated.
use Rattle.std.proofs.Common.{◌≡◌, ℕ, zero, suc, ◌+◌, ◌*◌, ◌≤◌, ◌<◌, List, [], ◌∷◌, Option, None, refl, sym, ap, ◌∙◌, arith, drop, length, add-one}
use Rattle.std.specs.Prelude.{slice_index_or}
use Rattle.bpf_insn.specs.declared.insn.Insn.{Insn}
use Rattle.bpf.specs.declared.loops.Loop.{Loop}
use Rattle.bpf.specs.Weight.{saturated_weight, times_at}
use Rattle.bver_form.specs.Costs.{cost_here, weight_by_from}
use Rattle.bpf.proofs.Weighed.{saturated-add_both, drop_end}

-- ---- the sum over the slots

-- a list from a place on begins with what is there
cut_at : (xs : List (Option Insn)) (i : ℕ) → i < length xs → drop i xs ≡ slice_index_or xs i None ∷ drop (suc i) xs
cut_at [] i h = absurd (omega arith)
cut_at (x ∷ xs) zero h = refl
cut_at (x ∷ xs) (suc i) h = cut_at xs i (omega arith)

module _ (cost : Insn → ℕ) (loops : List Loop) (slots : List (Option Insn)) where
  pub weight_step : (w i part total : ℕ) → i < length slots → part ≡ saturated_weight (times_at loops i * cost_here cost (slice_index_or slots i None)) → saturated_weight (w + weight_by_from cost loops i (drop i slots)) ≡ total → saturated_weight (saturated_weight (w + part) + weight_by_from cost loops (i + 1) (drop (i + 1) slots)) ≡ total
  unfolding weight_by_from
  weight_step w i part total lt is so_far =
      let x = slice_index_or slots i None in
      let one : saturated_weight (w + weight_by_from cost loops i (drop i slots)) ≡ saturated_weight (w + (times_at loops i * cost_here cost x + weight_by_from cost loops (i + 1) (drop (suc i) slots))) = rw (cut_at slots i lt) refl in
      let two : saturated_weight (saturated_weight (w + saturated_weight (times_at loops i * cost_here cost x)) + weight_by_from cost loops (i + 1) (drop (suc i) slots)) ≡ saturated_weight (w + (times_at loops i * cost_here cost x + weight_by_from cost loops (i + 1) (drop (suc i) slots))) = saturated-add_both w (times_at loops i * cost_here cost x) _ in
      let next : drop (i + 1) slots ≡ drop (suc i) slots = ap (λ (k : ℕ). drop k slots) (add-one i) in
      rw is (ap (λ (d : List (Option Insn)). saturated_weight (saturated_weight (w + saturated_weight (times_at loops i * cost_here cost x)) + weight_by_from cost loops (i + 1) d)) next ∙ two ∙ sym one ∙ so_far)

  pub weight_done : (w i total : ℕ) → length slots ≤ i → w ≤ 18446744073709551615 → saturated_weight (w + weight_by_from cost loops i (drop i slots)) ≡ total → w ≡ total
  unfolding weight_by_from
  weight_done w i total le small so_far =
      let none : drop i slots ≡ [] = drop_end slots i le in
      let one : saturated_weight (w + 0) ≡ total = sym (ap (λ (d : List (Option Insn)). saturated_weight (w + weight_by_from cost loops i d)) none) ∙ so_far in
      omega arith
