-- What is left, summed over the slots, by a cost of each instruction.
use Rattle.std.proofs.Common.{◌≡◌, ℕ, zero, suc, ◌+◌, ◌*◌, ◌≤◌, List, [], ◌∷◌, Option, None, Some, refl, subst, arith}
use Rattle.std.specs.Prelude.{slice_index_or}
use Rattle.bpf.specs.declared.loops.Loop.{Loop}
use Rattle.bpf.specs.Weight.{times_at, weight_from}
use Rattle.bpf_insn.specs.declared.insn.Insn.{Insn}
use Rattle.bver_form.specs.Costs.{cost_here, weight_by_from}
use Rattle.bver_form.specs.Loops.{executions_left, weight_left_from}
use Rattle.bver_form.proofs.Left.{left_here, more_times, rounds}

-- one execution more costs one cost more
once_more : (a b c : ℕ) → a + 1 ≤ b → a * c + c ≤ b * c
once_more a b c h = rounds a b c c h (omega arith)

-- an instruction that is executed costs at least once its cost
at_least_once : (a c : ℕ) → 1 ≤ a → c ≤ a * c
at_least_once a c h = omega (arith, rounds 0 a c c (omega arith) (omega arith))

module _ (cost : Insn → ℕ) (ls : List Loop) (v : ℕ → ℕ) where
  -- if no more is left of each instruction than all rounds, no more is left than the weight
  pub sum_weighs : (slot i : ℕ) (xs : List (Option Insn)) → ((j : ℕ) → executions_left ls v j slot ≤ times_at ls j) → weight_left_from cost ls v slot i xs ≤ weight_by_from cost ls i xs
  unfolding weight_left_from weight_by_from
  sum_weighs slot i [] each = omega arith
  sum_weighs slot i (x ∷ xs) each = omega (arith, more_times (executions_left ls v i slot) (times_at ls i) (cost_here cost x) (each i), sum_weighs slot (i + 1) xs each)

  -- the cost of the instruction that begins at the slot is left
  pub sum_here : (slot i j : ℕ) (xs : List (Option Insn)) → slot ≡ i + j → cost_here cost (slice_index_or xs j None) ≤ weight_left_from cost ls v slot i xs
  unfolding weight_left_from
  sum_here slot i j [] at = omega arith
  sum_here slot i zero (x ∷ xs) at =
      let one : 1 ≤ executions_left ls v i slot = subst (λ k. 1 ≤ executions_left ls v i k) (same slot i at) (left_here ls v i) in
      omega (arith, at_least_once (executions_left ls v i slot) (cost_here cost x) one)
    where
      same : (slot i : ℕ) → slot ≡ i + 0 → i ≡ slot
      same slot i at = omega arith
  sum_here slot i (suc j) (x ∷ xs) at = omega (arith, sum_here slot (i + 1) j xs (omega arith))

module _ (cost : Insn → ℕ) (ls : List Loop) (v w : ℕ → ℕ) (slot next : ℕ) where
  part_falls : (i : ℕ) (x : Option Insn) → executions_left ls w i next ≤ executions_left ls v i slot → executions_left ls w i next * cost_here cost x ≤ executions_left ls v i slot * cost_here cost x
  part_falls i x h = more_times (executions_left ls w i next) (executions_left ls v i slot) (cost_here cost x) h

  sum_falls : (i : ℕ) (xs : List (Option Insn)) → ((j : ℕ) → executions_left ls w j next ≤ executions_left ls v j slot) → weight_left_from cost ls w next i xs ≤ weight_left_from cost ls v slot i xs
  unfolding weight_left_from
  sum_falls i [] each = omega arith
  sum_falls i (x ∷ xs) each = omega (arith, part_falls i x (each i), sum_falls (i + 1) xs each)

  -- if nothing is added to any instruction, and one execution is taken from the one at the slot, its cost is taken
  pub sum_takes : (i j : ℕ) (xs : List (Option Insn)) → slot ≡ i + j → ((j : ℕ) → executions_left ls w j next ≤ executions_left ls v j slot) → executions_left ls w slot next + 1 ≤ executions_left ls v slot slot → weight_left_from cost ls w next i xs + cost_here cost (slice_index_or xs j None) ≤ weight_left_from cost ls v slot i xs
  unfolding weight_left_from
  sum_takes i j [] at each here = omega arith
  sum_takes i zero (x ∷ xs) at each here =
      let same : slot ≡ i = omega arith in
      let first : executions_left ls w i next + 1 ≤ executions_left ls v i slot = subst (λ k. executions_left ls w k next + 1 ≤ executions_left ls v k slot) same here in
      omega (arith, once_more (executions_left ls w i next) (executions_left ls v i slot) (cost_here cost x) first, sum_falls (i + 1) xs each)
  sum_takes i (suc j) (x ∷ xs) at each here = omega (arith, part_falls i x (each i), sum_takes (i + 1) j xs (omega arith) each here)

-- if each instruction costs one, the weight is the sum of the rounds
pub ones : (ls : List Loop) (i : ℕ) (xs : List (Option Insn)) → weight_by_from (λ insn. 1) ls i xs ≡ weight_from ls i xs
unfolding weight_by_from weight_from
ones ls i [] = refl
ones ls i (None ∷ xs) = omega (arith, ones ls (i + 1) xs)
ones ls i (Some insn ∷ xs) = omega (arith, ones ls (i + 1) xs)
