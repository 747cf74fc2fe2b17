-- How much is left, for one instruction: what a step takes from it.
use Rattle.std.proofs.Common.{◌≡◌, ◌≢◌, ◌⊎◌, inl, inr, ℕ, zero, suc, ◌+◌, ◌-◌, ◌*◌, ◌<◌, ◌≤◌, true, false, List, [], ◌∷◌, refl, sym, subst, ◌∙◌, arith}
use Rattle.std.specs.Prelude.{All, nat_le, nat_lt, if◌then◌else◌}
use Rattle.std.proofs.lemmas.Bool.{cases_lt, and_parts, and_from, leb-true, true≢false}
use Rattle.bpf.specs.declared.loops.Loop.{Loop}
use Rattle.bpf.specs.Weight.{times_at}
use Rattle.bver_form.specs.Loops.{further_passes, holds, executions_left}
use Rattle.lemmas.proofs.Cases.{by_test, by_lt, by_le, by_eq}

-- ---- a loop and a slot

pub low : (l : Loop) (k : ℕ) → holds l k ≡ true → l.head ≤ k
low l k e = leb-true l.head k (and_parts (nat_le l.head k) (nat_le k l.back) e).0

pub high : (l : Loop) (k : ℕ) → holds l k ≡ true → k ≤ l.back
high l k e = leb-true k l.back (and_parts (nat_le l.head k) (nat_le k l.back) e).1

pub held : (l : Loop) (k : ℕ) → l.head ≤ k → k ≤ l.back → holds l k ≡ true
held l k a b = and_from (nat_le l.head k) (nat_le k l.back) (by_le (λ t. t ≡ true) l.head k (λ _. refl) (λ c. absurd (omega arith))) (by_le (λ t. t ≡ true) k l.back (λ _. refl) (λ c. absurd (omega arith)))

pub not_before : (l : Loop) (k : ℕ) → k < l.head → holds l k ≡ false
not_before l k a = by_test (λ t. t ≡ false) (holds l k) (λ e. let b = low l k e in absurd (omega arith)) (λ _. refl)

pub not_after : (l : Loop) (k : ℕ) → l.back < k → holds l k ≡ false
not_after l k a = by_test (λ t. t ≡ false) (holds l k) (λ e. let b = high l k e in absurd (omega arith)) (λ _. refl)

-- the place of a slot: before, in or after a loop
pub data IsPlace (l : Loop) (k : ℕ) : Type 0 where
  before : k < l.head → IsPlace l k
  within : l.head ≤ k → k ≤ l.back → IsPlace l k
  following : l.back < k → IsPlace l k

pub place : (l : Loop) (k : ℕ) → IsPlace l k
place l k =
    elim (cases_lt k l.head) [
      | inl a ↦ before a
      | inr a ↦ elim (cases_lt l.back k) [ inl b ↦ following b | inr b ↦ within a b ]
    ]

pub outside : (l : Loop) (k : ℕ) → holds l k ≡ false → (k < l.head) ⊎ (l.back < k)
outside l k e =
    elim (place l k) [
      | before a ↦ inl a
      | within a b ↦ absurd (true≢false (sym (held l k a b) ∙ e))
      | following b ↦ inr b
    ]

-- ---- `left` and `times_at`, case by case

pub times_out : (l : Loop) (ls : List Loop) (i : ℕ) → holds l i ≡ false → times_at (l ∷ ls) i ≡ times_at ls i
unfolding times_at
times_out l ls i e = subst (λ t. (if t then l.bound else 1) * times_at ls i ≡ times_at ls i) (sym e) (omega arith)

pub times_in : (l : Loop) (ls : List Loop) (i : ℕ) → holds l i ≡ true → times_at (l ∷ ls) i ≡ l.bound * times_at ls i
unfolding times_at
times_in l ls i e = subst (λ t. (if t then l.bound else 1) * times_at ls i ≡ l.bound * times_at ls i) (sym e) refl

module _ (l : Loop) (ls : List Loop) (v : ℕ → ℕ) (i k : ℕ) where
  abbrev pub inner : ℕ
  inner = if nat_lt k l.head then times_at (l ∷ ls) i else (if nat_lt l.back k then 0 else further_passes l (v l.head) k * times_at ls i + executions_left ls v i k)

  pub left_out : holds l i ≡ false → executions_left (l ∷ ls) v i k ≡ executions_left ls v i k
  unfolding executions_left
  left_out e = subst (λ t. (if t then inner else executions_left ls v i k) ≡ executions_left ls v i k) (sym e) refl

  pub left_held : holds l i ≡ true → executions_left (l ∷ ls) v i k ≡ inner
  unfolding executions_left
  left_held e = subst (λ t. (if t then inner else executions_left ls v i k) ≡ inner) (sym e) refl

  pub left_before : holds l i ≡ true → k < l.head → executions_left (l ∷ ls) v i k ≡ l.bound * times_at ls i
  left_before e a = left_held e ∙ by_lt (λ t. (if t then times_at (l ∷ ls) i else (if nat_lt l.back k then 0 else further_passes l (v l.head) k * times_at ls i + executions_left ls v i k)) ≡ l.bound * times_at ls i) k l.head (λ _. times_in l ls i e) (λ b. absurd (omega arith))

  pub left_after_loop : holds l i ≡ true → l.head < l.back → l.back < k → executions_left (l ∷ ls) v i k ≡ 0
  left_after_loop e o a = left_held e ∙ by_lt (λ t. (if t then times_at (l ∷ ls) i else (if nat_lt l.back k then 0 else further_passes l (v l.head) k * times_at ls i + executions_left ls v i k)) ≡ 0) k l.head (λ b. absurd (omega arith)) (λ _.
      by_lt (λ t. (if t then 0 else further_passes l (v l.head) k * times_at ls i + executions_left ls v i k) ≡ 0) l.back k (λ _. refl) (λ b. absurd (omega arith)))

  pub left_within : holds l i ≡ true → l.head ≤ k → k ≤ l.back → executions_left (l ∷ ls) v i k ≡ further_passes l (v l.head) k * times_at ls i + executions_left ls v i k
  left_within e a b = left_held e ∙ by_lt (λ t. (if t then times_at (l ∷ ls) i else (if nat_lt l.back k then 0 else further_passes l (v l.head) k * times_at ls i + executions_left ls v i k)) ≡ further_passes l (v l.head) k * times_at ls i + executions_left ls v i k) k l.head (λ c. absurd (omega arith)) (λ _.
      by_lt (λ t. (if t then 0 else further_passes l (v l.head) k * times_at ls i + executions_left ls v i k) ≡ further_passes l (v l.head) k * times_at ls i + executions_left ls v i k) l.back k (λ c. absurd (omega arith)) (λ _. refl))

pub further_back : (l : Loop) (n k : ℕ) → k ≡ l.back → further_passes l n k ≡ n
further_back l n k e = by_eq (λ t. (if t then n else n - 1) ≡ n) k l.back (λ _. refl) (λ d. absurd (d e))

pub further_else : (l : Loop) (n k : ℕ) → k ≢ l.back → further_passes l n k ≡ n - 1
further_else l n k d = by_eq (λ t. (if t then n else n - 1) ≡ n - 1) k l.back (λ e. absurd (d e)) (λ _. refl)

-- ---- products

pub more_times : (a b t : ℕ) → a ≤ b → a * t ≤ b * t
more_times zero b t h = omega arith
more_times (suc a) zero t h = absurd (omega arith)
more_times (suc a) (suc b) t h = omega (arith, more_times a b t (omega arith))

-- rounds that are left and one that goes on are at most all rounds
pub rounds : (a b t x : ℕ) → a + 1 ≤ b → x ≤ t → a * t + x ≤ b * t
rounds zero zero t x h g = absurd (omega arith)
rounds zero (suc b) t x h g = omega arith
rounds (suc a) zero t x h g = absurd (omega arith)
rounds (suc a) (suc b) t x h g = omega (arith, rounds a b t x (omega arith) g)

-- ---- the loops of a list

pub tail_all : (P : Loop → Type 0) (l : Loop) (ls : List Loop) → All P (l ∷ ls) → All P ls
tail_all P l ls h = λ k d b. h (suc k) d (omega (arith, b))

pub head_all : (P : Loop → Type 0) (l : Loop) (ls : List Loop) → All P (l ∷ ls) → P l
head_all P l ls h = h 0 l (omega arith)

-- loops by rising head from `least`, each nested in an earlier one or after it
abbrev pub AreLaid : (least : ℕ) → List Loop → Type 0
AreLaid least [] = Unit {0}
AreLaid least (l ∷ ls) = (least ≤ l.head) × (l.head < l.back) × (1 ≤ l.bound) × All (λ m. (l.back < m.head) ⊎ (m.back < l.back)) ls × AreLaid (l.head + 1) ls

-- before all heads no more is left than all rounds
pub left_ahead : (ls : List Loop) (least : ℕ) → AreLaid least ls → (v : ℕ → ℕ) (i k : ℕ) → k < least → executions_left ls v i k ≤ times_at ls i
unfolding executions_left times_at
left_ahead [] least h v i k a = by_le (λ t. (if t then 1 else 0) ≤ 1) k i (λ _. omega arith) (λ _. omega arith)
left_ahead (l ∷ ls) least h v i k a = by_test (λ t. holds l i ≡ t → executions_left (l ∷ ls) v i k ≤ times_at (l ∷ ls) i) (holds l i)
    (λ _ e. let low = h.0 in rw (left_before l ls v i k e (omega arith), times_in l ls i e) (omega arith))
    (λ _ e. let low = h.0 in rw (left_out l ls v i k e, times_out l ls i e) (left_ahead ls (l.head + 1) h.4 v i k (omega arith)))
    refl

-- one is left of the instruction at the run's slot
pub left_here : (ls : List Loop) (v : ℕ → ℕ) (k : ℕ) → 1 ≤ executions_left ls v k k
unfolding executions_left
left_here [] v k = by_le (λ t. 1 ≤ (if t then 1 else 0)) k k (λ _. omega arith) (λ a. absurd (omega arith))
left_here (l ∷ ls) v k = by_test (λ t. holds l k ≡ t → 1 ≤ executions_left (l ∷ ls) v k k) (holds l k)
    (λ _ e. let more = left_here ls v k in rw (left_within l ls v k k e (low l k e) (high l k e)) (at_least (further_passes l (v l.head) k * times_at ls k) (executions_left ls v k k) more))
    (λ _ e. rw (left_out l ls v k k e) (left_here ls v k))
    refl
  where
    at_least : (a x : ℕ) → 1 ≤ x → 1 ≤ a + x
    at_least a x h = omega arith
