-- The instructions of a run of a program that has its form cost no more than the weight: the parts of the law.
use Rattle.std.proofs.Common.{◌≡◌, ◌≢◌, ◌⊎◌, inl, inr, ℕ, zero, suc, ◌+◌, ◌-◌, ◌<◌, ◌≤◌, List, [], ◌∷◌, length, refl, sym, subst, arith}
use Rattle.std.specs.Prelude.{All, slice_index_or}
use Rattle.std.proofs.lemmas.Bool.{cases_lt}
use Rattle.bpf.specs.declared.loops.Loop.{Loop}
use Rattle.bpf.specs.Program.{Program, AreLoops, IsProgram}
use Rattle.bpf.specs.Weight.{times_at}
use Rattle.bver_form.specs.Form.{IsFormed}
use Rattle.bver_form.specs.Loops.{IsCounted, IsEdge, IsNestedOrApart, executions_left, holds}
use Rattle.bver_form.specs.Laws.{BeginsWithinWeight, EachStepTakesItsCost, ItsCostIsLeft, LoopsAreEntered, WeightIsOfOnes}
use Rattle.bver_form.proofs.Fitting.{each_loop, loop_at}
use Rattle.bver_form.proofs.Left.{AreLaid, head_all, left_ahead, left_before, left_out, left_within, further_else, rounds, tail_all, times_in, times_out}
use Rattle.lemmas.proofs.Cases.{by_test}
use Rattle.bver_form.proofs.Steps.{goes_back, goes_onward}
use Rattle.bver_form.proofs.Sums.{ones, sum_here, sum_takes, sum_weighs}
use Rattle.bver_form.proofs.Entering.{comes_in, goes_back_to}

-- ---- the loops of a program that has its form lie so

-- of two loops, the later one, by head, is nested in the other or after it
follows : (l m : Loop) → l.head < m.head → m.head < m.back → IsNestedOrApart l m → (l.back < m.head) ⊎ (m.back < l.back)
follows l m rising ordered (inl (inl before)) = inl before
follows l m rising ordered (inl (inr following)) = absurd (omega arith)
follows l m rising ordered (inr (inl inside)) = let a = inside.0 in absurd (omega arith)
follows l m rising ordered (inr (inr holds_it)) = inr holds_it.1

rises : (n least : ℕ) (ls : List Loop) (k : ℕ) (d : Loop) → AreLoops n least ls → k < length ls → least ≤ (slice_index_or ls k d).head
rises n least [] k d h below = absurd (omega arith)
rises n least (l ∷ ls) zero d h below = h.0
rises n least (l ∷ ls) (suc k) d h below = let a = h.0 in omega (arith, rises n (l.head + 1) ls k d h.2 (omega (arith, below)))

laid : (n least : ℕ) (ls : List Loop) → AreLoops n least ls → All (λ l. All (λ m. m.head ≢ l.head → IsNestedOrApart l m) ls) ls → AreLaid least ls
laid n least [] h others = tt
laid n least (l ∷ ls) h others = (
  h.0,
  h.1.ordered,
  h.1.low,
  (λ k d below.
      let rising = rises n (l.head + 1) ls k d h.2 below in
      follows l (slice_index_or ls k d) (omega arith) (each_loop n (l.head + 1) ls k d h.2 below).ordered (others 0 l (omega arith) (suc k) d (omega (arith, below)) (λ same. omega arith))),
  laid n (l.head + 1) ls h.2 (λ k d below j e inside. others (suc k) d (omega (arith, below)) (suc j) e (omega (arith, inside))),
)

pub lies : (p : Program) → IsProgram p → IsFormed p → AreLaid 0 p.loops
lies p limits form = laid (length p.slots) 0 p.loops limits.loops (λ k d below. (form.loops k d below).others)

-- ---- the parts

starts : (ls : List Loop) (least : ℕ) → AreLaid least ls → (v : ℕ → ℕ) (i : ℕ) → All (λ l. l.head ≡ 0 → v 0 ≤ l.bound) ls → executions_left ls v i 0 ≤ times_at ls i
starts [] least h v i bounds = left_ahead [] 1 tt v i 0 (omega arith)
starts (l ∷ ls) least h v i bounds =
    by_test (λ t. holds l i ≡ t → executions_left (l ∷ ls) v i 0 ≤ times_at (l ∷ ls) i) (holds l i)
    (λ _ e.
    let ordered = h.1 in
    let some = h.2 in
    elim (cases_lt 0 l.head) [
      | inl later ↦ rw (left_before l ls v i 0 e later, times_in l ls i e) (omega arith)
      | inr first ↦
          let at : l.head ≡ 0 = omega arith in
          let bound : v l.head ≤ l.bound = subst (λ k. v k ≤ l.bound) (sym at) (head_all (λ l. l.head ≡ 0 → v 0 ≤ l.bound) l ls bounds at) in
          rw (left_within l ls v i 0 e (omega arith) (omega arith), further_else l (v l.head) 0 (λ s. omega arith), times_in l ls i e)
          (rounds (v l.head - 1) l.bound (times_at ls i) (executions_left ls v i 0) (omega arith) (left_ahead ls (l.head + 1) h.4 v i 0 (omega arith)))
    ])
    (λ _ e. rw (left_out l ls v i 0 e, times_out l ls i e) (starts ls (l.head + 1) h.4 v i (tail_all (λ l. l.head ≡ 0 → v 0 ≤ l.bound) l ls bounds)))
    refl

pub begins_within : BeginsWithinWeight
begins_within cost p values limits form bounds =
    sum_weighs cost p.loops values 0 0 p.slots (λ j. starts p.loops 0 (lies p limits form) values j bounds)

pub its_cost_is_left : ItsCostIsLeft
its_cost_is_left cost p slot values limits form = sum_here cost p.loops values slot 0 slot p.slots (omega arith)

pub weight_is_of_ones : WeightIsOfOnes
weight_is_of_ones p = ones p.loops 0 p.slots

pub are_entered : LoopsAreEntered
are_entered p slot next limits form edge begins k d below =
    comes_in p (slice_index_or p.loops k d) slot next limits form (form.loops k d below) (loop_at p k d limits below).ordered edge

-- what is left of one instruction along an edge
falls : (p : Program) (slot next i e : ℕ) (values after : ℕ → ℕ) → IsProgram p → IsFormed p → IsEdge p slot next → All (λ l. IsCounted l slot next (values l.head) (after l.head)) p.loops → (e ≡ 0) ⊎ ((e ≡ 1) × (i ≡ slot)) → executions_left p.loops after i next + e ≤ executions_left p.loops values i slot
falls p slot next i e values after limits form edge counted taken =
    elim (cases_lt slot next) [
      | inl onward ↦
          goes_onward values after i slot next e p.loops 0 (lies p limits form) counted
          (λ k d below. comes_in p (slice_index_or p.loops k d) slot next limits form (form.loops k d below) (loop_at p k d limits below).ordered edge)
          onward taken
      | inr backward ↦ goes_back values after i slot next e p.loops 0 (lies p limits form) counted (goes_back_to p slot next form edge backward) taken
    ]

pub each_takes_its_cost : EachStepTakesItsCost
each_takes_its_cost cost p slot next values after limits form edge begins counted =
    sum_takes cost p.loops values after slot next 0 slot p.slots (omega arith)
    (λ j. let h = falls p slot next j 0 values after limits form edge counted (inl refl) in omega arith)
    (falls p slot next slot 1 values after limits form edge counted (inr (refl, refl)))
