-- Sums and facts over the answers of all logs.
use Rattle.std.proofs.Common.{◌≡◌, ℕ, zero, suc, ◌+◌, List, [], ◌∷◌, ◌++◌, set, refl, sym, ap, subst, arith}
use Rattle.std.specs.Prelude.{All, sum_by}
use Rattle.std.proofs.lemmas.List.Sums.{sum_by-cons, sum_by-append}
use Rattle.std.proofs.lemmas.List.Elements.{All-nil, All-cons, All-head, All-tail, All-append}
use mathlib.Core.Option.{some, some-injective, some-ne-none}
use lib.ListN.{get_elem?}
use Rattle.cells.specs.declared.logs.Answer.{Answer}
use Rattle.cells.specs.declared.logs.SeatLog.{SeatLog}
use Rattle.machine.specs.Sizes.{Maps}
use Rattle.cells.specs.Counting.{seat_log, all_answers}

-- a sum over logs, after a change of one
pub sum_set : (f : SeatLog → ℕ) (logs : List SeatLog) (i : ℕ) (v w : SeatLog) → get_elem? logs i ≡ some v
    → sum_by f (set logs i w) + f v ≡ sum_by f logs + f w
sum_set f [] i v w e = absurd (some-ne-none v (sym e))
sum_set f (h ∷ hs) zero v w e =
    let same : f h ≡ f v = ap f (some-injective h v e) in
    omega (arith, sum_by-cons f w hs, sum_by-cons f h hs)
sum_set f (h ∷ hs) (suc i) v w e =
    let rest = sum_set f hs i v w e in
    omega (arith, sum_by-cons f h (set hs i w), sum_by-cons f h hs)

-- a sum over all answers, after a change of one log
pub sum_answers_set : (f : Answer → ℕ) (logs : List SeatLog) (i : ℕ) (v w : SeatLog) → get_elem? logs i ≡ some v
    → sum_by f (all_answers (set logs i w)) + sum_by f v.answers ≡ sum_by f (all_answers logs) + sum_by f w.answers
sum_answers_set f [] i v w e = absurd (some-ne-none v (sym e))
sum_answers_set f (h ∷ hs) zero v w e =
    let same : sum_by f h.answers ≡ sum_by f v.answers = ap (λ (u : SeatLog). sum_by f u.answers) (some-injective h v e) in
    omega (arith, sum_by-append f w.answers (all_answers hs), sum_by-append f h.answers (all_answers hs))
sum_answers_set f (h ∷ hs) (suc i) v w e =
    let rest = sum_answers_set f hs i v w e in
    omega (arith, sum_by-append f h.answers (all_answers (set hs i w)), sum_by-append f h.answers (all_answers hs))

-- a log without answers adds none
pub answers_snoc : (logs : List SeatLog) (maps : Maps) (parts : ℕ) → all_answers (logs ++ seat_log maps parts [] ∷ []) ≡ all_answers logs
answers_snoc [] maps parts = refl
answers_snoc (h ∷ hs) maps parts = ap (λ (l : List Answer). h.answers ++ l) (answers_snoc hs maps parts)

-- if no log has parts, and those without parts have no answers, there are no answers
pub no_answers : (logs : List SeatLog) → sum_by (λ (h : SeatLog). h.parts) logs ≡ 0
    → ((seat : ℕ) (h : SeatLog) → get_elem? logs seat ≡ some h → h.parts ≡ 0 → h.answers ≡ []) → all_answers logs ≡ []
no_answers [] none idle = refl
no_answers (h ∷ hs) none idle =
    let first : h.parts ≡ 0 = omega (arith, sum_by-cons (λ (u : SeatLog). u.parts) h hs) in
    let others : sum_by (λ (u : SeatLog). u.parts) hs ≡ 0 = omega (arith, sum_by-cons (λ (u : SeatLog). u.parts) h hs) in
    let rest = no_answers hs others (λ seat u at. idle (suc seat) u at) in
    let front = idle 0 h refl first in cc

module _ {X : Type 0} (P : X → Type 0) where
  pub all_front : (xs ys : List X) → All P (xs ++ ys) → All P xs
  all_front [] ys h = All-nil P
  all_front (x ∷ xs) ys h = All-cons P x xs (All-head P x (xs ++ ys) h) (all_front xs ys (All-tail P x (xs ++ ys) h))

  pub all_back : (xs ys : List X) → All P (xs ++ ys) → All P ys
  all_back [] ys h = h
  all_back (x ∷ xs) ys h = all_back xs ys (All-tail P x (xs ++ ys) h)

module _ (P : Answer → Type 0) where
  -- what is so of all answers is so of one log's
  pub of_log : (logs : List SeatLog) (i : ℕ) (v : SeatLog) → get_elem? logs i ≡ some v → All P (all_answers logs) → All P v.answers
  of_log [] i v e h = absurd (some-ne-none v (sym e))
  of_log (u ∷ us) zero v e h = subst (λ (x : SeatLog). All P x.answers) (some-injective u v e) (all_front P u.answers (all_answers us) h)
  of_log (u ∷ us) (suc i) v e h = of_log us i v e (all_back P u.answers (all_answers us) h)

  -- and still is, after a change of one log to another of which it is so
  pub after_set : (logs : List SeatLog) (i : ℕ) (w : SeatLog) → All P w.answers → All P (all_answers logs) → All P (all_answers (set logs i w))
  after_set [] i w new h = All-nil P
  after_set (u ∷ us) zero w new h = All-append P w.answers (all_answers us) new (all_back P u.answers (all_answers us) h)
  after_set (u ∷ us) (suc i) w new h =
      All-append P u.answers (all_answers (set us i w)) (all_front P u.answers (all_answers us) h) (after_set us i w new (all_back P u.answers (all_answers us) h))
