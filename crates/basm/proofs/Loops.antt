-- Loops by their heads: there is one list of given loops whose heads rise strictly.
use Rattle.std.proofs.Common.{◌≡◌, ℕ, suc, ◌+◌, ◌≤◌, ◌<◌, Bool, true, false, ◌&&◌, cond, List, [], ◌∷◌, length, get_or, refl, sym, ap, ◌∙◌, arith, inl, inr, eqb, ltb}
use Rattle.std.specs.List.{sum_by}
use Rattle.std.specs.List.Sorted.{IsNonDecreasingBy, IsPermutation}
use Rattle.std.proofs.lemmas.Bool.{cases_Bool, cond-true, cond-false, eqb-true, eq-eqb, false_from_ne_true, and_parts}
use Rattle.std.proofs.lemmas.Bool.Decides.{nat_tests}
use Rattle.std.proofs.lemmas.List.Sorted.{sum_by-IsPermutation}
use Rattle.std.proofs.lemmas.List.Sums.{sum_by-cons}
use Rattle.bpf.specs.declared.loops.Loop.{Loop}
use Rattle.bpf.specs.Program.{AreLoops}

-- ---- heads that do not fall, and begin at `least` or above

abbrev Rises : ℕ → List Loop → Type 0
Rises least [] = Unit {0}
Rises least (l ∷ ls) = (least ≤ l.head) × Rises l.head ls

rises_from : (least : ℕ) (ls : List Loop) → IsNonDecreasingBy (λ l. l.head) ls → ((d : Loop) → 0 < length ls → least ≤ (get_or ls 0 d).head) → Rises least ls
rises_from least [] sorted first = tt
rises_from least (l ∷ ls) sorted first = (
  first l (omega arith),
  rises_from l.head ls (λ i j d le lt. sorted (suc i) (suc j) d (omega arith) (omega arith)) (λ d lt. sorted 0 1 d (omega arith) (omega arith)),
)

rises_lower : (least low : ℕ) (ls : List Loop) → low ≤ least → Rises least ls → Rises low ls
rises_lower least low [] le rises = tt
rises_lower least low (l ∷ ls) le rises = let first = rises.0 in (omega arith, rises.1)

loops_rise : (slots least : ℕ) (ls : List Loop) → AreLoops slots least ls → Rises least ls
loops_rise slots least [] loops = tt
loops_rise slots least (l ∷ ls) loops = (loops.0, rises_lower (l.head + 1) l.head ls (omega arith) (loops_rise slots (l.head + 1) ls loops.2))

-- if no loop has any from `least`, the sum is zero
sum_zero : (f : Loop → ℕ) (least : ℕ) (ls : List Loop) → Rises least ls → ((l : Loop) → least ≤ l.head → f l ≡ 0) → sum_by f ls ≡ 0
sum_zero f least [] rises none = refl
sum_zero f least (l ∷ ls) rises none =
    let first = rises.0 in
    let rest = sum_zero f l.head ls rises.1 (λ m le. none m (omega arith)) in
    omega (arith, sum_by-cons f l ls, none l first, rest)

-- ---- equal loops

abbrev is_same : Loop → Loop → Bool
is_same a b = eqb a.head b.head && (eqb a.back b.back && (eqb a.bound b.bound && eqb a.register b.register))

same_loop : (a b : Loop) → a.head ≡ b.head → a.back ≡ b.back → a.bound ≡ b.bound → a.register ≡ b.register → a ≡ b
same_loop a b head back bound register =
    let one : a ≡ record { head = b.head; back = a.back; bound = a.bound; register = a.register } = ap (λ (n : ℕ). record { head = n; back = a.back; bound = a.bound; register = a.register }) head in
    let two : record { head = b.head; back = a.back; bound = a.bound; register = a.register } ≡ record { head = b.head; back = b.back; bound = a.bound; register = a.register } = ap (λ (n : ℕ). record { head = b.head; back = n; bound = a.bound; register = a.register }) back in
    let three : record { head = b.head; back = b.back; bound = a.bound; register = a.register } ≡ record { head = b.head; back = b.back; bound = b.bound; register = a.register } = ap (λ (n : ℕ). record { head = b.head; back = b.back; bound = n; register = a.register }) bound in
    let four : record { head = b.head; back = b.back; bound = b.bound; register = a.register } ≡ b = ap (λ (n : ℕ). record { head = b.head; back = b.back; bound = b.bound; register = n }) register in
    one ∙ two ∙ three ∙ four

same_from : (a b : Loop) → is_same a b ≡ true → a ≡ b
same_from a b same =
    let head = and_parts _ _ same in
    let back = and_parts _ _ head.1 in
    let bound = and_parts _ _ back.1 in
    same_loop a b (eqb-true _ _ head.0) (eqb-true _ _ back.0) (eqb-true _ _ bound.0) (eqb-true _ _ bound.1)

is_same-self : (a : Loop) → is_same a a ≡ true
is_same-self a = rw (eq-eqb a.head a.head refl, eq-eqb a.back a.back refl, eq-eqb a.bound a.bound refl, eq-eqb a.register a.register refl) refl

other_head : (a b : Loop) → a.head < b.head → is_same a b ≡ false
other_head a b lt = false_from_ne_true (is_same a b) (λ same. let heads : a.head ≡ b.head = eqb-true _ _ (and_parts _ _ same).0 in absurd (omega arith))

-- ---- loops with the same sums

abbrev HaveSums : List Loop → List Loop → Type 0
HaveSums xs ls = (f : Loop → ℕ) → sum_by f xs ≡ sum_by f ls

one_or_none : (t : Bool) → cond {A = ℕ} t 1 0 ≡ 0 → t ≡ false
one_or_none true h = cc
one_or_none false h = refl

first_head : (low : ℕ) (x l : Loop) (xs ls : List Loop) → HaveSums (x ∷ xs) (l ∷ ls) → Rises low (x ∷ xs) → x.head ≤ l.head
first_head low x l xs ls sums rises =
    let below : Loop → ℕ = λ y. cond (ltb y.head x.head) 1 0 in
    let none = sum_zero below x.head (x ∷ xs) (omega arith, rises.1) (λ y le. cond-false (ltb y.head x.head) 1 0 (grind (arith, nat_tests))) in
    let zero : below l ≡ 0 = omega (arith, sum_by-cons below l ls, sums below, none) in
    let unless : ltb l.head x.head ≡ false = one_or_none _ zero in
    grind (arith, nat_tests)

first_loop : (slots least low : ℕ) (x l : Loop) (xs ls : List Loop) → HaveSums (x ∷ xs) (l ∷ ls) → Rises low (x ∷ xs) → AreLoops slots least (l ∷ ls) → x ≡ l
first_loop slots least low x l xs ls sums rises loops = elim (cases_Bool (is_same x l)) [
  | inl same ↦ same_from x l same
  | inr other ↦
      let it : Loop → ℕ = λ y. cond (is_same x y) 1 0 in
      let le = first_head low x l xs ls sums rises in
      let here : it x ≡ 1 = cond-true (is_same x x) 1 0 (is_same-self x) in
      let none : it l ≡ 0 = cond-false (is_same x l) 1 0 other in
      let later = sum_zero it (l.head + 1) ls (loops_rise slots (l.head + 1) ls loops.2) (λ y above. cond-false (is_same x y) 1 0 (other_head x y (omega arith))) in
      absurd (omega (arith, sum_by-cons it x xs, sum_by-cons it l ls, sums it, here, none, later))
]

loops_are : (slots least low : ℕ) (xs ls : List Loop) → HaveSums xs ls → Rises low xs → AreLoops slots least ls → xs ≡ ls
loops_are slots least low [] [] sums rises loops = refl
loops_are slots least low [] (l ∷ ls) sums rises loops = absurd (omega (arith, sum_by-cons (λ _. 1) l ls, sums (λ _. 1)))
loops_are slots least low (x ∷ xs) [] sums rises loops = absurd (omega (arith, sum_by-cons (λ _. 1) x xs, sums (λ _. 1)))
loops_are slots least low (x ∷ xs) (l ∷ ls) sums rises loops =
    let first = first_loop slots least low x l xs ls sums rises loops in
    let rest = loops_are slots (l.head + 1) x.head xs ls (λ f. omega (arith, sum_by-cons f x xs, sum_by-cons f l ls, sums f, ap f first)) rises.1 loops.2 in
    ap (λ (y : Loop). y ∷ xs) first ∙ ap (λ (ys : List Loop). l ∷ ys) rest

-- loops that were sorted by their heads are those that rise
pub sorted_loops : (slots : ℕ) (given sorted ls : List Loop) → IsPermutation given sorted → IsNonDecreasingBy (λ l. l.head) sorted → IsPermutation given ls → AreLoops slots 0 ls → sorted ≡ ls
sorted_loops slots given sorted ls by_sort heads by_hand loops =
    loops_are slots 0 0 sorted ls (λ f. sum_by-IsPermutation f given sorted by_sort ∙ sym (sum_by-IsPermutation f given ls by_hand)) (rises_from 0 sorted heads (λ d lt. omega arith)) loops
