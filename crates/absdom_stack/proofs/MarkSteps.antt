-- The marks of bytes: one more, and which there are after a write.
use Rattle.std.proofs.Common.{◌≡◌, ◌≢◌, ℕ, zero, suc, ◌+◌, ◌<◌, ◌≤◌, Bool, true, false, ◌&&◌, ◌==◌, if◌then◌else◌, List, length, get_or, refl, sym, ◌∙◌, subst, arith, ◌⊎◌, length-set, get_or-set_same, get_or-set_other}
use Rattle.std.proofs.Common.{inl, inr}
use Rattle.std.proofs.lemmas.Bool.{cases_lt}
use Rattle.std.proofs.lemmas.Bool.Decides.{nat_tests}
use Rattle.std.proofs.lemmas.List.{set_past}
use Rattle.absdom_stack.specs.Marks.{mark_at, all_marked, marks_after}
use Rattle.absdom_stack.specs.Marks.{stored_marks}

pub length-marked : (marks : List Bool) (first n : ℕ) → length (marks_after marks first n) ≡ length marks
unfolding marks_after
length-marked marks first zero = refl
length-marked marks first (suc n) = length-set (marks_after marks first n) (first + n) true ∙ length-marked marks first n

-- ---- what is marked

pub both_left : (x y : Bool) → (x && y) ≡ true → x ≡ true
both_left true y e = refl
both_left false y e = e

pub both_right : (x y : Bool) → (x && y) ≡ true → y ≡ true
both_right true y e = e
both_right false y e = cc

-- if all bytes are marked, each is
pub marked_bytes : (marks : List Bool) (first n : ℕ) → all_marked marks first n ≡ true → (k : ℕ) → k < n → mark_at marks (first + k) ≡ true
unfolding all_marked
marked_bytes marks first zero e k h = absurd (omega arith)
marked_bytes marks first (suc n) e k h =
    elim (cases_lt k n) [
      | inl l ↦ marked_bytes marks first n (both_left (all_marked marks first n) (mark_at marks (first + n)) e) k l
      | inr l ↦
          let d : k ≡ n = omega arith in
          let P : ℕ → Type 0 = λ p. mark_at marks (first + p) ≡ true in
          subst P (sym d) (both_right (all_marked marks first n) (mark_at marks (first + n)) e)
    ]

-- all of `n` bytes are marked if each is
pub all_marked_from : (marks : List Bool) (first n : ℕ) → ((k : ℕ) → k < n → mark_at marks (first + k) ≡ true) → all_marked marks first n ≡ true
unfolding all_marked
all_marked_from marks first zero h = refl
all_marked_from marks first (suc n) h =
    let rest : all_marked marks first n ≡ true = all_marked_from marks first n (λ k l. h k (omega arith)) in
    let last : mark_at marks (first + n) ≡ true = h n (omega arith) in
    rw (rest, last) refl

pub equal_or_not : (m n : ℕ) → (m ≡ n) ⊎ (m ≢ n)
equal_or_not m n = grind (arith, nat_tests)

-- a mark stays if others are made
pub mark_stays : (marks : List Bool) (first bytes p : ℕ) → mark_at marks p ≡ true → mark_at (marks_after marks first bytes) p ≡ true
unfolding marks_after
mark_stays marks first zero p e = e
mark_stays marks first (suc bytes) p e =
    elim (equal_or_not p (first + bytes)) [
      | inl d ↦
          elim (cases_lt (first + bytes) (length (marks_after marks first bytes))) [
            | inl l ↦ rw (d, get_or-set_same (marks_after marks first bytes) (first + bytes) true false l) refl
            | inr l ↦ rw (set_past (marks_after marks first bytes) (first + bytes) true l) (mark_stays marks first bytes p e)
          ]
      | inr ne ↦ rw (get_or-set_other (marks_after marks first bytes) (first + bytes) p true false ne) (mark_stays marks first bytes p e)
    ]

-- a byte that was written is marked
pub mark_made : (marks : List Bool) (first bytes p : ℕ) → first + bytes ≤ length marks → first ≤ p → p < first + bytes → mark_at (marks_after marks first bytes) p ≡ true
unfolding marks_after
mark_made marks first zero p room g h = absurd (omega arith)
mark_made marks first (suc bytes) p room g h =
    elim (equal_or_not p (first + bytes)) [
      | inl d ↦
          let l : first + bytes < length (marks_after marks first bytes) = omega (arith, length-marked marks first bytes) in
          rw (d, get_or-set_same (marks_after marks first bytes) (first + bytes) true false l) refl
      | inr ne ↦
          rw (get_or-set_other (marks_after marks first bytes) (first + bytes) p true false ne)
          (mark_made marks first bytes p (omega arith) g (omega arith))
    ]

-- a new mark is one of the bytes that were written
pub mark_is_new : (marks : List Bool) (first bytes place : ℕ) → mark_at (marks_after marks first bytes) place ≡ true → (mark_at marks place ≡ true) ⊎ ((first ≤ place) × (place < first + bytes))
unfolding marks_after
mark_is_new marks first zero place e = inl e
mark_is_new marks first (suc bytes) place e =
    elim (equal_or_not place (first + bytes)) [
      | inl d ↦ inr (omega arith, omega arith)
      | inr ne ↦
          elim (mark_is_new marks first bytes place (sym (get_or-set_other (marks_after marks first bytes) (first + bytes) place true false ne) ∙ e)) [
            | inl m ↦ inl m
            | inr k ↦ inr (k.0, omega (arith, k.1))
          ]
    ]

-- if each mark is in another list too, `n` bytes that are all marked are all marked there
pub still_marked : (marks more : List Bool) (first n : ℕ) → ((p : ℕ) → mark_at marks p ≡ true → mark_at more p ≡ true) → all_marked marks first n ≡ true → all_marked more first n ≡ true
still_marked marks more first n m e = all_marked_from more first n (λ k l. m (first + k) (marked_bytes marks first n e k l))

-- a mark stays if bytes are stored
pub stored_stays : (marks : List Bool) (bytes : ℕ) (firsts : ℕ × ℕ) (p : ℕ) → mark_at marks p ≡ true → mark_at (stored_marks marks bytes firsts) p ≡ true
stored_stays marks bytes firsts p m =
    elim (firsts.0 == firsts.1) as (λ t. mark_at (if t then marks_after marks firsts.0 bytes else marks) p ≡ true) [
      | true ↦ mark_stays marks firsts.0 bytes p m
      | false ↦ m
    ]

pub length-stored_marks : (marks : List Bool) (bytes : ℕ) (firsts : ℕ × ℕ) → length (stored_marks marks bytes firsts) ≡ length marks
length-stored_marks marks bytes firsts =
    elim (firsts.0 == firsts.1) as (λ t. length (if t then marks_after marks firsts.0 bytes else marks) ≡ length marks) [
      | true ↦ length-marked marks firsts.0 bytes
      | false ↦ refl
    ]

-- a byte that a store sets is marked
pub stored_made : (marks : List Bool) (bytes : ℕ) (firsts : ℕ × ℕ) (p : ℕ) → firsts.0 ≡ firsts.1 → firsts.0 + bytes ≤ length marks → firsts.0 ≤ p → p < firsts.0 + bytes → mark_at (stored_marks marks bytes firsts) p ≡ true
stored_made marks bytes firsts p one room g h =
    let t : (firsts.0 == firsts.1) ≡ true = grind (arith, nat_tests) in
    let Q : Bool → Type 0 = λ u. mark_at (if u then marks_after marks firsts.0 bytes else marks) p ≡ true in
    subst Q (sym t) (mark_made marks firsts.0 bytes p room g h)
