-- Marks, a word at a time.
use Rattle.std.proofs.Common.{◌≡◌, ◌≢◌, ◌⊎◌, ℕ, zero, suc, ◌+◌, ◌-◌, ◌*◌, ◌/◌, ◌%◌, ◌^◌, ◌≤◌, ◌<◌, min, max, Bool, true, false, ◌&&◌, ◌==◌, List, [], ◌∷◌, length, get_or, set, refl, sym, ap, ◌∙◌, subst, arith, inl, inr, get_or-set_same, get_or-set_other}
use Rattle.std.specs.Prelude.{◌||◌}
use Rattle.std.proofs.lemmas.Bool.{cases_lt}
use Rattle.std.proofs.lemmas.Bool.Decides.{nat_tests}
use Rattle.std.proofs.lemmas.List.{same_lists}
use Rattle.std.proofs.lemmas.Nat.{and_le_r}
use Rattle.std.proofs.lemmas.Nat.Bits.{bit_at_and, bit_at-lt, bit_at_mask_inside, bit_at_mask_below, bit_at_ones, bit_at_ones_above, ones_shl, ones_shr, same_from_bits_below}
use Rattle.std.specs.Int.{bit_at}
use Rattle.std.specs.Int.Bits.{bit_and, bit_or}
use Rattle.bpf_insn.specs.Bits.{bit_of_either, is_bit}
use Rattle.absdom_stack.specs.Bits.{AreBitsIn, AreBitsOf, marks_of}
use Rattle.absdom_stack.specs.Marks.{AreMarkedIn, all_marked, mark_at, marks_after}
use Rattle.absdom_stack.proofs.MarkBits.{bit_of_both, length-marks, mark_of, unmarked_past}
use Rattle.absdom_stack.proofs.MarkSteps.{all_marked_from, both_left, both_right, length-marked, mark_is_new, mark_made, mark_stays, marked_bytes}

-- ---- the bits of a word

-- a word has all of these bits if they are what it has in common with them
pub has_bits : (word bits : ℕ) → (bit_and word bits == bits) ≡ true → AreBitsOf word bits
has_bits word bits e i inside set =
    let same : bit_and word bits ≡ bits = grind (arith, nat_tests, e) in
    both_left (is_bit word i) (is_bit bits i) (sym (bit_of_both word bits i) ∙ ap (λ x. is_bit x i) same ∙ set)

pub bits_had : (word bits : ℕ) → bits < 2 ^ 64 → AreBitsOf word bits → (bit_and word bits == bits) ≡ true
bits_had word bits fits has =
    let same : bit_and word bits ≡ bits = same_from_bits_below 64 (bit_and word bits) bits (omega (arith, fits, and_le_r word bits)) fits (λ i inside. bit_at_and word bits i ∙ least i inside) in
    grind (arith, nat_tests, same)
  where
    least : (i : ℕ) → i < 64 → min (bit_at word i) (bit_at bits i) ≡ bit_at bits i
    least i inside = elim (cases_lt (bit_at bits i) 1) [
      | inl none ↦ omega (arith, none)
      | inr some ↦
          let set : is_bit bits i ≡ true = let one : bit_at bits i ≡ 1 = omega (arith, some, bit_at-lt bits i) in ap (λ x. x == 1) one in
          let there : bit_at word i ≡ 1 = let t = has i inside set in grind (arith, nat_tests, t) in
          omega (arith, there, bit_at-lt bits i)
    ]

-- the bits between two, as a word's highest and its lowest in common
pub mask_bits : (word first end low high : ℕ) → first < 64 * word + 64 → 64 * word < end → low ≡ first - 64 * word → high ≡ min (end - 64 * word) 64
    → AreBitsIn word first end (bit_and ((2 ^ 64 - 1) * 2 ^ low % 2 ^ 64) ((2 ^ 64 - 1) / 2 ^ (64 - high)))
mask_bits word first end low high from to low_is high_is = record {
  made = λ i inside above below. is_both i (in_high i (omega (arith, above, low_is)) inside) (in_low i (omega (arith, below, inside, high_is)));
  only = λ i inside is. (above_low i inside (left i is), below_high i inside (right i is));
}
  where
    highest : ℕ
    highest = (2 ^ 64 - 1) * 2 ^ low % 2 ^ 64

    lowest : ℕ
    lowest = (2 ^ 64 - 1) / 2 ^ (64 - high)

    highest_is : highest ≡ 2 ^ 64 - 2 ^ low
    highest_is = ones_shl 64 low (omega (arith, from, low_is))

    lowest_is : lowest ≡ 2 ^ high - 1
    lowest_is =
        let back : 64 - (64 - high) ≡ high = omega (arith, high_is) in
        ones_shr 64 (64 - high) (omega arith) ∙ ap (λ j. 2 ^ j - 1) back

    in_high : (i : ℕ) → low ≤ i → i < 64 → bit_at highest i ≡ 1
    in_high i above inside = ap (λ x. bit_at x i) highest_is ∙ bit_at_mask_inside low 64 i above inside

    in_low : (i : ℕ) → i < high → bit_at lowest i ≡ 1
    in_low i below = ap (λ x. bit_at x i) lowest_is ∙ bit_at_ones high i below

    is_both : (i : ℕ) → bit_at highest i ≡ 1 → bit_at lowest i ≡ 1 → is_bit (bit_and highest lowest) i ≡ true
    is_both i a b = bit_of_both highest lowest i ∙ (λ k. (a k == 1) && (b k == 1))

    left : (i : ℕ) → is_bit (bit_and highest lowest) i ≡ true → is_bit highest i ≡ true
    left i is = both_left (is_bit highest i) (is_bit lowest i) (sym (bit_of_both highest lowest i) ∙ is)

    right : (i : ℕ) → is_bit (bit_and highest lowest) i ≡ true → is_bit lowest i ≡ true
    right i is = both_right (is_bit highest i) (is_bit lowest i) (sym (bit_of_both highest lowest i) ∙ is)

    above_low : (i : ℕ) → i < 64 → is_bit highest i ≡ true → first ≤ 64 * word + i
    above_low i inside is = elim (cases_lt i low) [
      | inl below ↦
          let none : bit_at highest i ≡ 0 = ap (λ x. bit_at x i) highest_is ∙ bit_at_mask_below low 64 i below in
          let no : false ≡ true = sym (ap (λ x. x == 1) none) ∙ is in
          absurd cc
      | inr above ↦ omega (arith, above, low_is)
    ]

    below_high : (i : ℕ) → i < 64 → is_bit lowest i ≡ true → 64 * word + i < end
    below_high i inside is = elim (cases_lt i high) [
      | inl below ↦ omega (arith, below, high_is)
      | inr past ↦
          let none : bit_at lowest i ≡ 0 = ap (λ x. bit_at x i) lowest_is ∙ bit_at_ones_above high i past in
          let no : false ≡ true = sym (ap (λ x. x == 1) none) ∙ is in
          absurd cc
    ]

-- ---- the marks of a word

-- the mark of a place in a word
mark_in : (words : List ℕ) (word i : ℕ) → i < 64 → mark_at (marks_of words) (64 * word + i) ≡ is_bit (get_or words word 0) i
mark_in words word i inside =
    let at : (64 * word + i) / 64 ≡ word = omega arith in
    let within : (64 * word + i) % 64 ≡ i = omega arith in
    mark_of words (64 * word + i)
    ∙ ap (λ k. is_bit (get_or words k 0) ((64 * word + i) % 64)) at
    ∙ ap (λ j. is_bit (get_or words word 0) j) within

-- what holds of each place of a word holds of one that is none of an earlier word
at_place : (P : ℕ → Type 0) (word p : ℕ) → 64 * word ≤ p → p < 64 * (word + 1) → ((i : ℕ) → i < 64 → p ≡ 64 * word + i → P (64 * word + i)) → P p
at_place P word p above below each =
    let same : p ≡ 64 * word + (p - 64 * word) = omega arith in
    subst P (sym same) (each (p - 64 * word) (omega arith) same)

-- the bytes from the first to before the end are marked, if they lie in words before one
abbrev pub AreMarkedBelow : (marks : List Bool) (first end word : ℕ) → Type 0
AreMarkedBelow marks first end word = (p : ℕ) → first ≤ p → p < end → p < 64 * word → mark_at marks p ≡ true

pub set_none : (marks : List Bool) (first end : ℕ) → AreMarkedBelow marks first end (first / 64)
set_none marks first end p above below before = absurd (omega (arith, above, before))

pub set_next : (words : List ℕ) (first end word bits : ℕ) → AreBitsIn word first end bits → AreBitsOf (get_or words word 0) bits
    → AreMarkedBelow (marks_of words) first end word → AreMarkedBelow (marks_of words) first end (word + 1)
set_next words first end word bits within has so p above below before = elim (cases_lt p (64 * word)) [
  | inl earlier ↦ so p above below earlier
  | inr here ↦
      at_place (λ q. mark_at (marks_of words) q ≡ true) word p here before
      (λ i inside same. mark_in words word i inside ∙ has i inside (within.made i inside (omega (arith, above, same)) (omega (arith, below, same))))
]

pub set_all : (marks : List Bool) (first end word : ℕ) → end ≤ 64 * word → AreMarkedBelow marks first end word → all_marked marks first (end - first) ≡ true
set_all marks first end word past so =
    all_marked_from marks first (end - first) (λ k below. so (first + k) (omega arith) (omega (arith, below)) (omega (arith, below, past)))

-- if a word lacks one of them, not all are marked
pub unset_one : (words : List ℕ) (first end word bits : ℕ) → AreBitsIn word first end bits → (AreBitsOf (get_or words word 0) bits → ⊥)
    → all_marked (marks_of words) first (end - first) ≡ false
unset_one words first end word bits within lacks = by_all (all_marked (marks_of words) first (end - first)) refl
  where
    marked : all_marked (marks_of words) first (end - first) ≡ true → (p : ℕ) → first ≤ p → p < end → mark_at (marks_of words) p ≡ true
    marked all p above below =
        let same : first + (p - first) ≡ p = omega (arith, above) in
        subst (λ q. mark_at (marks_of words) q ≡ true) same
        (marked_bytes (marks_of words) first (end - first) all (p - first) (omega (arith, above, below)))

    by_all : (t : Bool) → all_marked (marks_of words) first (end - first) ≡ t → all_marked (marks_of words) first (end - first) ≡ false
    by_all false all = all
    by_all true all =
        absurd (lacks (λ i inside set.
        let at = within.only i inside set in
        sym (mark_in words word i inside) ∙ marked all (64 * word + i) at.0 at.1))

-- ---- marks that are made

-- the bytes from the first to before the end, if they lie in words before one, were marked, and no others
pub record AreMarkedTo (old new : List ℕ) (first end word : ℕ) : Type 0 where
  pub stays : (p : ℕ) → mark_at (marks_of old) p ≡ true → mark_at (marks_of new) p ≡ true
  pub made : AreMarkedBelow (marks_of new) first end word
  pub only : (p : ℕ) → mark_at (marks_of new) p ≡ true → (mark_at (marks_of old) p ≡ true) ⊎ ((first ≤ p) × (p < end))

pub marked_none : (words : List ℕ) (first end : ℕ) → AreMarkedTo words words first end (first / 64)
marked_none words first end = record {
  stays = λ p is. is;
  made = set_none (marks_of words) first end;
  only = λ p is. inl is;
}

either_left : (x y : Bool) → x ≡ true → (x || y) ≡ true
either_left true y e = refl
either_left false y e = absurd cc

either_right : (x y : Bool) → y ≡ true → (x || y) ≡ true
either_right true y e = refl
either_right false y e = e

either_one : (x y : Bool) → (x || y) ≡ true → (x ≡ true) ⊎ (y ≡ true)
either_one true y e = inl refl
either_one false y e = inr e

-- a place of the word after bits were added to it
added_here : (words : List ℕ) (word bits i : ℕ) → word < length words → i < 64
    → mark_at (marks_of (set words word (bit_or (get_or words word 0) bits))) (64 * word + i) ≡ (mark_at (marks_of words) (64 * word + i) || is_bit bits i)
added_here words word bits i within inside =
    let new = bit_or (get_or words word 0) bits in
    mark_in (set words word new) word i inside
    ∙ ap (λ w. is_bit w i) (get_or-set_same words word new 0 within)
    ∙ bit_of_either (get_or words word 0) bits i
    ∙ ap (λ t. t || is_bit bits i) (sym (mark_in words word i inside))

-- a place of another word
added_elsewhere : (words : List ℕ) (word new p : ℕ) → p / 64 ≢ word → mark_at (marks_of (set words word new)) p ≡ mark_at (marks_of words) p
added_elsewhere words word new p apart =
    mark_of (set words word new) p
    ∙ ap (λ w. is_bit w (p % 64)) (get_or-set_other words word (p / 64) new 0 apart)
    ∙ sym (mark_of words p)

-- a place of a word, or of another
of_word : (P : ℕ → Type 0) (word p : ℕ) → (p / 64 ≢ word → P p) → ((i : ℕ) → i < 64 → p ≡ 64 * word + i → P (64 * word + i)) → P p
of_word P word p other each = elim (cases_lt p (64 * word)) [
  | inl before ↦ other (λ same. omega (arith, before, same))
  | inr above ↦ elim (cases_lt p (64 * (word + 1))) [
    | inl below ↦ at_place P word p above below each
    | inr past ↦ other (λ same. omega (arith, past, same))
  ]
]

pub marked_next : (old new : List ℕ) (first end word bits : ℕ) → word < length new → AreBitsIn word first end bits → AreMarkedTo old new first end word
    → AreMarkedTo old (set new word (bit_or (get_or new word 0) bits)) first end (word + 1)
marked_next old new first end word bits inside within so = record {
  stays = λ p is. kept p (so.stays p is);
  made = λ p above below before.
      elim (cases_lt p (64 * word)) [
        | inl earlier ↦ kept p (so.made p above below earlier)
        | inr here ↦
            at_place (λ q. mark_at (marks_of after) q ≡ true) word p here before
            (λ i low same. added_here new word bits i inside low ∙ either_right (mark_at (marks_of new) (64 * word + i)) (is_bit bits i) (within.made i low (omega (arith, above, same)) (omega (arith, below, same))))
      ];
  only = λ p is.
      of_word (λ q. mark_at (marks_of after) q ≡ true → (mark_at (marks_of old) q ≡ true) ⊎ ((first ≤ q) × (q < end))) word p
      (λ apart set. so.only p (sym (added_elsewhere new word (bit_or (get_or new word 0) bits) p apart) ∙ set))
      (λ i low same set.
      elim (either_one (mark_at (marks_of new) (64 * word + i)) (is_bit bits i) (sym (added_here new word bits i inside low) ∙ set)) [
        | inl was ↦ so.only (64 * word + i) was
        | inr bit ↦ inr (within.only i low bit)
      ])
      is;
}
  where
    after : List ℕ
    after = set new word (bit_or (get_or new word 0) bits)

    kept : (p : ℕ) → mark_at (marks_of new) p ≡ true → mark_at (marks_of after) p ≡ true
    kept p =
        of_word (λ q. mark_at (marks_of new) q ≡ true → mark_at (marks_of after) q ≡ true) word p
        (λ apart is. added_elsewhere new word (bit_or (get_or new word 0) bits) p apart ∙ is)
        (λ i low same is. added_here new word bits i inside low ∙ either_left (mark_at (marks_of new) (64 * word + i)) (is_bit bits i) is)

same_if_both : (a b : Bool) → (a ≡ true → b ≡ true) → (b ≡ true → a ≡ true) → a ≡ b
same_if_both true b h g = sym (h refl)
same_if_both false true h g = g refl
same_if_both false false h g = refl

any_default : (xs : List Bool) (k : ℕ) (d e : Bool) → k < length xs → get_or xs k d ≡ get_or xs k e
any_default [] k d e h = absurd (omega arith)
any_default (x ∷ xs) zero d e h = refl
any_default (x ∷ xs) (suc k) d e h = any_default xs k d e (omega arith)

pub marked_all : (old new : List ℕ) (first end word : ℕ) → length old ≡ 8 → length new ≡ 8 → first ≤ end → end ≤ 512 → end ≤ 64 * word
    → AreMarkedTo old new first end word → marks_of new ≡ marks_after (marks_of old) first (end - first)
marked_all old new first end word old_size new_size order inside past so =
    same_lists (marks_of new) (marks_after (marks_of old) first (end - first)) size
    (λ k d below. any_default (marks_of new) k d false below ∙ each k ∙ any_default (marks_after (marks_of old) first (end - first)) k false d (omega (arith, below, size)))
  where
    size : length (marks_of new) ≡ length (marks_after (marks_of old) first (end - first))
    size = omega (arith, length-marks new, length-marks old, length-marked (marks_of old) first (end - first), old_size, new_size)

    each : (p : ℕ) → mark_at (marks_of new) p ≡ mark_at (marks_after (marks_of old) first (end - first)) p
    each p =
        same_if_both (mark_at (marks_of new) p) (mark_at (marks_after (marks_of old) first (end - first)) p)
        (λ is. elim (so.only p is) [
          | inl was ↦ mark_stays (marks_of old) first (end - first) p was
          | inr at ↦ mark_made (marks_of old) first (end - first) p (omega (arith, order, inside, length-marks old, old_size)) at.0 (omega (arith, order, at.1))
        ])
        (λ is. elim (mark_is_new (marks_of old) first (end - first) p is) [
          | inl was ↦ so.stays p was
          | inr at ↦ so.made p at.0 (omega (arith, order, at.1)) (omega (arith, order, past, at.1))
        ])

-- ---- marks that are in another list too

-- each mark in a word before one is in the second list too
abbrev pub AreKeptBelow : (first second : List ℕ) (word : ℕ) → Type 0
AreKeptBelow first second word = (p : ℕ) → p < 64 * word → mark_at (marks_of first) p ≡ true → mark_at (marks_of second) p ≡ true

pub kept_next : (first second : List ℕ) (word : ℕ) → AreBitsOf (get_or second word 0) (get_or first word 0) → AreKeptBelow first second word → AreKeptBelow first second (word + 1)
kept_next first second word has so p before = elim (cases_lt p (64 * word)) [
  | inl earlier ↦ so p earlier
  | inr here ↦
      at_place (λ q. mark_at (marks_of first) q ≡ true → mark_at (marks_of second) q ≡ true) word p here before
      (λ i inside same set. mark_in second word i inside ∙ has i inside (sym (mark_in first word i inside) ∙ set))
]

pub kept_all : (first second : List ℕ) (word : ℕ) → length first ≡ 8 → 8 ≤ word → AreKeptBelow first second word → AreMarkedIn (marks_of first) (marks_of second)
kept_all first second word size all so p set = elim (cases_lt p 512) [
  | inl inside ↦ so p (omega (arith, all, inside)) set
  | inr past ↦ let no : false ≡ true = sym (unmarked_past first p size past) ∙ set in absurd cc
]

-- if a word lacks a bit of the first's, one of its marks is not in the second
pub kept_bits : (first second : List ℕ) (word : ℕ) → AreMarkedIn (marks_of first) (marks_of second) → AreBitsOf (get_or second word 0) (get_or first word 0)
kept_bits first second word kept i inside set =
    sym (mark_in second word i inside) ∙ kept (64 * word + i) (mark_in first word i inside ∙ set)
