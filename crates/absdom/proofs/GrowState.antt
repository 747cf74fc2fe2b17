-- Larger states give larger states.
use Rattle.std.proofs.Common.{◌≡◌, ◌≢◌, ℕ, zero, suc, ◌+◌, ◌-◌, ◌*◌, ◌/◌, ◌%◌, ◌<◌, ◌≤◌, ℤ, ◌+ℤ◌, ◌≤ℤ◌, Bool, true, false, ◌==◌, if◌then◌else◌, refl, sym, ◌∙◌, subst, arith, ◌⊎◌, inl, inr, Option, Some, None, Result, Ok, Err, List, [], ◌∷◌, length, set, get_or-set_other, length-set}
use Rattle.std.proofs.lemmas.Int.{ints}
use Rattle.std.proofs.lemmas.Bool.Decides.{nat_tests}
use Rattle.bpf_parts.specs.declared.operation.Width.TheVariants.{Bits64}
use Rattle.bpf_parts.specs.declared.operation.Operand.{Operand}
use Rattle.bpf_parts.specs.declared.operation.Operand.TheVariants.{FromRegister, Immediate}
use Rattle.bpf_parts.specs.declared.memory.LoadSize.{LoadSize}
use Rattle.bpf_parts.specs.declared.memory.LoadSize.TheVariants.{LoadByte, LoadHalf, LoadWord, LoadDouble, SignedByte, SignedHalf, SignedWord}
use Rattle.bpf_insn.specs.declared.insn.Insn.TheVariants.{Alu, Negate, MoveSigned, ByteSwap, Load, Store, Jump, Goto, Wide, LoadMap, LoadAddress, Call, Exit}
use Rattle.machine.specs.declared.regions.Region.{Region}
use Rattle.machine.specs.declared.regions.Region.TheVariants.{Front, Tail, Stack}
use Rattle.bpf_parts.specs.Sizes.{size_bytes, load_bytes}
use Rattle.machine.specs.Memory.{region_size, region_place_of}
use Rattle.absdom_num.specs.declared.ranges.Range.{Range}
use Rattle.absdom_num.specs.Ranges.{IsRange, IsWithin}
use Rattle.absdom_num.specs.Tables.{whole_range, single_range, negated_range, extended_range, swapped_range}
use Rattle.absdom_num.specs.Laws.{AluGrows, NegateGrows, MoveSignedGrows, ByteSwapGrows}
use Rattle.absdom.specs.declared.cause.Cause.{Cause}
use Rattle.absdom.specs.declared.cause.Cause.TheVariants.{UnsetStack}
use Rattle.absdom.specs.declared.kinds.AbsKind.{AbsKind}
use Rattle.absdom.specs.declared.kinds.AbsKind.TheVariants.{Unset, Num, Ptr, Map}
use Rattle.absdom.specs.Offsets.{AreAmong}
use Rattle.absdom.specs.Kinds.{number_of, IsKindBelow}
use Rattle.absdom.specs.State.{StateValue, IsStateBelow, kind_in, kind_at, range_at, with_kind, IsProper, IsWhole}
use Rattle.absdom_stack.specs.Marks.{mark_at, marks_after, AreMarkedIn}
use Rattle.absdom_stack.specs.StackWords.{range_in, is_touched, is_stack_word, AreRangesWithin}
use Rattle.absdom_stack.specs.declared.spill.Spill.{Spill}
use Rattle.absdom_stack.specs.declared.spill.Spill.TheVariants.{Forgets, Keeps}
use Rattle.absdom.specs.Effect.{operand_kind, alu_kind, unary_kind, both_places, access_places, is_set, loaded_range, read_range, read_kind, load_kind, with_stored, after_write_at, after_write_to, after_store, with_result, map_kind}
use Rattle.absdom_stack.specs.StackWords.{stored_ranges}
use Rattle.absdom.specs.Laws.{ApplyGrows as StatesGrow, IsGrown, CallGrows}
use Rattle.absdom.proofs.Order.{region_from_test, kind_below-refl}
use Rattle.absdom.proofs.FitsMemory.{IsBetween, HasPlace, place_between, word_below}
use Rattle.absdom_stack.proofs.MarkSteps.{marked_bytes, all_marked_from, mark_stays, mark_made, mark_is_new}
use Rattle.absdom_stack.proofs.WordSteps.{whole_proper, within_whole, word_test, word_if, apart, not_touching, IsFilled, filled_at, touched_at, left_at, stored_each}
use Rattle.absdom.proofs.GrowAlu.{IsKindGrown, alu_grows, computed_alone_grows}

-- ---- registers

-- of two lists of one length the kinds at the register that was written, or nothing in both
below_at_place : (xs ys : List AbsKind) (r : ℕ) (k l : AbsKind) → length xs ≡ length ys → IsKindBelow k l → IsKindBelow (kind_in (set xs r k) r) (kind_in (set ys r l) r)
below_at_place [] [] r k l e h = tt
below_at_place [] (y ∷ ys) r k l e h = absurd (omega arith)
below_at_place (x ∷ xs) [] r k l e h = absurd (omega arith)
below_at_place (x ∷ xs) (y ∷ ys) zero k l e h = h
below_at_place (x ∷ xs) (y ∷ ys) (suc r) k l e h = below_at_place xs ys r k l (omega arith) h

below_by_test : (xs ys : List AbsKind) (r : ℕ) (k l : AbsKind) → length xs ≡ length ys → IsKindBelow k l → ((q : ℕ) → IsKindBelow (kind_in xs q) (kind_in ys q)) → (q : ℕ) (t : Bool) → (q == r) ≡ t → IsKindBelow (kind_in (set xs r k) q) (kind_in (set ys r l) q)
below_by_test xs ys r k l e h g q false t =
    let ne : q ≢ r = grind (arith, nat_tests) in
    rw (get_or-set_other xs r q k Unset ne, get_or-set_other ys r q l Unset ne) (g q)
below_by_test xs ys r k l e h g q true t =
    let eq : q ≡ r = grind (arith, nat_tests) in
    let P : ℕ → Type 0 = λ x. IsKindBelow (kind_in (set xs r k) x) (kind_in (set ys r l) x) in
    subst P (sym eq) (below_at_place xs ys r k l e h)

pub with_kind_grows : (a b : StateValue) (r : ℕ) (k l : AbsKind) → length a.kinds ≡ length b.kinds → IsKindBelow k l → IsStateBelow a b → IsStateBelow (with_kind a r k) (with_kind b r l)
with_kind_grows a b r k l e h below =
    record { kinds = λ q. below_by_test a.kinds b.kinds r k l e h below.kinds q (q == r) refl; marks = below.marks; ranges = below.ranges }

same_size : (a b : StateValue) → IsWhole a → IsWhole b → length a.kinds ≡ length b.kinds
same_size a b p q = p.sizes.registers ∙ sym q.sizes.registers

written_grows : (a b : StateValue) (r : ℕ) (small large : Result AbsKind Cause) → IsWhole a → IsWhole b → IsStateBelow a b → IsKindGrown small large → IsGrown (with_result a r small) (with_result b r large)
written_grows a b r small (Err cause) p q below h = tt
written_grows a b r (Err cause) (Ok l) p q below h = absurd h
written_grows a b r (Ok k) (Ok l) p q below h = with_kind_grows a b r k l (same_size a b p q) h below

-- ---- the stack

-- the places of the smaller access lie between those of the larger
pub record AreWithin (size bytes : ℕ) (large small : ℕ × ℕ) : Type 0 where
  pub first : IsBetween size bytes large.0 large.1 small.0
  pub last : IsBetween size bytes large.0 large.1 small.1

abbrev pub HasPlaces : (size bytes : ℕ) → (large small : Option (ℕ × ℕ)) → Type 0
HasPlaces size bytes None small = Unit {0}
HasPlaces size bytes (Some large) None = ⊥
HasPlaces size bytes (Some large) (Some small) = AreWithin size bytes large small

both_between : (size bytes : ℕ) (large : Option (ℕ × ℕ)) (first last : Option ℕ) → HasPlace size bytes large first → HasPlace size bytes large last → HasPlaces size bytes large (both_places first last)
both_between size bytes None first last g h = tt
both_between size bytes (Some large) None last g h = absurd g
both_between size bytes (Some large) (Some first) None g h = absurd h
both_between size bytes (Some large) (Some first) (Some last) g h = record { first = g; last = h }

places_between : (region : Region) (bytes : ℕ) (small large : ℤ × ℤ) (offset : ℤ) → small.0 ≤ℤ small.1 → AreAmong small large → HasPlaces (region_size region) bytes (access_places region bytes large offset) (access_places region bytes small offset)
places_between region bytes small large offset p h =
    both_between (region_size region) bytes (access_places region bytes large offset) (region_place_of region bytes (small.0 +ℤ offset)) (region_place_of region bytes (small.1 +ℤ offset))
    (place_between region bytes large offset small.0 (record { above = h.above; below = omega (arith, ints, h.below) }))
    (place_between region bytes large offset small.1 (record { above = omega (arith, ints, h.above); below = h.below }))

still_set : (region : Region) (xs ys : List Bool) (size bytes : ℕ) (large small : ℕ × ℕ) → ((p : ℕ) → mark_at ys p ≡ true → mark_at xs p ≡ true) → AreWithin size bytes large small → is_set region ys bytes large ≡ true → is_set region xs bytes small ≡ true
still_set Front xs ys size bytes large small m w e = refl
still_set Tail xs ys size bytes large small m w e = refl
still_set Stack xs ys size bytes large small m w e =
    all_marked_from xs small.0 (small.1 + bytes - small.0) (λ k l.
    let d : large.0 + (small.0 + k - large.0) ≡ small.0 + k = omega (arith, w.first.above) in
    let b : mark_at ys (large.0 + (small.0 + k - large.0)) ≡ true
    = marked_bytes ys large.0 (large.1 + bytes - large.0) e (small.0 + k - large.0) (omega (arith, w.first.above, w.last.below)) in
    let P : ℕ → Type 0 = λ p. mark_at xs p ≡ true in
    subst P d (m (large.0 + (small.0 + k - large.0)) b))

within-refl : (r : Range) → IsWithin r r
within-refl r = record { above = omega arith; below = omega arith }

-- only a load of eight bytes reads one whole word
whole_loaded : (size : LoadSize) → load_bytes size ≡ 8 → (r : Range) → IsRange r → IsWithin r (loaded_range size)
whole_loaded LoadByte e r h = absurd (omega (arith, e))
whole_loaded LoadHalf e r h = absurd (omega (arith, e))
whole_loaded LoadWord e r h = absurd (omega (arith, e))
whole_loaded LoadDouble e r h = within_whole r h
whole_loaded SignedByte e r h = absurd (omega (arith, e))
whole_loaded SignedHalf e r h = absurd (omega (arith, e))
whole_loaded SignedWord e r h = absurd (omega (arith, e))

-- by whether the accesses are of one place
kept_grows : (a b : StateValue) (size : LoadSize) (large small : ℕ × ℕ) → IsWhole a → IsStateBelow a b → AreWithin 512 (load_bytes size) large small → (t u : Bool) → is_stack_word (load_bytes size) large ≡ t → is_stack_word (load_bytes size) small ≡ u → IsWithin (if u then range_at a (small.0 / 8) else loaded_range size) (if t then range_at b (large.0 / 8) else loaded_range size)
kept_grows a b size large small p below w false false e f = within-refl (loaded_range size)
kept_grows a b size large small p below w false true e f =
    let is = word_test (load_bytes size) small f in
    whole_loaded size is.0 (range_at a (small.0 / 8)) (p.ranges (small.0 / 8))
kept_grows a b size large small p below w true true e f =
    let is = word_test (load_bytes size) large e in
    let one : large.0 ≡ large.1 = is.1 in
    let same : small.0 ≡ large.0 = omega (arith, w.first.above, w.first.below) in
    let P : ℕ → Type 0 = λ n. IsWithin (range_at a (n / 8)) (range_at b (large.0 / 8)) in
    subst P (sym same) (below.ranges (large.0 / 8))
kept_grows a b size large small p below w true false e f =
    let is = word_test (load_bytes size) large e in
    let eight : load_bytes size ≡ 8 = is.0 in
    let one : large.0 ≡ large.1 = is.1 in
    let even : large.0 % 8 ≡ 0 = is.2 in
    let first : small.0 ≡ 8 * (large.0 / 8) = omega (arith, w.first.above, w.first.below) in
    let two : small.0 ≡ small.1 = omega (arith, w.first.above, w.first.below, w.last.above, w.last.below) in
    let yes : is_stack_word (load_bytes size) small ≡ true = word_if (load_bytes size) small (large.0 / 8) eight two first in
    let no : true ≡ false = sym yes ∙ f in
    absurd cc

range_grows : (spill : Spill) (a b : StateValue) (size : LoadSize) (region : Region) (large small : ℕ × ℕ) → IsWhole a → IsStateBelow a b → AreWithin (region_size region) (load_bytes size) large small → IsWithin (read_range spill a size region small) (read_range spill b size region large)
range_grows Forgets a b size region large small p below w = within-refl (loaded_range size)
range_grows Keeps a b size Front large small p below w = within-refl (loaded_range size)
range_grows Keeps a b size Tail large small p below w = within-refl (loaded_range size)
range_grows Keeps a b size Stack large small p below w =
    kept_grows a b size large small p below w (is_stack_word (load_bytes size) large) (is_stack_word (load_bytes size) small) refl refl

read_by_test : (spill : Spill) (a b : StateValue) (size : LoadSize) (region : Region) (large small : ℕ × ℕ) → IsWhole a → IsStateBelow a b → AreWithin (region_size region) (load_bytes size) large small → (t : Bool) → is_set region b.marks (load_bytes size) large ≡ t → IsKindGrown (read_kind spill a size region (Some small)) (if t then Ok (Num (read_range spill b size region large)) else Err UnsetStack)
read_by_test spill a b size region large small p below w false e = tt
read_by_test spill a b size region large small p below w true e =
    let yes : is_set region a.marks (load_bytes size) small ≡ true
    = still_set region a.marks b.marks (region_size region) (load_bytes size) large small below.marks w e in
    let P : Bool → Type 0 = λ t. IsKindGrown (if t then Ok (Num (read_range spill a size region small)) else Err UnsetStack) (Ok (Num (read_range spill b size region large))) in
    subst P (sym yes) (range_grows spill a b size region large small p below w)

read_grows : (spill : Spill) (a b : StateValue) (size : LoadSize) (region : Region) (large small : Option (ℕ × ℕ)) → IsWhole a → IsStateBelow a b → HasPlaces (region_size region) (load_bytes size) large small → IsKindGrown (read_kind spill a size region small) (read_kind spill b size region large)
read_grows spill a b size region None small p below h = tt
read_grows spill a b size region (Some large) None p below h = absurd h
read_grows spill a b size region (Some large) (Some small) p below h =
    read_by_test spill a b size region large small p below h (is_set region b.marks (load_bytes size) large) refl

load_grows : (spill : Spill) (a b : StateValue) (size : LoadSize) (p q : AbsKind) (offset : ℤ) → IsWhole a → IsStateBelow a b → IsProper p → IsKindBelow p q → IsKindGrown (load_kind spill a size p offset) (load_kind spill b size q offset)
load_grows spill a b size p Unset offset whole below k h = tt
load_grows spill a b size p (Num n) offset whole below k h = tt
load_grows spill a b size p (Map i) offset whole below k h = tt
load_grows spill a b size Unset (Ptr s x) offset whole below k h = absurd h
load_grows spill a b size (Num n) (Ptr s x) offset whole below k h = absurd h
load_grows spill a b size (Map i) (Ptr s x) offset whole below k h = absurd h
load_grows spill a b size (Ptr r o) (Ptr s x) offset whole below k h =
    let P : Region → Type 0 = λ t. IsKindGrown (load_kind spill a size (Ptr r o) offset) (load_kind spill b size (Ptr t x) offset) in
    subst P (region_from_test r s h.0)
    (read_grows spill a b size r (access_places r (load_bytes size) x offset) (access_places r (load_bytes size) o offset) whole below (places_between r (load_bytes size) o x offset k h.1))

-- ---- stores

-- by whether the accesses have one place
marks_by_tests : (xs ys : List Bool) (bytes : ℕ) (large small : ℕ × ℕ) → length xs ≡ 512 → AreMarkedIn ys xs → AreWithin 512 bytes large small → (t u : Bool) → (large.0 == large.1) ≡ t → (small.0 == small.1) ≡ u → AreMarkedIn (if t then marks_after ys large.0 bytes else ys) (if u then marks_after xs small.0 bytes else xs)
marks_by_tests xs ys bytes large small size m w false false e f = m
marks_by_tests xs ys bytes large small size m w false true e f = λ p h. mark_stays xs small.0 bytes p (m p h)
marks_by_tests xs ys bytes large small size m w true false e f =
    let one : large.0 ≡ large.1 = grind (arith, nat_tests) in
    let two : small.0 ≡ small.1 = omega (arith, w.first.above, w.first.below, w.last.above, w.last.below) in
    let no : small.0 ≢ small.1 = grind (arith, nat_tests) in
    absurd (no two)
marks_by_tests xs ys bytes large small size m w true true e f =
    let one : large.0 ≡ large.1 = grind (arith, nat_tests) in
    let same : small.0 ≡ large.0 = omega (arith, w.first.above, w.first.below) in
    λ p h.
    elim (mark_is_new ys large.0 bytes p h) [
      | inl old ↦ mark_stays xs small.0 bytes p (m p old)
      | inr new ↦ mark_made xs small.0 bytes p (omega (arith, w.first.room)) (omega (arith, new.0)) (omega (arith, new.1))
    ]

-- of two lists of one length the ranges at the place that was written, or whole in both
within_at_place : (xs ys : List Range) (k : ℕ) (v w : Range) → length xs ≡ length ys → IsWithin v w → IsWithin (range_in (set xs k v) k) (range_in (set ys k w) k)
within_at_place [] [] k v w e h = within-refl (whole_range Bits64)
within_at_place [] (y ∷ ys) k v w e h = absurd (omega arith)
within_at_place (x ∷ xs) [] k v w e h = absurd (omega arith)
within_at_place (x ∷ xs) (y ∷ ys) zero v w e h = h
within_at_place (x ∷ xs) (y ∷ ys) (suc k) v w e h = within_at_place xs ys k v w (omega arith) h

-- a place that the larger access does not touch the smaller does not touch
touched_less : (bytes : ℕ) (large small : ℕ × ℕ) (k : ℕ) → AreWithin 512 bytes large small → is_touched k large.0 (large.1 + bytes - 1) ≡ false → is_touched k small.0 (small.1 + bytes - 1) ≡ false
touched_less bytes large small k w e =
    let away : (large.1 + bytes - 1 < 8 * k) ⊎ (8 * k + 7 < large.0) = apart k large.0 (large.1 + bytes - 1) e in
    let low : large.0 ≤ small.0 = w.first.above in
    let high : small.1 ≤ large.1 = w.last.below in
    not_touching k small.0 (small.1 + bytes - 1) (elim away [ inl h ↦ inl (omega arith) | inr h ↦ inr (omega arith) ])

-- a place that the larger access fills the smaller fills
filled_less : (spill : Spill) (bytes : ℕ) (large small : ℕ × ℕ) (k : ℕ) → AreWithin 512 bytes large small → IsFilled spill bytes large k → IsFilled spill bytes small k
filled_less spill bytes large small k w h =
    let one : large.0 ≡ large.1 = h.one in
    let first : large.0 ≡ 8 * k = h.first in
    record {
      keeps = h.keeps;
      eight = h.eight;
      one = omega (arith, w.first.above, w.first.below, w.last.above, w.last.below);
      first = omega (arith, w.first.above, w.first.below);
    }

ranges_grow : (spill : Spill) (a b : StateValue) (bytes : ℕ) (large small : ℕ × ℕ) (v w : Range) → IsWhole a → IsWhole b → IsStateBelow a b → IsRange v → IsWithin v w → AreWithin 512 bytes large small → AreRangesWithin (stored_ranges spill a.ranges bytes small v) (stored_ranges spill b.ranges bytes large w)
ranges_grow spill a b bytes large small v w p q below proper h inside k = by_test (is_touched k large.0 (large.1 + bytes - 1)) refl
  where
    new : Range
    new = range_in (stored_ranges spill a.ranges bytes small v) k

    sizes : length a.ranges ≡ length b.ranges
    sizes = p.sizes.words ∙ sym q.sizes.words

    by_test : (t : Bool) → is_touched k large.0 (large.1 + bytes - 1) ≡ t → IsWithin new (range_in (stored_ranges spill b.ranges bytes large w) k)
    by_test false t =
        rw (left_at spill a.ranges bytes small v k (touched_less bytes large small k inside t), left_at spill b.ranges bytes large w k t) (below.ranges k)
    by_test true t =
        elim (touched_at spill b.ranges bytes large w k t) [
          | inl fill ↦
              rw (filled_at spill a.ranges bytes small v k (filled_less spill bytes large small k inside fill), filled_at spill b.ranges bytes large w k fill)
              (within_at_place a.ranges b.ranges k v w sizes h)
          | inr whole ↦
              let P : Range → Type 0 = λ r. IsWithin new r in
              subst P (sym whole) (within_whole new (stored_each IsRange spill a.ranges bytes small v proper whole_proper p.ranges k))
        ]

wrote_grows : (spill : Spill) (a b : StateValue) (bytes : ℕ) (large small : ℕ × ℕ) (v w : Range) → IsWhole a → IsWhole b → IsStateBelow a b → IsRange v → IsWithin v w → AreWithin 512 bytes large small → IsStateBelow (with_stored spill a bytes small v) (with_stored spill b bytes large w)
wrote_grows spill a b bytes large small v w p q below proper h inside =
    record {
      kinds = below.kinds;
      marks = marks_by_tests a.marks b.marks bytes large small p.sizes.bytes below.marks inside (large.0 == large.1) (small.0 == small.1) refl refl;
      ranges = ranges_grow spill a b bytes large small v w p q below proper h inside;
    }

wrote_at_grows : (spill : Spill) (a b : StateValue) (bytes : ℕ) (large small : Option (ℕ × ℕ)) (v w : Range) → IsWhole a → IsWhole b → IsStateBelow a b → IsRange v → IsWithin v w → HasPlaces 512 bytes large small → IsGrown (after_write_at spill a bytes small v) (after_write_at spill b bytes large w)
wrote_at_grows spill a b bytes None small v w p q below proper h inside = tt
wrote_at_grows spill a b bytes (Some large) None v w p q below proper h inside = absurd inside
wrote_at_grows spill a b bytes (Some large) (Some small) v w p q below proper h inside =
    wrote_grows spill a b bytes large small v w p q below proper h inside

store_grows : (spill : Spill) (a b : StateValue) (bytes : ℕ) (p q p' q' : AbsKind) (offset : ℤ) → IsWhole a → IsWhole b → IsStateBelow a b → IsProper p → IsProper q → IsKindBelow p p' → IsKindBelow q q' → IsGrown (after_store spill a bytes p offset (number_of q)) (after_store spill b bytes p' offset (number_of q'))
store_grows spill a b bytes p q Unset q' offset x y below k l g h = tt
store_grows spill a b bytes p q (Num n) q' offset x y below k l g h = tt
store_grows spill a b bytes p q (Map i) q' offset x y below k l g h = tt
store_grows spill a b bytes p q (Ptr s z) Unset offset x y below k l g h = tt
store_grows spill a b bytes p q (Ptr s z) (Ptr t o) offset x y below k l g h = tt
store_grows spill a b bytes p q (Ptr s z) (Map i) offset x y below k l g h = tt
store_grows spill a b bytes p q (Ptr Front z) (Num n) offset x y below k l g h = tt
store_grows spill a b bytes p q (Ptr Tail z) (Num n) offset x y below k l g h = tt
store_grows spill a b bytes Unset q (Ptr Stack z) (Num n) offset x y below k l g h = absurd g
store_grows spill a b bytes (Num m) q (Ptr Stack z) (Num n) offset x y below k l g h = absurd g
store_grows spill a b bytes (Map i) q (Ptr Stack z) (Num n) offset x y below k l g h = absurd g
store_grows spill a b bytes (Ptr r o) Unset (Ptr Stack z) (Num n) offset x y below k l g h = absurd h
store_grows spill a b bytes (Ptr r o) (Ptr t u) (Ptr Stack z) (Num n) offset x y below k l g h = absurd h
store_grows spill a b bytes (Ptr r o) (Map i) (Ptr Stack z) (Num n) offset x y below k l g h = absurd h
store_grows spill a b bytes (Ptr r o) (Num m) (Ptr Stack z) (Num n) offset x y below k l g h =
    let same : Stack ≡ r = sym (region_from_test r Stack g.0) in
    let P : Region → Type 0 = λ t. IsGrown (after_write_to spill a bytes t o offset m) (after_write_at spill b bytes (access_places Stack bytes z offset) n) in
    subst P same
    (wrote_at_grows spill a b bytes (access_places Stack bytes z offset) (access_places Stack bytes o offset) m n x y below l h (places_between Stack bytes o z offset k g.1))

-- ---- instructions

operand_below : (a b : StateValue) (src : Operand) → IsStateBelow a b → IsKindBelow (operand_kind a src) (operand_kind b src)
operand_below a b (FromRegister r) below = below.kinds r
operand_below a b (Immediate z) below = kind_below-refl (operand_kind a (Immediate z))

pub operand_proper : (a : StateValue) (src : Operand) → IsWhole a → IsProper (operand_kind a src)
operand_proper a (FromRegister r) p = p.kinds r
operand_proper a (Immediate z) p = record { in_order = omega arith; words = word_below z }

pub apply_grows : AluGrows → NegateGrows → MoveSignedGrows → ByteSwapGrows → StatesGrow
apply_grows af nf mf bf spill a b (Alu op width dst src) p q below =
    written_grows a b dst (alu_kind op width (kind_at a dst) (operand_kind a src)) (alu_kind op width (kind_at b dst) (operand_kind b src)) p q below
    (alu_grows af op width (kind_at a dst) (operand_kind a src) (kind_at b dst) (operand_kind b src) (p.kinds dst) (operand_proper a src p) (below.kinds dst) (operand_below a b src below))
apply_grows af nf mf bf spill a b (Negate width dst) p q below =
    written_grows a b dst (unary_kind (negated_range width) (number_of (kind_at a dst))) (unary_kind (negated_range width) (number_of (kind_at b dst))) p q below
    (computed_alone_grows (negated_range width) (nf width) (kind_at a dst) (kind_at b dst) (p.kinds dst) (below.kinds dst))
apply_grows af nf mf bf spill a b (MoveSigned extension dst src) p q below =
    written_grows a b dst (unary_kind (extended_range extension) (number_of (kind_at a src))) (unary_kind (extended_range extension) (number_of (kind_at b src))) p q below
    (computed_alone_grows (extended_range extension) (mf extension) (kind_at a src) (kind_at b src) (p.kinds src) (below.kinds src))
apply_grows af nf mf bf spill a b (ByteSwap swap bits dst) p q below =
    written_grows a b dst (unary_kind (swapped_range swap bits) (number_of (kind_at a dst))) (unary_kind (swapped_range swap bits) (number_of (kind_at b dst))) p q below
    (computed_alone_grows (swapped_range swap bits) (bf swap bits) (kind_at a dst) (kind_at b dst) (p.kinds dst) (below.kinds dst))
apply_grows af nf mf bf spill a b (Load size dst place) p q below =
    written_grows a b dst (load_kind spill a size (kind_at a place.base) place.offset) (load_kind spill b size (kind_at b place.base) place.offset) p q below
    (load_grows spill a b size (kind_at a place.base) (kind_at b place.base) place.offset p below (p.kinds place.base) (below.kinds place.base))
apply_grows af nf mf bf spill a b (Store size place src) p q below =
    store_grows spill a b (size_bytes size) (kind_at a place.base) (operand_kind a src) (kind_at b place.base) (operand_kind b src) place.offset p q below (p.kinds place.base) (operand_proper a src p) (below.kinds place.base) (operand_below a b src below)
apply_grows af nf mf bf spill a b (Jump comparison offset) p q below = below
apply_grows af nf mf bf spill a b (Goto distance) p q below = below
apply_grows af nf mf bf spill a b (Wide dst value) p q below =
    with_kind_grows a b dst (Num (single_range value)) (Num (single_range value)) (same_size a b p q) (kind_below-refl (Num (single_range value))) below
apply_grows af nf mf bf spill a b (LoadMap dst index) p q below =
    with_kind_grows a b dst (map_kind index) (map_kind index) (same_size a b p q) (kind_below-refl (map_kind index)) below
apply_grows af nf mf bf spill a b (LoadAddress dst address) p q below = below
apply_grows af nf mf bf spill a b (Call callee number) p q below = below
apply_grows af nf mf bf spill a b Exit p q below = below

-- ---- a helper's call

pub call_grows : CallGrows
call_grows a b p q below =
    let e = same_size a b p q in
    let lengths : (f g : List AbsKind) (r : ℕ) (k : AbsKind) → length f ≡ length g → length (set f r k) ≡ length (set g r k)
    = λ f g r k same. length-set f r k ∙ same ∙ sym (length-set g r k)
    in
    let whole_kind = Num (whole_range Bits64) in
    let a0 = with_kind a 0 whole_kind in
    let b0 = with_kind b 0 whole_kind in
    let e0 = lengths a.kinds b.kinds 0 whole_kind e in
    let h0 = with_kind_grows a b 0 whole_kind whole_kind e (kind_below-refl whole_kind) below in
    let a1 = with_kind a0 1 Unset in
    let b1 = with_kind b0 1 Unset in
    let e1 = lengths a0.kinds b0.kinds 1 Unset e0 in
    let h1 = with_kind_grows a0 b0 1 Unset Unset e0 tt h0 in
    let a2 = with_kind a1 2 Unset in
    let b2 = with_kind b1 2 Unset in
    let e2 = lengths a1.kinds b1.kinds 2 Unset e1 in
    let h2 = with_kind_grows a1 b1 2 Unset Unset e1 tt h1 in
    let a3 = with_kind a2 3 Unset in
    let b3 = with_kind b2 3 Unset in
    let e3 = lengths a2.kinds b2.kinds 3 Unset e2 in
    let h3 = with_kind_grows a2 b2 3 Unset Unset e2 tt h2 in
    let a4 = with_kind a3 4 Unset in
    let b4 = with_kind b3 4 Unset in
    let e4 = lengths a3.kinds b3.kinds 4 Unset e3 in
    let h4 = with_kind_grows a3 b3 4 Unset Unset e3 tt h3 in
    with_kind_grows a4 b4 5 Unset Unset e4 tt h4
