-- After an instruction that is not refused the machine is in a state that fits what is known.
use Rattle.std.proofs.Common.{◌≡◌, ◌≢◌, ℕ, zero, suc, ◌+◌, ◌-◌, ◌*◌, ◌/◌, ◌%◌, ◌^◌, ◌<◌, ◌≤◌, ℤ, pos, negsuc, ◌+ℤ◌, Bool, true, false, ◌&&◌, ◌==◌, nat_lt, nat_le, if◌then◌else◌, refl, sym, ◌∙◌, ap, subst, arith, ◌⊎◌, inl, inr, Option, Some, None, Result, Ok, Err, List, [], ◌∷◌, set, get_or-set_other}
use Rattle.std.proofs.lemmas.Bool.{le-leb}
use Rattle.std.proofs.lemmas.Bool.Decides.{nat_tests}
use Rattle.bpf_parts.specs.declared.operation.Operand.{Operand}
use Rattle.bpf_parts.specs.declared.operation.Operand.TheVariants.{FromRegister, Immediate}
use Rattle.bpf_parts.specs.declared.memory.Size.{Size}
use Rattle.bpf_insn.specs.declared.insn.Insn.TheVariants.{Alu, Negate, MoveSigned, ByteSwap, Load, Store, Jump, Goto, Wide, LoadMap, LoadAddress, Call, Exit}
use Rattle.machine.specs.declared.regions.Region.{Region}
use Rattle.machine.specs.declared.regions.Region.TheVariants.{Front, Tail, Stack}
use Rattle.machine.specs.declared.values.Value.{Value}
use Rattle.machine.specs.declared.values.Value.TheVariants.{Unset as Nothing, Num as Number, Ptr as Pointer, Map as MapOf}
use Rattle.machine.specs.Words.{negation, sign_extension, swapped_bytes}
use Rattle.bpf_parts.specs.Sizes.{size_bytes}
use Rattle.machine.specs.Memory.{region_place_of, byte_after, little_endian}
use Rattle.machine.specs.Laws.{BytesAreRead, SameBytes}
use Rattle.machine.specs.State.{State, state, register_after}
use Rattle.machine.specs.Step.{Next, Trap, operand, alu, number_result, loads, writes, puts, stores, map_at}
use Rattle.bpf_parts.specs.declared.operation.Width.TheVariants.{Bits64}
use Rattle.absdom_num.specs.declared.ranges.Range.{Range}
use Rattle.absdom_num.specs.Ranges.{IsIn}
use Rattle.absdom_num.specs.Tables.{whole_range, single_range, negated_range, extended_range, swapped_range}
use Rattle.absdom_num.specs.Laws.{AluFits, NegateFits, MoveSignedFits, ByteSwapFits}
use Rattle.absdom.specs.declared.cause.Cause.{Cause}
use Rattle.absdom.specs.declared.kinds.AbsKind.{AbsKind}
use Rattle.absdom.specs.declared.kinds.AbsKind.TheVariants.{Unset, Num, Ptr, Map}
use Rattle.absdom.specs.Kinds.{number_of}
use Rattle.absdom.specs.State.{StateValue, kind_in, kind_at, range_at, with_kind}
use Rattle.absdom_stack.specs.Marks.{mark_at, all_marked, marks_after}
use Rattle.absdom_stack.specs.StackWords.{range_in, is_touched}
use Rattle.absdom_stack.specs.declared.spill.Spill.{Spill}
use Rattle.absdom.specs.Effect.{operand_kind, alu_kind, unary_kind, load_kind, access_places, with_stored, after_write_at, after_store, with_result, map_kind}
use Rattle.absdom_stack.specs.StackWords.{stored_ranges}
use Rattle.absdom_stack.specs.Marks.{stored_marks}
use Rattle.absdom.specs.Fits.{FitsKind, IsByte, IsReadIn, Fits, GoesOnFitting, IsStateSound, IsIndex}
use Rattle.absdom.specs.Laws.{ApplyFits}
use Rattle.absdom.proofs.FitsAlu.{FitsResult, alu_fits, computed_alone_fits}
use Rattle.absdom.proofs.FitsMemory.{IsBetween, HasPlace, place_between, IsNumber, little_fits, word_below, load_fits}
use Rattle.absdom_stack.proofs.MarkSteps.{marked_bytes, all_marked_from, mark_is_new}
use Rattle.absdom_stack.proofs.WordSteps.{set_at, apart, IsFilled, filled_at, touched_at, left_at}

-- ---- registers

-- the kind at a register that was written, or nothing if there is no such register
pub at_place : (kinds : List AbsKind) (r : ℕ) (v : Value) (k : AbsKind) → FitsKind v k → FitsKind v (kind_in (set kinds r k) r)
at_place [] r v k f = tt
at_place (x ∷ kinds) zero v k f = f
at_place (x ∷ kinds) (suc r) v k f = at_place kinds r v k f

-- the kind at a register after that one or another was written
kind_after_by_place : (regs : ℕ → Value) (kinds : List AbsKind) (r : ℕ) (v : Value) (k : AbsKind) → FitsKind v k → ((q : ℕ) → FitsKind (regs q) (kind_in kinds q)) → (q : ℕ) (t : Bool) → (q == r) ≡ t → FitsKind (if t then v else regs q) (kind_in (set kinds r k) q)
kind_after_by_place regs kinds r v k f g q false e =
    let ne : q ≢ r = grind (arith, nat_tests) in rw (get_or-set_other kinds r q k Unset ne) (g q)
kind_after_by_place regs kinds r v k f g q true e =
    let eq : q ≡ r = grind (arith, nat_tests) in
    let P : ℕ → Type 0 = λ x. FitsKind v (kind_in (set kinds r k) x) in
    subst P (sym eq) (at_place kinds r v k f)

pub fits_after : (s : State) (a : StateValue) (next r : ℕ) (v : Value) (k : AbsKind) → FitsKind v k → Fits s a → Fits (state next (register_after s.registers r v) s.stack) (with_kind a r k)
fits_after s a next r v k f fits =
    record {
      registers = λ q. kind_after_by_place s.registers a.kinds r v k f fits.registers q (q == r) refl;
      bytes = fits.bytes;
      words = fits.words;
    }

-- a register that may be written is
written_by_test : (s : State) (a : StateValue) (next r : ℕ) (v : Value) (k : AbsKind) → r ≢ 10 → FitsKind v k → Fits s a → (t : Bool) → (r == 10) ≡ t → GoesOnFitting (if t then Trap else Next (state next (register_after s.registers r v) s.stack)) next (with_kind a r k)
written_by_test s a next r v k ne f fits true e = let eq : r ≡ 10 = grind (arith, nat_tests) in absurd (ne eq)
written_by_test s a next r v k ne f fits false e = (refl, fits_after s a next r v k f fits)

pub writes_sound : (s : State) (a : StateValue) (next r : ℕ) (value : Option Value) (result : Result AbsKind Cause) → r ≢ 10 → Fits s a → FitsResult value result → IsStateSound (writes s next r value) next (with_result a r result)
writes_sound s a next r value (Err cause) ne fits f = tt
writes_sound s a next r None (Ok k) ne fits f = absurd f
writes_sound s a next r (Some v) (Ok k) ne fits f = written_by_test s a next r v k ne f fits (r == 10) refl

-- ---- the stack

-- a byte that is set stays set if others are written
byte_stays : (stack : ℕ → Option ℕ) (bytes start n place : ℕ) → IsByte (stack place) → IsByte (byte_after stack bytes start n place)
byte_stays stack bytes start n place h =
    elim (nat_le start place && nat_lt place (start + bytes)) as (λ t. IsByte (if t then Some (n / 256 ^ (place - start) % 256) else stack place)) [
      | true ↦ omega arith
      | false ↦ h
    ]

-- a byte that is written is set
byte_written : (stack : ℕ → Option ℕ) (bytes start n place : ℕ) → start ≤ place → place < start + bytes → IsByte (byte_after stack bytes start n place)
byte_written stack bytes start n place g h =
    let e : nat_le start place ≡ true = le-leb start place g in
    let f : nat_lt place (start + bytes) ≡ true = le-leb (suc place) (start + bytes) (omega arith) in
    rw (e, f) (omega arith)

-- the bytes that are marked after a store at a place between the two that are known
stored_set : (s : State) (a : StateValue) (bytes first last place n : ℕ) → IsBetween 512 bytes first last place → Fits s a → (p : ℕ) → mark_at (stored_marks a.marks bytes (first, last)) p ≡ true → IsByte (byte_after s.stack bytes place n p)
stored_set s a bytes first last place n between fits p = by_test (first == last) refl
  where
    by_test : (t : Bool) → (first == last) ≡ t → mark_at (if t then marks_after a.marks first bytes else a.marks) p ≡ true → IsByte (byte_after s.stack bytes place n p)
    by_test false e m = byte_stays s.stack bytes place n p (fits.bytes p m)
    by_test true e m =
        let one : first ≡ last = grind (arith, nat_tests) in
        let d : place ≡ first = omega (arith, between.above, between.below) in
        elim (mark_is_new a.marks first bytes p m) [
          | inl old ↦ byte_stays s.stack bytes place n p (fits.bytes p old)
          | inr new ↦ byte_written s.stack bytes place n p (omega (arith, new.0)) (omega (arith, new.1))
        ]

-- a mark outside the bytes that were written is an old one
old_mark : (marks : List Bool) (bytes : ℕ) (firsts : ℕ × ℕ) (p : ℕ) → (firsts.1 + bytes - 1 < p) ⊎ (p < firsts.0) → mark_at (stored_marks marks bytes firsts) p ≡ true → mark_at marks p ≡ true
old_mark marks bytes firsts p out = by_test (firsts.0 == firsts.1) refl
  where
    by_test : (t : Bool) → (firsts.0 == firsts.1) ≡ t → mark_at (if t then marks_after marks firsts.0 bytes else marks) p ≡ true → mark_at marks p ≡ true
    by_test false e m = m
    by_test true e m =
        let one : firsts.0 ≡ firsts.1 = grind (arith, nat_tests) in
        elim (mark_is_new marks firsts.0 bytes p m) [
          | inl old ↦ old
          | inr new ↦
              let above : firsts.0 ≤ p = new.0 in
              let below : p < firsts.0 + bytes = new.1 in
              elim out [ inl h ↦ absurd (omega arith) | inr h ↦ absurd (omega arith) ]
        ]

-- a byte outside those that were written is as before
byte_kept : (stack : ℕ → Option ℕ) (bytes start n p : ℕ) → (start + bytes ≤ p) ⊎ (p < start) → byte_after stack bytes start n p ≡ stack p
byte_kept stack bytes start n p out =
    let e : (nat_le start p && nat_lt p (start + bytes)) ≡ false = grind (arith, nat_tests) in
    ap (λ t. if t then Some (n / 256 ^ (p - start) % 256) else stack p) e

-- a place that was not touched holds the number that it held
kept_number : SameBytes → (s : State) (a : StateValue) (bytes first last place n k : ℕ) → IsBetween 512 bytes first last place → Fits s a → is_touched k first (last + bytes - 1) ≡ false → all_marked (stored_marks a.marks bytes (first, last)) (8 * k) 8 ≡ true → IsReadIn (little_endian (byte_after s.stack bytes place n) 8 (8 * k)) (range_at a k)
kept_number own s a bytes first last place n k between fits t m =
    let above : first ≤ place = between.above in
    let below : place ≤ last = between.below in
    let away : (last + bytes - 1 < 8 * k) ⊎ (8 * k + 7 < first) = apart k first (last + bytes - 1) t in
    let old : all_marked a.marks (8 * k) 8 ≡ true =
    all_marked_from a.marks (8 * k) 8 (λ i l.
    old_mark a.marks bytes (first, last) (8 * k + i) (elim away [ inl h ↦ inl (omega arith) | inr h ↦ inr (omega arith) ])
    (marked_bytes (stored_marks a.marks bytes (first, last)) (8 * k) 8 m i l))
    in
    let same : little_endian (byte_after s.stack bytes place n) 8 (8 * k) ≡ little_endian s.stack 8 (8 * k) =
    own (byte_after s.stack bytes place n) s.stack 8 (8 * k)
    (λ i l. byte_kept s.stack bytes place n (8 * k + i) (elim away [ inl h ↦ inl (omega arith) | inr h ↦ inr (omega arith) ]))
    in
    let P : Option ℕ → Type 0 = λ o. IsReadIn o (range_at a k) in
    subst P (sym same) (fits.words k old)

-- eight bytes that are set are a word
some_word : (o : Option ℕ) → IsNumber (256 ^ 8) o → IsReadIn o (whole_range Bits64)
some_word None h = absurd h
some_word (Some n) h = record { above = omega arith; below = omega (arith, h); word = omega (arith, h) }

any_number : (stack : ℕ → Option ℕ) (marks : List Bool) (k : ℕ) → ((p : ℕ) → mark_at marks p ≡ true → IsByte (stack p)) → all_marked marks (8 * k) 8 ≡ true → IsReadIn (little_endian stack 8 (8 * k)) (whole_range Bits64)
any_number stack marks k set m =
    some_word (little_endian stack 8 (8 * k))
    (little_fits stack 8 (8 * k) (λ i l. set (8 * k + i) (marked_bytes marks (8 * k) 8 m i l)))

-- the place that was filled holds the number
filled_number : BytesAreRead → (stack : ℕ → Option ℕ) (ranges : List Range) (value : Range) (n k : ℕ) → IsIn n value → IsReadIn (little_endian (byte_after stack 8 (8 * k) n) 8 (8 * k)) (range_in (set ranges k value) k)
filled_number read stack ranges value n k h =
    let word : n < 2 ^ 64 = h.word in
    let e : n % 256 ^ 8 ≡ n = omega arith in
    let is : little_endian (byte_after stack 8 (8 * k) n) 8 (8 * k) ≡ Some n = read stack 8 (8 * k) n ∙ ap (λ m. Some m) e in
    let P : Option ℕ → Type 0 = λ o. IsReadIn o (range_in (set ranges k value) k) in
    subst P (sym is)
    (set_at (λ r. IsIn n r) ranges k value h (record { above = omega arith; below = omega arith; word = word }))

-- the numbers in the places after a store
stored_numbers : BytesAreRead → SameBytes → (spill : Spill) (s : State) (a : StateValue) (bytes first last place n : ℕ) (value : Range) → IsIn n value → IsBetween 512 bytes first last place → Fits s a → (k : ℕ) → all_marked (stored_marks a.marks bytes (first, last)) (8 * k) 8 ≡ true → IsReadIn (little_endian (byte_after s.stack bytes place n) 8 (8 * k)) (range_in (stored_ranges spill a.ranges bytes (first, last) value) k)
stored_numbers read own spill s a bytes first last place n value inside between fits k m =
    by_test (is_touched k first (last + bytes - 1)) refl
  where
    Reads : Range → Type 0
    Reads r = IsReadIn (little_endian (byte_after s.stack bytes place n) 8 (8 * k)) r

    by_test : (t : Bool) → is_touched k first (last + bytes - 1) ≡ t → Reads (range_in (stored_ranges spill a.ranges bytes (first, last) value) k)
    by_test false t =
        subst Reads (sym (left_at spill a.ranges bytes (first, last) value k t)) (kept_number own s a bytes first last place n k between fits t m)
    by_test true t =
        elim (touched_at spill a.ranges bytes (first, last) value k t) [
          | inl fill ↦ filled fill
          | inr whole ↦
              subst Reads (sym whole)
              (any_number (byte_after s.stack bytes place n) (stored_marks a.marks bytes (first, last)) k (stored_set s a bytes first last place n between fits) m)
        ]
      where
        filled : IsFilled spill bytes (first, last) k → Reads (range_in (stored_ranges spill a.ranges bytes (first, last) value) k)
        filled h =
            let eight : bytes ≡ 8 = h.eight in
            let one : first ≡ last = h.one in
            let start : first ≡ 8 * k = h.first in
            let there : place ≡ 8 * k = omega (arith, between.above, between.below) in
            let P : ℕ → ℕ → Type 0 = λ b p. IsReadIn (little_endian (byte_after s.stack b p n) 8 (8 * k)) (range_in (set a.ranges k value) k) in
            let at : P bytes place = subst (λ b. P b place) (sym eight) (subst (λ p. P 8 p) (sym there) (filled_number read s.stack a.ranges value n k inside)) in
            subst (λ (ranges : List Range). Reads (range_in ranges k)) (sym (filled_at spill a.ranges bytes (first, last) value k h)) at

-- after a store at a place between the two that are known
wrote_fits : BytesAreRead → SameBytes → (spill : Spill) (s : State) (a : StateValue) (bytes first last place n : ℕ) (value : Range) → IsIn n value → IsBetween 512 bytes first last place → Fits s a → Fits (state (s.slot + 1) s.registers (byte_after s.stack bytes place n)) (with_stored spill a bytes (first, last) value)
wrote_fits read own spill s a bytes first last place n value inside between fits =
    record {
      registers = fits.registers;
      bytes = stored_set s a bytes first last place n between fits;
      words = stored_numbers read own spill s a bytes first last place n value inside between fits;
    }

puts_sound : BytesAreRead → SameBytes → (spill : Spill) (s : State) (a : StateValue) (bytes : ℕ) (places : Option (ℕ × ℕ)) (place : Option ℕ) (n : ℕ) (value : Range) → IsIn n value → HasPlace 512 bytes places place → Fits s a → IsStateSound (puts s bytes place (Number n)) (s.slot + 1) (after_write_at spill a bytes places value)
puts_sound read own spill s a bytes None place n value inside h fits = tt
puts_sound read own spill s a bytes (Some places) None n value inside h fits = absurd h
puts_sound read own spill s a bytes (Some places) (Some place) n value inside h fits =
    (refl, wrote_fits read own spill s a bytes places.0 places.1 place n value inside h fits)

-- a store of a number through a pointer
pub store_fits : BytesAreRead → SameBytes → (spill : Spill) (s : State) (a : StateValue) (size : Size) (u v : Value) (p q : AbsKind) (offset : ℤ) → FitsKind u p → FitsKind v q → Fits s a → IsStateSound (stores s size u offset v) (s.slot + 1) (after_store spill a (size_bytes size) p offset (number_of q))
store_fits read own spill s a size u v Unset q offset g h fits = tt
store_fits read own spill s a size u v (Num b) q offset g h fits = tt
store_fits read own spill s a size u v (Map i) q offset g h fits = tt
store_fits read own spill s a size u v (Ptr t o) Unset offset g h fits = tt
store_fits read own spill s a size u v (Ptr t o) (Ptr t' o') offset g h fits = tt
store_fits read own spill s a size u v (Ptr t o) (Map i) offset g h fits = tt
store_fits read own spill s a size u v (Ptr Front o) (Num b) offset g h fits = tt
store_fits read own spill s a size u v (Ptr Tail o) (Num b) offset g h fits = tt
store_fits read own spill s a size Nothing v (Ptr Stack o) (Num b) offset g h fits = absurd g
store_fits read own spill s a size (Number n) v (Ptr Stack o) (Num b) offset g h fits = absurd g
store_fits read own spill s a size (MapOf i) v (Ptr Stack o) (Num b) offset g h fits = absurd g
store_fits read own spill s a size (Pointer r z) Nothing (Ptr Stack o) (Num b) offset g h fits = absurd h
store_fits read own spill s a size (Pointer r z) (Pointer r' z') (Ptr Stack o) (Num b) offset g h fits = absurd h
store_fits read own spill s a size (Pointer r z) (MapOf i) (Ptr Stack o) (Num b) offset g h fits = absurd h
store_fits read own spill s a size (Pointer r z) (Number n) (Ptr Stack o) (Num b) offset g h fits =
    let P : Region → Type 0 = λ x. IsStateSound (stores s size (Pointer x z) offset (Number n)) (s.slot + 1) (after_write_at spill a (size_bytes size) (access_places Stack (size_bytes size) o offset) b) in
    subst P (sym g.0)
    (puts_sound read own spill s a (size_bytes size) (access_places Stack (size_bytes size) o offset) (region_place_of Stack (size_bytes size) (z +ℤ offset)) n b h (place_between Stack (size_bytes size) o offset z g.1) fits)

-- ---- instructions

pub operand_fits : (s : State) (a : StateValue) (src : Operand) → Fits s a → FitsKind (operand s src) (operand_kind a src)
operand_fits s a (FromRegister r) fits = fits.registers r
operand_fits s a (Immediate z) fits = record { above = omega arith; below = omega arith; word = word_below z }

-- a map of an index that is not negative
map_fits : (index : ℤ) → IsIndex index → FitsResult (map_at index) (Ok (map_kind index))
map_fits (pos i) h =
    elim (nat_lt i 256) as (λ t. FitsKind (MapOf i) (if t then Map i else Unset)) [ true ↦ refl | false ↦ tt ]
map_fits (negsuc n) h = absurd h

pub apply_fits : BytesAreRead → SameBytes → AluFits → NegateFits → MoveSignedFits → ByteSwapFits → ApplyFits
apply_fits read own af nf mf bf spill header s a (Alu op width dst src) known straight fits =
    writes_sound s a (s.slot + 1) dst (alu op width (s.registers dst) (operand s src)) (alu_kind op width (kind_at a dst) (operand_kind a src)) straight fits
    (alu_fits af op width (s.registers dst) (operand s src) (kind_at a dst) (operand_kind a src) (fits.registers dst) (operand_fits s a src fits))
apply_fits read own af nf mf bf spill header s a (Negate width dst) known straight fits =
    writes_sound s a (s.slot + 1) dst (number_result (negation width) (s.registers dst)) (unary_kind (negated_range width) (number_of (kind_at a dst))) straight fits
    (computed_alone_fits (negation width) (negated_range width) (nf width) (s.registers dst) (kind_at a dst) (fits.registers dst))
apply_fits read own af nf mf bf spill header s a (MoveSigned extension dst src) known straight fits =
    writes_sound s a (s.slot + 1) dst (number_result (sign_extension extension) (s.registers src)) (unary_kind (extended_range extension) (number_of (kind_at a src))) straight fits
    (computed_alone_fits (sign_extension extension) (extended_range extension) (mf extension) (s.registers src) (kind_at a src) (fits.registers src))
apply_fits read own af nf mf bf spill header s a (ByteSwap swap bits dst) known straight fits =
    writes_sound s a (s.slot + 1) dst (number_result (swapped_bytes swap bits) (s.registers dst)) (unary_kind (swapped_range swap bits) (number_of (kind_at a dst))) straight fits
    (computed_alone_fits (swapped_bytes swap bits) (swapped_range swap bits) (bf swap bits) (s.registers dst) (kind_at a dst) (fits.registers dst))
apply_fits read own af nf mf bf spill header s a (Load size dst place) known straight fits =
    writes_sound s a (s.slot + 1) dst (loads header s size (s.registers place.base) place.offset) (load_kind spill a size (kind_at a place.base) place.offset) straight fits
    (load_fits own spill header s a size (s.registers place.base) (kind_at a place.base) place.offset known fits (fits.registers place.base))
apply_fits read own af nf mf bf spill header s a (Store size place src) known straight fits =
    store_fits read own spill s a size (s.registers place.base) (operand s src) (kind_at a place.base) (operand_kind a src) place.offset (fits.registers place.base) (operand_fits s a src fits) fits
apply_fits read own af nf mf bf spill header s a (Jump comparison offset) known straight fits = absurd straight
apply_fits read own af nf mf bf spill header s a (Goto distance) known straight fits = absurd straight
apply_fits read own af nf mf bf spill header s a (Wide dst value) known straight fits =
    writes_sound s a (s.slot + 2) dst (Some (Number value)) (Ok (Num (single_range value))) straight.0 fits
    (record { above = omega arith; below = omega arith; word = straight.1 })
apply_fits read own af nf mf bf spill header s a (LoadMap dst index) known straight fits =
    writes_sound s a (s.slot + 2) dst (map_at index) (Ok (map_kind index)) straight.0 fits (map_fits index straight.1)
apply_fits read own af nf mf bf spill header s a (LoadAddress dst address) known straight fits = absurd straight
apply_fits read own af nf mf bf spill header s a (Call callee number) known straight fits = absurd straight
apply_fits read own af nf mf bf spill header s a Exit known straight fits = absurd straight
