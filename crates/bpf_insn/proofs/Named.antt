-- A fault that bytes have is the one that is read.
use Rattle.std.proofs.Common.{◌≡◌, ℕ, ◌/◌, ◌%◌, Bool, true, false, ◌&&◌, not, List, Option, Some, None, Result, Ok, Err, refl, sym, ap, ◌∙◌, is_some, IfSome, IfErr, if◌then◌else◌, ◌⊎◌, inl, inr, slice_index, subst}
use Rattle.std.specs.Option.{option_map}
use Rattle.bpf_insn.specs.declared.insn.Insn.{Insn}
use Rattle.bpf_insn.specs.declared.fields.Fields.{Fields}
use Rattle.bpf_insn.specs.declared.decoder.BadInsn.{BadInsn}
use Rattle.bpf_insn.specs.declared.decoder.BadInsn.TheVariants as faults
use Rattle.bpf_insn.specs.Spelling.{first_bytes, second_immediate, slot_bytes_of, AreSlotBytes, Spells}
use Rattle.bpf_insn.specs.Faults.{opcode_of, has_register_over, IsFault}
use Rattle.bpf_insn.specs.Reading.{◌>>=◌, meant_of, fields_in, has_fields, reading_of, insn_reading}
use Rattle.bpf_insn.proofs.Explained.{explained, explains, fault_read, is_some-fields}
use Rattle.bpf_insn.proofs.Read.{is_spelled}

-- what the used fields mean explains each instruction with the opcode
explains_meant : (bytes : List ℕ) (next : Option (List ℕ)) (i : Insn) → opcode_of i ≡ slice_index bytes 0
    → explains i (slice_index bytes 1 % 16) (slice_index bytes 1 / 16) (option_map fields_in next) (meant_of (fields_in bytes) (option_map fields_in next)) ≡ true
explains_meant bytes next i same =
    let d = slice_index bytes 1 % 16 in
    let s = slice_index bytes 1 / 16 in
    let f = fields_in bytes in
    let g = option_map fields_in next in
    subst (λ (k : ℕ). explains i d s g (meant_of (record { opcode = k; dst = d; src = s; offset = f.offset; immediate = f.immediate }) g) ≡ true) same (explained i d s f.offset f.immediate g)

register_only : (i : Insn) (d s : ℕ) (g : Option Fields) (r : Result Insn BadInsn) → has_register_over i d s ≡ true → explains i d s g r ≡ true → r ≡ Err faults.Register
register_only i d s g (Ok x) has_register_over fits = let never : false ≡ true = rw has_register_over at fits in cc
register_only i d s g (Err faults.Opcode) has_register_over fits = cc
register_only i d s g (Err faults.Register) has_register_over fits = refl
register_only i d s g (Err faults.Half) has_register_over fits = let never : false ≡ true = rw has_register_over at fits in cc
register_only i d s g (Err faults.Unused) has_register_over fits = let never : false ≡ true = rw has_register_over at fits in cc

half_only : (i : Insn) (d s : ℕ) (g : Option Fields) (r : Result Insn BadInsn) → has_register_over i d s ≡ false → is_some (second_immediate i) ≡ true → is_some g ≡ false → explains i d s g r ≡ true → r ≡ Err faults.Half
half_only i d s g (Ok x) low two none fits = let never : false ≡ true = rw (low, two, none) at fits in cc
half_only i d s g (Err faults.Opcode) low two none fits = cc
half_only i d s g (Err faults.Register) low two none fits = cc
half_only i d s g (Err faults.Half) low two none fits = refl
half_only i d s g (Err faults.Unused) low two none fits = let never : false ≡ true = rw (low, two, none) at fits in cc

-- an instruction, or a field that selects none
abbrev IsLeft : Result Insn BadInsn → Type 0
IsLeft r = (r ≡ Err faults.Unused) ⊎ ((x : Insn) × (r ≡ Ok x))

half_left : (two some : Bool) → (two ≡ true → some ≡ true) → (not false && two && not some) ≡ true → ⊥
half_left false some h fits = cc
half_left true true h fits = cc
half_left true false h fits = let never : false ≡ true = h refl in cc

unused_only : (i : Insn) (d s : ℕ) (g : Option Fields) (r : Result Insn BadInsn) → has_register_over i d s ≡ false → (is_some (second_immediate i) ≡ true → is_some g ≡ true) → explains i d s g r ≡ true → IsLeft r
unused_only i d s g (Ok x) low some fits = inr (x, refl)
unused_only i d s g (Err faults.Opcode) low some fits = cc
unused_only i d s g (Err faults.Register) low some fits = cc
unused_only i d s g (Err faults.Half) low some fits =
    absurd (half_left (is_some (second_immediate i)) (is_some g) some (rw low at fits))
unused_only i d s g (Err faults.Unused) low some fits = inl refl

-- ---- the fault of all fields

failed : (f : Fields) (g : Option Fields) (e : BadInsn) → meant_of f g ≡ Err e → reading_of f g ≡ Err e
unfolding reading_of
failed f g e h = rw h refl

has_none : (f : Fields) (g : Option Fields) → IsLeft (meant_of f g) → ((x : Insn) → reading_of f g ≡ Ok x → ⊥) → reading_of f g ≡ Err faults.Unused
unfolding reading_of
has_none f g (inl h) none = rw h refl
has_none f g (inr p) none =
    let P : Result Insn BadInsn → Type 0 = λ r. ((x : Insn) → (r >>= (λ insn. if has_fields insn f g then Ok insn else Err faults.Unused)) ≡ Ok x → ⊥) → (r >>= (λ insn. if has_fields insn f g then Ok insn else Err faults.Unused)) ≡ Err faults.Unused in
    subst P (sym p.1) (λ never. by_test (has_fields p.0 f g) (never p.0)) none
  where
    by_test : (b : Bool) → ((let r : Result Insn BadInsn = if b then Ok p.0 else Err faults.Unused in r) ≡ Ok p.0 → ⊥) → (if b then Ok p.0 else Err faults.Unused) ≡ Err faults.Unused
    by_test true never = absurd (never refl)
    by_test false never = refl

first_of : (i : Insn) → slice_index (first_bytes i) 0 ≡ opcode_of i
unfolding slot_bytes_of
first_of i = refl

no_opcode : (bytes : List ℕ) (next : Option (List ℕ)) (r : Result Insn BadInsn) → ((i : Insn) → r ≡ Ok i → Spells bytes next i) → IfErr r (IsFault bytes next) → IsFault bytes next faults.Opcode → r ≡ Err faults.Opcode
no_opcode bytes next (Ok i) spelled has none =
    absurd (none i (sym (first_of i) ∙ ap (λ (b : List ℕ). slice_index b 0) (sym (spelled i refl).first)))
no_opcode bytes next (Err faults.Opcode) spelled has none = refl
no_opcode bytes next (Err faults.Register) spelled has none = absurd (none has.0 has.1)
no_opcode bytes next (Err faults.Half) spelled has none = absurd (none has.0 has.1)
no_opcode bytes next (Err faults.Unused) spelled has none = absurd (none has.0 has.1)

is_fault : (bytes : List ℕ) (next : Option (List ℕ)) (r : Result Insn BadInsn) → r ≡ insn_reading bytes next → ((e : BadInsn) → insn_reading bytes next ≡ Err e → IsFault bytes next e) → IfErr r (IsFault bytes next)
is_fault bytes next (Ok i) same h = tt
is_fault bytes next (Err e) same h = h e (sym same)

no_next : (next : Option (List ℕ)) → next ≡ None → is_some (option_map fields_in next) ≡ false
no_next None h = refl
no_next (Some x) h = cc

pub named_read : (bytes : List ℕ) (next : Option (List ℕ)) (e : BadInsn) → AreSlotBytes bytes → IfSome next AreSlotBytes → IsFault bytes next e → insn_reading bytes next ≡ Err e
unfolding insn_reading
named_read bytes next faults.Opcode are after h =
    no_opcode bytes next (insn_reading bytes next) (λ i read. is_spelled bytes next i are after read)
    (is_fault bytes next (insn_reading bytes next) refl (λ e read. fault_read bytes next e (are.1 0) read)) h
named_read bytes next faults.Register are after h =
    let f = fields_in bytes in
    let g = option_map fields_in next in
    failed f g faults.Register (register_only h.0 f.dst f.src g (meant_of f g) h.2 (explains_meant bytes next h.0 h.1))
named_read bytes next faults.Half are after h =
    let f = fields_in bytes in
    let g = option_map fields_in next in
    failed f g faults.Half (half_only h.0 f.dst f.src g (meant_of f g) h.2 h.3 (no_next next h.4) (explains_meant bytes next h.0 h.1))
named_read bytes next faults.Unused are after h =
    let f = fields_in bytes in
    let g = option_map fields_in next in
    has_none f g (unused_only h.0 f.dst f.src g (meant_of f g) h.2 (λ two. is_some-fields next ∙ h.3 two) (explains_meant bytes next h.0 h.1))
    (λ x read. h.4 x (is_spelled bytes next x are after read))
