-- Between fields and bytes: an instruction that is read from bytes has them, and the bytes of an instruction are read
-- as it.
use Rattle.std.proofs.Common.{◌≡◌, ℕ, ℤ, pos, Bool, true, false, ◌&&◌, List, Option, Some, None, Result, Ok, Err, refl, sym, ap, ◌∙◌, arith, FitsSigned, IfSome, if◌then◌else◌, nat_eq, IfOk, lit<, subst}
use Rattle.std.proofs.lemmas.Bool.{and_parts}
use Rattle.std.proofs.lemmas.Bool.Decides.{nat_tests, Decides-int_eq}
use Rattle.std.specs.Int.{w32}
use Rattle.std.specs.Option.{option_map}
use Rattle.std.specs.Ordering.{int_eq}
use Rattle.bpf_insn.specs.declared.fields.Fields.{Fields}
use Rattle.bpf_insn.specs.declared.insn.Insn.{Insn}
use Rattle.bpf_insn.specs.declared.decoder.BadInsn.{BadInsn}
use Rattle.bpf_insn.specs.declared.decoder.BadInsn.TheVariants as faults
use Rattle.bpf_insn.specs.Spelling.{fields, first_fields, second_immediate, second_fields, slot_bytes_of, HasSecond, HasSlots, IsInsn, Spells}
use Rattle.bpf_insn.specs.Reading.{fields_in, same_fields, same_second, has_fields, reading_of, insn_reading, meant_of}
use Rattle.bpf_insn.proofs.SlotBytes.{fields_in-slot_bytes_of}
use Rattle.bpf_insn.proofs.Meant.{means}
use Rattle.bpf_insn.proofs.Fit.{fields_fit, second_fits}
use Rattle.std.proofs.Math.Facts.{sfits_lit}

ints_same : (x y : ℤ) → int_eq x y ≡ true → x ≡ y
ints_same x y h = (Decides-int_eq x y).0 h

int_eq_refl : (x : ℤ) → int_eq x x ≡ true
int_eq_refl x = (Decides-int_eq x x).1 refl

numbers_same : (m n : ℕ) → nat_eq m n ≡ true → m ≡ n
numbers_same m n h = grind (arith, nat_tests)

nat_eq_refl : (m : ℕ) → nat_eq m m ≡ true
nat_eq_refl m = grind (arith, nat_tests)

parts_same : (o o' d d' s s' : ℕ) (a a' b b' : ℤ) → o ≡ o' → d ≡ d' → s ≡ s' → a ≡ a' → b ≡ b' → fields o d s a b ≡ fields o' d' s' a' b'
parts_same o o' d d' s s' a a' b b' p q r t u = cc

-- fields that the derived `==` finds equal
fields_same : (f g : Fields) → (nat_eq f.opcode g.opcode && (nat_eq f.dst g.dst && (nat_eq f.src g.src && (int_eq f.offset g.offset && int_eq f.immediate g.immediate)))) ≡ true → f ≡ g
fields_same f g h =
    let a = and_parts _ _ h in
    let b = and_parts _ _ a.1 in
    let c = and_parts _ _ b.1 in
    let d = and_parts _ _ c.1 in
    parts_same f.opcode g.opcode f.dst g.dst f.src g.src f.offset g.offset f.immediate g.immediate
    (numbers_same _ _ a.0) (numbers_same _ _ b.0) (numbers_same _ _ c.0) (ints_same _ _ d.0) (ints_same _ _ d.1)

same_fields-refl : (f : Fields) → same_fields f f ≡ true
same_fields-refl f = rw (nat_eq_refl f.opcode) (rw (nat_eq_refl f.dst) (rw (nat_eq_refl f.src) (rw (int_eq_refl f.offset) (rw (int_eq_refl f.immediate) refl))))

-- ---- an instruction that has the fields has the bytes

pub slots_same : (i : Insn) (f g : Fields) (immediate : Option ℤ) (next : Option (List ℕ)) → f ≡ first_fields i → immediate ≡ second_immediate i → (nat_eq f.opcode g.opcode && (nat_eq f.dst g.dst && (nat_eq f.src g.src && (int_eq f.offset g.offset && int_eq f.immediate g.immediate)))) ≡ true → HasSecond immediate next → HasSlots i g next
slots_same i f g immediate next is_first is_second same second =
    record { first = sym is_first ∙ fields_same f g same; second = subst (λ (z : Option ℤ). HasSecond z next) is_second second }

-- ---- the bytes of an instruction are read as it

second_read : (second : Option ℤ) (next : Option (List ℕ)) → IfSome (option_map slot_bytes_of (second_fields second)) (λ s. next ≡ Some s) → IfSome second (λ z. FitsSigned w32 z) → IfSome (second_fields second) (λ g. option_map fields_in next ≡ Some g)
second_read None next e fits = tt
second_read (Some z) next e fits =
    ap (option_map fields_in) e
    ∙ ap (λ (f : Fields). Some f) (fields_in-slot_bytes_of (fields 0 0 0 (pos 0) z) (record { opcode = lit< tt; dst = lit< tt; src = lit< tt; offset = sfits_lit tt; immediate = fits }))

has_second : (second : Option ℤ) (g : Option Fields) → IfSome (second_fields second) (λ s. g ≡ Some s) → same_second second g ≡ true
has_second None g e = refl
has_second (Some z) g e = rw e (same_fields-refl (fields 0 0 0 (pos 0) z))

has_own : (i : Insn) (g : Option Fields) → IfSome (second_fields (second_immediate i)) (λ s. g ≡ Some s) → has_fields i (first_fields i) g ≡ true
has_own i g e = rw (same_fields-refl (first_fields i)) (has_second (second_immediate i) g e)

if_own : (b : Bool) (i : Insn) → b ≡ true → (if b then Ok i else Err faults.Unused) ≡ Ok i
if_own true i h = refl
if_own false i h = cc

pub reading_of-own : (f : Fields) (g : Option Fields) (i : Insn) → meant_of f g ≡ Ok i → has_fields i f g ≡ true → reading_of f g ≡ Ok i
unfolding reading_of
reading_of-own f g i meant own = rw meant (if_own (has_fields i f g) i own)

pub insn_reading-spelled : (bytes : List ℕ) (next : Option (List ℕ)) (i : Insn) → Spells bytes next i → insn_reading bytes next ≡ Ok i
unfolding insn_reading
insn_reading-spelled bytes next i s =
    let first : fields_in bytes ≡ first_fields i =
    ap fields_in s.first ∙ fields_in-slot_bytes_of (first_fields i) (fields_fit i s.is_insn) in
    let second = second_read (second_immediate i) next s.second (second_fits i s.is_insn) in
    ap (λ (f : Fields). reading_of f (option_map fields_in next)) first
    ∙ reading_of-own (first_fields i) (option_map fields_in next) i (means i (option_map fields_in next) s.is_insn second) (has_own i (option_map fields_in next) second)

-- ---- the clauses of `decode`

pub only_spelled : (bytes : List ℕ) (next : Option (List ℕ)) (f : Fields) (r : Result Insn BadInsn) (i : Insn) → r ≡ reading_of f (option_map fields_in next) → f ≡ fields_in bytes → Spells bytes next i → r ≡ Ok i
unfolding insn_reading
only_spelled bytes next f r i value first s =
    value ∙ ap (λ (x : Fields). reading_of x (option_map fields_in next)) first ∙ insn_reading-spelled bytes next i s

pub found_spelled : (bytes : List ℕ) (next : Option (List ℕ)) (f : Fields) (r : Result Insn BadInsn) → IfOk r (λ i. IsInsn i) → IfOk r (λ i. HasSlots i f next) → slot_bytes_of f ≡ bytes → IfOk r (Spells bytes next)
found_spelled bytes next f (Ok i) is_insn has first =
    record { is_insn = is_insn; first = sym first ∙ ap slot_bytes_of (sym has.first); second = has.second }
found_spelled bytes next f (Err e) is_insn has first = tt
