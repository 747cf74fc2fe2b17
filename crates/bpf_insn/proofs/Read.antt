-- A reading of the bytes of a slot gives an instruction that they spell.
use Rattle.std.proofs.Common.{◌≡◌, ℕ, ◌^◌, ◌<◌, ◌≤◌, ℤ, pos, Bool, true, false, List, Option, Some, None, Result, Ok, Err, refl, sym, ap, ◌∙◌, arith, FitsSigned, IfSome, IfOk, if◌then◌else◌, nat_eq, nat_le}
use Rattle.std.proofs.lemmas.Bool.{and_parts}
use Rattle.std.proofs.lemmas.Bool.Decides.{nat_tests, Decides-int_eq}
use Rattle.std.proofs.lemmas.Result.{IfOk-at_ok}
use Rattle.std.proofs.Math.Facts.{Fits-of_lt, Fits-of_z, sfits_lit, sfits_to_z}
use Rattle.std.specs.Int.{w16, w32, cast_unsigned}
use Rattle.std.specs.Option.{ok_or, option_map}
use Rattle.bpf_parts.specs.declared.operation.Width.{Width}
use Rattle.bpf_parts.specs.declared.operation.Width.TheVariants.{Bits32, Bits64}
use Rattle.bpf_parts.specs.declared.operation.AluOp.TheVariants.{Mov}
use Rattle.bpf_parts.specs.declared.operation.Operand.{Operand}
use Rattle.bpf_parts.specs.declared.operation.Operand.TheVariants.{FromRegister, Immediate}
use Rattle.bpf_parts.specs.declared.operation.Extension.{Extension}
use Rattle.bpf_parts.specs.declared.address.Address.{Address}
use Rattle.bpf_parts.specs.declared.address.Address.TheVariants.{MapByFile, MapValueByFile, Variable, Code, MapValueByIndex}
use Rattle.bpf_parts.specs.declared.distance.Distance.TheVariants.{Short, Long}
use Rattle.bpf_insn.specs.declared.insn.Insn.{Insn}
use Rattle.bpf_insn.specs.declared.insn.Insn.TheVariants.{Alu, Negate, ByteSwap, Load, Store, Jump, Goto, Wide, LoadMap, LoadAddress, Call, Exit}
use Rattle.bpf_insn.specs.declared.fields.Fields.{Fields}
use Rattle.bpf_insn.specs.declared.decoder.BadInsn.{BadInsn}
use Rattle.bpf_insn.specs.declared.decoder.BadInsn.TheVariants as faults
use Rattle.bpf_parts.specs.Kinds.{wide_address, extension_of}
use Rattle.bpf_insn.specs.Spelling.{fields, first_fields, second_immediate, second_fields, slot_bytes_of, AreSlotBytes, IsInsn, Spells}
use Rattle.bpf_parts.specs.Operands.{IsOperand}
use Rattle.bpf_insn.specs.Reading.{◌>>=◌, register_of, operand_of, register_move, constant_of, meant_of, wide_of, pair_of, load_of, store_of, arithmetic_of, negation_of, byte_swap_of, two_operands_of, move_of, jump_of, call_of, branch_of, comparison_of, fields_in, same_fields, same_second, has_fields, reading_of, insn_reading}
use Rattle.bpf_insn.proofs.SlotBytes.{slot_bytes_of-fields_in}

-- ---- the numbers of fields that were read

-- offset and immediate fit their fields
abbrev pub NumbersFit : Fields → Type 0
NumbersFit f = FitsSigned w16 f.offset × FitsSigned w32 f.immediate

numbers_fit : (bytes : List ℕ) → AreSlotBytes bytes → NumbersFit (fields_in bytes)
numbers_fit bytes are =
    (sfits_to_z (Fits-of_lt (omega (arith, are.1 2, are.1 3))), sfits_to_z (Fits-of_lt (omega (arith, are.1 4, are.1 5, are.1 6, are.1 7))))

next_fit : (next : Option (List ℕ)) → IfSome next AreSlotBytes → IfSome (option_map fields_in next) NumbersFit
next_fit None are = tt
next_fit (Some bytes) are = numbers_fit bytes are

-- ---- what the used fields mean is an instruction

-- if a reading is no fault, it is an instruction
record Is (r : Result Insn BadInsn) : Type 0 where
  is : IfOk r IsInsn

found : (x : Insn) → IsInsn x → Is (Ok x)
found x h = record { is = h }

fault : (e : BadInsn) → Is (Err e)
fault e = record { is = tt }

register_is : (n : ℕ) (k : ℕ → Result Insn BadInsn) → (n ≤ 10 → Is (k n)) → Is (register_of n >>= k)
register_is n k h = by_test (nat_le n 10) refl
  where
    by_test : (b : Bool) → nat_le n 10 ≡ b → Is (register_of n >>= k)
    by_test true e = rw e (h (grind (arith, nat_tests)))
    by_test false e = rw e (fault faults.Register)

operand_is : (f : Fields) (b : Bool) (k : Operand → Result Insn BadInsn) → FitsSigned w32 f.immediate → ((x : Operand) → IsOperand x → Is (k x)) → Is (operand_of f b >>= k)
operand_is f false k fits h = h (Immediate f.immediate) fits
operand_is f true k fits h = by_test (nat_le f.src 10) refl
  where
    by_test : (b : Bool) → nat_le f.src 10 ≡ b → Is ((register_of f.src >>= (λ src. Ok (FromRegister src))) >>= k)
    by_test true e = rw e (h (FromRegister f.src) (grind (arith, nat_tests)))
    by_test false e = rw e (fault faults.Register)

selected_is : {A : Type 0} (o : Option A) (e : BadInsn) (k : A → Result Insn BadInsn) → ((x : A) → Is (k x)) → Is (ok_or o e >>= k)
selected_is None e k h = fault e
selected_is (Some x) e k h = h x

either_is : (b : Bool) (q r : Result Insn BadInsn) → Is q → Is r → Is (if b then q else r)
either_is true q r h k = h
either_is false q r h k = k

negation_is : (f : Fields) (width : Width) → Is (negation_of f width)
unfolding negation_of
negation_is f width = either_is _ _ _ (fault _) (register_is f.dst _ (λ p. found (Negate width f.dst) p))

byte_swap_is : (f : Fields) (width : Width) → Is (byte_swap_of f width)
unfolding byte_swap_of
byte_swap_is f width =
    selected_is _ _ _ (λ swap. register_is f.dst _ (λ p. selected_is _ _ _ (λ bits. found (ByteSwap swap bits f.dst) p)))

two_operands_is : (f : Fields) (width : Width) (code : ℕ) → NumbersFit f → Is (two_operands_of f width code)
unfolding two_operands_of
two_operands_is f width code fits =
    selected_is _ _ _ (λ op. register_is f.dst _ (λ p. operand_is f _ _ fits.1 (λ src is. found (Alu op width f.dst src) (p, is))))

moved_is : (width : Width) (dst src : ℕ) (extension : Option Extension) → dst ≤ 10 → src ≤ 10 → IsInsn (register_move width dst src extension)
moved_is width dst src None p q = (p, q)
moved_is width dst src (Some extension) p q = (p, q)

move_is : (f : Fields) (width : Width) → NumbersFit f → Is (move_of f width)
unfolding move_of
move_is f width fits =
    register_is f.dst _ (λ p. either_is _ _ _
    (register_is f.src _ (λ q. found _ (moved_is width f.dst f.src (extension_of width f.offset) p q)))
    (found (Alu Mov width f.dst (Immediate f.immediate)) (p, fits.1)))

arithmetic_is : (f : Fields) (width : Width) → NumbersFit f → Is (arithmetic_of f width)
unfolding arithmetic_of
arithmetic_is f width fits =
    either_is _ _ _ (negation_is f width) (either_is _ _ _ (move_is f width fits)
    (either_is _ _ _ (byte_swap_is f width) (two_operands_is f width _ fits)))

call_is : (f : Fields) → NumbersFit f → Is (call_of f)
unfolding call_of
call_is f fits = selected_is _ _ _ (λ callee. found (Call callee f.immediate) fits.1)

branch_is : (f : Fields) (width : Width) → NumbersFit f → Is (branch_of f width)
unfolding branch_of
branch_is f width fits =
    selected_is _ _ _ (λ condition. register_is f.dst _ (λ p. operand_is f _ _ fits.1 (λ src is.
    found (Jump (comparison_of condition width f.dst src) f.offset) (p, is, fits.0))))

jump_is : (f : Fields) (width : Width) → NumbersFit f → Is (jump_of f width)
unfolding jump_of
jump_is f width fits =
    either_is _ _ _ (found (Goto (Short f.offset)) fits.0) (either_is _ _ _ (found (Goto (Long f.immediate)) fits.1)
    (either_is _ _ _ (call_is f fits) (either_is _ _ _ (found Exit tt) (branch_is f width fits))))

load_is : (f : Fields) → NumbersFit f → Is (load_of f)
unfolding load_of
load_is f fits =
    selected_is _ _ _ (λ size. register_is f.dst _ (λ p. register_is f.src _ (λ q.
    found (Load size f.dst (record { base = f.src; offset = f.offset })) (p, q, fits.0))))

store_is : (f : Fields) (from_register : Bool) → NumbersFit f → Is (store_of f from_register)
unfolding store_of
store_is f from_register fits =
    selected_is _ _ _ (λ size. register_is f.dst _ (λ p. operand_is f _ _ fits.1 (λ src is.
    found (Store size (record { base = f.dst; offset = f.offset }) src) (p, fits.0, is))))

joined_small : (low high : ℤ) → FitsSigned w32 low → FitsSigned w32 high → constant_of low high < 2 ^ 64
joined_small low high p q =
    let a : cast_unsigned w32 low < 4294967296 = (Fits-of_z p).fits in
    let b : cast_unsigned w32 high < 4294967296 = (Fits-of_z q).fits in
    omega (arith, a, b)

-- an address, if there is one, has immediates that fit
record IsLoad (dst : ℕ) (address : Option Address) : Type 0 where
  is : Is (ok_or address faults.Unused >>= (λ x. Ok (LoadAddress dst x)))

loads : (dst : ℕ) (address : Address) → IsInsn (LoadAddress dst address) → IsLoad dst (Some address)
loads dst address h = record { is = found (LoadAddress dst address) h }

one_of : (dst : ℕ) (b : Bool) (x y : Option Address) → IsLoad dst x → IsLoad dst y → IsLoad dst (if b then x else y)
one_of dst true x y p q = p
one_of dst false x y p q = q

address_is : (dst subtype : ℕ) (first second : ℤ) → dst ≤ 10 → FitsSigned w32 first → FitsSigned w32 second → IsLoad dst (wide_address subtype first second)
address_is dst subtype first second p q r =
    one_of dst (nat_eq subtype 1) _ _ (loads dst (MapByFile first) (p, q, sfits_lit tt))
    (one_of dst (nat_eq subtype 2) _ _ (loads dst (MapValueByFile first second) (p, q, r))
    (one_of dst (nat_eq subtype 3) _ _ (loads dst (Variable first) (p, q, sfits_lit tt))
    (one_of dst (nat_eq subtype 4) _ _ (loads dst (Code first) (p, q, sfits_lit tt))
    (one_of dst (nat_eq subtype 6) _ None (loads dst (MapValueByIndex first second) (p, q, r)) (record { is = fault faults.Unused })))))

pair_is : (f : Fields) (dst : ℕ) (second : Fields) → dst ≤ 10 → NumbersFit f → NumbersFit second → Is (pair_of f dst second)
unfolding pair_of
pair_is f dst second p fits more =
    either_is _ _ _ (found (Wide dst (constant_of f.immediate second.immediate)) (p, joined_small f.immediate second.immediate fits.1 more.1))
    (either_is _ _ _ (found (LoadMap dst f.immediate) (p, fits.1))
    (address_is dst f.src f.immediate second.immediate p fits.1 more.1).is)

wide_is : (f : Fields) (next : Option Fields) → NumbersFit f → IfSome next NumbersFit → Is (wide_of f next)
unfolding wide_of
wide_is f None fits more = either_is _ _ _ (register_is f.dst _ (λ p. fault _)) (fault _)
wide_is f (Some second) fits more = either_is _ _ _ (register_is f.dst _ (λ p. pair_is f f.dst second p fits more)) (fault _)

meant_is : (f : Fields) (next : Option Fields) → NumbersFit f → IfSome next NumbersFit → Is (meant_of f next)
unfolding meant_of
meant_is f next fits more =
    either_is _ _ _ (wide_is f next fits more) (either_is _ _ _ (load_is f fits)
    (either_is _ _ _ (store_is f false fits) (either_is _ _ _ (store_is f true fits)
    (either_is _ _ _ (arithmetic_is f Bits32 fits) (either_is _ _ _ (jump_is f Bits64 fits)
    (either_is _ _ _ (jump_is f Bits32 fits) (arithmetic_is f Bits64 fits)))))))

-- ---- and it has the bytes

numbers_same : (m n : ℕ) → nat_eq m n ≡ true → m ≡ n
numbers_same m n h = grind (arith, nat_tests)

parts_same : (o o' d d' s s' : ℕ) (a a' b b' : ℤ) → o ≡ o' → d ≡ d' → s ≡ s' → a ≡ a' → b ≡ b' → fields o d s a b ≡ fields o' d' s' a' b'
parts_same o o' d d' s s' a a' b b' p q r t u = cc

fields_same : (f g : Fields) → same_fields f g ≡ true → f ≡ g
fields_same f g h =
    let a = and_parts _ _ h in
    let b = and_parts _ _ a.0 in
    let c = and_parts _ _ b.0 in
    let d = and_parts _ _ c.0 in
    parts_same f.opcode g.opcode f.dst g.dst f.src g.src f.offset g.offset f.immediate g.immediate
    (numbers_same _ _ d.0) (numbers_same _ _ d.1) (numbers_same _ _ c.1) ((Decides-int_eq f.offset g.offset).0 b.1) ((Decides-int_eq f.immediate g.immediate).0 a.1)

second_is : (second : Option ℤ) (next : Option (List ℕ)) → IfSome next AreSlotBytes → same_second second (option_map fields_in next) ≡ true → IfSome (option_map slot_bytes_of (second_fields second)) (λ s. next ≡ Some s)
second_is None next are same = tt
second_is (Some z) None are same = cc
second_is (Some z) (Some bytes) are same =
    let read = fields_same (fields_in bytes) (fields 0 0 0 (pos 0) z) same in
    ap (λ (b : List ℕ). Some b) (sym (slot_bytes_of-fields_in bytes are.0 are.1) ∙ ap slot_bytes_of read)

own_fields : (f : Fields) (g : Option Fields) (r : Result Insn BadInsn) (i : Insn) → (r >>= (λ insn. if has_fields insn f g then Ok insn else Err faults.Unused)) ≡ Ok i → (r ≡ Ok i) × (has_fields i f g ≡ true)
own_fields f g (Err e) i h = cc
own_fields f g (Ok x) i h = by_test (has_fields x f g) refl h
  where
    by_test : (b : Bool) → has_fields x f g ≡ b → (let r : Result Insn BadInsn = if b then Ok x else Err faults.Unused in r) ≡ Ok i → (Ok x ≡ (let r : Result Insn BadInsn = Ok i in r)) × (has_fields i f g ≡ true)
    by_test true e h = (h, let same : x ≡ i = cc h in rw same at e)
    by_test false e h = cc

pub is_spelled : (bytes : List ℕ) (next : Option (List ℕ)) (i : Insn) → AreSlotBytes bytes → IfSome next AreSlotBytes → insn_reading bytes next ≡ Ok i → Spells bytes next i
unfolding insn_reading reading_of
is_spelled bytes next i are after read =
    let f = fields_in bytes in
    let g = option_map fields_in next in
    let own = own_fields f g (meant_of f g) i read in
    let tests = and_parts (same_fields (first_fields i) f) (same_second (second_immediate i) g) own.1 in
    record {
      is_insn = IfOk-at_ok IsInsn own.0 (meant_is f g (numbers_fit bytes are) (next_fit next after)).is;
      first = sym (slot_bytes_of-fields_in bytes are.0 are.1) ∙ ap slot_bytes_of (sym (fields_same (first_fields i) f tests.0));
      second = second_is (second_immediate i) next after tests.1;
    }
