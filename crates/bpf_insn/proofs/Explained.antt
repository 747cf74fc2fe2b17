-- What a fault says of the bytes that have it.
use Rattle.std.proofs.Common.{◌≡◌, ◌≢◌, ℕ, zero, suc, ◌/◌, ◌%◌, ◌<◌, ℤ, pos, Bool, true, false, ◌&&◌, ◌||◌, not, List, Option, Some, None, Result, Ok, Err, refl, sym, ap, ◌∙◌, arith, nat_le, nat_eq, is_some, if◌then◌else◌, ◌⊎◌, inl, inr, IfErr, slice_index, subst}
use Rattle.std.proofs.lemmas.Bool.{and_parts}
use Rattle.std.proofs.lemmas.Bool.Decides.{nat_tests}
use Rattle.std.specs.Option.{ok_or, option_map}
use Rattle.bpf_parts.specs.declared.operation.Width.{Width}
use Rattle.bpf_parts.specs.declared.operation.Width.TheVariants.{Bits32, Bits64}
use Rattle.bpf_parts.specs.declared.operation.AluOp.{AluOp}
use Rattle.bpf_parts.specs.declared.operation.AluOp.TheVariants.{Add, Mov}
use Rattle.bpf_parts.specs.declared.operation.Operand.{Operand}
use Rattle.bpf_parts.specs.declared.operation.Operand.TheVariants.{FromRegister, Immediate}
use Rattle.bpf_parts.specs.declared.operation.Extension.{Extension}
use Rattle.bpf_parts.specs.declared.operation.Extension.TheVariants.{ByteTo32}
use Rattle.bpf_parts.specs.declared.operation.Swap.{Swap}
use Rattle.bpf_parts.specs.declared.operation.Swap.TheVariants.{ToLittle, ToBig, Reverse}
use Rattle.bpf_parts.specs.declared.operation.SwapBits.{SwapBits}
use Rattle.bpf_parts.specs.declared.operation.Condition.{Condition}
use Rattle.bpf_parts.specs.declared.operation.Condition.TheVariants.{Equal}
use Rattle.bpf_parts.specs.declared.memory.MemoryOperand.{MemoryOperand}
use Rattle.bpf_parts.specs.declared.memory.Size.{Size}
use Rattle.bpf_parts.specs.declared.memory.Size.TheVariants.{Byte}
use Rattle.bpf_parts.specs.declared.memory.LoadSize.{LoadSize}
use Rattle.bpf_parts.specs.declared.memory.LoadSize.TheVariants.{LoadByte}
use Rattle.bpf_parts.specs.declared.distance.Distance.TheVariants.{Short, Long}
use Rattle.bpf_insn.specs.declared.insn.Insn.{Insn}
use Rattle.bpf_insn.specs.declared.insn.Insn.TheVariants.{Alu, Negate, MoveSigned, ByteSwap, Load, Store, Jump, Goto, Wide, LoadMap, LoadAddress, Call, Exit}
use Rattle.bpf_insn.specs.declared.fields.Fields.{Fields}
use Rattle.bpf_insn.specs.declared.decoder.BadInsn.{BadInsn}
use Rattle.bpf_insn.specs.declared.decoder.BadInsn.TheVariants as faults
use Rattle.bpf_insn.specs.Spelling.{fields, second_immediate, Spells}
use Rattle.bpf_insn.specs.Faults.{opcode_of, uses_dst, uses_src, has_register_over, IsFault}
use Rattle.bpf_parts.specs.Kinds.{swap_bits_of, wide_address, callee_of}
use Rattle.bpf_insn.specs.Reading.{◌>>=◌, register_of, meant_of, wide_of, pair_of, load_of, store_of, arithmetic_of, negation_of, byte_swap_of, two_operands_of, move_of, jump_of, call_of, branch_of, comparison_of, has_fields, fields_in, reading_of, insn_reading}
use Rattle.bpf_insn.proofs.Spelled.{insn_reading-spelled}

-- no register is over 10, and if the instruction wants a second slot, it is there
abbrev pub is_fine : Insn → ℕ → ℕ → Option Fields → Bool
is_fine i d s next = not (has_register_over i d s) && (not (is_some (second_immediate i)) || is_some next)

-- whether an answer fits an instruction with the same opcode
abbrev pub explains : Insn → ℕ → ℕ → Option Fields → Result Insn BadInsn → Bool
explains i d s next (Ok insn) = is_fine i d s next
explains i d s next (Err faults.Opcode) = false
explains i d s next (Err faults.Register) = has_register_over i d s
explains i d s next (Err faults.Half) = not (has_register_over i d s) && is_some (second_immediate i) && not (is_some next)
explains i d s next (Err faults.Unused) = is_fine i d s next

-- a destination is read
dst_read : (i : Insn) (d s : ℕ) (next : Option Fields) (k : ℕ → Result Insn BadInsn) → uses_dst i ≡ true → (nat_le d 10 ≡ true → explains i d s next (k d) ≡ true) → explains i d s next (register_of d >>= k) ≡ true
dst_read i d s next k uses h = by_test (nat_le d 10) refl
  where
    by_test : (b : Bool) → nat_le d 10 ≡ b → explains i d s next (register_of d >>= k) ≡ true
    by_test true e = rw e (h e)
    by_test false e = rw e (rw uses (rw e refl))

or_true : (b : Bool) → (b || true) ≡ true
or_true true = refl
or_true false = refl

src_read : (i : Insn) (d s : ℕ) (next : Option Fields) (k : ℕ → Result Insn BadInsn) → uses_src i ≡ true → (nat_le s 10 ≡ true → explains i d s next (k s) ≡ true) → explains i d s next (register_of s >>= k) ≡ true
src_read i d s next k uses h = by_test (nat_le s 10) refl
  where
    by_test : (b : Bool) → nat_le s 10 ≡ b → explains i d s next (register_of s >>= k) ≡ true
    by_test true e = rw e (h e)
    by_test false e = rw e (rw uses (rw e (or_true (uses_dst i && not (nat_le d 10)))))

explained_alu_k : (op : AluOp) (width : Width) (dst : ℕ) (value : ℤ) (d s : ℕ) (o m : ℤ) (next : Option Fields) → explains (Alu op width dst (Immediate value)) d s next (meant_of (fields (opcode_of (Alu op width dst (Immediate value))) d s o m) next) ≡ true
unfolding meant_of arithmetic_of two_operands_of move_of
explained_alu_k Add Bits32 dst value d s o m next = dst_read (Alu Add Bits32 dst (Immediate value)) d s next _ refl (λ p. rw p refl)
explained_alu_k Add Bits64 dst value d s o m next = dst_read (Alu Add Bits64 dst (Immediate value)) d s next _ refl (λ p. rw p refl)
explained_alu_k op Bits32 dst value d s o m next = dst_read (Alu op Bits32 dst (Immediate value)) d s next _ refl (λ p. rw p refl)
explained_alu_k op Bits64 dst value d s o m next = dst_read (Alu op Bits64 dst (Immediate value)) d s next _ refl (λ p. rw p refl)

operand_read : (i : Insn) (d s : ℕ) (next : Option Fields) (k : Operand → Result Insn BadInsn) → uses_src i ≡ true → (nat_le s 10 ≡ true → explains i d s next (k (FromRegister s)) ≡ true) → explains i d s next ((register_of s >>= (λ src. Ok (FromRegister src))) >>= k) ≡ true
operand_read i d s next k uses h = by_test (nat_le s 10) refl
  where
    by_test : (b : Bool) → nat_le s 10 ≡ b → explains i d s next ((register_of s >>= (λ src. Ok (FromRegister src))) >>= k) ≡ true
    by_test true e = rw e (h e)
    by_test false e = rw e (rw uses (rw e (or_true (uses_dst i && not (nat_le d 10)))))

-- the last test is of a field that selects
selected : {A : Type 0} (i : Insn) (d s : ℕ) (next : Option Fields) (a : Option A) (k : A → Insn) → is_fine i d s next ≡ true → explains i d s next (ok_or a faults.Unused >>= (λ x. Ok (k x))) ≡ true
selected i d s next None k h = h
selected i d s next (Some x) k h = h

either : (i : Insn) (d s : ℕ) (next : Option Fields) (b : Bool) (q r : Result Insn BadInsn) → explains i d s next q ≡ true → explains i d s next r ≡ true → explains i d s next (if b then q else r) ≡ true
either i d s next true q r h k = h
either i d s next false q r h k = k

explained_alu_x : (op : AluOp) (width : Width) (dst src : ℕ) (d s : ℕ) (o m : ℤ) (next : Option Fields) → explains (Alu op width dst (FromRegister src)) d s next (meant_of (fields (opcode_of (Alu op width dst (FromRegister src))) d s o m) next) ≡ true
unfolding meant_of arithmetic_of two_operands_of move_of
explained_alu_x Mov Bits32 dst src d s o m next = dst_read (Alu Mov Bits32 dst (FromRegister src)) d s next _ refl (λ p. src_read (Alu Mov Bits32 dst (FromRegister src)) d s next _ refl (λ q. rw (p, q) refl))
explained_alu_x Mov Bits64 dst src d s o m next = dst_read (Alu Mov Bits64 dst (FromRegister src)) d s next _ refl (λ p. src_read (Alu Mov Bits64 dst (FromRegister src)) d s next _ refl (λ q. rw (p, q) refl))
explained_alu_x Add Bits32 dst src d s o m next = dst_read (Alu Add Bits32 dst (FromRegister src)) d s next _ refl (λ p. operand_read (Alu Add Bits32 dst (FromRegister src)) d s next _ refl (λ q. rw (p, q) refl))
explained_alu_x Add Bits64 dst src d s o m next = dst_read (Alu Add Bits64 dst (FromRegister src)) d s next _ refl (λ p. operand_read (Alu Add Bits64 dst (FromRegister src)) d s next _ refl (λ q. rw (p, q) refl))
explained_alu_x op Bits32 dst src d s o m next = dst_read (Alu op Bits32 dst (FromRegister src)) d s next _ refl (λ p. operand_read (Alu op Bits32 dst (FromRegister src)) d s next _ refl (λ q. rw (p, q) refl))
explained_alu_x op Bits64 dst src d s o m next = dst_read (Alu op Bits64 dst (FromRegister src)) d s next _ refl (λ p. operand_read (Alu op Bits64 dst (FromRegister src)) d s next _ refl (λ q. rw (p, q) refl))

explained_negate : (width : Width) (dst d s : ℕ) (o m : ℤ) (next : Option Fields) → explains (Negate width dst) d s next (meant_of (fields (opcode_of (Negate width dst)) d s o m) next) ≡ true
unfolding meant_of arithmetic_of negation_of
explained_negate Bits32 dst d s o m next = dst_read (Negate Bits32 dst) d s next _ refl (λ p. rw p refl)
explained_negate Bits64 dst d s o m next = dst_read (Negate Bits64 dst) d s next _ refl (λ p. rw p refl)

explained_move : (extension : Extension) (dst src d s : ℕ) (o m : ℤ) (next : Option Fields) → explains (MoveSigned extension dst src) d s next (meant_of (fields (opcode_of (MoveSigned extension dst src)) d s o m) next) ≡ true
unfolding meant_of arithmetic_of move_of
explained_move ByteTo32 dst src d s o m next = dst_read (MoveSigned ByteTo32 dst src) d s next _ refl (λ p. src_read (MoveSigned ByteTo32 dst src) d s next _ refl (λ q. rw (p, q) refl))
explained_move e dst src d s o m next = dst_read (MoveSigned e dst src) d s next _ refl (λ p. src_read (MoveSigned e dst src) d s next _ refl (λ q. rw (p, q) refl))

explained_swap : (swap : Swap) (bits : SwapBits) (dst d s : ℕ) (o m : ℤ) (next : Option Fields) → explains (ByteSwap swap bits dst) d s next (meant_of (fields (opcode_of (ByteSwap swap bits dst)) d s o m) next) ≡ true
unfolding meant_of arithmetic_of byte_swap_of
explained_swap ToLittle bits dst d s o m next = dst_read (ByteSwap ToLittle bits dst) d s next _ refl (λ p. selected (ByteSwap ToLittle bits dst) d s next (swap_bits_of m) _ (rw p refl))
explained_swap ToBig bits dst d s o m next = dst_read (ByteSwap ToBig bits dst) d s next _ refl (λ p. selected (ByteSwap ToBig bits dst) d s next (swap_bits_of m) _ (rw p refl))
explained_swap Reverse bits dst d s o m next = dst_read (ByteSwap Reverse bits dst) d s next _ refl (λ p. selected (ByteSwap Reverse bits dst) d s next (swap_bits_of m) _ (rw p refl))

explained_load : (size : LoadSize) (dst : ℕ) (place : MemoryOperand) (d s : ℕ) (o m : ℤ) (next : Option Fields) → explains (Load size dst place) d s next (meant_of (fields (opcode_of (Load size dst place)) d s o m) next) ≡ true
unfolding meant_of load_of
explained_load LoadByte dst place d s o m next = dst_read (Load LoadByte dst place) d s next _ refl (λ p. src_read (Load LoadByte dst place) d s next _ refl (λ q. rw (p, q) refl))
explained_load e dst place d s o m next = dst_read (Load e dst place) d s next _ refl (λ p. src_read (Load e dst place) d s next _ refl (λ q. rw (p, q) refl))

explained_store_k : (size : Size) (place : MemoryOperand) (value : ℤ) (d s : ℕ) (o m : ℤ) (next : Option Fields) → explains (Store size place (Immediate value)) d s next (meant_of (fields (opcode_of (Store size place (Immediate value))) d s o m) next) ≡ true
unfolding meant_of store_of
explained_store_k Byte place value d s o m next = dst_read (Store Byte place (Immediate value)) d s next _ refl (λ p. rw p refl)
explained_store_k e place value d s o m next = dst_read (Store e place (Immediate value)) d s next _ refl (λ p. rw p refl)

explained_store_x : (size : Size) (place : MemoryOperand) (src : ℕ) (d s : ℕ) (o m : ℤ) (next : Option Fields) → explains (Store size place (FromRegister src)) d s next (meant_of (fields (opcode_of (Store size place (FromRegister src))) d s o m) next) ≡ true
unfolding meant_of store_of
explained_store_x Byte place src d s o m next = dst_read (Store Byte place (FromRegister src)) d s next _ refl (λ p. operand_read (Store Byte place (FromRegister src)) d s next _ refl (λ q. rw (p, q) refl))
explained_store_x e place src d s o m next = dst_read (Store e place (FromRegister src)) d s next _ refl (λ p. operand_read (Store e place (FromRegister src)) d s next _ refl (λ q. rw (p, q) refl))

explained_jump_k : (condition : Condition) (width : Width) (dst : ℕ) (value offset : ℤ) (d s : ℕ) (o m : ℤ) (next : Option Fields) → explains (Jump (comparison_of condition width dst (Immediate value)) offset) d s next (meant_of (fields (opcode_of (Jump (comparison_of condition width dst (Immediate value)) offset)) d s o m) next) ≡ true
unfolding meant_of jump_of branch_of
explained_jump_k Equal Bits32 dst value offset d s o m next = dst_read (Jump (comparison_of Equal Bits32 dst (Immediate value)) offset) d s next _ refl (λ p. rw p refl)
explained_jump_k Equal Bits64 dst value offset d s o m next = dst_read (Jump (comparison_of Equal Bits64 dst (Immediate value)) offset) d s next _ refl (λ p. rw p refl)
explained_jump_k e Bits32 dst value offset d s o m next = dst_read (Jump (comparison_of e Bits32 dst (Immediate value)) offset) d s next _ refl (λ p. rw p refl)
explained_jump_k e Bits64 dst value offset d s o m next = dst_read (Jump (comparison_of e Bits64 dst (Immediate value)) offset) d s next _ refl (λ p. rw p refl)

explained_jump_x : (condition : Condition) (width : Width) (dst src : ℕ) (offset : ℤ) (d s : ℕ) (o m : ℤ) (next : Option Fields) → explains (Jump (comparison_of condition width dst (FromRegister src)) offset) d s next (meant_of (fields (opcode_of (Jump (comparison_of condition width dst (FromRegister src)) offset)) d s o m) next) ≡ true
unfolding meant_of jump_of branch_of
explained_jump_x Equal Bits32 dst src offset d s o m next = dst_read (Jump (comparison_of Equal Bits32 dst (FromRegister src)) offset) d s next _ refl (λ p. operand_read (Jump (comparison_of Equal Bits32 dst (FromRegister src)) offset) d s next _ refl (λ q. rw (p, q) refl))
explained_jump_x Equal Bits64 dst src offset d s o m next = dst_read (Jump (comparison_of Equal Bits64 dst (FromRegister src)) offset) d s next _ refl (λ p. operand_read (Jump (comparison_of Equal Bits64 dst (FromRegister src)) offset) d s next _ refl (λ q. rw (p, q) refl))
explained_jump_x e Bits32 dst src offset d s o m next = dst_read (Jump (comparison_of e Bits32 dst (FromRegister src)) offset) d s next _ refl (λ p. operand_read (Jump (comparison_of e Bits32 dst (FromRegister src)) offset) d s next _ refl (λ q. rw (p, q) refl))
explained_jump_x e Bits64 dst src offset d s o m next = dst_read (Jump (comparison_of e Bits64 dst (FromRegister src)) offset) d s next _ refl (λ p. operand_read (Jump (comparison_of e Bits64 dst (FromRegister src)) offset) d s next _ refl (λ q. rw (p, q) refl))

explained_jump : (condition : Condition) (width : Width) (dst : ℕ) (src : Operand) (offset : ℤ) (d s : ℕ) (o m : ℤ) (next : Option Fields) → explains (Jump (comparison_of condition width dst src) offset) d s next (meant_of (fields (opcode_of (Jump (comparison_of condition width dst src) offset)) d s o m) next) ≡ true
explained_jump condition width dst (Immediate value) offset d s o m next = explained_jump_k condition width dst value offset d s o m next
explained_jump condition width dst (FromRegister src) offset d s o m next = explained_jump_x condition width dst src offset d s o m next

explained_pair : (i : Insn) (d s : ℕ) (o m : ℤ) (next : Option Fields) (dst : ℕ) (g : Fields) → is_fine i d s next ≡ true → explains i d s next (pair_of (fields 0x18 d s o m) dst g) ≡ true
unfolding pair_of
explained_pair i d s o m next dst g h =
    either i d s next (nat_eq s 0) _ _ h
    (either i d s next (nat_eq s 5) _ _ h (selected i d s next (wide_address s m g.immediate) _ h))

explained_wide : (i : Insn) (d s : ℕ) (o m : ℤ) (next : Option Fields) → uses_dst i ≡ true → uses_src i ≡ false → is_some (second_immediate i) ≡ true → explains i d s next (wide_of (fields 0x18 d s o m) next) ≡ true
unfolding wide_of
explained_wide i d s o m None dst src two =
    dst_read i d s None _ dst (λ p. rw (dst, src, two) (rw p refl))
explained_wide i d s o m (Some g) dst src two =
    dst_read i d s (Some g) _ dst (λ p. explained_pair i d s o m (Some g) d g (rw (dst, src, two) (rw p refl)))

-- the answer to bytes with the opcode of an instruction
pub explained : (i : Insn) (d s : ℕ) (o m : ℤ) (next : Option Fields) → explains i d s next (meant_of (fields (opcode_of i) d s o m) next) ≡ true
unfolding meant_of jump_of call_of
explained (Alu op width dst (Immediate value)) d s o m next = explained_alu_k op width dst value d s o m next
explained (Alu op width dst (FromRegister src)) d s o m next = explained_alu_x op width dst src d s o m next
explained (Negate width dst) d s o m next = explained_negate width dst d s o m next
explained (MoveSigned extension dst src) d s o m next = explained_move extension dst src d s o m next
explained (ByteSwap swap bits dst) d s o m next = explained_swap swap bits dst d s o m next
explained (Load size dst place) d s o m next = explained_load size dst place d s o m next
explained (Store size place (Immediate value)) d s o m next = explained_store_k size place value d s o m next
explained (Store size place (FromRegister src)) d s o m next = explained_store_x size place src d s o m next
explained (Jump comparison offset) d s o m next =
    explained_jump comparison.condition comparison.width comparison.dst comparison.src offset d s o m next
explained (Goto (Short offset)) d s o m next = refl
explained (Goto (Long distance)) d s o m next = refl
explained (Wide dst value) d s o m next = explained_wide (Wide dst value) d s o m next refl refl refl
explained (LoadMap dst index) d s o m next = explained_wide (LoadMap dst index) d s o m next refl refl refl
explained (LoadAddress dst address) d s o m next = explained_wide (LoadAddress dst address) d s o m next refl refl refl
explained (Call callee number) d s o m next = selected (Call callee number) d s next (callee_of s) _ refl
explained Exit d s o m next = refl

-- ---- each opcode is an instruction's, or a fault

abbrev pub all_below : ℕ → (ℕ → Bool) → Bool
all_below zero p = true
all_below (suc n) p = p n && all_below n p

one_of : (a b : Bool) → (a || b) ≡ true → (a ≡ true) ⊎ (b ≡ true)
one_of true b h = inl refl
one_of false b h = inr h

negated : (a : Bool) → not a ≡ true → a ≡ false
negated true h = cc
negated false h = refl

all_below_at : (k : ℕ) (p : ℕ → Bool) (n : ℕ) → n < k → all_below k p ≡ true → p n ≡ true
all_below_at zero p n h all = absurd (omega arith)
all_below_at (suc k) p n h all =
    let here : p k ≡ true = (and_parts (p k) (all_below k p) all).0 in
    by_test (nat_eq n k) refl here (λ below. all_below_at k p n below (and_parts (p k) (all_below k p) all).1)
  where
    by_test : (b : Bool) → nat_eq n k ≡ b → p k ≡ true → (n < k → p n ≡ true) → p n ≡ true
    by_test true e here below = let same : n ≡ k = grind (arith, nat_tests) in rw same here
    by_test false e here below = let other : n ≢ k = grind (arith, nat_tests) in below (omega arith)

-- an instruction with the opcode, if there is one
abbrev pub insn_in : Result Insn BadInsn → Insn
insn_in (Ok i) = i
insn_in (Err e) = Exit

abbrev pub sample : ℕ → Insn
sample n = insn_in (meant_of (fields n 0 0 (pos 0) (pos 16)) (Some (fields 0 0 0 (pos 0) (pos 0))))

abbrev pub is_opcode_fault : Result Insn BadInsn → Bool
is_opcode_fault (Err faults.Opcode) = true
is_opcode_fault (Err faults.Register) = false
is_opcode_fault (Err faults.Unused) = false
is_opcode_fault (Err faults.Half) = false
is_opcode_fault (Ok i) = false

abbrev pub settled : (d s : ℕ) (o m : ℤ) (next : Option Fields) → ℕ → Bool
settled d s o m next n = nat_eq (opcode_of (sample n)) n || is_opcode_fault (meant_of (fields n d s o m) next)

all_settled : (d s : ℕ) (o m : ℤ) (next : Option Fields) → all_below 256 (settled d s o m next) ≡ true
unfolding meant_of wide_of pair_of load_of store_of arithmetic_of negation_of byte_swap_of two_operands_of move_of jump_of call_of branch_of
all_settled d s o m next = refl

-- ---- what a fault says

came_from : (f : Fields) (g : Option Fields) (e : BadInsn) → reading_of f g ≡ Err e → (meant_of f g ≡ Err e) ⊎ ((x : Insn) × (meant_of f g ≡ Ok x) × (e ≡ faults.Unused))
unfolding reading_of
came_from f g e h = by_meant (meant_of f g) h
  where
    by_meant : (r : Result Insn BadInsn) → (r >>= (λ insn. if has_fields insn f g then Ok insn else Err faults.Unused)) ≡ Err e → (r ≡ Err e) ⊎ ((x : Insn) × (r ≡ Ok x) × (e ≡ faults.Unused))
    by_meant (Err e') h = inl h
    by_meant (Ok x) h = inr (x, refl, by_test (has_fields x f g) h)
      where
        by_test : (b : Bool) → (if b then Ok x else Err faults.Unused) ≡ Err e → e ≡ faults.Unused
        by_test true h = cc
        by_test false h = cc

pub is_some-fields : (next : Option (List ℕ)) → is_some (option_map fields_in next) ≡ is_some next
is_some-fields None = refl
is_some-fields (Some x) = refl

numbers_same : (m n : ℕ) → nat_eq m n ≡ true → m ≡ n
numbers_same m n h = grind (arith, nat_tests)

-- some instruction has the opcode, and the answer fits it
abbrev pub HasInsn : (n d s : ℕ) → Option Fields → Result Insn BadInsn → Type 0
HasInsn n d s g r = (i : Insn) × (opcode_of i ≡ n) × (explains i d s g r ≡ true)

known : (n d s : ℕ) (o m : ℤ) (g : Option Fields) → n < 256 → HasInsn n d s g (meant_of (fields n d s o m) g) ⊎ (is_opcode_fault (meant_of (fields n d s o m) g) ≡ true)
known n d s o m g h = by_table (one_of _ _ (all_below_at 256 (settled d s o m g) n h (all_settled d s o m g)))
  where
    by_table : (nat_eq (opcode_of (sample n)) n ≡ true) ⊎ (is_opcode_fault (meant_of (fields n d s o m) g) ≡ true) → HasInsn n d s g (meant_of (fields n d s o m) g) ⊎ (is_opcode_fault (meant_of (fields n d s o m) g) ≡ true)
    by_table (inl e) =
        let same : opcode_of (sample n) ≡ n = numbers_same (opcode_of (sample n)) n e in
        inl (sample n, same, subst (λ (k : ℕ). explains (sample n) d s g (meant_of (fields k d s o m) g) ≡ true) same (explained (sample n) d s o m g))
    by_table (inr e) = inr e

unused_fault : (bytes : List ℕ) (next : Option (List ℕ)) (i : Insn) → opcode_of i ≡ slice_index bytes 0 → is_fine i (slice_index bytes 1 % 16) (slice_index bytes 1 / 16) (option_map fields_in next) ≡ true → ((spelled : Insn) → Spells bytes next spelled → ⊥) → IsFault bytes next faults.Unused
unused_fault bytes next i same fine none =
    let h = and_parts _ _ fine in
    (i, same, negated _ h.0, λ two. second (second_immediate i) two h.1, none)
  where
    second : (z : Option ℤ) → is_some z ≡ true → (not (is_some z) || is_some (option_map fields_in next)) ≡ true → is_some next ≡ true
    second None two h = cc
    second (Some z) two h = sym (is_some-fields next) ∙ h

no_next : (next : Option (List ℕ)) → not (is_some (option_map fields_in next)) ≡ true → next ≡ None
no_next None h = refl
no_next (Some x) h = cc

half_fault : (bytes : List ℕ) (next : Option (List ℕ)) (i : Insn) → opcode_of i ≡ slice_index bytes 0 → explains i (slice_index bytes 1 % 16) (slice_index bytes 1 / 16) (option_map fields_in next) (Err faults.Half) ≡ true → IsFault bytes next faults.Half
half_fault bytes next i same fits =
    let h = and_parts _ _ fits in
    let k = and_parts _ _ h.0 in
    (i, same, negated _ k.0, k.1, no_next next h.1)

-- how a fault came from what the used fields mean
abbrev pub Came : Result Insn BadInsn → BadInsn → Type 0
Came r e = (r ≡ Err e) ⊎ ((x : Insn) × (r ≡ Ok x) × (e ≡ faults.Unused))

explain : (bytes : List ℕ) (next : Option (List ℕ)) (e : BadInsn) (r : Result Insn BadInsn) → r ≡ meant_of (fields_in bytes) (option_map fields_in next) → Came r e → HasInsn (slice_index bytes 0) (slice_index bytes 1 % 16) (slice_index bytes 1 / 16) (option_map fields_in next) r ⊎ (is_opcode_fault r ≡ true) → ((spelled : Insn) → Spells bytes next spelled → ⊥) → IsFault bytes next e
explain bytes next faults.Opcode r is_r (inl m) known none = λ i same.
    let fits = subst (λ (k : ℕ). explains i (slice_index bytes 1 % 16) (slice_index bytes 1 / 16) (option_map fields_in next) (meant_of (fields k (slice_index bytes 1 % 16) (slice_index bytes 1 / 16) (fields_in bytes).offset (fields_in bytes).immediate) (option_map fields_in next)) ≡ true) same
    (explained i (slice_index bytes 1 % 16) (slice_index bytes 1 / 16) (fields_in bytes).offset (fields_in bytes).immediate (option_map fields_in next)) in
    let at : explains i (slice_index bytes 1 % 16) (slice_index bytes 1 / 16) (option_map fields_in next) r ≡ true = rw is_r fits in
    let never : false ≡ true = rw m at at in
    cc
explain bytes next faults.Register r is_r (inl m) (inl h) none = (h.0, h.1, rw m at h.2)
explain bytes next faults.Half r is_r (inl m) (inl h) none = half_fault bytes next h.0 h.1 (rw m at h.2)
explain bytes next faults.Unused r is_r (inl m) (inl h) none = unused_fault bytes next h.0 h.1 (rw m at h.2) none
explain bytes next faults.Unused r is_r (inr c) (inl h) none = unused_fault bytes next h.0 h.1 (rw c.1 at h.2) none
explain bytes next faults.Register r is_r (inl m) (inr h) none = let never : false ≡ true = rw m at h in cc
explain bytes next faults.Half r is_r (inl m) (inr h) none = let never : false ≡ true = rw m at h in cc
explain bytes next faults.Unused r is_r (inl m) (inr h) none = let never : false ≡ true = rw m at h in cc
explain bytes next faults.Unused r is_r (inr c) (inr h) none = let never : false ≡ true = rw c.1 at h in cc
explain bytes next faults.Opcode r is_r (inr c) known none = let never : faults.Opcode ≡ faults.Unused = c.2 in cc
explain bytes next faults.Register r is_r (inr c) known none = let never : faults.Register ≡ faults.Unused = c.2 in cc
explain bytes next faults.Half r is_r (inr c) known none = let never : faults.Half ≡ faults.Unused = c.2 in cc

fault_of : (bytes : List ℕ) (next : Option (List ℕ)) (r : Result Insn BadInsn) → r ≡ reading_of (fields_in bytes) (option_map fields_in next) → slice_index bytes 0 < 256 → ((i : Insn) → Spells bytes next i → r ≡ Ok i) → IfErr r (IsFault bytes next)
fault_of bytes next (Ok i) value opcode only = tt
fault_of bytes next (Err e) value opcode only =
    explain bytes next e (meant_of (fields_in bytes) (option_map fields_in next)) refl
    (came_from (fields_in bytes) (option_map fields_in next) e (sym value))
    (known (slice_index bytes 0) (slice_index bytes 1 % 16) (slice_index bytes 1 / 16) (fields_in bytes).offset (fields_in bytes).immediate (option_map fields_in next) opcode)
    (λ i s. let never : Err e ≡ Ok i = only i s in cc)

-- the fault of bytes that are read as fields
pub fault_explained : (bytes : List ℕ) (next : Option (List ℕ)) (f : Fields) (r : Result Insn BadInsn) → r ≡ reading_of f (option_map fields_in next) → f ≡ fields_in bytes → slice_index bytes 0 < 256 → ((i : Insn) → Spells bytes next i → r ≡ Ok i) → IfErr r (IsFault bytes next)
fault_explained bytes next f r value first opcode only =
    fault_of bytes next r (value ∙ ap (λ (x : Fields). reading_of x (option_map fields_in next)) first) opcode only

-- the fault of bytes that are read
pub fault_read : (bytes : List ℕ) (next : Option (List ℕ)) (e : BadInsn) → slice_index bytes 0 < 256 → insn_reading bytes next ≡ Err e → IsFault bytes next e
unfolding insn_reading
fault_read bytes next e opcode read =
    fault_of bytes next (Err e) (sym read) opcode (λ i s. sym read ∙ insn_reading-spelled bytes next i s)
