-- A mnemonic and operands write one instruction.
use Rattle.std.proofs.Common.{◌≡◌, ℕ, ℤ, pos, List, [], refl, sym, ap, ◌∙◌, subst}
use Rattle.std.specs.Prelude.{Option, FitsSigned, Ok}
use Rattle.std.specs.Int.{w16, w32}
use Rattle.std.specs.declared.result.Result.{Result}
use Rattle.bpf_parts.specs.declared.operation.Operand.{Operand}
use Rattle.bpf_parts.specs.declared.operation.Operand.TheVariants.{FromRegister, Immediate}
use Rattle.bpf_parts.specs.declared.memory.MemoryOperand.{MemoryOperand}
use Rattle.bpf_parts.specs.declared.address.Address.{Address}
use Rattle.bpf_parts.specs.declared.distance.Distance.TheVariants.{Short, Long}
use Rattle.bpf_insn.specs.declared.insn.Insn.{Insn}
use Rattle.bpf_insn.specs.declared.insn.Insn.TheVariants.{Alu, Negate, MoveSigned, ByteSwap, Load, Store, Jump, Goto, Wide, LoadMap, LoadAddress, Call, Exit}
use Rattle.bpf_parts.specs.Codes.{address_subtype, address_first, address_second}
use Rattle.bpf_insn.specs.Text.{insn_name}
use Rattle.basm_lex.specs.Numbers.{WritesNumber, WritesWide}
use Rattle.basm_lex.specs.Operands.{WritesMemoryOperand, WritesRegister}
use Rattle.basm_lex.specs.declared.mnemonics.Mnemonic.{Mnemonic}
use Rattle.basm_lex.specs.declared.mnemonics.Mnemonic.TheVariants.{Arithmetic, Negation, SignedMove, Swapping, Loading, Storing, StoringRegister, Jumping, ShortGoto, LongGoto, WideLoad, MapLoad, AddressLoad, Calling, Exiting}
use Rattle.basm_lex.specs.Mnemonics.{mnemonic_word}
use Rattle.basm.specs.Relation.{Four, One, Three, Two, WritesInsn, WritesOperand, WritesOperands, WritesTarget}

abbrev pub mnemonic_of : Insn → Mnemonic
mnemonic_of (Alu op width dst src) = Arithmetic op width
mnemonic_of (Negate width dst) = Negation width
mnemonic_of (MoveSigned extension dst src) = SignedMove extension
mnemonic_of (ByteSwap swap bits dst) = Swapping swap bits
mnemonic_of (Load size dst place) = Loading size
mnemonic_of (Store size place (Immediate value)) = Storing size
mnemonic_of (Store size place (FromRegister src)) = StoringRegister size
mnemonic_of (Jump comparison offset) = Jumping comparison.condition comparison.width
mnemonic_of (Goto (Short offset)) = ShortGoto
mnemonic_of (Goto (Long slots)) = LongGoto
mnemonic_of (Wide dst value) = WideLoad
mnemonic_of (LoadMap dst index) = MapLoad
mnemonic_of (LoadAddress dst address) = AddressLoad
mnemonic_of (Call callee number) = Calling callee
mnemonic_of Exit = Exiting

pub insn_named : (insn : Insn) → insn_name insn ≡ mnemonic_word (mnemonic_of insn)
insn_named (Alu op width dst src) = refl
insn_named (Negate width dst) = refl
insn_named (MoveSigned extension dst src) = refl
insn_named (ByteSwap swap bits dst) = refl
insn_named (Load size dst place) = refl
insn_named (Store size place (Immediate value)) = refl
insn_named (Store size place (FromRegister src)) = refl
insn_named (Jump comparison offset) = refl
insn_named (Goto (Short offset)) = refl
insn_named (Goto (Long slots)) = refl
insn_named (Wide dst value) = refl
insn_named (LoadMap dst index) = refl
insn_named (LoadAddress dst address) = refl
insn_named (Call callee number) = refl
insn_named Exit = refl

module _ {E : Type 0} (names : List ℕ → Option ℕ) (slot : ℕ) (xs : List (List ℕ)) (r : Result Insn E) (apart : (m n : Mnemonic) → mnemonic_word m ≡ mnemonic_word n → m ≡ n) where
  -- the operands are read if the mnemonic is known
  abbrev pub Reads : Mnemonic → Type 0
  Reads (Arithmetic op width) = (dst : ℕ) (src : Operand) → Two xs (λ a. WritesRegister a dst) (λ b. WritesOperand b src) → r ≡ Ok (Alu op width dst src)
  Reads (Negation width) = (dst : ℕ) → One xs (λ a. WritesRegister a dst) → r ≡ Ok (Negate width dst)
  Reads (SignedMove extension) = (dst src : ℕ) → Two xs (λ a. WritesRegister a dst) (λ b. WritesRegister b src) → r ≡ Ok (MoveSigned extension dst src)
  Reads (Swapping swap bits) = (dst : ℕ) → One xs (λ a. WritesRegister a dst) → r ≡ Ok (ByteSwap swap bits dst)
  Reads (Loading size) = (dst : ℕ) (place : MemoryOperand) → Two xs (λ a. WritesRegister a dst) (λ b. WritesMemoryOperand b place) → r ≡ Ok (Load size dst place)
  Reads (Storing size) = (place : MemoryOperand) (value : ℤ) → Two xs (λ a. WritesMemoryOperand a place) (λ b. WritesNumber b value) → r ≡ Ok (Store size place (Immediate value))
  Reads (StoringRegister size) = (place : MemoryOperand) (src : ℕ) → Two xs (λ a. WritesMemoryOperand a place) (λ b. WritesRegister b src) → r ≡ Ok (Store size place (FromRegister src))
  Reads (Jumping condition width) = (dst : ℕ) (src : Operand) (offset : ℤ) → Three xs (λ a. WritesRegister a dst) (λ b. WritesOperand b src) (λ c. WritesTarget names slot c offset × FitsSigned w16 offset) → r ≡ Ok (Jump (record { condition = condition; width = width; dst = dst; src = src }) offset)
  Reads ShortGoto = (offset : ℤ) → One xs (λ a. WritesTarget names slot a offset × FitsSigned w16 offset) → r ≡ Ok (Goto (Short offset))
  Reads LongGoto = (slots : ℤ) → One xs (λ a. WritesTarget names slot a slots × FitsSigned w32 slots) → r ≡ Ok (Goto (Long slots))
  Reads WideLoad = (dst value : ℕ) → Two xs (λ a. WritesRegister a dst) (λ b. WritesWide b value) → r ≡ Ok (Wide dst value)
  Reads MapLoad = (dst : ℕ) (index : ℤ) → Two xs (λ a. WritesRegister a dst) (λ b. WritesNumber b index) → r ≡ Ok (LoadMap dst index)
  Reads AddressLoad = (dst : ℕ) (address : Address) → Four xs (λ a. WritesNumber a (pos (address_subtype address))) (λ b. WritesRegister b dst) (λ c. WritesNumber c (address_first address)) (λ d. WritesNumber d (address_second address)) → r ≡ Ok (LoadAddress dst address)
  Reads (Calling callee) = (number : ℤ) → One xs (λ a. WritesNumber a number) → r ≡ Ok (Call callee number)
  Reads Exiting = xs ≡ [] → r ≡ Ok Exit

  reads : (insn : Insn) → Reads (mnemonic_of insn) → WritesOperands names slot xs insn → r ≡ Ok insn
  reads (Alu op width dst src) read w = read dst src w
  reads (Negate width dst) read w = read dst w
  reads (MoveSigned extension dst src) read w = read dst src w
  reads (ByteSwap swap bits dst) read w = read dst w
  reads (Load size dst place) read w = read dst place w
  reads (Store size place (Immediate value)) read w = read place value w
  reads (Store size place (FromRegister src)) read w = read place src w
  reads (Jump comparison offset) read w = read comparison.dst comparison.src offset w
  reads (Goto (Short offset)) read w = read offset w
  reads (Goto (Long slots)) read w = read slots w
  reads (Wide dst value) read w = read dst value w
  reads (LoadMap dst index) read w = read dst index w
  reads (LoadAddress dst address) read w = read dst address w
  reads (Call callee number) read w = read number w
  reads Exit read w = read w

  pub insn_read : (found m : Mnemonic) → found ≡ m → Reads m → (insn : Insn) → WritesInsn names slot (mnemonic_word found) xs insn → r ≡ Ok insn
  insn_read found m same read insn w =
      reads insn (subst Reads (apart m (mnemonic_of insn) (ap mnemonic_word (sym same) ∙ w.name ∙ insn_named insn)) read) w.operands
