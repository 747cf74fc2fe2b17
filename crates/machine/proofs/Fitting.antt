-- Every number on a path fits: words in the registers, bytes in the stack.
use Rattle.std.proofs.Common.{lit<, ◌≡◌, ℕ, zero, suc, ◌+◌, ◌-◌, ◌*◌, ◌/◌, ◌%◌, ◌^◌, ◌<◌, subst, arith, eqb, nat_lt, nat_le, Bool, true, false, ◌&&◌, cond, ℤ, pos, negsuc, ◌+ℤ◌, List, [], ◌∷◌, slice_get, slice_index_or, All, Option, Some, None, is_some}
use Rattle.std.proofs.Math.Nat.{pow-succ'}
use Rattle.std.proofs.lemmas.Nat.{mod_below}
use Rattle.std.specs.Int.{w8, w16, w32, w64, cast_signed, swap_bytes}
use Rattle.bpf_parts.specs.declared.operation.Width.{Width}
use Rattle.bpf_parts.specs.declared.operation.Width.TheVariants.{Bits32, Bits64}
use Rattle.bpf_parts.specs.declared.operation.AluOp.{AluOp}
use Rattle.bpf_parts.specs.declared.operation.AluOp.TheVariants.{Add, Sub, Mul, Div, SignedDiv, Or, And, Lsh, Rsh, Mod, SignedMod, Xor, Mov, Arsh}
use Rattle.bpf_parts.specs.declared.operation.Extension.{Extension}
use Rattle.bpf_parts.specs.declared.operation.Extension.TheVariants.{ByteTo32, HalfTo32, ByteTo64, HalfTo64, WordTo64}
use Rattle.bpf_parts.specs.declared.operation.Swap.{Swap}
use Rattle.bpf_parts.specs.declared.operation.Swap.TheVariants.{ToLittle, ToBig, Reverse}
use Rattle.bpf_parts.specs.declared.operation.SwapBits.{SwapBits}
use Rattle.bpf_parts.specs.declared.operation.SwapBits.TheVariants.{Swap16, Swap32, Swap64}
use Rattle.bpf_parts.specs.declared.operation.Operand.{Operand}
use Rattle.bpf_parts.specs.declared.operation.Operand.TheVariants.{FromRegister, Immediate}
use Rattle.bpf_parts.specs.declared.memory.LoadSize.{LoadSize}
use Rattle.bpf_parts.specs.declared.memory.LoadSize.TheVariants.{LoadByte, LoadHalf, LoadWord, LoadDouble, SignedByte, SignedHalf, SignedWord}
use Rattle.bpf.specs.declared.version.Version.{Version}
use Rattle.bpf_insn.specs.declared.insn.Insn.{Insn}
use Rattle.bpf_insn.specs.declared.insn.Insn.TheVariants as insns
use Rattle.bpf_insn.specs.Flow.{flow_of}
use Rattle.bpf_insn.specs.Spelling.{IsInsn, second_immediate}
use Rattle.bpf.specs.Program.{Program, IsProgram, AreSlots}
use Rattle.machine.specs.declared.calls.Call.{Call}
use Rattle.machine.specs.declared.regions.Region.{Region}
use Rattle.machine.specs.declared.regions.Region.TheVariants.{Front, Tail, Stack}
use Rattle.machine.specs.declared.values.Value.{Value}
use Rattle.machine.specs.declared.values.Value.TheVariants.{Unset, Num, Ptr, Map}
use Rattle.machine.specs.Words.{modulus, low_part, word, alu_words, negation, sign_extension, swapped_bytes}
use Rattle.bpf_parts.specs.Sizes.{load_bytes}
use Rattle.machine.specs.Memory.{Header, IsProgramHeader, region_place_of, byte_of, byte_after, byte_below, little_endian, loaded_value}
use Rattle.machine.specs.State.{State, state, entry_state}
use Rattle.machine.specs.Step.{Outcome, Next, Ask, Verdict, Trap, operand, number_result, copied_value, moved_value, moved_pointer, alu, writes, load_value, region_bytes_at, loads, map_at, after_answer, exits, perform, knows_flow, perform_in, insn_at, step}
use Rattle.machine.specs.Runs.{Path, entry, moves, Runs}
use Rattle.machine.specs.Runs as runs
use Rattle.machine.specs.Laws.{FitsWord, FitsByte, IsBounded}
use Rattle.machine.proofs.Outcomes.{unless, where_so, lands_so, compares_so, stores_so, calls_so}
use Rattle.machine.proofs.Results.{results_small, residue_small}

-- ---- values

-- what an instruction writes, if it does not trap
abbrev FitsResult : Option Value → Type 0
FitsResult None = Unit {0}
FitsResult (Some value) = FitsWord value

modulus_most : (width : Width) (n : ℕ) → n < modulus width → n < 2 ^ 64
modulus_most Bits32 n h = omega arith
modulus_most Bits64 n h = h

word_fits : (z : ℤ) → word z < 2 ^ 64
word_fits z = residue_small (2 ^ 64) z (lit< tt)

low_fits : (width : Width) (n : ℕ) → n < 2 ^ 64 → low_part width n < 2 ^ 64
low_fits Bits32 n h = let small : n % 2 ^ 32 < 2 ^ 32 = mod_below n (2 ^ 32) (lit< tt) in omega arith
low_fits Bits64 n h = h

copied_fits : (width : Width) (v : Value) → FitsWord v → FitsResult (copied_value width v)
copied_fits width Unset h = tt
copied_fits width (Num n) h = low_fits width n h
copied_fits Bits32 (Ptr region offset) h = tt
copied_fits Bits64 (Ptr region offset) h = tt
copied_fits Bits32 (Map index) h = tt
copied_fits Bits64 (Map index) h = tt

copied_by_fits : (op : AluOp) (width : Width) (v : Value) → FitsWord v → FitsResult (moved_value op width v)
copied_by_fits Add width v h = tt
copied_by_fits Sub width v h = tt
copied_by_fits Mul width v h = tt
copied_by_fits Div width v h = tt
copied_by_fits SignedDiv width v h = tt
copied_by_fits Or width v h = tt
copied_by_fits And width v h = tt
copied_by_fits Lsh width v h = tt
copied_by_fits Rsh width v h = tt
copied_by_fits Mod width v h = tt
copied_by_fits SignedMod width v h = tt
copied_by_fits Xor width v h = tt
copied_by_fits Mov width v h = copied_fits width v h
copied_by_fits Arsh width v h = tt

moved_by_fits : (op : AluOp) (region : Region) (offset : ℤ) (n : ℕ) → n < 2 ^ 64 → FitsResult (moved_pointer op region offset n)
moved_by_fits Add region offset n h = tt
moved_by_fits Sub region offset n h = tt
moved_by_fits Mul region offset n h = tt
moved_by_fits Div region offset n h = tt
moved_by_fits SignedDiv region offset n h = tt
moved_by_fits Or region offset n h = tt
moved_by_fits And region offset n h = tt
moved_by_fits Lsh region offset n h = tt
moved_by_fits Rsh region offset n h = tt
moved_by_fits Mod region offset n h = tt
moved_by_fits SignedMod region offset n h = tt
moved_by_fits Xor region offset n h = tt
moved_by_fits Mov region offset n h = h
moved_by_fits Arsh region offset n h = tt

alu_fits : (op : AluOp) (width : Width) (a b : Value) → FitsWord a → FitsWord b → FitsResult (alu op width a b)
alu_fits op width (Num a) (Num b) h k = modulus_most width (alu_words op width a b) (results_small op width a b h k)
alu_fits op width (Num a) Unset h k = tt
alu_fits op width (Num a) (Ptr region offset) h k = copied_by_fits op width (Ptr region offset) tt
alu_fits op width (Num a) (Map index) h k = copied_by_fits op width (Map index) tt
alu_fits op Bits64 (Ptr region offset) (Num n) h k = moved_by_fits op region offset n k
alu_fits op Bits32 (Ptr region offset) (Num n) h k = copied_by_fits op Bits32 (Num n) k
alu_fits op width (Ptr region offset) Unset h k = tt
alu_fits op width (Ptr region offset) (Ptr other at_offset) h k = copied_by_fits op width (Ptr other at_offset) tt
alu_fits op width (Ptr region offset) (Map index) h k = copied_by_fits op width (Map index) tt
alu_fits op width Unset value h k = copied_by_fits op width value k
alu_fits op width (Map index) value h k = copied_by_fits op width value k

on_number_fits : (f : ℕ → ℕ) → ((n : ℕ) → n < 2 ^ 64 → f n < 2 ^ 64) → (v : Value) → FitsWord v → FitsResult (number_result f v)
on_number_fits f g Unset h = tt
on_number_fits f g (Num n) h = g n h
on_number_fits f g (Ptr region offset) h = tt
on_number_fits f g (Map index) h = tt

negated_fits : (width : Width) (n : ℕ) → n < 2 ^ 64 → negation width n < 2 ^ 64
negated_fits Bits32 n h = modulus_most Bits32 _ (mod_below (2 ^ 32 - n % 2 ^ 32) (2 ^ 32) (lit< tt))
negated_fits Bits64 n h = mod_below (2 ^ 64 - n) (2 ^ 64) (lit< tt)

extended_fits : (extension : Extension) (n : ℕ) → n < 2 ^ 64 → sign_extension extension n < 2 ^ 64
extended_fits ByteTo32 n h = modulus_most Bits32 _ (residue_small (2 ^ 32) (cast_signed w8 (n % 2 ^ 8)) (lit< tt))
extended_fits HalfTo32 n h = modulus_most Bits32 _ (residue_small (2 ^ 32) (cast_signed w16 (n % 2 ^ 16)) (lit< tt))
extended_fits ByteTo64 n h = word_fits (cast_signed w8 (n % 2 ^ 8))
extended_fits HalfTo64 n h = word_fits (cast_signed w16 (n % 2 ^ 16))
extended_fits WordTo64 n h = word_fits (cast_signed w32 (n % 2 ^ 32))

swap_16_fits : (n : ℕ) → swap_bytes w16 n < 2 ^ 64
swap_16_fits n = omega arith

swap_32_fits : (n : ℕ) → swap_bytes w32 n < 2 ^ 64
swap_32_fits n = omega arith

swap_64_fits : (n : ℕ) → swap_bytes w64 n < 2 ^ 64
swap_64_fits n = omega arith

swapped_fits : (swap : Swap) (bits : SwapBits) (n : ℕ) → n < 2 ^ 64 → swapped_bytes swap bits n < 2 ^ 64
swapped_fits ToLittle Swap16 n h = omega arith
swapped_fits ToLittle Swap32 n h = omega arith
swapped_fits ToLittle Swap64 n h = h
swapped_fits ToBig Swap16 n h = swap_16_fits (n % 2 ^ 16)
swapped_fits ToBig Swap32 n h = swap_32_fits (n % 2 ^ 32)
swapped_fits ToBig Swap64 n h = swap_64_fits n
swapped_fits Reverse Swap16 n h = swap_16_fits (n % 2 ^ 16)
swapped_fits Reverse Swap32 n h = swap_32_fits (n % 2 ^ 32)
swapped_fits Reverse Swap64 n h = swap_64_fits n

either_fits : (b : Bool) (x y : Value) → FitsWord x → FitsWord y → FitsWord (cond b x y)
either_fits true x y h k = h
either_fits false x y h k = k

-- ---- memory

-- a number below a limit, if there is one
abbrev IsBelow : (limit : ℕ) → Option ℕ → Type 0
IsBelow limit None = Unit {0}
IsBelow limit (Some n) = n < limit

byte_below_fits : (n : ℕ) (byte rest : Option ℕ) → FitsByte byte → IsBelow (256 ^ n) rest → IsBelow (256 ^ (suc n)) (byte_below byte rest)
byte_below_fits n None rest g h = tt
byte_below_fits n (Some b) None g h = tt
byte_below_fits n (Some b) (Some r) g h = let e : 256 ^ (suc n) ≡ 256 * 256 ^ n = pow-succ' 256 n in rw e (omega arith)

little_fits : (byte : ℕ → Option ℕ) → ((place : ℕ) → FitsByte (byte place)) → (bytes place : ℕ) → IsBelow (256 ^ bytes) (little_endian byte bytes place)
unfolding little_endian
little_fits byte all zero place = lit< tt
little_fits byte all (suc bytes) place =
    byte_below_fits bytes (byte place) (little_endian byte bytes (suc place)) (all place) (little_fits byte all bytes (suc place))

byte_in : (bytes : List ℕ) (place : ℕ) → All (λ b. b < 256) bytes → FitsByte (slice_get bytes place)
byte_in [] place all = tt
byte_in (b ∷ bytes) zero all = all 0 0 (omega arith)
byte_in (b ∷ bytes) (suc place) all = byte_in bytes place (λ k d l. all (suc k) d (omega arith))

loaded_fits : (size : LoadSize) (n : ℕ) → n < 256 ^ load_bytes size → loaded_value size n < 2 ^ 64
loaded_fits LoadByte n h = omega arith
loaded_fits LoadHalf n h = omega arith
loaded_fits LoadWord n h = omega arith
loaded_fits LoadDouble n h = omega arith
loaded_fits SignedByte n h = word_fits (cast_signed w8 n)
loaded_fits SignedHalf n h = word_fits (cast_signed w16 n)
loaded_fits SignedWord n h = word_fits (cast_signed w32 n)

load_value_fits : (size : LoadSize) (n : Option ℕ) → IsBelow (256 ^ load_bytes size) n → FitsResult (load_value size n)
load_value_fits size None h = tt
load_value_fits size (Some n) h = loaded_fits size n h

either_byte : (b : Bool) (x y : Option ℕ) → FitsByte x → FitsByte y → FitsByte (cond b x y)
either_byte true x y h k = h
either_byte false x y h k = k

-- ---- steps

-- the state after an outcome is bounded, whatever word is answered, or its verdict is a word
abbrev IsBoundedAfter : Outcome → Type 0
IsBoundedAfter (Next t) = IsBounded t
IsBoundedAfter (Ask question on) = (answer : ℕ) → answer < 2 ^ 64 → IsBounded (on answer)
IsBoundedAfter (Verdict verdict) = verdict < 2 ^ 64
IsBoundedAfter Trap = Unit {0}

module _ (header : Header) (s : State) (is_header : IsProgramHeader header) (bounded : IsBounded s) where
  writes_fit : (next register : ℕ) (v : Option Value) → FitsResult v → IsBoundedAfter (writes s next register v)
  writes_fit next register None h = tt
  writes_fit next register (Some v) h =
      unless IsBoundedAfter tt (eqb register 10) (Next _)
      (record { registers = λ k. either_fits (eqb k register) v (s.registers k) h (bounded.registers k); bytes = bounded.bytes })

  operand_fits : (src : Operand) → FitsWord (operand s src)
  operand_fits (FromRegister register) = bounded.registers register
  operand_fits (Immediate value) = word_fits value

  byte_of_fits : (region : Region) (place : ℕ) → FitsByte (byte_of header s.stack region place)
  byte_of_fits Front place = byte_in header.front place is_header.front_bytes
  byte_of_fits Tail place = byte_in header.tail place is_header.tail_bytes
  byte_of_fits Stack place = bounded.bytes place

  bytes_fit : (region : Region) (bytes : ℕ) (place : Option ℕ) → IsBelow (256 ^ bytes) (region_bytes_at header s.stack region bytes place)
  bytes_fit region bytes None = tt
  bytes_fit region bytes (Some place) = little_fits (byte_of header s.stack region) (byte_of_fits region) bytes place

  loads_fit : (size : LoadSize) (base : Value) (offset : ℤ) → FitsResult (loads header s size base offset)
  loads_fit size Unset offset = tt
  loads_fit size (Num n) offset = tt
  loads_fit size (Ptr region start) offset =
      load_value_fits size _ (bytes_fit region (load_bytes size) (region_place_of region (load_bytes size) (start +ℤ offset)))
  loads_fit size (Map index) offset = tt

  moves_fit : (slot : ℕ) → IsBoundedAfter (Next (state slot s.registers s.stack))
  moves_fit slot = record { registers = bounded.registers; bytes = bounded.bytes }

  stored_fits : (bytes start n : ℕ) → IsBoundedAfter (Next (state (s.slot + 1) s.registers (byte_after s.stack bytes start n)))
  stored_fits bytes start n =
      record {
        registers = bounded.registers;
        bytes = λ place. either_byte (nat_le start place && nat_lt place (start + bytes)) (Some (n / 256 ^ (place - start) % 256)) (s.stack place) (mod_below (n / 256 ^ (place - start)) 256 (lit< tt)) (bounded.bytes place);
      }

  map_at_fits : (index : ℤ) → FitsResult (map_at index)
  map_at_fits (pos index) = tt
  map_at_fits (negsuc n) = tt

  answered_fits : (answer : ℕ) → answer < 2 ^ 64 → IsBounded (after_answer s answer)
  answered_fits answer h =
      record {
        registers = λ k.
            either_fits (eqb k 0) (Num answer) _ h
            (either_fits (eqb k 1) Unset _ tt
            (either_fits (eqb k 2) Unset _ tt
            (either_fits (eqb k 3) Unset _ tt
            (either_fits (eqb k 4) Unset _ tt
            (either_fits (eqb k 5) Unset (s.registers k) tt (bounded.registers k))))));
        bytes = bounded.bytes;
      }

  exits_fit : (v : Value) → FitsWord v → IsBoundedAfter (exits v)
  exits_fit Unset h = tt
  exits_fit (Num verdict) h = h
  exits_fit (Ptr region start) h = tt
  exits_fit (Map index) h = tt

  perform_fits : (insn : Insn) → IsInsn insn → IsBoundedAfter (perform header s insn)
  perform_fits (insns.Alu op width dst src) i = writes_fit _ dst _ (alu_fits op width (s.registers dst) (operand s src) (bounded.registers dst) (operand_fits src))
  perform_fits (insns.Negate width dst) i = writes_fit _ dst _ (on_number_fits (negation width) (negated_fits width) (s.registers dst) (bounded.registers dst))
  perform_fits (insns.MoveSigned extension dst src) i = writes_fit _ dst _ (on_number_fits (sign_extension extension) (extended_fits extension) (s.registers src) (bounded.registers src))
  perform_fits (insns.ByteSwap swap bits dst) i = writes_fit _ dst _ (on_number_fits (swapped_bytes swap bits) (swapped_fits swap bits) (s.registers dst) (bounded.registers dst))
  perform_fits (insns.Load size dst place) i = writes_fit _ dst _ (loads_fit size (s.registers place.base) place.offset)
  perform_fits (insns.Store size place src) i = stores_so IsBoundedAfter tt s stored_fits size (s.registers place.base) place.offset (operand s src)
  perform_fits (insns.Jump comparison offset) i = compares_so IsBoundedAfter tt s moves_fit comparison.condition comparison.width offset (s.registers comparison.dst) (operand s comparison.src)
  perform_fits (insns.Goto distance) i = lands_so IsBoundedAfter tt s moves_fit _
  perform_fits (insns.Wide dst value) i = writes_fit (s.slot + 2) dst (Some (Num value)) i.1
  perform_fits (insns.LoadMap dst index) i = writes_fit _ dst _ (map_at_fits index)
  perform_fits (insns.LoadAddress dst address) i = tt
  perform_fits (insns.Call callee number) i = calls_so IsBoundedAfter tt s (λ helper map key argument. answered_fits) callee number
  perform_fits insns.Exit i = exits_fit (s.registers 0) (bounded.registers 0)

-- ---- programs

-- the instruction that begins at a slot, if one does
abbrev IsInsnAt : Option Insn → Type 0
IsInsnAt None = Unit {0}
IsInsnAt (Some insn) = IsInsn insn

insn_in : (second : Bool) (slots : List (Option Insn)) (slot : ℕ) → AreSlots second slots → IsInsnAt (slice_index_or slots slot None)
insn_in second [] slot h = tt
insn_in true (None ∷ xs) zero h = tt
insn_in true (None ∷ xs) (suc slot) h = insn_in false xs slot h
insn_in true (Some insn ∷ xs) slot h = absurd h
insn_in false (None ∷ xs) slot h = absurd h
insn_in false (Some insn ∷ xs) zero h = h.0
insn_in false (Some insn ∷ xs) (suc slot) h = insn_in (is_some (second_immediate insn)) xs slot h.1

perform_in_fits : (version : Version) (header : Header) (s : State) (insn : Option Insn) → IsProgramHeader header → IsBounded s → IsInsnAt insn → IsBoundedAfter (perform_in version header s insn)
perform_in_fits version header s None is_header bounded i = tt
perform_in_fits version header s (Some insn) is_header bounded i =
    where_so IsBoundedAfter tt (knows_flow version (flow_of insn)) _ (perform_fits header s is_header bounded insn i)

step_fits : (program : Program) (header : Header) (s : State) → IsProgram program → IsProgramHeader header → IsBounded s → IsBoundedAfter (step program header s)
step_fits program header s is_program is_header bounded =
    perform_in_fits program.version header s (insn_at program s.slot) is_header bounded (insn_in false program.slots s.slot is_program.code)

entry_fits : (port : ℕ) → port < 32 → IsBounded (entry_state port)
entry_fits port h =
    record {
      registers = λ k.
          either_fits (eqb k 1) (Ptr Front (pos 0)) _ tt
          (either_fits (eqb k 2) (Ptr Tail (pos 0)) _ tt
          (either_fits (eqb k 3) (Num port) _ (omega arith)
          (either_fits (eqb k 10) (Ptr Stack (pos 0)) Unset tt tt)));
      bytes = λ place. tt;
    }

pub numbers_fit : (program : Program) (header : Header) (port : ℕ) (calls : List Call) (n : ℕ) (s : State) → IsProgram program → IsProgramHeader header → port < 32 → Path program header port calls n s → IsBounded s
numbers_fit program header port _ _ _ is_program is_header h entry = entry_fits port h
numbers_fit program header port _ _ _ is_program is_header h (moves {s = s} path e) =
    subst (λ (o : Outcome). IsBoundedAfter o) e
    (step_fits program header s is_program is_header (numbers_fit program header port _ _ s is_program is_header h path))
numbers_fit program header port _ _ _ is_program is_header h (runs.answered {s = s} answer path e small) =
    subst (λ (o : Outcome). IsBoundedAfter o) e
    (step_fits program header s is_program is_header (numbers_fit program header port _ _ s is_program is_header h path)) answer small

pub verdicts_fit : (program : Program) (header : Header) (port : ℕ) (calls : List Call) (n verdict : ℕ) → IsProgram program → IsProgramHeader header → port < 32 → Runs program header port calls n verdict → verdict < 2 ^ 64
verdicts_fit program header port calls n verdict is_program is_header h run =
    subst (λ (o : Outcome). IsBoundedAfter o) run.exit
    (step_fits program header run.last is_program is_header (numbers_fit program header port calls run.before run.last is_program is_header h run.path))
