-- Which states of the machine fit a state of the verifier (a choice of this project).
use Rattle.std.specs.Prelude.{◌≡◌, ◌≢◌, ℕ, ◌*◌, ◌^◌, ◌<◌, ℤ, pos, negsuc, ◌≤ℤ◌, Bool, true, false, Option, Some, None}
use Rattle.std.specs.Prelude.{Result, Ok, Err}
use Rattle.bpf_insn.specs.declared.insn.Insn.{Insn}
use Rattle.bpf_insn.specs.declared.insn.Insn.TheVariants.{Alu, Negate, MoveSigned, ByteSwap, Load, Store, Jump, Goto}
use Rattle.bpf_insn.specs.declared.insn.Insn.TheVariants.{Wide, LoadMap, LoadAddress, Call, Exit}
use Rattle.machine.specs.declared.values.Value.{Value}
use Rattle.machine.specs.declared.values.Value.TheVariants.{Unset as Nothing, Num as Number, Ptr as Pointer}
use Rattle.machine.specs.declared.values.Value.TheVariants.{Map as MapOf}
use Rattle.machine.specs.State.{State}
use Rattle.machine.specs.Step.{Outcome, Next, Ask, Verdict, Trap, branches}
use Rattle.machine.specs.Memory.{little_endian}
use Rattle.absdom_num.specs.declared.ranges.Range.{Range}
use Rattle.absdom_num.specs.Ranges.{IsIn}
use Rattle.absdom.specs.declared.cause.Cause.{Cause}
use Rattle.absdom.specs.declared.kinds.AbsKind.{AbsKind}
use Rattle.absdom.specs.declared.kinds.AbsKind.TheVariants.{Unset, Num, Ptr, Map}
use Rattle.absdom.specs.State.{StateValue, kind_at, range_at}
use Rattle.absdom_stack.specs.Marks.{mark_at, all_marked}
use Rattle.absdom.specs.Edges.{Edges}

-- an offset is one of these
pub record IsAmong (z : ℤ) (offsets : ℤ × ℤ) : Type 0 where
  pub above : offsets.0 ≤ℤ z
  pub below : z ≤ℤ offsets.1

-- The value is of the kind: a number in its range, a pointer into its region at one of its offsets, or its map. Every
-- value is of the kind Unset.
abbrev pub FitsKind : Value → AbsKind → Type 0
FitsKind value Unset = Unit {0}
FitsKind Nothing (Num range) = ⊥
FitsKind (Number n) (Num range) = IsIn n range
FitsKind (Pointer region z) (Num range) = ⊥
FitsKind (MapOf index) (Num range) = ⊥
FitsKind Nothing (Ptr region offsets) = ⊥
FitsKind (Number n) (Ptr region offsets) = ⊥
FitsKind (Pointer own z) (Ptr region offsets) = (own ≡ region) × IsAmong z offsets
FitsKind (MapOf index) (Ptr region offsets) = ⊥
FitsKind Nothing (Map index) = ⊥
FitsKind (Number n) (Map index) = ⊥
FitsKind (Pointer region z) (Map index) = ⊥
FitsKind (MapOf own) (Map index) = own ≡ index

-- a place of memory that is set, to a byte
abbrev pub IsByte : Option ℕ → Type 0
IsByte None = ⊥
IsByte (Some byte) = byte < 256

-- a number that was read lies in the range
abbrev pub IsReadIn : Option ℕ → Range → Type 0
IsReadIn None range = ⊥
IsReadIn (Some n) range = IsIn n range

-- Each register is of its kind, and each byte that is marked is set. If all eight bytes of a word are marked, its
-- number lies in the word's range.
pub record Fits (s : State) (a : StateValue) : Type 0 where
  pub registers : (register : ℕ) → FitsKind (s.registers register) (kind_at a register)
  pub bytes : (place : ℕ) → mark_at a.marks place ≡ true → IsByte (s.stack place)
  pub words : (word : ℕ) → all_marked a.marks (8 * word) 8 ≡ true
      → IsReadIn (little_endian s.stack 8 (8 * word)) (range_at a word)

-- the machine goes on at that slot, in a state that fits: it neither traps nor ends
abbrev pub GoesOnFitting : Outcome → (slot : ℕ) → StateValue → Type 0
GoesOnFitting (Next t) slot a = (t.slot ≡ slot) × Fits t a
GoesOnFitting (Ask question on) slot a = ⊥
GoesOnFitting (Verdict n) slot a = ⊥
GoesOnFitting Trap slot a = ⊥

-- if an instruction is not refused, the machine goes on in a state that fits
abbrev pub IsStateSound : Outcome → (slot : ℕ) → Result StateValue Cause → Type 0
IsStateSound outcome slot (Err cause) = Unit {0}
IsStateSound outcome slot (Ok a) = GoesOnFitting outcome slot a

-- the state fits what is known on an edge; no state fits an edge that is not followed
abbrev pub FitsEdge : State → Option StateValue → Type 0
FitsEdge s None = ⊥
FitsEdge s (Some a) = Fits s a

-- the edge that is followed if a comparison is true, and if it is false
abbrev pub edge_where : Bool → Edges → Option StateValue
edge_where true edges = edges.taken
edge_where false edges = edges.not_taken

-- if a comparison is not refused, it is true or false, and the state fits the edge that it takes
abbrev pub TakesEdge : State → (offset : ℤ) → Outcome → Result Edges Cause → Type 0
TakesEdge s offset outcome (Err cause) = Unit {0}
TakesEdge s offset outcome (Ok edges) =
    (holds : Bool) × (outcome ≡ branches s offset holds) × FitsEdge s (edge_where holds edges)

-- an index of a map: not negative
abbrev pub IsIndex : ℤ → Type 0
IsIndex (pos index) = Unit {0}
IsIndex (negsuc n) = ⊥

-- an instruction that goes on to the next one, and does not write the frame pointer
abbrev pub GoesStraight : Insn → Type 0
GoesStraight (Alu op width dst src) = dst ≢ 10
GoesStraight (Negate width dst) = dst ≢ 10
GoesStraight (MoveSigned extension dst src) = dst ≢ 10
GoesStraight (ByteSwap swap bits dst) = dst ≢ 10
GoesStraight (Load size dst place) = dst ≢ 10
GoesStraight (Store size place src) = Unit {0}
GoesStraight (Jump comparison offset) = ⊥
GoesStraight (Goto distance) = ⊥
GoesStraight (Wide dst value) = (dst ≢ 10) × (value < 2 ^ 64)
GoesStraight (LoadMap dst index) = (dst ≢ 10) × IsIndex index
GoesStraight (LoadAddress dst address) = ⊥
GoesStraight (Call callee number) = ⊥
GoesStraight Exit = ⊥
