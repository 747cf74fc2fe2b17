-- When a program may judge. It has its form, and there is a table of what is known at its slots with which no
-- instruction can go wrong. This is a choice of this project, since RFC 9669 leaves verification to the
-- implementation.
use Rattle.std.specs.Prelude.{◌≡◌, ◌≢◌, ◌<◌, ℕ, ◌+◌, ℤ, pos, negsuc, List, Option, Some, None, Result, Ok, Err}
use Rattle.std.specs.Prelude.{IsTrue, IfSome, All, slice_index, slice_index_or}
use Rattle.bpf.specs.declared.loops.Loop.{Loop}
use Rattle.bpf.specs.Program.{Program, IsProgram}
use Rattle.bpf_insn.specs.declared.insn.Insn.{Insn}
use Rattle.bpf_insn.specs.declared.insn.Insn.TheVariants.{Alu, Negate, MoveSigned, ByteSwap, Load, Store, Jump}
use Rattle.bpf_insn.specs.declared.insn.Insn.TheVariants.{Goto, Wide, LoadMap, LoadAddress, Call, Exit}
use Rattle.bpf_insn.specs.Flow.{accessed_base, is_written}
use Rattle.bpf_parts.specs.Operands.{distance_of}
use Rattle.bpf_parts.specs.declared.operation.Width.TheVariants.{Bits64}
use Rattle.bpf_insn.specs.Spelling.{slots_of}
use Rattle.bpf_parts.specs.declared.operation.Comparison.{Comparison}
use Rattle.machine.specs.Sizes.{Maps, kind_of_map}
use Rattle.machine.specs.declared.regions.Region.{Region}
use Rattle.machine.specs.Step.{insn_at, is_map}
use Rattle.machine.specs.declared.helpers.Helper.{Helper}
use Rattle.machine.specs.Helpers.{helper_of, takes_argument, takes_kind}
use Rattle.machine.specs.Laws.{is_store}
use Rattle.absdom_num.specs.Tables.{whole_range}
use Rattle.absdom.specs.declared.cause.Cause.{Cause}
use Rattle.absdom.specs.declared.kinds.AbsKind.{AbsKind}
use Rattle.absdom.specs.declared.kinds.AbsKind.TheVariants.{Unset, Num, Ptr, Map}
use Rattle.absdom.specs.State.{StateValue, IsEntry, IsStateBelow, after_call, kind_at}
use Rattle.absdom_stack.specs.StackWords.{AreAllWhole}
use Rattle.absdom_stack.specs.declared.spill.Spill.{Spill}
use Rattle.absdom_stack.specs.declared.spill.Spill.TheVariants.{Keeps}
use Rattle.absdom_stack.specs.Spill.{spill_of}
use Rattle.absdom.specs.Effect.{after_insn}
use Rattle.absdom.specs.Edges.{Edges, refined_edges}
use Rattle.absdom.specs.State.{IsWhole}
use Rattle.bver_form.specs.Form.{IsFormed}
use Rattle.bver_form.specs.Jumps.{target}
use Rattle.bver_form.specs.Loops.{holds}

-- ---- what is known along an edge, and the slot to which it leads

-- whoever knows this knows all that the slot's state says, so a run may go there with it
abbrev pub IsCovered : StateValue → (there : Option StateValue) → Type 0
IsCovered a None = ⊥
IsCovered a (Some b) = IsStateBelow a b

-- the same, if there is anything to cover: nothing is known on an edge that no run takes
abbrev pub IsCoveredIfAny : Option StateValue → (there : Option StateValue) → Type 0
IsCoveredIfAny None there = Unit {0}
IsCoveredIfAny (Some a) there = IsCovered a there

-- an instruction is not refused, and what it leaves is covered at the slot at which it goes on
abbrev pub IsResultCovered : Result StateValue Cause → (there : Option StateValue) → Type 0
IsResultCovered (Err cause) there = ⊥
IsResultCovered (Ok a) there = IsCovered a there

-- a comparison is not refused, and each edge that a run may take is covered
abbrev pub AreEdgesCovered : Result Edges Cause → (taken next : Option StateValue) → Type 0
AreEdgesCovered (Err cause) taken next = ⊥
AreEdgesCovered (Ok edges) taken next = IsCoveredIfAny edges.taken taken × IsCoveredIfAny edges.not_taken next

-- what is known on the edges of a comparison, or why it is refused
abbrev pub edges_of_comparison : StateValue → Comparison → Result Edges Cause
edges_of_comparison a comparison =
    refined_edges a comparison.condition comparison.width comparison.dst comparison.src

-- what is known at a place of the code; nothing is known before it
abbrev pub knowledge_at : (table : ℕ → Option StateValue) → ℤ → Option StateValue
knowledge_at table (pos slot) = table slot
knowledge_at table (negsuc n) = None

-- ---- what is permitted

-- an instruction that goes on to the next one: it is not refused, and what it leaves is covered there
abbrev pub Proceeds : Spill → (table : ℕ → Option StateValue) (slot : ℕ) → StateValue → Insn → Type 0
Proceeds spill table slot a insn = IsResultCovered (after_insn spill a insn) (table (slot + slots_of insn))

-- a register holds a number
abbrev pub IsNumber : AbsKind → Type 0
IsNumber Unset = ⊥
IsNumber (Num range) = Unit {0}
IsNumber (Ptr region offsets) = ⊥
IsNumber (Map index) = ⊥

-- a helper is asked for a cell of a map: the key is a number whose whole range is below the map's size
abbrev pub AsksCell : (maps : Maps) → (map key : AbsKind) → Type 0
AsksCell maps Unset key = ⊥
AsksCell maps (Num range) key = ⊥
AsksCell maps (Ptr region offsets) key = ⊥
AsksCell maps (Map map) Unset = ⊥
AsksCell maps (Map map) (Num range) = range.1 < slice_index maps.cells map
AsksCell maps (Map map) (Ptr region offsets) = ⊥
AsksCell maps (Map map) (Map index) = ⊥

-- a helper has its argument: a number, if it takes one
abbrev pub HasArgument : Helper → AbsKind → Type 0
HasArgument helper kind = IsTrue (takes_argument helper) → IsNumber kind

-- a helper is asked of a map of a kind of which it may be asked
abbrev pub AsksKind : (maps : Maps) → Helper → (map : AbsKind) → Type 0
AsksKind maps helper Unset = ⊥
AsksKind maps helper (Num range) = ⊥
AsksKind maps helper (Ptr region offsets) = ⊥
AsksKind maps helper (Map map) = IsTrue (takes_kind helper (kind_of_map maps map))

-- a helper is asked for a cell, with its argument, and of a map of its kind
pub record IsQuestion (maps : Maps) (helper : Helper) (map key argument : AbsKind) : Type 0 where
  pub cell : AsksCell maps map key
  pub given : HasArgument helper argument
  pub kind : AsksKind maps helper map

-- a helper may be asked: its map is in r1, its key in r2, and its argument in r3
abbrev pub MayAsk : (maps : Maps) → Helper → StateValue → Type 0
MayAsk maps helper a = IsQuestion maps helper (kind_at a 1) (kind_at a 2) (kind_at a 3)

-- the callee is a helper, and it may be asked
abbrev pub MayCall : (maps : Maps) → Option Helper → StateValue → Type 0
MayCall maps None a = ⊥
MayCall maps (Some helper) a = MayAsk maps helper a

-- With what is known at its slot an instruction cannot go wrong. On every edge that a run may take, what it leaves is
-- covered. A map that is loaded exists, a helper may be asked, and EXIT has a number for its answer.
abbrev pub IsPermitted : Spill → (maps : Maps) (table : ℕ → Option StateValue) (slot : ℕ) → StateValue → Insn → Type 0
IsPermitted spill maps table slot a (Alu op width dst src) = Proceeds spill table slot a (Alu op width dst src)
IsPermitted spill maps table slot a (Negate width dst) = Proceeds spill table slot a (Negate width dst)
IsPermitted spill maps table slot a (MoveSigned extension dst src) =
    Proceeds spill table slot a (MoveSigned extension dst src)
IsPermitted spill maps table slot a (ByteSwap swap bits dst) = Proceeds spill table slot a (ByteSwap swap bits dst)
IsPermitted spill maps table slot a (Load size dst place) = Proceeds spill table slot a (Load size dst place)
IsPermitted spill maps table slot a (Store size place src) = Proceeds spill table slot a (Store size place src)
IsPermitted spill maps table slot a (Jump comparison offset) =
    AreEdgesCovered (edges_of_comparison a comparison) (knowledge_at table (target slot offset)) (table (slot + 1))
IsPermitted spill maps table slot a (Goto distance) =
    IsCovered a (knowledge_at table (target slot (distance_of distance)))
IsPermitted spill maps table slot a (Wide dst value) = Proceeds spill table slot a (Wide dst value)
IsPermitted spill maps table slot a (LoadMap dst index) =
    IsTrue (is_map maps index) × Proceeds spill table slot a (LoadMap dst index)
IsPermitted spill maps table slot a (LoadAddress dst address) = ⊥
IsPermitted spill maps table slot a (Call callee number) =
    MayCall maps (helper_of number) a × IsCovered (after_call a) (table (slot + 1))
IsPermitted spill maps table slot a Exit = IsNumber (kind_at a 0)

-- The same at a slot. A table has states only at slots at which instructions begin. If it has none at a slot, no run
-- comes there.
abbrev pub IsPermittedAt : Spill → (maps : Maps) (table : ℕ → Option StateValue) (slot : ℕ) → Option StateValue
    → Option Insn → Type 0
IsPermittedAt spill maps table slot None insn = Unit {0}
IsPermittedAt spill maps table slot (Some a) None = ⊥
IsPermittedAt spill maps table slot (Some a) (Some insn) = IsPermitted spill maps table slot a insn

-- what is known at entry is covered
pub record IsEntered (there : Option StateValue) : Type 0 where
  pub known : StateValue
  pub entry : IsEntry known
  pub covered : IsCovered known there

-- ---- loops

-- an instruction writes the register; a call writes r0 to r5
abbrev pub IsWrittenBy : Option Insn → (register : ℕ) → Type 0
IsWrittenBy None register = ⊥
IsWrittenBy (Some insn) register = IsTrue (is_written insn register)

-- an instruction of the loop writes the register
pub record IsWrittenIn (p : Program) (l : Loop) (register : ℕ) : Type 0 where
  pub slot : ℕ
  pub inside : IsTrue (holds l slot)
  pub writes : IsWrittenBy (insn_at p slot) register

-- an instruction is a store
abbrev pub IsStoreAt : Option Insn → Type 0
IsStoreAt None = ⊥
IsStoreAt (Some insn) = IsTrue (is_store insn)

-- an instruction of the loop is a store
pub record HasStore (p : Program) (l : Loop) : Type 0 where
  pub slot : ℕ
  pub inside : IsTrue (holds l slot)
  pub stores : IsStoreAt (insn_at p slot)

-- nothing is known of a register, except at most that it holds a number
abbrev pub IsOpen : AbsKind → Type 0
IsOpen Unset = Unit {0}
IsOpen (Num range) = range ≡ whole_range Bits64
IsOpen (Ptr region offsets) = ⊥
IsOpen (Map index) = ⊥

-- What is known at the head of a loop, which holds in every pass. Its counter is 1 to its bound, and each other
-- register that the loop writes is open. If the loop stores, nothing is known of any word of the stack. The last is
-- required only in version 2: in version 1 no range of a word is ever read.
pub record IsHead (p : Program) (l : Loop) (a : StateValue) : Type 0 where
  pub counter : kind_at a l.register ≡ Num (1, l.bound)
  pub others : (register : ℕ) → register ≢ l.register → IsWrittenIn p l register → IsOpen (kind_at a register)
  pub words : spill_of p.version ≡ Keeps → HasStore p l → AreAllWhole a.ranges

-- ---- justified

-- the program has its form, and there is a table of whole states. The table covers the entry, and permits the
-- instruction at each of its states. If it has a state at the head of a loop, that state holds in every pass. For a
-- program of version 1 the ranges of words are never read. So if there is such a table, there is one in which nothing
-- is known of any word of the stack.
pub record IsJustified (program : Program) (maps : Maps) : Type 0 where
  pub limits : IsProgram program
  pub formed : IsFormed program
  pub table : ℕ → Option StateValue
  pub entered : IsEntered (table 0)
  pub whole : (slot : ℕ) → IfSome (table slot) IsWhole
  pub permitted : (slot : ℕ)
      → IsPermittedAt (spill_of program.version) maps table slot (table slot) (insn_at program slot)
  pub heads : All (λ l. IfSome (table l.head) (IsHead program l)) program.loops

-- ---- the region of an access

-- the region of a pointer
abbrev pub pointed_region : AbsKind → Option Region
pointed_region Unset = None
pointed_region (Num range) = None
pointed_region (Ptr region offsets) = Some region
pointed_region (Map index) = None

-- the region into which a base register points, if there is one
abbrev pub base_region_of : StateValue → Option ℕ → Option Region
base_region_of a None = None
base_region_of a (Some base) = pointed_region (kind_at a base)

-- the region that an instruction accesses
abbrev pub accessed_region : StateValue → Insn → Option Region
accessed_region a insn = base_region_of a (accessed_base insn)

-- the region that is accessed at a slot; none if no run comes there
abbrev pub region_at : Option StateValue → Option Insn → Option Region
region_at None insn = None
region_at (Some a) None = None
region_at (Some a) (Some insn) = accessed_region a insn

-- ---- an accepted program

-- the program, the sizes of the maps for which it was accepted, and the region that each slot accesses
pub record AcceptedValue : Type 0 where
  pub program : Program
  pub sizes : Maps
  pub regions : List (Option Region)

-- the program is justified for the maps, and the regions are those of the table
pub record IsJudged (program : Program) (maps : Maps) (regions : List (Option Region)) : Type 0 where
  pub justified : IsJustified program maps
  pub resolved : (slot : ℕ) → slice_index_or regions slot None ≡ region_at (justified.table slot) (insn_at program slot)
