-- How the verifier's table grows while it passes over the slots.
use Rattle.std.specs.Prelude.{All, ◌≡◌, ◌<◌, ℕ, ◌+◌, ℤ, Bool, if◌then◌else◌, List, length, slice_index_or, Option}
use Rattle.std.specs.Prelude.{Some, None, IsSome, IsTrue, IfSome, Result}
use Rattle.bpf.specs.declared.header.TheConstants.{MAX_SLOTS}
use Rattle.bpf.specs.Program.{Program}
use Rattle.bpf_insn.specs.declared.insn.Insn.{Insn}
use Rattle.bpf_insn.specs.declared.flow.Flow.{Flow}
use Rattle.bpf_insn.specs.declared.flow.Flow.TheVariants.{GoesOn, Branches, Jumps, Calls, Ends, Unsupported}
use Rattle.bpf_insn.specs.Flow.{flow_of}
use Rattle.bpf_insn.specs.Spelling.{slots_of}
use Rattle.machine.specs.Sizes.{Maps}
use Rattle.machine.specs.declared.regions.Region.{Region}
use Rattle.machine.specs.Step.{insn_at}
use Rattle.absdom.specs.declared.cause.Cause.{Cause}
use Rattle.absdom.specs.Edges.{Edges}
use Rattle.absdom.specs.State.{StateValue, IsStateBelow, IsWhole}
use Rattle.absdom_stack.specs.Spill.{spill_of}
use Rattle.bver_form.specs.Jumps.{first_slot, target}
use Rattle.bver_pass.specs.Justified.{AreEdgesCovered, IsHead, IsCovered, IsCoveredIfAny, IsEntered, IsPermittedAt}
use Rattle.bver_pass.specs.Justified.{region_at, knowledge_at}
use Rattle.bver_pass.specs.Heads.{AreHeadsAt}
use Rattle.bver_pass.specs.StateTable.{TableValue, knowledge_beside, knowledge_in, knowledge_next}
use Rattle.bver_form.specs.Targets.{IsPlain, landing_from}

-- ---- what is known at each slot

-- all that was known before is covered by what is known after
abbrev pub IsTableGrown : (old new : ℕ → Option StateValue) → Type 0
IsTableGrown old new = (slot : ℕ) → IsCoveredIfAny (old slot) (new slot)

-- no more is known at a slot than before, and than is known along an edge to it: what covers both covers it
abbrev pub IsLeast : (old : Option StateValue) → StateValue → (new : Option StateValue) → Type 0
IsLeast old edge new =
    (above : StateValue) → IsCoveredIfAny old (Some above) → IsStateBelow edge above → IsCoveredIfAny new (Some above)

-- no more is known in a table than before, and than what was followed to there: what covers both covers it
abbrev pub IsLeastOf : (followed : (ℕ → Option StateValue) → Type 0) (old new : TableValue) → Type 0
IsLeastOf followed old new =
    (above : ℕ → Option StateValue) → IsTableGrown (knowledge_in old) above → followed above
    → IsTableGrown (knowledge_in new) above

-- the same, and of the running state, if it is at the next slot
abbrev pub IsLeastNext : (followed : (ℕ → Option StateValue) → Type 0) (old new : TableValue) (runs : Bool) (next : ℕ)
    → StateValue → Type 0
IsLeastNext followed old new runs next state =
    (above : ℕ → Option StateValue) → IsTableGrown (knowledge_in old) above → followed above
    → IsTableGrown (knowledge_in new) above × (IsTrue runs → IsCovered state (above next))

-- something is known only at slots at which an instruction begins
abbrev pub AreFactsPlaced : Program → (known : ℕ → Option StateValue) → Type 0
AreFactsPlaced p known = (slot : ℕ) → IsSome (known slot) → IsSome (insn_at p slot)

-- what is known is whole
abbrev pub AreWhole : (known : ℕ → Option StateValue) → Type 0
AreWhole known = (slot : ℕ) → IfSome (known slot) IsWhole

-- the table grew only from this slot on
pub record IsExtended (from : ℕ) (old new : TableValue) : Type 0 where
  pub program : new.program ≡ old.program
  pub grown : IsTableGrown (knowledge_in old) (knowledge_in new)
  pub kept : (k : ℕ) → k < from → knowledge_in new k ≡ knowledge_in old k
  pub whole : AreWhole (knowledge_in old) → AreWhole (knowledge_in new)

-- a slot of the program, after this one, at which an instruction begins. It is below the most slots of a program
pub record IsLater (p : Program) (slot later : ℕ) : Type 0 where
  pub after : slot < later
  pub inside : later < length p.slots
  pub low : later < MAX_SLOTS
  pub begins : IsSome (insn_at p later)

-- ---- the visit of a slot

-- a slot of a program, which is verified for these maps
pub record VisitValue : Type 0 where
  pub program : Program
  pub maps : Maps
  pub slot : ℕ

-- the table is the program's
abbrev pub IsTableOf : VisitValue → TableValue → Type 0
IsTableOf v table = table.program ≡ v.program

-- what is known at the slot to which a jump by this distance leads
abbrev pub knowledge_at_target : VisitValue → (distance : ℤ) → (known : ℕ → Option StateValue) → Option StateValue
knowledge_at_target v distance known = knowledge_at known (target v.slot distance)

-- The edges of a comparison were followed. What they lead to is known at the slot to which it jumps, and at the next
-- slot. If the state runs on, it is at the next slot.
abbrev pub AreEdgesFollowed : VisitValue → (distance : ℤ) → Result Edges Cause → TableValue → StateValue → (runs : Bool)
    → Type 0
AreEdgesFollowed v distance edges table state runs =
    AreEdgesCovered edges (knowledge_at_target v distance (knowledge_beside table runs (v.slot + 1) state))
    (knowledge_next table runs (v.slot + 1) state)

-- if the running state is at the slot, the slot is plain
abbrev pub GoesOnPlain : Program → (slot : ℕ) → (runs : Bool) → Type 0
GoesOnPlain p slot runs = IsTrue runs → IsPlain p slot

-- the instruction at the slot leads there by a jump of this distance
abbrev pub LeadsBy : VisitValue → (distance : ℤ) → Type 0
LeadsBy v distance =
    landing_from v.program v.slot (insn_at v.program v.slot) ≡ first_slot v.program (target v.slot distance)

-- the table grew only after the slot
abbrev pub IsExtendedAfter : VisitValue → (old new : TableValue) → Type 0
IsExtendedAfter v old new = IsExtended (v.slot + 1) old new

-- the next instruction begins this many slots further
abbrev pub IsNext : VisitValue → (slots : ℕ) → Type 0
IsNext v slots = IsLater v.program v.slot (v.slot + slots)

-- if a run may go on at the next instruction, there is one, this many slots further
abbrev pub HasNextBy : VisitValue → (slots : ℕ) → Flow → Type 0
HasNextBy v slots GoesOn = IsNext v slots
HasNextBy v slots (Branches distance) = IsNext v slots
HasNextBy v slots (Jumps distance) = Unit {0}
HasNextBy v slots (Calls callee number) = IsNext v slots
HasNextBy v slots Ends = Unit {0}
HasNextBy v slots Unsupported = Unit {0}

-- an instruction that may go on to the next one has a next one
abbrev pub HasNext : VisitValue → Insn → Type 0
HasNext v insn = HasNextBy v (slots_of insn) (flow_of insn)

-- what is known when an instruction is visited: the running state, if it is there, else what the table knows
abbrev pub visited_state : (runs : Bool) → StateValue → TableValue → (slot : ℕ) → Option StateValue
visited_state runs state table slot = if runs then Some state else knowledge_in table slot

-- The visit of an instruction at the slot, from one running state to the next, if there is one. If nothing was
-- lowered, the instruction is permitted. Its region is the one that it accesses, and what is known at a head holds in
-- every pass.
pub record IsInsnVisit (v : VisitValue) (old new : TableValue) (was runs : Bool) (before after : StateValue)
    (settled : Type 0) (region : Option Region) (insn : Insn) : Type 0 where
  pub permitted : settled
      → IsPermittedAt (spill_of v.program.version) v.maps
      (knowledge_beside new runs (v.slot + slots_of insn) after) v.slot (visited_state was before new v.slot)
      (Some insn)
  pub accesses : region ≡ region_at (visited_state was before new v.slot) (Some insn)
  pub heads : AreHeadsAt v.program v.slot (visited_state was before new v.slot)
  pub plain : IsTrue runs → IsPlain v.program (v.slot + slots_of insn)
  pub extended : IsExtended v.slot old new

-- the same at a second slot, which stays as it is
pub record IsPassedBy (old new : TableValue) (was runs : Bool) (before after : StateValue) (region : Option Region) :
    Type 0 where
  pub same_table : new ≡ old
  pub same_runs : runs ≡ was
  pub same_state : after ≡ before
  pub no_region : region ≡ None

-- the visit of a slot
abbrev pub IsVisit : VisitValue → (old new : TableValue) → (was runs : Bool) → (before after : StateValue)
    → (settled : Type 0) → Option Region → Option Insn → Type 0
IsVisit v old new was runs before after settled region None = IsPassedBy old new was runs before after region
IsVisit v old new was runs before after settled region (Some insn) =
    IsInsnVisit v old new was runs before after settled region insn

-- ---- the pass

-- what is known at entry is covered at slot 0, and something is known only at slots at which an instruction begins
pub record AreEntered (p : Program) (known : ℕ → Option StateValue) : Type 0 where
  pub entered : IsEntered (known 0)
  pub placed : AreFactsPlaced p known
  pub whole : AreWhole known

-- no more is known than at entry: what covers that covers all
abbrev pub IsLeastEntry : (known : ℕ → Option StateValue) → Type 0
IsLeastEntry known = (above : ℕ → Option StateValue) → IsEntered (above 0) → IsTableGrown known above

-- at each head before the slot, what is known holds in every pass
abbrev pub AreHeadsBefore : Program → (known : ℕ → Option StateValue) → (slot : ℕ) → Type 0
AreHeadsBefore p known slot = All (λ l. l.head < slot → IfSome (known l.head) (IsHead p l)) p.loops

-- the slots before this one were visited: what they access, and what holds at their heads
pub record AreVisited (p : Program) (known : ℕ → Option StateValue) (regions : List (Option Region)) (slot : ℕ) : Type 0
  where
    pub entry : AreEntered p known
    pub heads : AreHeadsBefore p known slot
    pub resolved : (k : ℕ) → k < slot → slice_index_or regions k None ≡ region_at (known k) (insn_at p k)

-- what the slots before this one do is permitted
abbrev pub ArePermitted : Program → (maps : Maps) → (known : ℕ → Option StateValue) → (slot : ℕ) → Type 0
ArePermitted p maps known slot =
    (k : ℕ) → k < slot → IsPermittedAt (spill_of p.version) maps known k (known k) (insn_at p k)
