-- The slots to which an instruction leads, with what is known at its slot, and why its visit is refused.
use Rattle.std.specs.Prelude.{◌≡◌, ◌≢◌, ℕ, ◌+◌, Bool, List, Option, Some, None, Result, Ok, Err, All, IfSome, ◌≤◌}
use Rattle.std.specs.Prelude.{◌⊎◌, IsTrue}
use Rattle.bpf.specs.declared.loops.Loop.{Loop}
use Rattle.bpf.specs.Program.{Program}
use Rattle.bpf_insn.specs.declared.insn.Insn.{Insn}
use Rattle.bpf_insn.specs.declared.insn.Insn.TheVariants.{Alu, Negate, MoveSigned, ByteSwap, Load, Store, Jump}
use Rattle.bpf_insn.specs.declared.insn.Insn.TheVariants.{Goto, Wide, LoadMap, LoadAddress, Call, Exit}
use Rattle.bpf_insn.specs.Spelling.{slots_of}
use Rattle.bpf_parts.specs.Operands.{distance_of}
use Rattle.absdom.specs.declared.cause.Cause.{Cause}
use Rattle.absdom.specs.Edges.{Edges}
use Rattle.absdom.specs.Effect.{after_insn}
use Rattle.absdom.specs.State.{StateValue, IsWhole, after_call}
use Rattle.absdom_stack.specs.declared.spill.Spill.{Spill}
use Rattle.absdom_stack.specs.Spill.{spill_of}
use Rattle.bver_form.specs.Jumps.{target}
use Rattle.bver_form.specs.Lowered.{is_lowered}
use Rattle.bver_form.specs.declared.refusal.Refusal.TheVariants.{LoopEntry}
use Rattle.bver_form.specs.declared.refusal.Refused.{Refused}
use Rattle.bver_pass.specs.Faults.{fault_of}
use Rattle.bver_pass.specs.Heads.{Falls, IsDeclared, IsWidened, IsWithinBound}
use Rattle.bver_pass.specs.Justified.{IsCovered, IsCoveredIfAny, edges_of_comparison, knowledge_at}
use Rattle.bver_pass.specs.StateTable.{TableValue, knowledge_in}
use Rattle.bver_pass.specs.Unjustified.{IsRefuted}
use Rattle.bver_pass.specs.Visit.{IsLeastNext, VisitValue, visited_state}

-- ---- the slots to which it leads

-- what the instruction at the slot leaves, or the cause for which it is refused
abbrev pub outcome_at : VisitValue → StateValue → Insn → Result StateValue Cause
outcome_at v a insn = after_insn (spill_of v.program.version) a insn

-- what an instruction leaves, if it is not refused, is covered at the slot at which it goes on
abbrev pub GivesBelow : Result StateValue Cause → (there : Option StateValue) → Type 0
GivesBelow (Err cause) there = Unit {0}
GivesBelow (Ok a) there = IsCovered a there

-- each edge of a comparison that a run may take, if it is not refused, is covered
abbrev pub BranchesBelow : Result Edges Cause → (taken next : Option StateValue) → Type 0
BranchesBelow (Err cause) taken next = Unit {0}
BranchesBelow (Ok edges) taken next = IsCoveredIfAny edges.taken taken × IsCoveredIfAny edges.not_taken next

-- an instruction that goes on to the next one leaves what is covered there, if it is not refused
abbrev pub ProceedsBelow : Spill → (above : ℕ → Option StateValue) (slot : ℕ) → StateValue → Insn → Type 0
ProceedsBelow spill above slot a insn = GivesBelow (after_insn spill a insn) (above (slot + slots_of insn))

-- On every edge that a run may take, what an instruction leaves is covered, as if it were permitted. Nothing is
-- required of one that is refused.
abbrev pub LeadsBelow : Spill → (above : ℕ → Option StateValue) (slot : ℕ) → StateValue → Insn → Type 0
LeadsBelow spill above slot a (Alu op width dst src) = ProceedsBelow spill above slot a (Alu op width dst src)
LeadsBelow spill above slot a (Negate width dst) = ProceedsBelow spill above slot a (Negate width dst)
LeadsBelow spill above slot a (MoveSigned extension dst src) =
    ProceedsBelow spill above slot a (MoveSigned extension dst src)
LeadsBelow spill above slot a (ByteSwap swap bits dst) = ProceedsBelow spill above slot a (ByteSwap swap bits dst)
LeadsBelow spill above slot a (Load size dst place) = ProceedsBelow spill above slot a (Load size dst place)
LeadsBelow spill above slot a (Store size place src) = ProceedsBelow spill above slot a (Store size place src)
LeadsBelow spill above slot a (Jump comparison offset) =
    BranchesBelow (edges_of_comparison a comparison) (knowledge_at above (target slot offset)) (above (slot + 1))
LeadsBelow spill above slot a (Goto distance) = IsCovered a (knowledge_at above (target slot (distance_of distance)))
LeadsBelow spill above slot a (Wide dst value) = ProceedsBelow spill above slot a (Wide dst value)
LeadsBelow spill above slot a (LoadMap dst index) = ProceedsBelow spill above slot a (LoadMap dst index)
LeadsBelow spill above slot a (LoadAddress dst address) = Unit {0}
LeadsBelow spill above slot a (Call callee number) = IsCovered (after_call a) (above (slot + 1))
LeadsBelow spill above slot a Exit = Unit {0}

-- what is known on the edge of a comparison on which it holds, if a run may take it
abbrev pub taken_state : Result Edges Cause → Option StateValue
taken_state (Err cause) = None
taken_state (Ok edges) = edges.taken

-- what is known along the jump of an instruction, if a run may take it
abbrev pub jumping_state : StateValue → Insn → Option StateValue
jumping_state a (Alu op width dst src) = None
jumping_state a (Negate width dst) = None
jumping_state a (MoveSigned extension dst src) = None
jumping_state a (ByteSwap swap bits dst) = None
jumping_state a (Load size dst place) = None
jumping_state a (Store size place src) = None
jumping_state a (Jump comparison offset) = taken_state (edges_of_comparison a comparison)
jumping_state a (Goto distance) = Some a
jumping_state a (Wide dst value) = None
jumping_state a (LoadMap dst index) = None
jumping_state a (LoadAddress dst address) = None
jumping_state a (Call callee number) = None
jumping_state a Exit = None

-- the same at a slot, if anything is known there
abbrev pub jumping_if_any : Option StateValue → Insn → Option StateValue
jumping_if_any None insn = None
jumping_if_any (Some a) insn = jumping_state a insn

-- ---- the edge back

-- the slot is the back of the loop that is declared at the place; the register falls on the edge to its head
pub record IsLoweredBack (p : Program) (slot : ℕ) (known : ℕ → Option StateValue) (edge : StateValue)
    (place register : ℕ) : Type 0 where
  pub declared : Loop
  pub is : IsDeclared p declared place
  pub back : declared.back ≡ slot
  pub falls : Falls (record { program = p; declared = declared; place = place }) (known declared.head) edge register

-- there is such an edge
abbrev pub IsLoweredBackIfAny : Program → (slot : ℕ) (known : ℕ → Option StateValue) → Option StateValue
    → (place register : ℕ) → Type 0
IsLoweredBackIfAny p slot known None place register = ⊥
IsLoweredBackIfAny p slot known (Some edge) place register = IsLoweredBack p slot known edge place register

-- each mark is as it was, or of a register that falls on the edge back, if there is one
abbrev pub AreLoweredBack : Program → (slot : ℕ) (known : ℕ → Option StateValue) → Option StateValue
    → (old new : List Bool) → Type 0
AreLoweredBack p slot known edge old new =
    (place register : ℕ) → register ≤ 9
    → (is_lowered new place register ≡ is_lowered old place register)
    ⊎ IsLoweredBackIfAny p slot known edge place register

-- An edge from the slot goes back to the head of a declared loop and is not covered there. Each register that falls
-- on it was lowered before.
pub record IsUncovered (p : Program) (slot : ℕ) (lowered : List Bool) (known : ℕ → Option StateValue)
    (edge : StateValue) : Type 0 where
  pub declared : Loop
  pub place : ℕ
  pub is : IsDeclared p declared place
  pub back : declared.back ≡ slot
  pub whole : IsWhole edge
  pub uncovered : IsCovered edge (known declared.head) → ⊥
  pub fallen : (register : ℕ) → register ≤ 9
      → Falls (record { program = p; declared = declared; place = place }) (known declared.head) edge register
      → IsTrue (is_lowered lowered place register)

-- there is such an edge
abbrev pub IsUncoveredIfAny : Program → (slot : ℕ) (lowered : List Bool) (known : ℕ → Option StateValue)
    → Option StateValue → Type 0
IsUncoveredIfAny p slot lowered known None = ⊥
IsUncoveredIfAny p slot lowered known (Some edge) = IsUncovered p slot lowered known edge

-- ---- why it is refused

-- no table permits the instruction with what is known at its slot, and the refusal there is for its first test that
-- fails
pub record IsRefutedFor (v : VisitValue) (a : StateValue) (insn : Insn) (refused : Refused) : Type 0 where
  pub slot : refused.slot ≡ v.slot
  pub code : fault_of (spill_of v.program.version) v.maps a insn ≡ Some refused.code
  pub refuted : IsRefuted (spill_of v.program.version) v.maps v.slot a insn

-- with what is known at its slot an instruction is refused: no table permits it, or its edge back is not covered
pub data IsFlowFault (v : VisitValue) (lowered : List Bool) (known : ℕ → Option StateValue) (a : StateValue)
    (insn : Insn) (refused : Refused) : Type 0 where
  refutes : IsRefutedFor v a insn refused → IsFlowFault v lowered known a insn refused
  returns : IsUncoveredIfAny v.program v.slot lowered known (jumping_state a insn)
      → IsFlowFault v lowered known a insn refused

-- a run may come to the head of a declared loop at the slot with a counter outside its bound, or with none
pub record EntersOutside (p : Program) (slot : ℕ) (a : StateValue) : Type 0 where
  pub declared : Loop
  pub place : ℕ
  pub is : IsDeclared p declared place
  pub head : declared.head ≡ slot
  pub outside : IsWithinBound declared a → ⊥

-- what comes to the slot is refused there for that, and the refusal gives it as it came
pub record IsHeadFault (v : VisitValue) (before reported : StateValue) (refused : Refused) : Type 0 where
  pub slot : refused.slot ≡ v.slot
  pub code : refused.code ≡ LoopEntry
  pub outside : EntersOutside v.program v.slot before
  pub as_it_came : reported ≡ before

-- something comes there, and is refused so
abbrev pub IsHeadFaultIfAny : (v : VisitValue) → Option StateValue → (reported : StateValue) → Refused → Type 0
IsHeadFaultIfAny v None reported refused = ⊥
IsHeadFaultIfAny v (Some before) reported refused = IsHeadFault v before reported refused

-- ---- a visit

-- what comes to a slot is widened at the head of a declared loop, and else stays as it is
pub data IsWidenedAt (p : Program) (lowered : List Bool) (slot : ℕ) (before after : StateValue) : Type 0 where
  widens : (l : Loop) (place : ℕ) → IsDeclared p l place → l.head ≡ slot → IsWidened p l lowered place before after
      → IsWidenedAt p lowered slot before after
  stays : All (λ l. l.head ≢ slot) p.loops → after ≡ before → IsWidenedAt p lowered slot before after

-- the same if anything comes there
abbrev pub IsWidenedIfAny : Program → (lowered : List Bool) (slot : ℕ) → (before after : Option StateValue) → Type 0
IsWidenedIfAny p lowered slot None None = Unit {0}
IsWidenedIfAny p lowered slot None (Some after) = ⊥
IsWidenedIfAny p lowered slot (Some before) None = ⊥
IsWidenedIfAny p lowered slot (Some before) (Some after) = IsWidenedAt p lowered slot before after

-- if anything is known at the slot, it is covered there, and so is what the instruction leads to
abbrev pub IsFollowedBelow : Spill → (above : ℕ → Option StateValue) (slot : ℕ) → Option StateValue → Insn → Type 0
IsFollowedBelow spill above slot known insn =
    IfSome known (λ a. IsCovered a (above slot) × LeadsBelow spill above slot a insn)

-- After the visit of the instruction at the slot, no more is known than what came there, widened, and what it leads
-- to. No more is lowered than falls on its edge back.
pub record IsLeastVisit (v : VisitValue) (lowered now : List Bool) (old new : TableValue) (was runs : Bool)
    (before after : StateValue) (insn : Insn) : Type 0 where
  pub widened : IsWidenedIfAny v.program lowered v.slot (visited_state was before old v.slot)
      (visited_state was before new v.slot)
  pub least : IsLeastNext
      (λ above. IsFollowedBelow (spill_of v.program.version) above v.slot (visited_state was before new v.slot)
      insn) old new runs (v.slot + slots_of insn) after
  pub marks : AreLoweredBack v.program v.slot (knowledge_in old)
      (jumping_if_any (visited_state was before new v.slot) insn) lowered now

-- the same at a second slot, at which nothing is lowered
abbrev pub IsLeastVisitIfAny : (v : VisitValue) (lowered now : List Bool) (old new : TableValue) (was runs : Bool)
    (before after : StateValue) → Option Insn → Type 0
IsLeastVisitIfAny v lowered now old new was runs before after None = now ≡ lowered
IsLeastVisitIfAny v lowered now old new was runs before after (Some insn) =
    IsLeastVisit v lowered now old new was runs before after insn

-- what comes to the slot is refused there: at the head of a loop, or with the instruction. The refusal gives what
-- came to the head, or what was known at the instruction
pub data IsVisitFault (v : VisitValue) (lowered : List Bool) (known : ℕ → Option StateValue) (before : StateValue)
    (insn : Insn) (reported : StateValue) (refused : Refused) : Type 0 where
  enters : IsHeadFault v before reported refused → IsVisitFault v lowered known before insn reported refused
  leads : IsWhole reported → IsWidenedAt v.program lowered v.slot before reported
      → IsFlowFault v lowered known reported insn refused → IsVisitFault v lowered known before insn reported refused

-- there is an instruction, and what comes there is refused
abbrev pub IsVisitFaultIfAny : (v : VisitValue) (lowered : List Bool) (known : ℕ → Option StateValue)
    → Option StateValue → Option Insn → (reported : StateValue) → Refused → Type 0
IsVisitFaultIfAny v lowered known before None reported refused = ⊥
IsVisitFaultIfAny v lowered known None (Some insn) reported refused = ⊥
IsVisitFaultIfAny v lowered known (Some before) (Some insn) reported refused =
    IsVisitFault v lowered known before insn reported refused
