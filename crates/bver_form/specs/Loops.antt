-- The loops that a program declares (a choice of this project): which form they have, and how many instructions a run
-- may still take. A loop (head, back, bound, register) counts its register down to zero. Slot `back - 1` takes one
-- from it. Slot `back` goes back to `head` while the register is not zero.
use Rattle.std.specs.Prelude.{◌≡◌, ◌≢◌, ◌≤◌, ◌<◌, ◌⊎◌, ℕ, ◌+◌, ◌-◌, ◌*◌, ℤ, pos, negsuc, Bool, false, ◌&&◌, ◌==◌}
use Rattle.std.specs.Prelude.{nat_le, nat_lt, if◌then◌else◌, List, [], ◌∷◌, Option, Some, IfSome, IsTrue, All}
use Rattle.bpf.specs.declared.loops.Loop.{Loop}
use Rattle.bpf.specs.Program.{Program, insn_at}
use Rattle.bpf.specs.Weight.{times_at}
use Rattle.bpf_insn.specs.Flow.{flow_of, is_written}
use Rattle.bpf_insn.specs.Spelling.{slots_of}
use Rattle.bpf_insn.specs.declared.flow.Flow.{Flow}
use Rattle.bpf_insn.specs.declared.flow.Flow.TheVariants.{GoesOn, Branches, Jumps, Calls, Ends, Unsupported}
use Rattle.bpf_insn.specs.declared.insn.Insn.{Insn}
use Rattle.bpf_insn.specs.declared.insn.Insn.TheVariants.{Alu, Jump}
use Rattle.bpf_parts.specs.declared.operation.AluOp.TheVariants.{Add}
use Rattle.bpf_parts.specs.declared.operation.Condition.TheVariants.{NotEqual}
use Rattle.bpf_parts.specs.declared.operation.Operand.TheVariants.{Immediate}
use Rattle.bpf_parts.specs.declared.operation.Width.TheVariants.{Bits64}
use Rattle.bver_form.specs.Costs.{cost_here}
use Rattle.bver_form.specs.Jumps.{jump_distance, target}

-- ---- the statement

-- ---- one loop

-- whether the loop holds the slot: its head, its back, or one between
abbrev pub holds : Loop → ℕ → Bool
holds l slot = nat_le l.head slot && nat_le slot l.back

-- the instruction that ends the loop: a jump to its head, if its register is not zero (`jne r, 0`, all 64 bits)
abbrev pub back_jump : Loop → Insn
back_jump l =
    Jump (record { condition = NotEqual; width = Bits64; dst = l.register; src = Immediate (pos 0) })
    (negsuc (l.back - l.head))

-- the instruction that counts: it takes one from the loop's register (`add r, -1`, all 64 bits)
abbrev pub step_down : Loop → Insn
step_down l = Alu Add Bits64 l.register (Immediate (negsuc 0))

-- the loop ends with its back jump
abbrev pub IsBackJump : Program → Loop → Type 0
IsBackJump p l = insn_at p l.back ≡ Some (back_jump l)

-- the slot before it counts
abbrev pub IsStep : Program → Loop → Type 0
IsStep p l = insn_at p (l.back - 1) ≡ Some (step_down l)

-- an instruction at the slot of the loop does not write its register, except the one that counts; a call writes r0 to
-- r5
abbrev pub LeavesCounterAt : Program → Loop → (slot : ℕ) → Type 0
LeavesCounterAt p l slot =
    IfSome (insn_at p slot) (λ insn. IsTrue (holds l slot) → slot + 1 ≢ l.back → is_written insn l.register ≡ false)

-- no slot of the loop, except the one before its back, writes its register
abbrev pub LeavesCounter : Program → Loop → Type 0
LeavesCounter p l = (slot : ℕ) → LeavesCounterAt p l slot

-- A jump from the slot to that place does not lead to the loop's back. If it leads into the loop from outside, it
-- leads to its head.
abbrev pub EntersAtHead : Loop → (slot : ℕ) → ℤ → Type 0
EntersAtHead l slot (pos next) = (next ≢ l.back) × (IsTrue (holds l next) → IsTrue (holds l slot) ⊎ (next ≡ l.head))
EntersAtHead l slot (negsuc n) = Unit {0}

-- an instruction at the slot does so, if it jumps
abbrev pub EntersAtHeadFrom : Program → Loop → (slot : ℕ) → Type 0
EntersAtHeadFrom p l slot =
    IfSome (insn_at p slot)
    (λ insn. IfSome (jump_distance insn) (λ distance. EntersAtHead l slot (target slot distance)))

-- no jump of the program leads to the loop's back, and none from outside into it, except to its head
abbrev pub IsEnteredAtHead : Program → Loop → Type 0
IsEnteredAtHead p l = (slot : ℕ) → EntersAtHeadFrom p l slot

-- the first loop ends before the second begins
abbrev pub IsBefore : Loop → Loop → Type 0
IsBefore l m = l.back < m.head

-- the first loop lies inside the second
abbrev pub IsLoopInside : Loop → Loop → Type 0
IsLoopInside l m = (m.head < l.head) × (l.back < m.back)

-- two loops are apart, or one is nested in the other: they have different heads and backs
abbrev pub IsNestedOrApart : Loop → Loop → Type 0
IsNestedOrApart l m = (IsBefore l m ⊎ IsBefore m l) ⊎ (IsLoopInside l m ⊎ IsLoopInside m l)

-- the loop is so with every declared loop of another head (heads rise strictly, so each head has one loop)
abbrev pub IsAmongOthers : Program → Loop → Type 0
IsAmongOthers p l = All (λ m. m.head ≢ l.head → IsNestedOrApart l m) p.loops

-- a declared loop has its form
pub record IsLoopFormed (p : Program) (l : Loop) : Type 0 where
  pub back : IsBackJump p l
  pub step : IsStep p l
  pub counter : LeavesCounter p l
  pub entry : IsEnteredAtHead p l
  pub others : IsAmongOthers p l

-- ---- what else contracts and proofs say

-- ---- all loops at once

-- an instruction at the slot enters each declared loop so, if it jumps
abbrev pub EntersAllAtHeadFrom : Program → (slot : ℕ) → Type 0
EntersAllAtHeadFrom p slot = All (λ l. EntersAtHeadFrom p l slot) p.loops

-- runs enter each declared loop only at its head
abbrev pub AreEnteredAtHead : Program → Type 0
AreEnteredAtHead p = (slot : ℕ) → EntersAllAtHeadFrom p slot

-- ---- the slots at which a run goes on

-- the slots at which a run of an instruction may go on from the slot, by its flow; `after` is the slot after its own
abbrev pub GoesTo : Flow → (slot after next : ℕ) → Type 0
GoesTo GoesOn slot after next = next ≡ after
GoesTo (Branches distance) slot after next = (next ≡ after) ⊎ (target slot distance ≡ pos next)
GoesTo (Jumps distance) slot after next = target slot distance ≡ pos next
GoesTo (Calls callee number) slot after next = next ≡ after
GoesTo Ends slot after next = ⊥
GoesTo Unsupported slot after next = ⊥

-- a run may go from the slot to that one: to the next instruction, or along a jump
pub record IsEdge (p : Program) (slot next : ℕ) : Type 0 where
  pub insn : Insn
  pub begins : insn_at p slot ≡ Some insn
  pub goes : GoesTo (flow_of insn) slot (slot + slots_of insn) next

-- ---- how much is left

-- How often a run in the loop, at the slot with that value of its counter, still passes the loop's body after this
-- pass. At the back the loop took one from the counter.
abbrev pub further_passes : Loop → (value slot : ℕ) → ℕ
further_passes l value slot = if slot == l.back then value else value - 1

-- how often a run at slot `slot` may still execute the instruction at slot `i`, if each loop's counter has the value
-- of its head
unfoldable pub executions_left : List Loop → (values : ℕ → ℕ) → (i slot : ℕ) → ℕ
executions_left [] values i slot = if nat_le slot i then 1 else 0
executions_left (l ∷ ls) values i slot =
    if holds l i
    then (if nat_lt slot l.head then times_at (l ∷ ls) i
    else (if nat_lt l.back slot then 0
    else further_passes l (values l.head) slot * times_at ls i + executions_left ls values i slot))
    else executions_left ls values i slot

-- the sum of what that costs over the slots from one
unfoldable pub weight_left_from : (cost : Insn → ℕ) → List Loop → (values : ℕ → ℕ) → (slot i : ℕ)
    → List (Option Insn) → ℕ
weight_left_from cost loops values slot i [] = 0
weight_left_from cost loops values slot i (x ∷ xs) =
    executions_left loops values i slot * cost_here cost x
    + weight_left_from cost loops values slot (i + 1) xs

-- what the instructions of a run may still cost, if it is at the slot with these values of the counters
abbrev pub weight_left : (cost : Insn → ℕ) → Program → (values : ℕ → ℕ) → (slot : ℕ) → ℕ
weight_left cost p values slot = weight_left_from cost p.loops values slot 0 p.slots

-- What a step from the slot to the next does to the counter of a loop, from the value `was` to `is`. In the loop,
-- only the slot before the back takes one from it. At the head it is within the bound. On the way back it is not
-- zero.
pub record IsCounted (l : Loop) (slot next was is : ℕ) : Type 0 where
  pub stays : IsTrue (holds l slot) → IsTrue (holds l next) → slot + 1 ≢ l.back → is ≡ was
  pub steps : IsTrue (holds l slot) → IsTrue (holds l next) → slot + 1 ≡ l.back → is + 1 ≡ was
  pub enters : holds l slot ≡ false → IsTrue (holds l next) → is ≤ l.bound
  pub again : slot ≡ l.back → next ≡ l.head → 1 ≤ was

-- the same of each declared loop
abbrev pub AreCounted : Program → (slot next : ℕ) → (values after : ℕ → ℕ) → Type 0
AreCounted p slot next values after = All (λ l. IsCounted l slot next (values l.head) (after l.head)) p.loops

-- a step from outside into a loop comes to its head, and a step to its back comes from the slot before
pub record ComesIn (l : Loop) (slot next : ℕ) : Type 0 where
  pub to_head : holds l slot ≡ false → IsTrue (holds l next) → next ≡ l.head
  pub to_back : next ≡ l.back → slot + 1 ≡ l.back
