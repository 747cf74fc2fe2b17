-- What a refusal gives if values may do wrong: what was known at the slot of the refusal.
use Rattle.std.specs.Prelude.{◌≡◌, ◌≢◌, ℕ, Bool, List, Option, Some, None, All, IfSome}
use Rattle.bpf.specs.Program.{Program}
use Rattle.bpf_insn.specs.declared.insn.Insn.{Insn}
use Rattle.machine.specs.Sizes.{Maps}
use Rattle.machine.specs.Step.{insn_at}
use Rattle.absdom.specs.Kinds.{IsKindBelow}
use Rattle.absdom.specs.State.{StateValue, IsWhole, kind_at}
use Rattle.absdom_stack.specs.Marks.{AreMarkedIn}
use Rattle.absdom_stack.specs.Spill.{spill_of}
use Rattle.absdom_stack.specs.StackWords.{AreAllWhole, AreRangesWithin}
use Rattle.bver_form.specs.declared.refusal.Refusal.TheVariants.{LoopEntry}
use Rattle.bver_form.specs.declared.refusal.Refused.{Refused}
use Rattle.bver_pass.specs.Faults.{fault_of}
use Rattle.bver_pass.specs.Heads.{HasLowered}
use Rattle.bver_pass.specs.Justified.{HasStore, IsCovered, IsEntered, IsHead}
use Rattle.bver_pass.specs.Leading.{EntersOutside, LeadsBelow}
use Rattle.bver_pass.specs.Unjustified.{IsRefuted}

-- ---- what must be assumed

-- the first says all that the second says, except of one register
pub record IsBelowBut (register : ℕ) (a b : StateValue) : Type 0 where
  pub kinds : (other : ℕ) → other ≢ register → IsKindBelow (kind_at a other) (kind_at b other)
  pub marks : AreMarkedIn b.marks a.marks
  pub ranges : AreRangesWithin a.ranges b.ranges

-- whoever knows this knows all that the slot's state says, except of one register
abbrev pub IsCoveredBut : (register : ℕ) → StateValue → (there : Option StateValue) → Type 0
IsCoveredBut register a None = ⊥
IsCoveredBut register a (Some b) = IsBelowBut register a b

-- What comes to the slots of a program (`comes`), and what holds at them when their instructions begin (`stands`), is
-- closed. The entry comes. What comes also holds. At the head of a loop it holds with the counter from 1 to the
-- bound, and as it is for every pass. If an instruction leads from a state that holds to a slot, what it leaves comes
-- there. Nothing is required of an instruction that is refused, nor of a counter that comes to a head.
pub record IsClosed (p : Program) (comes stands : ℕ → Option StateValue) : Type 0 where
  pub entered : IsEntered (comes 0)
  pub whole : (slot : ℕ) → IfSome (comes slot) IsWhole
  pub plain : (slot : ℕ) → All (λ l. l.head ≢ slot) p.loops
      → (a : StateValue) → IsCovered a (comes slot) → IsCovered a (stands slot)
  pub opened : All (λ l.
      (a : StateValue) → IsCovered a (comes l.head) → IsCoveredBut l.register a (stands l.head)) p.loops
  pub heads : All (λ l. IfSome (stands l.head) (IsHead p l)) p.loops
  pub words : All (λ l. IfSome (stands l.head) (λ a. HasStore p l → AreAllWhole a.ranges)) p.loops
  pub leads : (slot : ℕ) (insn : Insn) → insn_at p slot ≡ Some insn
      → (a : StateValue) → IsWhole a → IsCovered a (stands slot)
      → LeadsBelow (spill_of p.version) comes slot a insn

-- The state says no less than what comes to the slot, whatever is closed. So all that the state allows must be
-- assumed to come there.
abbrev pub HasToCome : Program → (slot : ℕ) → StateValue → Type 0
HasToCome p slot a = (comes stands : ℕ → Option StateValue) → IsClosed p comes stands → IsCovered a (comes slot)

-- the same of what holds there
abbrev pub HasToStand : Program → (slot : ℕ) → StateValue → Type 0
HasToStand p slot a = (comes stands : ℕ → Option StateValue) → IsClosed p comes stands → IsCovered a (stands slot)

-- what was lowered at the heads of loops holds nothing there, whatever is closed
abbrev pub HasToLower : Program → (lowered : List Bool) → Type 0
HasToLower p lowered = (comes stands : ℕ → Option StateValue) → IsClosed p comes stands → HasLowered p lowered stands

-- ---- what a refusal gives

-- The state must hold at an instruction, and no table permits the instruction with it. The code is that of the first
-- of its tests that fails with it.
pub record IsReportedOfInsn (p : Program) (maps : Maps) (a : StateValue) (refused : Refused) : Type 0 where
  pub insn : Insn
  pub begins : insn_at p refused.slot ≡ Some insn
  pub whole : IsWhole a
  pub stands : HasToStand p refused.slot a
  pub code : fault_of (spill_of p.version) maps a insn ≡ Some refused.code
  pub refuted : IsRefuted (spill_of p.version) maps refused.slot a insn

-- the state must come to the head of a declared loop, and a run may come there with its counter outside the bound
pub record IsReportedOfHead (p : Program) (a : StateValue) (refused : Refused) : Type 0 where
  pub code : refused.code ≡ LoopEntry
  pub comes : HasToCome p refused.slot a
  pub outside : EntersOutside p refused.slot a

-- the state was known at the slot of the refusal, and shows its reason
pub data ReportsKnown (p : Program) (maps : Maps) (a : StateValue) (refused : Refused) : Type 0 where
  of_insn : IsReportedOfInsn p maps a refused → ReportsKnown p maps a refused
  of_head : IsReportedOfHead p a refused → ReportsKnown p maps a refused
