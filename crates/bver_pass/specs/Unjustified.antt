-- What a refusal of the verifier means: that there is no table under which the program is justified.
use Rattle.std.specs.Prelude.{◌≢◌, ℕ, Option, All, IfSome}
use Rattle.bpf.specs.Program.{Program}
use Rattle.bpf_insn.specs.declared.insn.Insn.{Insn}
use Rattle.machine.specs.Sizes.{Maps}
use Rattle.machine.specs.Step.{insn_at}
use Rattle.absdom.specs.State.{StateValue, IsWhole}
use Rattle.absdom_stack.specs.StackWords.{AreAllWhole}
use Rattle.absdom_stack.specs.declared.spill.Spill.{Spill}
use Rattle.absdom_stack.specs.Spill.{spill_of}
use Rattle.bver_form.specs.declared.refusal.Refusal.TheVariants.{Memory}
use Rattle.bver_form.specs.declared.refusal.Refused.{Refused}
use Rattle.bver_pass.specs.Justified.{HasStore, IsEntered, IsHead, IsJustified, IsPermitted, IsPermittedAt}

-- a program that has its form is justified by the table. The table consists of whole states, covers the entry, and
-- permits the instruction at each of its states. If it has a state at the head of a loop, that state holds in every
-- pass. If the loop stores, nothing is known there of any word of the stack, in either version.
pub record Justifies (p : Program) (maps : Maps) (table : ℕ → Option StateValue) : Type 0 where
  pub entered : IsEntered (table 0)
  pub whole : (slot : ℕ) → IfSome (table slot) IsWhole
  pub permitted : (slot : ℕ) → IsPermittedAt (spill_of p.version) maps table slot (table slot) (insn_at p slot)
  pub heads : All (λ l. IfSome (table l.head) (IsHead p l)) p.loops
  pub words : All (λ l. IfSome (table l.head) (λ a. HasStore p l → AreAllWhole a.ranges)) p.loops

-- no table permits the instruction with what is known at its slot
abbrev pub IsRefuted : Spill → (maps : Maps) (slot : ℕ) → StateValue → Insn → Type 0
IsRefuted spill maps slot a insn = (table : ℕ → Option StateValue) → IsPermitted spill maps table slot a insn → ⊥

-- a refusal, except for refused memory, says that the program is not justified
abbrev pub ReportsUnjustified : Program → Maps → Refused → Type 0
ReportsUnjustified p maps refused = refused.code ≢ Memory → IsJustified p maps → ⊥
