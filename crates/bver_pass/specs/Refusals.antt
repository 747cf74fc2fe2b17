-- Why a program is refused (a choice of this project, since RFC 9669 leaves verification to the implementation).
use Rattle.std.specs.Prelude.{◌≡◌, IsSome}
use Rattle.bpf.specs.Program.{Program}
use Rattle.machine.specs.Step.{insn_at}
use Rattle.bver_form.specs.declared.refusal.Refusal.{Refusal}
use Rattle.bver_form.specs.declared.refusal.Refusal.TheVariants as refusals
use Rattle.bver_form.specs.declared.refusal.Refused.{Refused}
use Rattle.bver_form.specs.Form.{IsFormed, IsFormFault}

-- the refusals for what values may do wrong, and for a loop's counter
abbrev pub IsValueRefusal : Refusal → Type 0
IsValueRefusal refusals.Target = ⊥
IsValueRefusal refusals.BackJump = ⊥
IsValueRefusal refusals.LoopShape = ⊥
IsValueRefusal refusals.LoopEntry = Unit {0}
IsValueRefusal refusals.Unset = Unit {0}
IsValueRefusal refusals.KindMismatch = Unit {0}
IsValueRefusal refusals.OutOfRegion = Unit {0}
IsValueRefusal refusals.UnsetStack = Unit {0}
IsValueRefusal refusals.HeaderWrite = Unit {0}
IsValueRefusal refusals.FrameWrite = ⊥
IsValueRefusal refusals.PointerRange = Unit {0}
IsValueRefusal refusals.MapKey = Unit {0}
IsValueRefusal refusals.Helper = ⊥
IsValueRefusal refusals.FallOff = ⊥
IsValueRefusal refusals.Budget = ⊥
IsValueRefusal refusals.Unsupported = ⊥
IsValueRefusal refusals.Memory = ⊥
IsValueRefusal refusals.MapKind = Unit {0}

-- a refusal for what values may do wrong, at a slot at which an instruction begins
pub record IsValueFault (p : Program) (refused : Refused) : Type 0 where
  pub code : IsValueRefusal refused.code
  pub begins : IsSome (insn_at p refused.slot)

-- why a program is refused: the first fault of its form; if it has its form, a fault of values, or refused memory
pub data IsRefusal (p : Program) (refused : Refused) : Type 0 where
  of_form : IsFormFault p refused → IsRefusal p refused
  of_values : IsFormed p → IsValueFault p refused → IsRefusal p refused
  of_memory : IsFormed p → refused.code ≡ refusals.Memory → refused.slot ≡ 0 → IsRefusal p refused
