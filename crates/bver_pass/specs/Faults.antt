-- Why an instruction is refused with what is known at its slot. The reason is the first of its tests that fails, in
-- the order of its operands (a choice of this project).
use Rattle.std.specs.Prelude.{◌≡◌, ℕ, nat_lt, if◌then◌else◌, Option, Some, None, Result, Ok, Err, MatchResult}
use Rattle.std.specs.Prelude.{slice_index}
use Rattle.bpf_insn.specs.declared.insn.Insn.{Insn}
use Rattle.bpf_insn.specs.declared.insn.Insn.TheVariants.{Alu, Negate, MoveSigned, ByteSwap, Load, Store, Jump}
use Rattle.bpf_insn.specs.declared.insn.Insn.TheVariants.{Goto, Wide, LoadMap, LoadAddress, Call, Exit}
use Rattle.machine.specs.Sizes.{Maps, kind_of_map}
use Rattle.machine.specs.Step.{is_map}
use Rattle.machine.specs.declared.helpers.Helper.{Helper}
use Rattle.machine.specs.Helpers.{helper_of, takes_argument, takes_kind}
use Rattle.absdom.specs.declared.cause.Cause.{Cause}
use Rattle.absdom.specs.declared.kinds.AbsKind.{AbsKind}
use Rattle.absdom.specs.Effect.{after_insn}
use Rattle.absdom.specs.Kinds.{map_of, number_of}
use Rattle.absdom.specs.State.{StateValue, kind_at}
use Rattle.absdom_stack.specs.declared.spill.Spill.{Spill}
use Rattle.bver_form.specs.declared.refusal.Refusal.{Refusal}
use Rattle.bver_form.specs.declared.refusal.Refusal.TheVariants as refusals
use Rattle.bver_form.specs.declared.refusal.Refused.{Refused}
use Rattle.bver_pass.specs.Codes.{refusal_of}
use Rattle.bver_pass.specs.Justified.{edges_of_comparison}

-- the refusal for the cause of a result that has one
abbrev pub fault_in : {T : Type 0} → Result T Cause → Option Refusal
fault_in (Ok done) = None
fault_in (Err cause) = Some (refusal_of cause)

-- a helper's argument is no number, if it takes one
abbrev pub argument_fault : Helper → AbsKind → Option Refusal
argument_fault helper kind = if takes_argument helper then fault_in (number_of kind) else None

-- a map does not have all keys up to the last, or the helper may not be asked of its kind
abbrev pub cell_fault : Maps → Helper → (map last : ℕ) → Option Refusal
cell_fault maps helper map last =
    if nat_lt last (slice_index maps.cells map)
    then (if takes_kind helper (kind_of_map maps map) then None else Some refusals.MapKind)
    else Some refusals.MapKey

-- r1 is no map, r2 no number, or the argument no number, in this order, or there is no such cell
abbrev pub question_fault : Maps → Helper → (map : Result ℕ Cause) → (keys : Result (ℕ × ℕ) Cause)
    → (argument : Option Refusal) → Option Refusal
question_fault maps helper (Err cause) keys argument = Some (refusal_of cause)
question_fault maps helper (Ok map) (Err cause) argument = Some (refusal_of cause)
question_fault maps helper (Ok map) (Ok keys) (Some fault) = Some fault
question_fault maps helper (Ok map) (Ok keys) None = cell_fault maps helper map keys.1

-- why a helper may not be asked: its map is in r1, its key in r2, and its argument in r3
abbrev pub asking_fault : Maps → Helper → StateValue → Option Refusal
asking_fault maps helper a =
    question_fault maps helper (map_of (kind_at a 1)) (number_of (kind_at a 2)) (argument_fault helper (kind_at a 3))

-- why a call is refused
abbrev pub calling_fault : Maps → Option Helper → StateValue → Option Refusal
calling_fault maps None a = Some refusals.Helper
calling_fault maps (Some helper) a = asking_fault maps helper a

-- why an instruction is refused at its slot, if it is
abbrev pub fault_of : Spill → Maps → StateValue → Insn → Option Refusal
fault_of spill maps a (Alu op width dst src) = fault_in (after_insn spill a (Alu op width dst src))
fault_of spill maps a (Negate width dst) = fault_in (after_insn spill a (Negate width dst))
fault_of spill maps a (MoveSigned extension dst src) = fault_in (after_insn spill a (MoveSigned extension dst src))
fault_of spill maps a (ByteSwap swap bits dst) = fault_in (after_insn spill a (ByteSwap swap bits dst))
fault_of spill maps a (Load size dst place) = fault_in (after_insn spill a (Load size dst place))
fault_of spill maps a (Store size place src) = fault_in (after_insn spill a (Store size place src))
fault_of spill maps a (Jump comparison offset) = fault_in (edges_of_comparison a comparison)
fault_of spill maps a (Goto distance) = None
fault_of spill maps a (Wide dst value) = None
fault_of spill maps a (LoadMap dst index) = if is_map maps index then None else Some refusals.MapKey
fault_of spill maps a (LoadAddress dst address) = Some refusals.Unsupported
fault_of spill maps a (Call callee number) = calling_fault maps (helper_of number) a
fault_of spill maps a Exit = fault_in (number_of (kind_at a 0))

-- a test is passed if there is no fault, and else it refuses for the fault
abbrev pub RefusesForFault : {T : Type 0} → Result T Refused → Option Refusal → Type 0
RefusesForFault result fault = MatchResult result (λ _. fault ≡ None) (λ refused. fault ≡ Some refused.code)
