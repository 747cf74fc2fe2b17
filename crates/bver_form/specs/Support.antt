-- Which instructions there may be, whatever their slot (a choice of this project, since RFC 9669 leaves verification
-- to the implementation).
use Rattle.std.specs.Prelude.{◌≢◌, ℕ, ℤ, ◌==◌, if◌then◌else◌, Option, None, Some, IfSome, IsTrue}
use Rattle.bpf.specs.declared.version.Version.{Version}
use Rattle.bpf_insn.specs.Flow.{flow_of, written_register}
use Rattle.bpf_insn.specs.declared.flow.Flow.{Flow}
use Rattle.bpf_insn.specs.declared.flow.Flow.TheVariants.{GoesOn, Branches, Jumps, Calls, Ends, Unsupported}
use Rattle.bpf_parts.specs.declared.callee.Callee.{Callee}
use Rattle.bpf_parts.specs.declared.callee.Callee.TheVariants.{Local, ByTypeId}
use Rattle.bpf_parts.specs.declared.callee.Callee.TheVariants as callees
use Rattle.bpf_insn.specs.declared.insn.Insn.{Insn}
use Rattle.machine.specs.Helpers.{helper_of}
use Rattle.machine.specs.Step.{knows_helper}
use Rattle.bver_form.specs.declared.refusal.Refusal.{Refusal}
use Rattle.bver_form.specs.declared.refusal.Refusal.TheVariants.{FrameWrite, Helper}
use Rattle.bver_form.specs.declared.refusal.Refusal.TheVariants as refusals

-- ---- the statement

-- a call is supported: of a helper that the version of the format has
abbrev pub IsSupportedCall : Version → Callee → (number : ℤ) → Type 0
IsSupportedCall version callees.Helper number = IsTrue (knows_helper version (helper_of number))
IsSupportedCall version Local number = ⊥
IsSupportedCall version ByTypeId number = ⊥

-- an instruction of this flow is supported
abbrev pub IsSupportedFlow : Version → Flow → Type 0
IsSupportedFlow version GoesOn = Unit {0}
IsSupportedFlow version (Branches distance) = Unit {0}
IsSupportedFlow version (Jumps distance) = Unit {0}
IsSupportedFlow version (Calls callee number) = IsSupportedCall version callee number
IsSupportedFlow version Ends = Unit {0}
IsSupportedFlow version Unsupported = ⊥

-- the instruction is supported: it loads no address (RFC 9669, section 5.4), and calls only helpers of the version
abbrev pub IsSupported : Version → Insn → Type 0
IsSupported version insn = IsSupportedFlow version (flow_of insn)

-- the frame pointer r10 is read-only
abbrev pub LeavesFrame : Insn → Type 0
LeavesFrame insn = IfSome (written_register insn) (λ register. register ≢ 10)

-- ---- how it is refused

-- the refusal of a call, if it is not supported
abbrev pub call_fault : Version → Callee → (number : ℤ) → Option Refusal
call_fault version callees.Helper number = if knows_helper version (helper_of number) then None else Some Helper
call_fault version Local number = Some refusals.Unsupported
call_fault version ByTypeId number = Some refusals.Unsupported

-- the refusal of an instruction of this flow, if it is not supported
abbrev pub support_fault : Version → Flow → Option Refusal
support_fault version GoesOn = None
support_fault version (Branches distance) = None
support_fault version (Jumps distance) = None
support_fault version (Calls callee number) = call_fault version callee number
support_fault version Ends = None
support_fault version Unsupported = Some refusals.Unsupported

-- the refusal of an instruction that writes this register, if there is one
abbrev pub frame_fault : Option ℕ → Option Refusal
frame_fault None = None
frame_fault (Some register) = if register == 10 then Some FrameWrite else None

-- ---- what else contracts and proofs say

-- the instruction is supported in some version of the format
abbrev pub IsSupportedInSome : Insn → Type 0
IsSupportedInSome insn = (version : Version) × IsSupported version insn
