-- The code of a refusal is read again.
use Rattle.std.proofs.Common.{◌≡◌, ◌+◌, Some, refl}
use Rattle.bpf.specs.Fault.{image_fault_code}
use Rattle.bpf.specs.declared.fault.ImageFault.{ImageFault}
use Rattle.bpf.specs.declared.fault.ImageFault.TheVariants as image_faults
use Rattle.bver_form.specs.Codes.{refusal_code}
use Rattle.bver_form.specs.declared.refusal.Refusal.{Refusal}
use Rattle.bver_form.specs.declared.refusal.Refusal.TheVariants as refusals
use Rattle.node_parts.specs.declared.refusal.LoadRefusal.{LoadRefusal}
use Rattle.node_parts.specs.declared.refusal.LoadRefusal.TheVariants.{Control, Slot, Image, Program as Unverified, Memory, GenerationsFull}
use Rattle.node_parts.specs.Loads.{load_refusal_code, load_refusal_of_code, named_fault, named_refusal}

image_is_read : (fault : ImageFault) → load_refusal_of_code (32 + image_fault_code fault) ≡ Some (Image (named_fault fault))
image_is_read image_faults.Magic = refl
image_is_read image_faults.Version = refl
image_is_read image_faults.Length = refl
image_is_read image_faults.Count = refl
image_is_read image_faults.Budget = refl
image_is_read image_faults.Loop = refl
image_is_read (image_faults.Insn slot fault) = refl
image_is_read image_faults.Memory = refl

verifier_is_read : (code : Refusal) → load_refusal_of_code (refusal_code code) ≡ Some (Unverified (record { code = code; slot = 0 }))
verifier_is_read refusals.Target = refl
verifier_is_read refusals.BackJump = refl
verifier_is_read refusals.LoopShape = refl
verifier_is_read refusals.LoopEntry = refl
verifier_is_read refusals.Unset = refl
verifier_is_read refusals.KindMismatch = refl
verifier_is_read refusals.OutOfRegion = refl
verifier_is_read refusals.UnsetStack = refl
verifier_is_read refusals.HeaderWrite = refl
verifier_is_read refusals.FrameWrite = refl
verifier_is_read refusals.PointerRange = refl
verifier_is_read refusals.MapKey = refl
verifier_is_read refusals.Helper = refl
verifier_is_read refusals.FallOff = refl
verifier_is_read refusals.Budget = refl
verifier_is_read refusals.Unsupported = refl
verifier_is_read refusals.Memory = refl
verifier_is_read refusals.MapKind = refl

pub code_is_read : (refusal : LoadRefusal) → load_refusal_of_code (load_refusal_code refusal) ≡ Some (named_refusal refusal)
code_is_read Control = refl
code_is_read Slot = refl
code_is_read (Image fault) = image_is_read fault
code_is_read (Unverified refused) = verifier_is_read refused.code
code_is_read Memory = refl
code_is_read GenerationsFull = refl
