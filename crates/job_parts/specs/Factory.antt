-- The factory program.
use Rattle.std.specs.Prelude.{◌≡◌, ◌⊎◌, pos, List, [], ◌∷◌}
use Rattle.std.specs.List.{flat_map}
use Rattle.bpf_insn.specs.declared.insn.Insn.{Insn}
use Rattle.bpf_insn.specs.declared.insn.Insn.TheVariants.{Alu, Exit}
use Rattle.bpf_parts.specs.declared.operation.AluOp.TheVariants.{Mov}
use Rattle.bpf_parts.specs.declared.operation.Operand.TheVariants.{Immediate}
use Rattle.bpf_parts.specs.declared.operation.Width.TheVariants.{Bits64}
use Rattle.bpf.specs.Parts.{placed_slots}
use Rattle.bpf.specs.Program.{Program, program}
use Rattle.bpf.specs.declared.version.Version.TheVariants.{One}
use Rattle.bpf.specs.declared.fault.ImageFault.TheVariants as faults
use Rattle.bver_form.specs.declared.refusal.Refusal.TheVariants as refusals
use Rattle.bver_form.specs.declared.refusal.Refused.{Refused}
use Rattle.job_parts.specs.declared.faults.Fault.{Fault}
use Rattle.job_parts.specs.declared.faults.Fault.TheVariants.{BadImage, Refused as IsRefused}

-- `mov r0, 0; exit`
abbrev pub factory_insns : List Insn
factory_insns = Alu Mov Bits64 0 (Immediate (pos 0)) ∷ Exit ∷ []

-- the program that judges if no image is named, which is yes to every command: these two instructions, no loops, and a
-- budget for two steps
abbrev pub factory : Program
factory = program One 2 [] (flat_map placed_slots factory_insns)

-- why there is no factory program: memory was refused to its image, or to the verifier
abbrev pub IsNoFactory : Fault → Type 0
IsNoFactory fault =
    (fault ≡ BadImage faults.Memory) ⊎ ((refused : Refused) × (fault ≡ IsRefused refused) × (refused.code ≡ refusals.Memory))
