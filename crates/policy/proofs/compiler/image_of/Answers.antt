use Rattle.std.proofs.Common.{◌≡◌, Result, Ok, refl, arith}
use Rattle.bpf.specs.Program.{Program}
use Rattle.bpf.specs.Reading.{FailsReading}
use Rattle.bpf.specs.declared.fault.ImageFault.{ImageFault}
use Rattle.bpf.specs.declared.fault.ImageFault.TheVariants as faults
use Rattle.policy.proofs.Weighing.{are_parts, slots_many}
use Rattle.policy.proofs.compiler.image_of.Goals as goal

-- a reading that succeeds has no fault except that of memory
no_other : (fault : ImageFault) (read : Result Program ImageFault) (p : Program) → FailsReading fault read → read ≡ Ok p → ¬ (fault ≡ faults.Memory) → ⊥
no_other faults.Magic read p fails is other = cc
no_other faults.Version read p fails is other = cc
no_other faults.Length read p fails is other = cc
no_other faults.Count read p fails is other = cc
no_other faults.Budget read p fails is other = cc
no_other faults.Loop read p fails is other = cc
no_other (faults.Insn slot bad) read p fails is other = cc
no_other faults.Memory read p fails is other = other refl

pub returns-in-Ok-clause-image : goal.returns-in-Ok-clause-image
returns-in-Ok-clause-image c =
    let parts = are_parts c.args.insns.now c.requires.some c.requires.few in
    record { whole = cc (parts, c.in-Ok.ensures.exact) }

pub unreachable-requires : goal.unreachable-requires
unreachable-requires c =
    no_other c.in-Err.fault _ _ c.in-Err.ensures.exact (are_parts c.args.insns.now c.requires.some c.requires.few) c.in_default.not-Memory

pub overflow_cast-insns : goal.overflow_cast-insns
overflow_cast-insns c = omega (arith, slots_many c.args.insns.now, c.requires.few)
