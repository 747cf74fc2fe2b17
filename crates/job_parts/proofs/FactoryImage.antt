-- The parts of the factory image are within the limits of the format.
use Rattle.std.proofs.Common.{◌≡◌, refl, sym, ap, arith, ◌∙◌, ℕ, []}
use Rattle.std.specs.Prelude.{Result, Ok, Err}
use Rattle.bpf.specs.Parts.{parts_fault, parts_reading}
use Rattle.bpf.specs.Program.{Program}
use Rattle.bpf.specs.Reading.{FailsReading}
use Rattle.bpf.specs.declared.version.Version.TheVariants.{One}
use Rattle.bpf.specs.declared.fault.ImageFault.{ImageFault}
use Rattle.bpf.specs.declared.fault.ImageFault.TheVariants as faults
use Rattle.job_parts.specs.Factory.{factory, factory_insns}

pub factory_reading : parts_reading One factory_insns [] 2 ≡ Ok factory
unfolding parts_fault
factory_reading = refl

-- the number of the outcome
abbrev outcome : Result Program ImageFault → ℕ
outcome (Ok program) = 0
outcome (Err fault) = 1

-- the factory image has no fault
no_fault : (fault : ImageFault) → parts_reading One factory_insns [] 2 ≡ Err fault → ⊥
no_fault fault h = omega (arith, ap outcome (sym factory_reading ∙ h))

-- only memory can be refused to the factory image
pub memory_alone : (fault : ImageFault) → FailsReading fault (parts_reading One factory_insns [] 2) → fault ≡ faults.Memory
memory_alone faults.Memory h = refl
memory_alone faults.Magic h = absurd (no_fault _ h)
memory_alone faults.Version h = absurd (no_fault _ h)
memory_alone faults.Length h = absurd (no_fault _ h)
memory_alone faults.Count h = absurd (no_fault _ h)
memory_alone faults.Budget h = absurd (no_fault _ h)
memory_alone faults.Loop h = absurd (no_fault _ h)
memory_alone (faults.Insn slot fault) h = absurd (no_fault _ h)
