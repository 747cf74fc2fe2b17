-- The program that judges, which jobs read.
use Rattle.std.specs.Prelude.{◌≡◌, ℕ, List, Option, Some, None}
use Rattle.bpf.specs.Program.{Program}
use Rattle.machine.specs.Sizes.{Maps}
use Rattle.job_parts.specs.Factory.{factory, IsNoFactory}
use Rattle.job_parts.specs.Files.{ReadsFile, HoldsImage}
use Rattle.job_parts.specs.Reading.{HasNoProgram}
use Rattle.job_parts.specs.declared.faults.Fault.{Fault}

module _ {S : Type 0} (reads : ReadsFile S) where
  -- the program is that of the image in the file of this name, or the factory program
  abbrev pub HoldsProgram : (before : S) → Option (List ℕ) → Program → (after : S) → Type 0
  HoldsProgram before None p after = (p ≡ factory) × (after ≡ before)
  HoldsProgram before (Some name) p after = HoldsImage reads before name p after

  -- the file of this name gives no program for a node with these maps, or memory was refused to the factory program
  abbrev pub HoldsNoProgram : (before : S) → Option (List ℕ) → Maps → (after : S) → Fault → Type 0
  HoldsNoProgram before None maps after fault = (after ≡ before) × IsNoFactory fault
  HoldsNoProgram before (Some name) maps after fault = HasNoProgram reads before name maps after fault
