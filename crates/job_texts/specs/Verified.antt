-- What the job `verify` reads and prints.
use Rattle.std.specs.Prelude.{ℕ, List, Option}
use Rattle.std.specs.Io.KnownBytes.{Appends}
use Rattle.bpf.specs.Program.{Program}
use Rattle.bpf.specs.Weight.{weight_of, saturated_weight}
use Rattle.bver.specs.Justified.{IsJustified}
use Rattle.machine.specs.Runs.{IsSafe}
use Rattle.machine.specs.Sizes.{Maps}
use Rattle.job_parts.specs.Files.{ReadsFile, HoldsImage}
use Rattle.job_texts.specs.VerifyJob.{accepted_line}

-- the image in the file is justified on a node with maps of these sizes, and so safe, and its weight and
-- budget were printed
pub record Verifies {S : Type 0} (reads : ReadsFile S) (before : S) (name : List ℕ) (sizes : Maps) (after : S)
    (old new : Option (List ℕ)) : Type 0 where
  pub program : Program
  pub image : HoldsImage reads before name program after
  pub justified : IsJustified program sizes
  pub safe : IsSafe program sizes
  pub line : Appends old new (accepted_line (saturated_weight (weight_of program)) program.budget)
