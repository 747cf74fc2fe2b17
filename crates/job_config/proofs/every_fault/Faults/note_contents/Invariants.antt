use Rattle.job_config.specs.Reads.{SomeRead}
use Rattle.job_config.proofs.every_fault.Faults.note_contents.Given as goal

abbrev pub invariant-loop-number : goal.invariant-loop-number
invariant-loop-number g l = SomeRead g.F.Files.reads l.fn.files l.files
