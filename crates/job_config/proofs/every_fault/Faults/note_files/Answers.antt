use Rattle.job_config.proofs.Chains.{some_read}
use Rattle.job_config.proofs.every_fault.Faults.note_files.Goals as goal

pub returns-in_err-note_program : goal.returns-in_err-note_program
returns-in_err-note_program g c = record {
  read = some_read g.F.Files.reads _ _ _ c.in_ok-note_all_contents.ensures.read c.in_err-note_program.ensures.read;
}

pub returns : goal.returns
returns g c = record {
  read = some_read g.F.Files.reads _ _ _
      (some_read g.F.Files.reads _ _ _ c.in_ok-note_all_contents.ensures.read c.in_ok-note_program.ensures.read)
      c.note_all_publishes.ensures.read;
}
