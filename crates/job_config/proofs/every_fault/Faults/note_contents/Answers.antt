use Rattle.job_config.proofs.Chains.{some_read}
use Rattle.job_config.proofs.every_fault.Faults.note_contents.Goals as goal

pub returns-in_err-note_own : goal.returns-in_err-note_own
returns-in_err-note_own g c =
    record { read = some_read g.F.Files.reads _ _ _ c.loop-number.invariant c.in_err-note_own.ensures.read }

pub loop-number-preserved : goal.loop-number-preserved
loop-number-preserved g c = some_read g.F.Files.reads _ _ _ c.loop-number.invariant c.in_ok-note_own.ensures.read
