use Rattle.job_config.proofs.Chains.{some_read}
use Rattle.job_config.proofs.reading.noded.Goals as goal

pub returns-in-Err-clause-read : goal.returns-in-Err-clause-read
returns-in-Err-clause-read g c = some_read g.F.Files.reads _ _ _ c.node_with.ensures.read c.named_faults-faults.ensures.read
