use Rattle.job_live.proofs.OneEntry.{answers_empty}
use Rattle.job_live.proofs.answering.no_entry_stays.Goals as goal

pub returns : goal.returns
returns c = answers_empty
