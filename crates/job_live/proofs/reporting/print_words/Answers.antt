use Rattle.job_live.specs.Reporting.{entry_words}
use Rattle.job_live.proofs.reporting.print_words.Goals as goal

pub returns : goal.returns
unfolding entry_words
returns g c = c.write.ensures.bytes
