use Rattle.job_suite.proofs.TableWords.{no_slots}
use Rattle.job_suite.proofs.words.table_written.Goals as goal

pub returns-in-Err-clause-err : goal.returns-in-Err-clause-err
returns-in-Err-clause-err c = no_slots c.args.word.now _ _ _ c.at_colon.ensures.before c.in-Err.ensures.err c.usage.ensures
