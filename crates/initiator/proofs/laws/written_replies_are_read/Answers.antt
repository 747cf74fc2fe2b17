use Rattle.initiator.proofs.RepliesWritten.{has_path, written_is_read}
use Rattle.initiator.proofs.laws.written_replies_are_read.Goals as goal

pub returns-clause-paths : goal.returns-clause-paths
returns-clause-paths c = has_path

pub returns-clause-read : goal.returns-clause-read
returns-clause-read c = written_is_read
