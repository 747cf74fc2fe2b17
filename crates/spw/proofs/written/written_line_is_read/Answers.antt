use Rattle.spw.proofs.WrittenLines.{line_is_read}
use Rattle.spw.proofs.written.written_line_is_read.Goals as goal

pub returns : goal.returns
returns c = line_is_read
