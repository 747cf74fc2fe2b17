use Rattle.std.proofs.Common.{arith}
use Rattle.spw.proofs.DigitPairs.{table_entry}
use Rattle.spw.proofs.digits.digit.Goals as goal

pub returns : goal.returns
returns c = table_entry c.args.character (omega arith)
