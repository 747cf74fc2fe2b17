use Rattle.charts.proofs.Plainness.{charts_are_read, lines_are_plain}
use Rattle.charts.proofs.laws.charts_are_read.Goals as goal

pub returns-clause-read : goal.returns-clause-read
returns-clause-read c = charts_are_read

pub returns-clause-plain : goal.returns-clause-plain
returns-clause-plain c = lines_are_plain
