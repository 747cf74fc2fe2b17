use Rattle.job_weigh.specs.Weighed.{weight_lines_of}
use Rattle.job_weigh.proofs.weigh.print_lines.Goals as goal

pub returns : goal.returns
unfolding weight_lines_of
returns g c = c.writeln.ensures.bytes
