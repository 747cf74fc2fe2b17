use Rattle.std.proofs.Common.{true}
use Rattle.std.specs.Fmt.{digits}
use Rattle.job_node_file.proofs.Digits.{eight}
use Rattle.job_node_file.proofs.hex.EightDigitsDisplay.fmt.Goals as goal

pub returns-clause-writes : goal.returns-clause-writes
returns-clause-writes g c =
    let writes = c.write.ensures.writes in
    let known = rw (c.laid_out.ensures, c.in_radix.ensures, eight (digits 16 true c.args.self.now.0)) at writes in
    known
