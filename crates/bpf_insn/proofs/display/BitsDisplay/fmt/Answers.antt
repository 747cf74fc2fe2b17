use Rattle.std.proofs.Common.{false}
use Rattle.std.specs.Fmt.{digits}
use Rattle.bpf_insn.proofs.Zeros.{sixteen}
use Rattle.bpf_insn.proofs.display.BitsDisplay.fmt.Goals as goal

pub returns-clause-writes : goal.returns-clause-writes
returns-clause-writes g c =
    let writes = c.write.ensures.writes in
    let known = rw (c.laid_out.ensures, c.in_radix.ensures, sixteen (digits 16 false c.args.self.now.0)) at writes in
    known
