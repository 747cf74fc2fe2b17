use Rattle.std.proofs.Common.{rules, SFits, w16, to_z-of_z, append_assoc}
use Rattle.bpf_parts.proofs.Signs.{plus_or_minus}
use Rattle.bpf_parts.proofs.names.MemoryOperandDisplay.fmt.Goals as goal

pub returns-clause-writes : goal.returns-clause-writes
returns-clause-writes g c =
    let fits : SFits w16 c.args.self.now.offset = search rules in
    let writes = c.write.ensures.writes in
    let known = rw (c.laid_out.ensures, plus_or_minus) at writes in
    rw (append_assoc, ← to_z-of_z fits) known
