use Rattle.std.proofs.Common.{rules, SFits, w32, to_z-of_z}
use Rattle.bpf_parts.proofs.Signs.{plus_or_minus}
use Rattle.bpf_parts.proofs.names.DistanceDisplay.fmt.Goals as goal

pub returns-clause-writes : goal.returns-clause-writes
returns-clause-writes g c =
    let fits : SFits w32 c.slots-distance.result = search rules in
    let writes = c.write.ensures.writes in
    let known = rw (c.laid_out.ensures, plus_or_minus) at writes in
    rw (← c.slots-distance.ensures.value, ← to_z-of_z fits) known
