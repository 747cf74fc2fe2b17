use Rattle.std.proofs.Common.{rules, SFits, to_z-of_z}
use Rattle.std.specs.Int.{w128}
use Rattle.bpf_parts.proofs.Signs.{plus_or_minus}
use Rattle.job_trace.proofs.changes.print_value.Goals as goal

pub returns-in-Ptr : goal.returns-in-Ptr
returns-in-Ptr g c =
    let fits : SFits w128 c.in-Ptr.offset = search rules in
    let writes = c.write-in-Ptr.ensures.bytes in
    let known = rw (c.laid_out.ensures, plus_or_minus, to_z-of_z fits) at writes in
    search rules
