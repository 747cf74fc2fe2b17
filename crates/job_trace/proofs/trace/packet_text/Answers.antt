use Rattle.std.proofs.Common.{Some, ℕ, List, subst}
use Rattle.job_trace.specs.Judged.{TracesPacket}
use Rattle.job_trace.proofs.trace.packet_text.Goals as goal

pub returns-in-Ok : goal.returns-in-Ok
returns-in-Ok c =
    subst (λ (items : List ℕ). TracesPacket c.args.port c.args.packet c.args.world.now c.trace_packet.new.world (Some items) (Some c.trace_packet.new.out.items))
    c.new-text.ensures.items c.in-Ok.ensures
