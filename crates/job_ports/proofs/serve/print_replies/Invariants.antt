use Rattle.std.proofs.Common.{map, take}
use Rattle.std.specs.Io.KnownBytes.{Appends}
use Rattle.std.specs.Vec.{vec_items}
use Rattle.job_ports.specs.ServeJob.{port_lines}
use Rattle.job_ports.proofs.serve.print_replies.Given as goal

abbrev pub invariant-loop-reply : goal.invariant-loop-reply
invariant-loop-reply g l =
    Appends (g.W.Write.contents l.fn.out) (g.W.Write.contents l.out) (port_lines l.port (map vec_items (take l.reply-index l.replies)))
