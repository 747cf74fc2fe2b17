use Rattle.std.proofs.Common.{◌∷◌, [], subst, sym}
use Rattle.ports.specs.Due.{HasDealt, due_of, standing}
use Rattle.ports.specs.Sinks.{sent_at}
use Rattle.ports.specs.Worked.{HasTaken}
use Rattle.ports.proofs.Serving.{one_served}
use Rattle.ports.proofs.works.one_more.Goals as goal

pub returns-clause-served : goal.returns-clause-served
returns-clause-served g c =
    let dealt = subst (λ r. HasDealt c.args.packet (standing c.args.pass.now c.args.front.now) (standing c.serve_packet.new.pass c.serve_packet.new.front) r c.serve_packet.result) (sym c.bytes.ensures.value) c.serve_packet.ensures.dealt in
    let sent = g.S.Sink.sent in let failed = g.S.Sink.failed in let old = c.args.sink.now in let new = c.send-lost.new.sink in
    let taken = subst (λ n. HasTaken (sent old) (sent new) (failed old) (failed new) (sent_at n (due_of (c.bytes.result.now ∷ []))) c.send-lost.result) c.port-port.ensures.value c.send-lost.ensures in
    one_served _ _ _ _ _ _ _ _ _ _ _ dealt c.from-discarded.ensures taken c.send-lost.type_inv
