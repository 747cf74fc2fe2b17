use Rattle.std.proofs.Common.{◌∙◌, length, arith}
use Rattle.std.specs.Prelude.{vec_items}
use Rattle.std.proofs.lemmas.Iterator.Adapters.{YieldsList-from_vec}
use Rattle.std.proofs.lemmas.Iterator.Consumers.{YieldsList-turn}
use Rattle.std.proofs.lemmas.List.{map_push}
use Rattle.job_ports.proofs.Filling.{few_here, fills_more}
use Rattle.job_ports.proofs.queues.fill.Goals as goal

pub filled-requires : goal.filled-requires
filled-requires g c =
    let all = c.into_packets-packets-items.result in let began = c.into_iter-packets-iterator.ensures.into_iter_gives in
    let road = YieldsList-from_vec {s = c.into_iter-packets-iterator.result} (vec_items all) began.0 (began.1 ∙ all.ok.0) in
    let turn = YieldsList-turn road c.loop-packets.yielded c.loop-packets.packets-iterator c.loop-packets.yielded_by c.next.result c.next.new.self c.in-Some.packets c.in-Some.is c.next.ensures.steps in
    let few = few_here vec_items (vec_items all) c.args.arrivals (length c.loop-packets.yielded) c.in-Some.packets c.into_packets-packets-items.ensures c.requires turn.0 turn.1 in
    omega (arith, few, c.in-Some.packets.ok.0)

pub loop-packets-preserved : goal.loop-packets-preserved
loop-packets-preserved g c =
    fills_more c.loop-packets.invariant c.in_ok-port.ensures (map_push vec_items c.loop-packets.yielded c.in-Some.packets)
    c.in_ok-push.ensures.items c.in_ok-push-2.ensures.items c.in_ok-push-3.ensures.items
