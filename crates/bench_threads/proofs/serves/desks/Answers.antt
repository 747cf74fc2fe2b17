use Rattle.std.specs.Prelude.{◌+◌, ◌++◌, ◌∷◌, [], vec_items, vec_len}
use Rattle.std.proofs.Common.{sym, subst}
use Rattle.ports.specs.Serves.{AreServed}
use Rattle.bench_threads.proofs.Pairs.{serves_more}
use Rattle.bench_threads.proofs.serves.desks.Goals as goal

pub loop-pass-preserved : goal.loop-pass-preserved
loop-pass-preserved g c =
    let was = c.loop-pass.invariant in let node = c.args.node.now in
    let ports = c.loop-pass.ports in let workers = c.loop-pass.workers in
    let port = c.in_ok-port.port in let worker = c.in_ok-worker.worker in
    subst (λ l. AreServed node (vec_len c.push-in-loop-pass.new.self) l (vec_items c.push-in-loop-pass.new.self)) (sym c.in_ok-push.ensures.items)
    (subst (λ n. AreServed node n (vec_items ports ++ port ∷ []) (vec_items c.push-in-loop-pass.new.self)) (sym c.in_ok-push-2.ensures.len)
    (subst (AreServed node (vec_len workers + 1) (vec_items ports ++ port ∷ [])) (sym c.in_ok-push-2.ensures.items)
    (serves_more node (vec_len workers) (vec_items ports) (vec_items workers) port worker was (sym workers.ok.0) c.in_ok-worker.ensures)))
