use Rattle.std.proofs.Common.{◌≡◌, ◌<◌, ◌∙◌, length, get_or, sym, subst, arith, rules}
use Rattle.std.specs.Prelude.{◌++◌, ◌∷◌, [], slice_set, vec_items}
use Rattle.std.proofs.lemmas.Iterator.Adapters.{YieldsList-from_vec}
use Rattle.std.proofs.lemmas.Iterator.Consumers.{YieldsList-turn}
use Rattle.std.proofs.lemmas.List.{length-append}
use Rattle.ports.specs.Queue.{put_of, taken_of}
use Rattle.job_ports.specs.Queues.{IsBeginning}
use Rattle.std.proofs.lemmas.List.Elements.{All-head, All-tail}
use Rattle.job_ports.specs.Quotas.{AreSeated, IsSeated}
use Rattle.job_ports.proofs.Rejoining.{AreRejoined, none_rejoined, rejoined_more}
use Rattle.job_ports.proofs.Seating.{none_back, one_back}
use Rattle.job_ports.proofs.queues.sinks_of.Goals as goal

pub loop-worker-preserved : goal.loop-worker-preserved
loop-worker-preserved g c =
    let ports = c.args.ports.now in let first = vec_items c.args.put_passes in let puts = vec_items c.loop-worker.put_passes in
    let done = c.loop-worker.yielded in let sinks = vec_items c.loop-worker.sinks in let worker = c.in-Some.worker in
    let was = c.loop-worker.invariant in let place = c.len-place.result in
    let old = c.index_mut-put_pass.result.now in let new = c.rejoin.new.pass in let port = c.index-ports-place.result in
    let began = c.into_iter-worker-iterator.ensures.into_iter_gives in
    let road = YieldsList-from_vec {s = c.into_iter-worker-iterator.result} (vec_items c.args.workers) began.0 (began.1 ∙ c.args.workers.ok.0) in
    let turn = YieldsList-turn road done c.loop-worker.worker-iterator c.loop-worker.yielded_by c.next.result c.next.new.self worker c.in-Some.is c.next.ensures.steps in
    let here : place ≡ length done = c.len-place.ensures ∙ was.0 in
    let inside : place < length ports = omega (arith, here, turn.0, c.requires.ports.workers_count) in
    let below : place < length first = omega (arith, inside, c.requires.ports.puts_count) in
    let found : old ≡ get_or puts place old = search rules in
    let port_is : port ≡ get_or ports place port = search rules in
    let begins : IsBeginning (taken_of worker.serve_pass) (put_of old) = record { rest = c.rejoin.ensures.beginning.0; whole = c.rejoin.ensures.beginning.1 } in
    let more = rejoined_more ports first puts done sinks was.1 worker old new place here below found c.rejoin.ensures.put begins port port_is inside c.rejoin.ensures.pass in (
      omega (arith, was.0, c.in_ok-push.ensures.len, length-append done (worker ∷ [])),
      subst (λ l. AreRejoined ports first (slice_set puts place new) (done ++ worker ∷ []) l) (sym c.in_ok-push.ensures.items) more,
      one_back c.args.cells.now c.loop-worker.cells c.give_back.new.cells done worker was.2 c.give_back.ensures,
      All-tail (λ w. IsSeated c.args.cells.now w.pass.pass.seat) worker _ (subst (λ ws. AreSeated c.args.cells.now ws) c.in-Some.ensures.steps.0 was.3),
    )

pub loop-worker-init : goal.loop-worker-init
loop-worker-init g c =
    let none : vec_items c.in_ok-sinks.sinks ≡ [] = search rules in (
      search rules,
      subst (λ l. AreRejoined c.args.ports.now (vec_items c.args.put_passes) (vec_items c.args.put_passes) [] l) (sym none)
          (none_rejoined c.args.ports.now (vec_items c.args.put_passes) (vec_items c.args.workers) c.requires.ports),
      none_back c.args.cells.now,
      subst (λ ws. AreSeated c.args.cells.now ws) (sym c.into_iter-worker-iterator.ensures.into_iter_gives.0) c.requires.seats,
    )

pub give_back-requires : goal.give_back-requires
give_back-requires g c =
    let was = c.loop-worker.invariant in
    let first = All-head (λ w. IsSeated c.args.cells.now w.pass.pass.seat) c.in-Some.worker _ (subst (λ ws. AreSeated c.args.cells.now ws) c.in-Some.ensures.steps.0 was.3) in
    record { sizes = first.sizes ∙ sym was.2.sizes; home = first.home ∙ sym was.2.home }
