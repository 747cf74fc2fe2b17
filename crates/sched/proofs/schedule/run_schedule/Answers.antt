use Rattle.std.proofs.Common.{◌∷◌, ◌++◌, [], refl, arith}
use Rattle.std.proofs.lemmas.List.{length-append}
use Rattle.std.proofs.lemmas.Slice.{pushed}
use Rattle.sched.specs.History.{Start, history_from}
use Rattle.sched.specs.Worlds.{node_of}
use Rattle.sched.proofs.Headlines.{all_judged_once}
use Rattle.sched.proofs.Histories.{bytes_grown, history_grown}
use Rattle.sched.proofs.schedule.run_schedule.Goals as goal

pub loop-event-preserved : goal.loop-event-preserved
loop-event-preserved c =
    let before = c.loop-event.invariant in
    let outcome = c.in_ok-outcome.outcome in
    let node = node_of c.args.config.now c.args.factory.now in
    let grown = pushed (outcome ∷ []) refl c.in_ok-push.was c.push.ensures.items in
    let bytes = bytes_grown Start c.loop-event.yielded c.loop-event.outcomes.items c.push.new.self.items c.in-Some.event outcome before.count grown before.bytes c.event_brings_bytes.ensures in
    let world = history_grown node Start c.loop-event.yielded c.loop-event.outcomes.items c.push.new.self.items c.in-Some.event outcome c.loop-event.world c.step.new.world before.count grown before.world c.in_ok-outcome.ensures.goes_on in
    record {
      count = rw grown (omega (arith, before.count, length-append c.loop-event.yielded (c.in-Some.event ∷ []), length-append c.loop-event.outcomes.items (outcome ∷ [])));
      bytes = bytes;
      judged = all_judged_once c.every_history_judges_once.ensures node (history_from Start (c.loop-event.yielded ++ c.in-Some.event ∷ []) c.push.new.self.items) c.in_ok-world.ensures.node bytes world.lawful.except_answers;
      world = world;
    }
