use Rattle.std.proofs.Common.{sym, subst}
use Rattle.std.specs.Prelude.{slice_set}
use Rattle.sched.specs.declared.event.Event.TheVariants.{Take}
use Rattle.sched.specs.declared.event.Outcome.TheVariants.{Taken}
use Rattle.sched.specs.BeginsHistory.{IsBegun}
use Rattle.sched.specs.Worlds.{GoesOnLawfully, WorldValue}
use Rattle.sched.specs.contracts.world.World.{the_view}
use Rattle.sched.proofs.Events.{IsBeginAt, begun_goes_on, begun_world, read_at, take_busy, take_stops}
use Rattle.sched.proofs.world.World.take.Goals as goal

pub returns-then-not-is_free-clause-goes_on : goal.returns-then-not-is_free-clause-goes_on
returns-then-not-is_free-clause-goes_on c =
    let w = the_view c.self.inside in
    let read = read_at c.self.view_is c.from-at.ensures c.requires c.index.ensures in
    take_busy _ w _ _ _ _ read c.if-not-is_free.ensures

pub returns-in_ok-stopped-in-Err-clause-goes_on : goal.returns-in_ok-stopped-in-Err-clause-goes_on
returns-in_ok-stopped-in-Err-clause-goes_on c =
    let w = the_view c.self.inside in
    let read = read_at c.self.view_is c.from-at.ensures c.requires c.index.ensures in
    let made = take_stops _ w _ _ _ _ c.in-Err.stop c.admit.new.reply _ read c.if-not-is_free.ensures c.in-Err.ensures.1 c.in_ok-stopped-in-Err.ensures in
    subst (λ (v : WorldValue). GoesOnLawfully (Take c.args.port c.args.packet) c.in_ok-stopped-in-Err.field-0 c.args.self.now v) (sym c.self.view_is) made

pub invariant_of-self-in-Ok-2 : goal.invariant_of-self-in-Ok-2
invariant_of-self-in-Ok-2 c =
    let w = the_view c.self.inside in
    let run = c.begin.ensures.run in
    let begun = subst (λ (v : WorldValue). IsBegun v c.args.port c.args.packet run) c.self.view_is (subst (λ packet. IsBegun w c.args.port packet run) c.in-Ok.ensures.0.packet (c.in_ok-opening-in-Ok.ensures.begun c.args.port run c.begin.ensures.begun)) in
    let first = read_at c.self.view_is c.from-at.ensures c.requires c.index.ensures in
    let read = read_at c.self.view_is c.from-at.ensures c.requires c.index_mut.ensures.value in
    let begins : IsBeginAt c.args.self.now w c.from-at.result c.args.port c.args.packet c.index.result.now c.index_mut.result.now c.begin.new.self run = record { first = first; read = read; none = c.if-not-is_free.ensures; begun = begun; written = c.begin.ensures.written } in
    begun_world _ w _ _ _ _ _ _ run begins c.self.invariant

pub returns-in_ok-opening-in-Ok-clause-goes_on : goal.returns-in_ok-opening-in-Ok-clause-goes_on
returns-in_ok-opening-in-Ok-clause-goes_on c =
    let w = the_view c.self.inside in
    let run = c.begin.ensures.run in
    let begun = subst (λ (v : WorldValue). IsBegun v c.args.port c.args.packet run) c.self.view_is (subst (λ packet. IsBegun w c.args.port packet run) c.in-Ok.ensures.0.packet (c.in_ok-opening-in-Ok.ensures.begun c.args.port run c.begin.ensures.begun)) in
    let first = read_at c.self.view_is c.from-at.ensures c.requires c.index.ensures in
    let read = read_at c.self.view_is c.from-at.ensures c.requires c.index_mut.ensures.value in
    let begins : IsBeginAt c.args.self.now w c.from-at.result c.args.port c.args.packet c.index.result.now c.index_mut.result.now c.begin.new.self run = record { first = first; read = read; none = c.if-not-is_free.ensures; begun = begun; written = c.begin.ensures.written } in
    let made = begun_goes_on _ w _ _ _ c.in-Ok.admitted.place _ _ _ run begins c.in-Ok.ensures.0.placed in
    subst (λ generation. GoesOnLawfully (Take c.args.port c.args.packet) (Taken generation) c.args.self.now (record w { ports = slice_set w.ports c.from-at.result c.begin.new.self })) c.begin.ensures.begun.with.generation_is made
