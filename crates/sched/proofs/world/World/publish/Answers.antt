use Rattle.std.proofs.Common.{sym, ◌∙◌}
use Rattle.sched.specs.contracts.world.World.{the_view}
use Rattle.sched.proofs.Events.{read_at}
use Rattle.sched.proofs.PublishEvents.{IsPublishAt, IsPublishDueAt, IsShownAfter, decided_again, publish_none, publish_some, publish_under, published_ends, published_world, shows_in_slot}
use Rattle.sched.proofs.world.World.publish.Goals as goal

pub returns-in_default-clause-goes_on : goal.returns-in_default-clause-goes_on
returns-in_default-clause-goes_on c =
    let w = the_view c.self.inside in
    let read = read_at c.self.view_is c.from-at.ensures c.requires c.index.ensures in
    publish_none _ w _ _ c.index.result.now read (sym c.in_default.is ∙ c.publish_due.ensures)

pub decide-requires : goal.decide-requires
decide-requires c =
    let w = the_view c.self.inside in
    let first = read_at c.self.view_is c.from-at.ensures c.requires c.index.ensures in
    let read = read_at c.self.view_is c.from-at.ensures c.requires c.index-2.ensures in
    let due : IsPublishDueAt c.args.self.now w c.from-at.result c.args.port c.in-Some.verdict c.index.result.now c.index-2.result.now = record { first = first; read = read; due = sym c.in-Some.is ∙ c.publish_due.ensures } in
    publish_some _ w _ _ _ _ _ due

pub end_write-requires : goal.end_write-requires
end_write-requires c =
    let w = the_view c.self.inside in
    let first = read_at c.self.view_is c.from-at.ensures c.requires c.index.ensures in
    let read = read_at c.self.view_is c.from-at.ensures c.requires c.index_mut.ensures.value in
    let due : IsPublishDueAt c.args.self.now w c.from-at.result c.args.port c.in-Some.verdict c.index.result.now c.index_mut.result.now = record { first = first; read = read; due = sym c.in-Some.is ∙ c.publish_due.ensures } in
    publish_under _ w _ _ _ _ _ due c.self.invariant

pub show-requires : goal.show-requires
show-requires c =
    let w = the_view c.self.inside in
    shows_in_slot c.index-2.result.now.run c.index-2.result.now.staging.bytes c.in-Some.verdict w.sizes w.count c.in_ok-decision.decision c.in_ok-decision.ensures.decides

pub invariant_of-self : goal.invariant_of-self
invariant_of-self c =
    let w = the_view c.self.inside in
    let first = read_at c.self.view_is c.from-at.ensures c.requires c.index.ensures in
    let between = read_at c.self.view_is c.from-at.ensures c.requires c.index-2.ensures in
    let read = read_at c.self.view_is c.from-at.ensures c.requires c.index_mut.ensures.value in
    let due : IsPublishDueAt c.args.self.now w c.from-at.result c.args.port c.in-Some.verdict c.index.result.now c.index_mut.result.now = record { first = first; read = read; due = sym c.in-Some.is ∙ c.publish_due.ensures } in
    let decides = decided_again _ w _ _ _ _ _ _ between read c.in_ok-decision.ensures.decides in
    let ends : IsPublishAt c.args.self.now w c.from-at.result c.args.port c.in-Some.verdict c.index.result.now c.index_mut.result.now c.end_write.new.self c.in_ok-decision.decision c.reported-reported.result.0 c.reported-reported.result.1 c.end_write.new.reply = record { due = due; decides = decides; status_is = c.reported-reported.ensures.status; loaded_is = c.reported-reported.ensures.loaded; reply_is = c.end_write.ensures.reply; written = c.end_write.ensures.port } in
    let shown : IsShownAfter w c.in_ok-decision.decision c.show.new.programs c.show.new.count = record { programs_are = c.show.ensures.programs; count_is = c.show.ensures.count } in
    published_world _ w _ _ _ _ _ _ _ _ _ _ _ _ ends shown c.self.invariant

pub returns-clause-goes_on : goal.returns-clause-goes_on
returns-clause-goes_on c =
    let w = the_view c.self.inside in
    let first = read_at c.self.view_is c.from-at.ensures c.requires c.index.ensures in
    let between = read_at c.self.view_is c.from-at.ensures c.requires c.index-2.ensures in
    let read = read_at c.self.view_is c.from-at.ensures c.requires c.index_mut.ensures.value in
    let due : IsPublishDueAt c.args.self.now w c.from-at.result c.args.port c.in-Some.verdict c.index.result.now c.index_mut.result.now = record { first = first; read = read; due = sym c.in-Some.is ∙ c.publish_due.ensures } in
    let decides = decided_again _ w _ _ _ _ _ _ between read c.in_ok-decision.ensures.decides in
    let ends : IsPublishAt c.args.self.now w c.from-at.result c.args.port c.in-Some.verdict c.index.result.now c.index_mut.result.now c.end_write.new.self c.in_ok-decision.decision c.reported-reported.result.0 c.reported-reported.result.1 c.end_write.new.reply = record { due = due; decides = decides; status_is = c.reported-reported.ensures.status; loaded_is = c.reported-reported.ensures.loaded; reply_is = c.end_write.ensures.reply; written = c.end_write.ensures.port } in
    let shown : IsShownAfter w c.in_ok-decision.decision c.show.new.programs c.show.new.count = record { programs_are = c.show.ensures.programs; count_is = c.show.ensures.count } in
    published_ends _ w _ _ _ _ _ _ _ _ _ _ _ _ _ c.image_laws.ensures.read ends shown c.of.ensures
