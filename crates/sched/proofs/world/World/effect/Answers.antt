use Rattle.std.proofs.Common.{sym, ◌∙◌}
use Rattle.sched.specs.contracts.world.World.{the_view}
use Rattle.sched.proofs.Events.{read_at}
use Rattle.sched.proofs.EffectEvents.{IsEffectAt, IsEffectDueAt, effect_can, effect_ends, effect_none, effect_world}
use Rattle.sched.proofs.world.World.effect.Goals as goal

pub returns-in_default-clause-goes_on : goal.returns-in_default-clause-goes_on
returns-in_default-clause-goes_on c =
    let w = the_view c.self.inside in
    let read = read_at c.self.view_is c.from-at.ensures c.requires c.index.ensures in
    effect_none _ w _ _ c.index.result.now read (sym c.in_default.is ∙ c.effect_due.ensures)

pub finish-status-requires : goal.finish-status-requires
finish-status-requires c =
    let w = the_view c.self.inside in
    let first = read_at c.self.view_is c.from-at.ensures c.requires c.index.ensures in
    let read = read_at c.self.view_is c.from-at.ensures c.requires c.index_mut.ensures.value in
    let due : IsEffectDueAt c.args.self.now w c.from-at.result c.args.port c.in-Some.verdict c.index.result.now c.index_mut.result.now = record { first = first; read = read; due = sym c.in-Some.is ∙ c.effect_due.ensures } in
    effect_can _ w _ _ _ _ _ c.paired_commands_fit.ensures due c.self.invariant

pub invariant_of-self : goal.invariant_of-self
invariant_of-self c =
    let w = the_view c.self.inside in
    let first = read_at c.self.view_is c.from-at.ensures c.requires c.index.ensures in
    let read = read_at c.self.view_is c.from-at.ensures c.requires c.index_mut.ensures.value in
    let due : IsEffectDueAt c.args.self.now w c.from-at.result c.args.port c.in-Some.verdict c.index.result.now c.index_mut.result.now = record { first = first; read = read; due = sym c.in-Some.is ∙ c.effect_due.ensures } in
    let ends : IsEffectAt c.args.self.now w c.from-at.result c.args.port c.in-Some.verdict c.index.result.now c.index_mut.result.now c.finish-status.new.self c.finish-status.new.banks c.finish-status.result c.finish-status.new.reply = record { due = due; finished = c.finish-status.ensures } in
    effect_world _ w _ _ _ _ _ _ _ _ _ c.pairs_stay.ensures.own c.pairs_stay.ensures.others ends c.self.invariant

pub returns-clause-goes_on : goal.returns-clause-goes_on
returns-clause-goes_on c =
    let w = the_view c.self.inside in
    let first = read_at c.self.view_is c.from-at.ensures c.requires c.index.ensures in
    let read = read_at c.self.view_is c.from-at.ensures c.requires c.index_mut.ensures.value in
    let due : IsEffectDueAt c.args.self.now w c.from-at.result c.args.port c.in-Some.verdict c.index.result.now c.index_mut.result.now = record { first = first; read = read; due = sym c.in-Some.is ∙ c.effect_due.ensures } in
    let ends : IsEffectAt c.args.self.now w c.from-at.result c.args.port c.in-Some.verdict c.index.result.now c.index_mut.result.now c.finish-status.new.self c.finish-status.new.banks c.finish-status.result c.finish-status.new.reply = record { due = due; finished = c.finish-status.ensures } in
    effect_ends _ w _ _ _ _ _ _ _ _ _ _ ends c.of.ensures
