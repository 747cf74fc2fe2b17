use Rattle.std.proofs.Common.{List, rules, arith, length, subst, sym, ap, ◌∙◌}
use Rattle.annals.specs.Shown.{IsTakenAtMoment}
use Rattle.annals.specs.declared.deed.HistoryEntry.{HistoryEntry}
use Rattle.rmap.specs.declared.places.Place.TheVariants.{Bank}
use Rattle.node_parts.specs.Passes.{PassValue}
use Rattle.ports.proofs.Dealing.{answered, unread, banked, staged, stopped, loaded, below}
use Rattle.ports.proofs.packet.serve_packet.Goals as goal

pub bank-requires : goal.bank-requires
bank-requires g c =
    below _ _ _ _ _ _ c.banks-banks.ensures.holder c.in-Judged.ensures.step.0 (sym c.place.ensures.value ∙ c.in-Bank.is) c.requires

pub finish_locked-requires-clause-place : goal.finish_locked-requires-clause-place
finish_locked-requires-clause-place g c = sym c.place.ensures.value ∙ c.in-Bank.is ∙ ap Bank (sym c.bank.ensures)

pub finish_locked-requires-clause-pass : goal.finish_locked-requires-clause-pass
finish_locked-requires-clause-pass g c =
    let run = c.in-Judged.ensures.step.0 in
    let low = below _ _ _ _ _ _ c.banks-banks.ensures.holder run (sym c.place.ensures.value ∙ c.in-Bank.is) (sym (ap (λ (x : PassValue). length x.shares) run.asked)) in
    omega (arith, low, c.bank.ensures)

pub returns-in-Bank-clause-dealt : goal.returns-in-Bank-clause-dealt
returns-in-Bank-clause-dealt g c =
    banked _ _ _ _ _ _ _ _ _ _ (subst (λ (l : List HistoryEntry). IsTakenAtMoment l c.judge.new.front c.judge.new.pass.pass.programs) c.again-seen.ensures c.in-Judged.ensures.moment) c.in-Judged.ensures.step.0 (search rules) (sym c.place.ensures.value ∙ c.in-Bank.is) c.finish_locked.ensures.ended

pub returns-in-Staging-clause-dealt : goal.returns-in-Staging-clause-dealt
returns-in-Staging-clause-dealt g c =
    staged _ _ _ _ _ _ _ _ _ _ (subst (λ (l : List HistoryEntry). IsTakenAtMoment l c.judge.new.front c.judge.new.pass.pass.programs) c.again-seen.ensures c.in-Judged.ensures.moment) c.in-Judged.ensures.step.0 (search rules) c.place.ensures.value c.in-Staging.is c.stage.ensures.staged c.stage.ensures.asked

pub returns-in-Control-clause-dealt : goal.returns-in-Control-clause-dealt
returns-in-Control-clause-dealt g c =
    loaded _ _ _ _ _ _ _ _ _ (subst (λ (l : List HistoryEntry). IsTakenAtMoment l c.judge.new.front c.judge.new.pass.pass.programs) c.again-seen.ensures c.in-Judged.ensures.moment) c.in-Judged.ensures.step.0 (search rules) (sym c.place.ensures.value ∙ c.in-Control.is) c.load_locked.ensures.ended

pub returns-in-Answered-clause-dealt : goal.returns-in-Answered-clause-dealt
returns-in-Answered-clause-dealt g c = answered _ _ _ _ c.in-Answered.field-0 _ (search rules) (search rules) (search rules)

pub returns-in-Unread-clause-dealt : goal.returns-in-Unread-clause-dealt
returns-in-Unread-clause-dealt g c = unread _ _ _ _ _ (search rules) (search rules) (search rules)

pub returns-in-Discarded-clause-dealt : goal.returns-in-Discarded-clause-dealt
returns-in-Discarded-clause-dealt g c = stopped _ _ _ _ c.in-Discarded.field-0 _ (search rules) (search rules) (search rules)
