use Rattle.std.proofs.Common.{◌∙◌, List, arith, subst}
use mathlib.Core.List.{IsPrefix}
use Rattle.annals.specs.declared.deed.HistoryEntry.{HistoryEntry}
use Rattle.lemmas.proofs.Prefixes.{prefix_trans}
use Rattle.publish.proofs.history.History.announce.Goals as goal

pub returns-clause-old : goal.returns-clause-old
returns-clause-old g c = prefix_trans _ c.count-least.new.front _ c.count-least.ensures.seen c.settle-taken.ensures.seen

pub returns-clause-reported : goal.returns-clause-reported
returns-clause-reported g c =
    let learnt = subst (λ (l : List HistoryEntry). IsPrefix l c.settle-taken.new.front) (c.front-own.ensures ∙ c.beginning.ensures.log) c.settle-taken.ensures.table in
    rw (← c.self.view_is) (c.publishes_grow.ensures _ _ learnt)

pub returns-clause-shown : goal.returns-clause-shown
returns-clause-shown g c = rw (← c.self.view_is) (omega (arith, c.self.invariant.1, c.settle-taken.ensures.shown))
