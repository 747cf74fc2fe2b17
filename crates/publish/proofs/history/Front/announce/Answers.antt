use Rattle.std.proofs.Common.{List, subst}
use mathlib.Core.List.{IsPrefix}
use Rattle.annals.specs.declared.deed.HistoryEntry.{HistoryEntry}
use Rattle.publish.proofs.history.Front.announce.Goals as goal

pub returns-clause-reported : goal.returns-clause-reported
returns-clause-reported g c =
    let learnt = subst (λ (l : List HistoryEntry). IsPrefix l c.learn.new.self) c.front-own.ensures c.learn.ensures.that in
    rw (← c.self.view_is) (c.publishes_grow.ensures _ _ learnt)
