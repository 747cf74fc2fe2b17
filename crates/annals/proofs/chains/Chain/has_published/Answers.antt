use Rattle.std.proofs.Common.{List, subst}
use mathlib.Core.List.{IsPrefix}
use Rattle.annals.specs.declared.deed.HistoryEntry.{HistoryEntry}
use Rattle.annals.specs.Publishes.{publishes_of}
use Rattle.annals.proofs.chains.Chain.has_published.Goals as goal

pub returns-clause-begins : goal.returns-clause-begins
returns-clause-begins g c =
    subst (λ (l : List HistoryEntry). IsPrefix (publishes_of l) (publishes_of c.args.self.now.log)) c.front-known.ensures c.knows_published.ensures.begins
