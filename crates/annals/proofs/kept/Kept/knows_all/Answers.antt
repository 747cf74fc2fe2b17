use Rattle.std.proofs.Common.{List, subst}
use mathlib.Core.List.{IsPrefix}
use Rattle.annals.specs.declared.deed.HistoryEntry.{HistoryEntry}
use Rattle.annals.specs.Chains.{chain_of}
use Rattle.annals.proofs.Dues.{chain_prefix}
use Rattle.annals.proofs.kept.Kept.knows_all.Goals as goal

pub returns-clause-begins : goal.returns-clause-begins
returns-clause-begins g c =
    let k = c.self.inside.chain.number in
    let is = c.begins_with.ensures.whole in
    rw (← c.self.view_is) (subst (λ (l : List HistoryEntry). IsPrefix (chain_of k c.args.front.now) l) is.whole (chain_prefix k c.args.front.now is.log is.seen))
