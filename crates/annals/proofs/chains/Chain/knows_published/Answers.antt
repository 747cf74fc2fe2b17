use Rattle.std.proofs.Common.{ℕ, List, subst}
use mathlib.Core.List.{IsPrefix}
use Rattle.annals.specs.declared.deed.HistoryEntry.{HistoryEntry}
use Rattle.annals.specs.Chains.{chain_of}
use Rattle.annals.proofs.Dues.{chain_prefix}
use Rattle.annals.proofs.Publishings.{publishes_prefix}
use Rattle.annals.proofs.chains.Chain.knows_published.Goals as goal

pub returns-clause-begins : goal.returns-clause-begins
returns-clause-begins g c =
    let all = c.args.self.now.log in
    let seen = c.args.known.now in
    let k = c.args.self.now.number in
    let is = c.begins_with.ensures.whole in
    let begins_own : IsPrefix (chain_of k seen) (chain_of k all) = subst (λ (l : List HistoryEntry). IsPrefix (chain_of k seen) l) is.whole (chain_prefix k seen is.log is.seen) in
    publishes_prefix _ _ (subst (λ (n : ℕ). IsPrefix (chain_of n seen) (chain_of n all)) c.requires begins_own)
