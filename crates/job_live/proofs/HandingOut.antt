-- Journals that are handed out in turn.
use Rattle.std.proofs.Common.{◌≡◌, ◌+◌, ℕ, suc, Bool, subst, arith}
use Rattle.job_nodes.specs.LiveNodes.{LiveNodeValue}
use Rattle.job_live.specs.Journals.{TurnsJournals, TurnsOne, is_journal_due}

-- one bank more
pub turns_more : (each due : Bool) (count : ℕ) (a b c : LiveNodeValue) → TurnsJournals each count a b → due ≡ is_journal_due each b.node.banks count → TurnsOne due count b c
    → TurnsJournals each (count + 1) a c
turns_more each due count a b c all is one =
    let same : suc count ≡ count + 1 = omega arith in
    subst (λ (n : ℕ). TurnsJournals each n a c) same (b, all, subst (λ (t : Bool). TurnsOne t count b c) is one)
