use Rattle.std.proofs.Common.{◌≡◌, ℕ, [], ◌∷◌, ◌++◌, subst, ◌∙◌}
use Rattle.std.specs.Arc.{arc_value}
use Rattle.node_programs.specs.Histories.{entry}
use Rattle.annals.specs.Chains.{chain_of}
use Rattle.annals.specs.Publishes.{publishes_in}
use Rattle.annals.proofs.Publishings.{publishes_more}
use Rattle.annals.proofs.chains.Chain.publish.Goals as goal

pub returns-clause-published : goal.returns-clause-published
returns-clause-published g c =
    let p = entry c.args.publish.now.0 (arc_value c.args.publish.now.1) in
    let old = c.args.self.now.log in
    let log = c.leave.new.chain.log in
    let last = c.leave.ensures.added.last in
    let whole = c.leave.ensures.added.whole in
    let more = c.leave.ensures.log ∙ last.log in
    subst (λ (n : ℕ). publishes_in (chain_of n log) ≡ publishes_in (chain_of n old) ++ p ∷ []) c.requires
    (publishes_more c.args.self.now.number old last.before log _ last.next c.port-by.result p whole more)
