use Rattle.std.proofs.Common.{◌≡◌, ◌+◌, [], ◌∷◌, ap, ◌∙◌, length, length-append, arith}
use Rattle.std.specs.Arc.{arc_value}
use Rattle.node_programs.specs.Histories.{entry}
use Rattle.annals.specs.Publishes.{publishes_of}
use Rattle.publish.proofs.history.History.add.Goals as goal

pub invariant_of-self : goal.invariant_of-self
invariant_of-self g c =
    let old = publishes_of c.self.inside.chain.log in
    let p = entry c.args.publish.now.0 (arc_value c.args.publish.now.1) in (
      c.publish.ensures.number ∙ c.self.invariant.0,
      omega (arith, c.self.invariant.1, ap length c.publish.ensures.published, length-append old (p ∷ [])),
    )
