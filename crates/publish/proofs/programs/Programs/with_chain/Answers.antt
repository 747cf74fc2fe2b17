use Rattle.std.proofs.Common.{◌∙◌, ap}
use Rattle.publish.specs.Reached.{Reached}
use Rattle.publish.proofs.Families.{begins}
use Rattle.publish.proofs.programs.Programs.with_chain.Goals as goal

pub new-requires-3-clause-rule : goal.new-requires-3-clause-rule
new-requires-3-clause-rule g c =
    begins _ _ (ap (λ (t : Reached). t.family) (c.in_ok-table.ensures ∙ (c.again.ensures ∙ c.front-front.ensures)))
