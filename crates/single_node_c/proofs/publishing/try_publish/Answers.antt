use Rattle.std.proofs.Common.{rules, subst}
use Rattle.machine.specs.Sizes.{Maps}
use Rattle.single_node_c.specs.Opening.{IsImageUnfit}
use Rattle.single_node_c.proofs.publishing.try_publish.Goals as goal

pub returns-in-Err-clause-unpublished : goal.returns-in-Err-clause-unpublished
returns-in-Err-clause-unpublished c = (
  search rules,
  subst (λ (maps : Maps). IsImageUnfit maps c.args.image.now c.in-Err.unfit) c.sizes-sizes.ensures c.in-Err.ensures,
)
