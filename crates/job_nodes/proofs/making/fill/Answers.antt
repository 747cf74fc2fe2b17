use Rattle.std.proofs.Common.{◌∙◌}
use Rattle.job_nodes.proofs.Made.{fills_more}
use Rattle.job_nodes.proofs.making.fill.Goals as goal

pub loop-bank-preserved : goal.loop-bank-preserved
loop-bank-preserved c = (
  fills_more c.args.contents.now c.loop-bank.bank _ _ _ _ c.loop-bank.invariant.0 c.fill_one.ensures.fills c.contents_at.ensures,
  c.fill_one.ensures.banks ∙ c.loop-bank.invariant.1,
)
