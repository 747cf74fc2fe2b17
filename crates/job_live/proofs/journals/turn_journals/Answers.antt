use Rattle.std.proofs.Common.{refl, ◌∙◌}
use Rattle.job_live.proofs.HandingOut.{turns_more}
use Rattle.job_live.proofs.journals.turn_journals.Goals as goal

pub loop-bank-preserved : goal.loop-bank-preserved
loop-bank-preserved c = (
  turns_more c.args.each _ c.loop-bank.bank _ _ _ c.loop-bank.invariant.0 refl c.turn_due.ensures.turns,
  c.turn_due.ensures.banks ∙ c.loop-bank.invariant.1,
)
