use Rattle.std.proofs.Common.{refl, ◌∙◌}
use Rattle.job_live.proofs.EntriesLeft.{turns_left_more}
use Rattle.job_live.proofs.entries.turn_each.Goals as goal

pub loop-bank-preserved : goal.loop-bank-preserved
loop-bank-preserved c = (
  turns_left_more _ c.loop-bank.bank _ _ _ c.loop-bank.invariant.0 refl c.turn_one.ensures.turns,
  c.turn_one.ensures.banks ∙ c.loop-bank.invariant.1,
)
