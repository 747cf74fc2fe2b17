use Rattle.quotas.proofs.Counting.{quotas_are_counted}
use Rattle.quotas.proofs.Holding.{quotas_hold}
use Rattle.quotas.proofs.laws.quotas_hold.Goals as goal

pub returns : goal.returns
returns c = record {
  holds = quotas_hold;
  counted = quotas_are_counted c.turns_are_paths.ensures c.every_schedule_judges_once.ensures;
}
