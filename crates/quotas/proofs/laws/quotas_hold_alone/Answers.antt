use Rattle.quotas.proofs.Alone as alone
use Rattle.quotas.proofs.laws.quotas_hold_alone.Goals as goal

pub returns : goal.returns
returns c = alone.quotas_hold_alone c.tickets_are_counted.ensures.counted c.tickets_are_counted.ensures.cells c.tickets_are_counted.ensures.zeros
