use Rattle.quotas.proofs.Threads as threads
use Rattle.quotas.proofs.laws.quotas_hold_in_threads.Goals as goal

pub returns : goal.returns
returns c = threads.quotas_hold_in_threads c.workers_ask_once.ensures
