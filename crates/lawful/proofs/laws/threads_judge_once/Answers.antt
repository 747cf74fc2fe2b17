use Rattle.lawful.proofs.Once as once
use Rattle.lawful.proofs.laws.threads_judge_once.Goals as goal

pub returns : goal.returns
returns c = once.threads_judge_once c.threads_are_lawful.ensures c.every_history_judges_once.ensures
