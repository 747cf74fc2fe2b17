use Rattle.job_suite.proofs.TrialLists.{one_more_trial}
use Rattle.job_suite.proofs.trials.Bench.add.Goals as goal

pub returns : goal.returns
returns c = one_more_trial c.args.self.now _ _ c.args.trial c.in_ok-push.ensures.items c.requires.trials c.requires.is
