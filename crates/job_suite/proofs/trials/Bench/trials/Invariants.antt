use Rattle.job_suite.specs.Trials.{AreTrials}
use Rattle.job_suite.proofs.trials.Bench.trials.Given as goal

abbrev pub invariant-loop-candidate : goal.invariant-loop-candidate
invariant-loop-candidate l = AreTrials l.self l.trials.items
