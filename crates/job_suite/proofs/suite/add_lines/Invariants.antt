use Rattle.std.proofs.Common.{◌≡◌, drop, string_bytes}
use Rattle.job_suite.specs.Trials.{with_lines}
use Rattle.job_suite.proofs.suite.add_lines.Given as goal

abbrev pub invariant-loop-trial : goal.invariant-loop-trial
invariant-loop-trial l =
    with_lines (string_bytes l.text) (drop l.trial-index l.trials) ≡ with_lines (string_bytes l.initial.text) l.trials
