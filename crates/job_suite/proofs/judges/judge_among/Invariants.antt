use Rattle.std.proofs.Common.{◌≡◌, drop}
use Rattle.job_suite.specs.Judges.{judge_among}
use Rattle.job_suite.proofs.judges.judge_among.Given as goal

abbrev pub invariant-loop-publish : goal.invariant-loop-publish
invariant-loop-publish l = judge_among l.judge (drop l.publish-index l.publishes) l.slot ≡ judge_among l.first l.publishes l.slot
