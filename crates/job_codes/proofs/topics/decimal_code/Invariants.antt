use Rattle.std.proofs.Common.{ℕ, ◌<◌}
use Rattle.job_codes.specs.Topics.{HasNumber, topic_kind_at}
use Rattle.job_codes.proofs.topics.decimal_code.Given as goal

abbrev pub invariant-loop-place : goal.invariant-loop-place
invariant-loop-place l = (k : ℕ) → k < l.place → ¬ HasNumber (topic_kind_at k) l.text
