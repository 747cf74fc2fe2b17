use Rattle.std.proofs.Common.{ℕ, ◌<◌}
use Rattle.job_codes.specs.Topics.{WritesByte}
use Rattle.job_codes.proofs.topics.load_byte.Given as goal

abbrev pub invariant-loop-byte : goal.invariant-loop-byte
invariant-loop-byte l = (k : ℕ) → k < l.byte → ¬ WritesByte k l.text
