use Rattle.std.proofs.Common.{◌≡◌, All, map, true}
use Rattle.job_suite.specs.Rows.{is_beginning}
use Rattle.job_suite.proofs.words.are_beginnings.Given as goal

abbrev pub invariant-loop-part : goal.invariant-loop-part
invariant-loop-part l = All (λ part. is_beginning part ≡ true) (map (λ part. part.now) l.yielded)
