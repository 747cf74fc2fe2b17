use Rattle.std.proofs.Common.{◌≡◌, drop}
use Rattle.job_suite.specs.Rows.{is_beginning_among}
use Rattle.job_suite.proofs.rows.is_beginning_among.Given as goal

abbrev pub invariant-loop-row : goal.invariant-loop-row
invariant-loop-row l = is_beginning_among (drop l.row-index l.rows) l.word ≡ is_beginning_among l.rows l.word
