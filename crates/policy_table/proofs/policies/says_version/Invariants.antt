use Rattle.std.proofs.Common.{◌≡◌}
use Rattle.std.specs.List.{list_any}
use Rattle.spw.specs.Line.{lines_of}
use Rattle.policy_table.specs.Statements.{has_version}
use Rattle.policy_table.proofs.policies.says_version.Given as goal

abbrev pub invariant-loop-line : goal.invariant-loop-line
invariant-loop-line l = list_any has_version l.line-iterator ≡ list_any has_version (lines_of l.text)
