use Rattle.std.proofs.Common.{◌≡◌, ◌+◌, ◌++◌, suc, length}
use Rattle.spw.specs.Line.{lines_of}
use Rattle.policy_table.specs.Unused.{unused_from, unused_ranges}
use Rattle.policy_table.proofs.unused.unused_ranges.Given as goal

-- what is found in the lines that are left comes after what was found
abbrev pub invariant-loop-line : goal.invariant-loop-line
invariant-loop-line l = (l.number + length l.line-iterator ≡ length (lines_of l.text))
    × (l.unused.items ++ unused_from (lines_of l.text) (suc l.number) l.line-iterator ≡ unused_ranges (lines_of l.text))
