use Rattle.std.proofs.Common.{◌≡◌, ◌++◌, ℕ, List}
use Rattle.spw.specs.Line.{lines_of}
use Rattle.policy_table.specs.Lines.{AreRules}
use Rattle.policy_table.proofs.lines.read_rules.Given as goal

-- the lines so far are the rules
abbrev pub invariant-loop-line : goal.invariant-loop-line
invariant-loop-line l = (done : List (List ℕ)) × (done ++ l.line-iterator ≡ lines_of l.fn.text) × AreRules done l.rules.items
