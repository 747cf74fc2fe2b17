use Rattle.std.proofs.Common.{◌≡◌, ◌+◌, suc, length}
use Rattle.policy_table.specs.Surveys.{FindsLines, SurveyValue, empty_survey}
use Rattle.policy_table.proofs.surveys.survey_lines.Given as goal

-- whatever is found in the lines that are left is found in all lines
abbrev pub invariant-loop-text : goal.invariant-loop-text
invariant-loop-text l = (l.line + length l.text-iterator ≡ l.before + length l.fn.lines)
    × ((end : SurveyValue) → FindsLines l.version l.sizes (suc l.line) l.text-iterator l.survey end → FindsLines l.version l.sizes (suc l.before) l.fn.lines (empty_survey l.version) end)
