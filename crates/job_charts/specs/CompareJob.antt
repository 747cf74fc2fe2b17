-- The words of the job `compare`.
use Rattle.std.specs.Prelude.{◌≡◌, ◌⊎◌, false, List, Some, None, codes, string_bytes}
use Rattle.clap.specs.Walk.{Row, first_of}
use Rattle.clap.specs.Simple.{App, new_app, with_rule}
use Rattle.job_parts.specs.Arguments.{file_rule, flag_rule, is_flag_set, option_rule}
use Rattle.job_parts.specs.Options.{GivesSizes, IsBadList}
use Rattle.job_parts.specs.TwoFiles.{NamesOneInput, are_one_input}
use Rattle.job_parts.specs.declared.usage.UsageFault.{UsageFault}
use Rattle.job_parts.specs.declared.usage.UsageFault.TheVariants.{Parse, BadOption, Memory}
use Rattle.job_decide.specs.DecideJob.{own_windows}
use Rattle.job_charts.specs.ChartScope.{GivesAsking, SpoilsAsking, with_asking}
use Rattle.job_charts.specs.declared.compare.CompareWords.{CompareWords}

-- `compare OLD NEW [--maps LIST] [--markdown]`, and after it the options of the commands that are asked of
abbrev pub compare_app : App
compare_app =
    with_asking
    (with_rule
    (with_rule
    (with_rule (with_rule (new_app (codes "compare")) (file_rule (codes "old"))) (file_rule (codes "new")))
    (option_rule (codes "maps"))) (flag_rule (codes "markdown")))

-- the words are those of compare with these matches
pub record NamesCompare (rows : List Row) (words : CompareWords) : Type 0 where
  pub old : first_of (codes "old") rows ≡ Some (string_bytes words.old)
  pub new : first_of (codes "new") rows ≡ Some (string_bytes words.new)
  pub apart : are_one_input (string_bytes words.old) (string_bytes words.new) ≡ false
  pub sizes : GivesSizes (first_of (codes "maps") rows) words.sizes
  pub markdown : words.markdown ≡ is_flag_set (codes "markdown") rows
  pub windows : words.windows ≡ own_windows
  pub asking : GivesAsking rows words.asking

-- matches without one of the files, with one input for both, or with a list of maps that is none. Or they do not say
-- which commands are asked of
abbrev pub SpoilsCompare : List Row → Type 0
SpoilsCompare rows = (first_of (codes "old") rows ≡ None) ⊎ (first_of (codes "new") rows ≡ None) ⊎ NamesOneInput rows
    ⊎ IsBadList (first_of (codes "maps") rows) ⊎ SpoilsAsking rows

-- such matches, or memory was refused
abbrev pub RefusesCompare : List Row → UsageFault → Type 0
RefusesCompare rows Memory = Unit {0}
RefusesCompare rows BadOption = SpoilsCompare rows
RefusesCompare rows (Parse text) = ⊥
