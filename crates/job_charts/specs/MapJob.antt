-- The words of the job `map`.
use Rattle.std.specs.Prelude.{◌≡◌, ◌⊎◌, ℕ, Option, List, Some, None, codes, string_bytes}
use Rattle.clap.specs.Walk.{Row, first_of}
use Rattle.clap.specs.Simple.{App, new_app, with_rule}
use Rattle.job_parts.specs.Arguments.{file_rule, flag_rule, is_flag_set, option_rule}
use Rattle.job_packets.specs.HexWords.{Has}
use Rattle.job_parts.specs.Options.{GivesSizes, IsBadList, IsNumberWithin, WritesSuch}
use Rattle.job_parts.specs.declared.usage.UsageFault.{UsageFault}
use Rattle.job_parts.specs.declared.usage.UsageFault.TheVariants.{Parse, BadOption, Memory}
use Rattle.job_charts.specs.ChartScope.{GivesAsking, SpoilsAsking, with_asking}
use Rattle.job_charts.specs.declared.map.MapWords.{MapWords}

-- `map TABLE [--maps LIST] [--markdown] [--quiet] [--lines N]`, and after it the options of the commands that are asked of
abbrev pub map_app : App
map_app =
    with_asking
    (with_rule
    (with_rule (with_rule (with_rule (with_rule (new_app (codes "map")) (file_rule (codes "table"))) (option_rule (codes "maps")))
    (flag_rule (codes "markdown"))) (flag_rule (codes "quiet")))
    (option_rule (codes "lines")))

-- how many lines are printed at most: one to 2³² - 1
abbrev pub IsLineCount : List ℕ → Type 0
IsLineCount word = IsNumberWithin 1 4294967295 word

-- as many as the option's value writes; 20,000 without the option
abbrev pub GivesLines : Option (List ℕ) → ℕ → Type 0
GivesLines None lines = lines ≡ 20000
GivesLines (Some word) lines = WritesSuch IsLineCount word lines

-- the words are those of map with these matches
abbrev pub NamesMap : List Row → MapWords → Type 0
NamesMap rows words = (first_of (codes "table") rows ≡ Some (string_bytes words.table))
    × GivesSizes (first_of (codes "maps") rows) words.sizes × (words.markdown ≡ is_flag_set (codes "markdown") rows)
    × (words.is_quiet ≡ is_flag_set (codes "quiet") rows) × GivesLines (first_of (codes "lines") rows) words.lines
    × GivesAsking rows words.asking

-- matches without the file, or with a list of maps or a number of lines that is none. Or they do not say which commands
-- are asked of
abbrev pub SpoilsMap : List Row → Type 0
SpoilsMap rows = (first_of (codes "table") rows ≡ None) ⊎ IsBadList (first_of (codes "maps") rows)
    ⊎ (¬ Has (GivesLines (first_of (codes "lines") rows))) ⊎ SpoilsAsking rows

-- such matches, or memory was refused
abbrev pub RefusesMap : List Row → UsageFault → Type 0
RefusesMap rows Memory = Unit {0}
RefusesMap rows BadOption = SpoilsMap rows
RefusesMap rows (Parse text) = ⊥
