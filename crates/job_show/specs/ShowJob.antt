-- The words of the job `show`.
use Rattle.std.specs.Prelude.{◌≡◌, List, Some, codes, string_bytes}
use Rattle.clap.specs.Walk.{Row, first_of}
use Rattle.clap.specs.Simple.{App, new_app, with_rule}
use Rattle.job_parts.specs.Arguments.{file_rule, flag_rule, is_flag_set}
use Rattle.job_show.specs.declared.show.ShowWords.{ShowWords}

-- `show LINES [--raw]`
abbrev pub show_app : App
show_app = with_rule (with_rule (new_app (codes "show")) (file_rule (codes "lines"))) (flag_rule (codes "raw"))

-- the words are those of show with these matches
abbrev pub NamesShow : List Row → ShowWords → Type 0
NamesShow rows words =
    (first_of (codes "lines") rows ≡ Some (string_bytes words.lines)) × (words.raw ≡ is_flag_set (codes "raw") rows)
