-- The words of the job `weigh`.
use Rattle.std.specs.Prelude.{◌≡◌, ◌⊎◌, List, Some, None, codes, string_bytes}
use Rattle.clap.specs.Walk.{Row, first_of}
use Rattle.clap.specs.Simple.{App, with_rule}
use Rattle.job_parts.specs.Arguments.{image_app, option_rule}
use Rattle.job_parts.specs.Options.{GivesSizes, IsBadList}
use Rattle.job_parts.specs.declared.usage.UsageFault.{UsageFault}
use Rattle.job_parts.specs.declared.usage.UsageFault.TheVariants.{Parse, BadOption, Memory}
use Rattle.job_weigh.specs.Times.{AreBadTimes, GivesTimes}
use Rattle.job_weigh.specs.declared.weigh.WeighWords.{WeighWords}

-- `weigh FILE [--maps LIST] [--ns D,C,J,R]`
abbrev pub weigh_app : App
weigh_app = with_rule (with_rule (image_app (codes "weigh")) (option_rule (codes "maps"))) (option_rule (codes "ns"))

-- the words are those of weigh with these matches
abbrev pub NamesWeigh : List Row → WeighWords → Type 0
NamesWeigh rows words = (first_of (codes "image") rows ≡ Some (string_bytes words.image))
    × GivesSizes (first_of (codes "maps") rows) words.sizes × GivesTimes (first_of (codes "ns") rows) words.times

-- matches without the file, or with a list of maps or of times that is none
abbrev pub SpoilsWeigh : List Row → Type 0
SpoilsWeigh rows = (first_of (codes "image") rows ≡ None) ⊎ IsBadList (first_of (codes "maps") rows)
    ⊎ AreBadTimes (first_of (codes "ns") rows)

-- such matches, or memory was refused
abbrev pub RefusesWeigh : List Row → UsageFault → Type 0
RefusesWeigh rows Memory = Unit {0}
RefusesWeigh rows BadOption = SpoilsWeigh rows
RefusesWeigh rows (Parse text) = ⊥
