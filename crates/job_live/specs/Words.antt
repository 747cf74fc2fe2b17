-- The words of the job `live`.
use Rattle.std.specs.Prelude.{◌≡◌, ◌⊎◌, ◌==◌, ℕ, Bool, false, true, List, Option, None, Some, codes}
use Rattle.std.specs.Str.Parse.{digits_value}
use Rattle.clap.specs.Walk.{Row, first_of}
use Rattle.clap.specs.Simple.{App, new_app, with_rule}
use Rattle.job_config.specs.Sources.{GivesSource, SpoilsSource, with_source_options}
use Rattle.job_config.specs.declared.sources.NodeSource.{NodeSource}
use Rattle.job_config.specs.declared.sources.NodeSource.TheVariants.{File, Words}
use Rattle.job_parts.specs.Arguments.{flag_rule, is_flag_set, option_rule}
use Rattle.job_parts.specs.Options.{IsNumberWithin}
use Rattle.job_parts.specs.declared.usage.UsageFault.{UsageFault}
use Rattle.job_parts.specs.declared.usage.UsageFault.TheVariants.{Parse, BadOption, Memory}
use Rattle.job_live.specs.declared.words.LiveWords.{LiveWords}

-- `live [--image FILE] [--maps LIST] [--ports N] [--scrub N] [--entries] [--frames]`, or `live --node FILE [--scrub N]
-- [--entries] [--frames]`
abbrev pub live_app : App
live_app =
    with_rule
    (with_rule (with_rule (with_source_options (new_app (codes "live"))) (option_rule (codes "scrub"))) (flag_rule (codes "entries")))
    (flag_rule (codes "frames"))

-- the N of a scrub before each N-th packet: one to 2³² - 1
abbrev pub IsScrubCount : List ℕ → Type 0
IsScrubCount word = IsNumberWithin 1 4294967295 word

-- the count is what the option's value writes; without the option there is none
abbrev pub GivesScrub : Option (List ℕ) → Option ℕ → Type 0
GivesScrub None scrub = scrub ≡ None
GivesScrub (Some word) scrub = IsScrubCount word × (scrub ≡ Some (digits_value 10 word))

-- the option has a value that is no such count
abbrev pub IsBadScrub : Option (List ℕ) → Type 0
IsBadScrub None = ⊥
IsBadScrub (Some word) = ¬ IsScrubCount word

-- matches with such a value of --scrub
abbrev pub RefusesScrub : List Row → UsageFault → Type 0
RefusesScrub rows Memory = ⊥
RefusesScrub rows BadOption = IsBadScrub (first_of (codes "scrub") rows)
RefusesScrub rows (Parse text) = ⊥

-- frames may come to a node of a file, at its port 0, and to a node of words that has one port
abbrev pub serves_frames : NodeSource → Bool
serves_frames (File name) = true
serves_frames (Words words) = words.ports == 1

-- the words are those of live with these matches; a link of frames is one port
pub record NamesLive (rows : List Row) (words : LiveWords) : Type 0 where
  pub node : GivesSource rows words.node
  pub scrub : GivesScrub (first_of (codes "scrub") rows) words.scrub
  pub entries : words.entries ≡ is_flag_set (codes "entries") rows
  pub frames : words.frames ≡ is_flag_set (codes "frames") rows
  pub link : words.frames ≡ true → serves_frames words.node ≡ true

-- matches that want frames, and name a node of another number of ports than one
pub record WantsOtherPorts (rows : List Row) : Type 0 where
  pub frames : is_flag_set (codes "frames") rows ≡ true
  pub source : NodeSource
  pub given : GivesSource rows source
  pub others : serves_frames source ≡ false

-- matches with an option that is none, or with frames at another number of ports than one
abbrev pub SpoilsLive : List Row → Type 0
SpoilsLive rows = SpoilsSource rows ⊎ IsBadScrub (first_of (codes "scrub") rows) ⊎ WantsOtherPorts rows

-- such matches, or memory was refused
abbrev pub RefusesLive : List Row → UsageFault → Type 0
RefusesLive rows Memory = Unit {0}
RefusesLive rows BadOption = SpoilsLive rows
RefusesLive rows (Parse text) = ⊥
