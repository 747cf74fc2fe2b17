-- The arguments of the jobs that verify an image.
use Rattle.std.specs.Prelude.{◌≡◌, ◌⊎◌, List, Some, None, codes, string_bytes}
use Rattle.clap.specs.Walk.{Row, Text, first_of}
use Rattle.clap.specs.Simple.{App, with_rule}
use Rattle.job_parts.specs.Arguments.{image_app, option_rule}
use Rattle.job_parts.specs.Options.{GivesSizes, IsBadList}
use Rattle.job_parts.specs.declared.usage.UsageFault.{UsageFault}
use Rattle.job_parts.specs.declared.usage.UsageFault.TheVariants.{Parse, BadOption, Memory}
use Rattle.job_texts.specs.declared.images.ImageArgs.{ImageArgs}

-- a subcommand of this name: `NAME FILE [--maps LIST]`
abbrev pub maps_app : Text → App
maps_app name = with_rule (image_app name) (option_rule (codes "maps"))

-- the arguments are those of these matches
abbrev pub NamesImage : List Row → ImageArgs → Type 0
NamesImage rows args = (first_of (codes "image") rows ≡ Some (string_bytes args.image))
    × GivesSizes (first_of (codes "maps") rows) args.sizes

-- matches without the file, or with a list of maps that is none
abbrev pub SpoilsImage : List Row → Type 0
SpoilsImage rows = (first_of (codes "image") rows ≡ None) ⊎ IsBadList (first_of (codes "maps") rows)

-- such matches, or memory was refused
abbrev pub RefusesImage : List Row → UsageFault → Type 0
RefusesImage rows Memory = Unit {0}
RefusesImage rows BadOption = SpoilsImage rows
RefusesImage rows (Parse text) = ⊥
