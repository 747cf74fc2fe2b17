-- The arguments of the jobs that take the lines of a file on a node, which may have a file of its own.
use Rattle.std.specs.Prelude.{◌≡◌, ◌⊎◌, List, Some, None, codes, string_bytes}
use Rattle.clap.specs.Walk.{Row, Text, first_of}
use Rattle.clap.specs.Simple.{App, new_app, with_rule}
use Rattle.job_parts.specs.Arguments.{file_rule}
use Rattle.job_parts.specs.declared.usage.UsageFault.{UsageFault}
use Rattle.job_parts.specs.declared.usage.UsageFault.TheVariants.{Parse, BadOption, Memory}
use Rattle.job_config.specs.Sources.{GivesSource, SpoilsSource, with_source_options}
use Rattle.job_config.specs.declared.node_lines.NodeLines.{NodeLines}

-- a subcommand of this name: `NAME LINES [--image FILE] [--maps LIST] [--ports N]`, or `NAME LINES --node FILE`
abbrev pub node_lines_app : Text → App
node_lines_app name = with_source_options (with_rule (new_app name) (file_rule (codes "lines")))

-- the arguments are those of these matches
abbrev pub NamesNodeLines : List Row → NodeLines → Type 0
NamesNodeLines rows args =
    (first_of (codes "lines") rows ≡ Some (string_bytes args.lines)) × GivesSource rows args.node

-- matches without the file of lines, or with options that no node has
abbrev pub SpoilsNodeLines : List Row → Type 0
SpoilsNodeLines rows = (first_of (codes "lines") rows ≡ None) ⊎ SpoilsSource rows

-- such matches, or memory was refused
abbrev pub RefusesNodeLines : List Row → UsageFault → Type 0
RefusesNodeLines rows Memory = Unit {0}
RefusesNodeLines rows BadOption = SpoilsNodeLines rows
RefusesNodeLines rows (Parse text) = ⊥
