-- Where the node of a job comes from: the words of its command line, or a file that is named there.
use Rattle.std.specs.Prelude.{◌≡◌, ◌&&◌, not, Bool, true, false, is_some, List, Option, Some, None, codes, string_bytes}
use Rattle.clap.specs.Walk.{Row, Text, first_of}
use Rattle.clap.specs.Simple.{App, with_rule}
use Rattle.job_parts.specs.Arguments.{option_rule}
use Rattle.job_parts.specs.Inputs.{InputValue, image_of, input}
use Rattle.job_parts.specs.Options.{GivesNode, SpoilsNode, with_node_options}
use Rattle.job_parts.specs.declared.inputs.Content.TheVariants.{Node}
use Rattle.job_parts.specs.declared.usage.UsageFault.{UsageFault}
use Rattle.job_parts.specs.declared.usage.UsageFault.TheVariants.{Parse, BadOption, Memory}
use Rattle.job_config.specs.declared.sources.NodeSource.{NodeSource}
use Rattle.job_config.specs.declared.sources.NodeSource.TheVariants.{File, Words}

-- an option has no value
abbrev pub lacks : Text → List Row → Bool
lacks name rows = not (is_some (first_of name rows))

-- no other option says anything of the node
abbrev pub is_alone : List Row → Bool
is_alone rows = lacks (codes "image") rows && lacks (codes "maps") rows && lacks (codes "ports") rows

-- the node comes from the file of that name, if there is one, and then no other option says anything of it; or else
-- from the other options
abbrev pub GivesSource : List Row → NodeSource → Type 0
GivesSource rows (File name) = (first_of (codes "node") rows ≡ Some (string_bytes name)) × (is_alone rows ≡ true)
GivesSource rows (Words words) = (first_of (codes "node") rows ≡ None) × GivesNode rows words

-- why matches name no node, if they have that name of a file: another option says something of it too, or is none
abbrev pub SpoilsBy : (file : Option Text) → List Row → Type 0
SpoilsBy (Some name) rows = is_alone rows ≡ false
SpoilsBy None rows = SpoilsNode rows

-- the same by the option `--node`
abbrev pub SpoilsSource : List Row → Type 0
SpoilsSource rows = SpoilsBy (first_of (codes "node") rows) rows

-- such matches, or memory was refused
abbrev pub RefusesSource : List Row → UsageFault → Type 0
RefusesSource rows Memory = Unit {0}
RefusesSource rows BadOption = SpoilsSource rows
RefusesSource rows (Parse text) = ⊥

-- a subcommand with the options of a node, or with its file:
-- `[--image FILE] [--maps LIST] [--ports N]` or `[--node FILE]`
abbrev pub with_source_options : App → App
with_source_options app = with_rule (with_node_options app) (option_rule (codes "node"))

-- the first file of the node: its own, or that of the image that judges, if one is named
abbrev pub first_file : NodeSource → Option InputValue
first_file (File name) = Some (input (string_bytes name) Node)
first_file (Words words) = image_of words
