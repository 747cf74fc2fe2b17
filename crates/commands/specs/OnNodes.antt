-- Jobs for the node of a file, which says what their options would say of a node.
use Rattle.std.specs.Prelude.{◌&&◌, Bool, if◌then◌else◌, List, Option, None, codes}
use Rattle.clap.specs.Walk.{Row, Text, first_of}
use Rattle.clap.specs.Simple.{App, with_rule}
use Rattle.job_config.specs.Sources.{lacks}
use Rattle.job_parts.specs.Arguments.{option_rule}
use Rattle.commands.specs.Jobs.{facts_of}
use Rattle.commands.specs.declared.jobs.Job.{Job}

-- a subcommand with the option `--node`
abbrev pub with_node_option : App → App
with_node_option app = with_rule app (option_rule (codes "node"))

-- the name of the node's file that such a job is left to, if the matches have one
abbrev pub own_file : Job → List Row → Option Text
own_file job rows = if (facts_of job).takes_file then first_of (codes "node") rows else None

-- the options that say what a node's file says are left to it
abbrev pub are_left : List Row → Bool
are_left rows = lacks (codes "maps") rows && lacks (codes "ports") rows && lacks (codes "target") rows
