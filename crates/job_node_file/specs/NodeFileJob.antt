-- The words of the job `node`.
use Rattle.std.specs.Prelude.{◌≡◌, List, Option, Some, None, codes, option_map, string_bytes}
use Rattle.clap.specs.Walk.{Row, first_of}
use Rattle.clap.specs.Simple.{App, new_app, with_rule}
use Rattle.job_parts.specs.Arguments.{file_rule, flag_rule, is_flag_set, option_rule}
use Rattle.job_parts.specs.Inputs.{InputValue, input}
use Rattle.job_parts.specs.declared.inputs.Content.TheVariants.{Node, Table}
use Rattle.job_node_file.specs.declared.node_file.NodeFileWords.{NodeFileWords}

-- `node FILE [--c] [--table TABLE]`
abbrev pub node_file_app : App
node_file_app =
    with_rule
    (with_rule (with_rule (new_app (codes "node")) (file_rule (codes "node"))) (flag_rule (codes "c")))
    (option_rule (codes "table"))

-- the words are those of node with these matches
abbrev pub NamesNodeFile : List Row → NodeFileWords → Type 0
NamesNodeFile rows words =
    (first_of (codes "node") rows ≡ Some (string_bytes words.node)) × (words.header ≡ is_flag_set (codes "c") rows)
    × (first_of (codes "table") rows ≡ option_map string_bytes words.table)

-- the table, if one is named
abbrev pub table_input : NodeFileWords → Option InputValue
table_input words = option_map (λ name. input (string_bytes name) Table) words.table

-- the one of two files that is read first: the table, if there is one
abbrev pub first_of_two : (table : Option InputValue) → (node : InputValue) → Option InputValue
first_of_two None node = Some node
first_of_two (Some table) node = Some table

-- the one that is read after it
abbrev pub second_of_two : (table : Option InputValue) → (node : InputValue) → Option InputValue
second_of_two None node = None
second_of_two (Some table) node = Some node

-- the file that the job reads first
abbrev pub first_input : NodeFileWords → Option InputValue
first_input words = first_of_two (table_input words) (input (string_bytes words.node) Node)

-- the file that it reads second, if it reads two
abbrev pub second_input : NodeFileWords → Option InputValue
second_input words = second_of_two (table_input words) (input (string_bytes words.node) Node)
