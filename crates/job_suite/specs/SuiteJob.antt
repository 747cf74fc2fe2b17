-- The words of the job `suite`.
use Rattle.std.specs.Prelude.{◌≡◌, ◌≢◌, ◌⊎◌, ℕ, true, false, List, [], Option, Some, None, All, codes, option_map, string_bytes}
use Rattle.std.specs.List.{after_first, before_first}
use Rattle.clap.specs.Walk.{Row, first_of}
use Rattle.clap.specs.Simple.{App, new_app, with_rule}
use Rattle.job_parts.specs.Arguments.{flag_rule, is_flag_set, option_rule}
use Rattle.job_parts.specs.Inputs.{InputValue, input}
use Rattle.job_parts.specs.Options.{IsNumberWithin, WritesSuch, list_parts}
use Rattle.job_parts.specs.declared.inputs.Content.{Content}
use Rattle.job_parts.specs.declared.inputs.Content.TheVariants.{Node, Table}
use Rattle.job_parts.specs.declared.usage.UsageFault.{UsageFault}
use Rattle.job_parts.specs.declared.usage.UsageFault.TheVariants.{Parse, BadOption, Memory}
use Rattle.job_packets.specs.HexWords.{Has}
use Rattle.job_packets.specs.Slots.{WritesSlots}
use Rattle.job_suite.specs.Ranges.{IsRangeWord, WriteRanges, is_colon}
use Rattle.job_suite.specs.Rows.{is_beginning}
use Rattle.job_suite.specs.declared.ranges.MemoryRange.{MemoryRange}
use Rattle.job_suite.specs.declared.words.SuiteWords.{SuiteWords}
use Rattle.job_suite.specs.declared.words.TableWord.{TableWord}

-- `suite [--node FILE] [--seed N] [--rows PREFIX] [--without LIST] [--table SLOTS:FILE]`
abbrev pub rows_app : App
rows_app =
    with_rule
    (with_rule
    (with_rule
    (with_rule (with_rule (new_app (codes "suite")) (option_rule (codes "node"))) (option_rule (codes "seed")))
    (option_rule (codes "rows"))) (option_rule (codes "without"))) (option_rule (codes "table"))

-- the same, with `[--within LIST] [--loads] [--index]` after it
abbrev pub suite_app : App
suite_app =
    with_rule (with_rule (with_rule rows_app (option_rule (codes "within"))) (flag_rule (codes "loads")))
    (flag_rule (codes "index"))

-- a file that must be this
abbrev pub file_input : Content → Option (List ℕ) → Option InputValue
file_input content None = None
file_input content (Some name) = Some (input name content)

-- the node's file, if there is one
abbrev pub node_read : SuiteWords → Option InputValue
node_read words = file_input Node (option_map string_bytes words.node)

-- the name of the table's file, if a table is named
abbrev pub name_of_table : Option TableWord → Option (List ℕ)
name_of_table None = None
name_of_table (Some table) = Some (string_bytes table.name)

-- what the job reads first: the table, if one is named, else the node's file
abbrev pub read_first : (table : Option (List ℕ)) → (node : Option InputValue) → Option InputValue
read_first None own = own
read_first (Some name) own = Some (input name Table)

-- what the job reads first, by its words
abbrev pub suite_first_read : SuiteWords → Option InputValue
suite_first_read words = read_first (name_of_table words.table) (node_read words)

-- what it reads after that: the node's file, if a table was read
abbrev pub read_second : (table : Option (List ℕ)) → (node : Option InputValue) → Option InputValue
read_second None own = None
read_second (Some name) own = own

-- what the job reads second, by its words
abbrev pub suite_second_read : SuiteWords → Option InputValue
suite_second_read words = read_second (name_of_table words.table) (node_read words)

-- the seed is the number that the option's value writes; without the option it is 0
abbrev pub GivesSeed : Option (List ℕ) → ℕ → Type 0
GivesSeed None seed = seed ≡ 0
GivesSeed (Some word) seed = WritesSuch (IsNumberWithin 0 4294967295) word seed

-- the option has a value that writes no seed
abbrev pub IsBadSeed : Option (List ℕ) → Type 0
IsBadSeed None = ⊥
IsBadSeed (Some word) = ¬ IsNumberWithin 0 4294967295 word

-- the beginning of names is the option's value, with which the names of some rows may begin; without the option it is empty
abbrev pub GivesRows : Option (List ℕ) → List ℕ → Type 0
GivesRows None beginning = beginning ≡ []
GivesRows (Some word) beginning = (beginning ≡ word) × (is_beginning word ≡ true)

-- the option has a value with which no name begins
abbrev pub AreBadRows : Option (List ℕ) → Type 0
AreBadRows None = ⊥
AreBadRows (Some word) = is_beginning word ≡ false

-- each part of a list is a beginning of names of rows
abbrev pub AreBeginnings : List ℕ → Type 0
AreBeginnings list = All (λ part. is_beginning part ≡ true) (list_parts list)

-- the beginnings of names that are left out are the option's value; without the option there are none
abbrev pub GivesWithout : Option (List ℕ) → List ℕ → Type 0
GivesWithout None list = list ≡ []
GivesWithout (Some word) list = (list ≡ word) × AreBeginnings word

-- the option has a value with a part with which no name begins
abbrev pub IsBadWithout : Option (List ℕ) → Type 0
IsBadWithout None = ⊥
IsBadWithout (Some word) = ¬ AreBeginnings word

-- a word names a table: `SLOTS:FILE`
pub record WritesTable (word : List ℕ) (table : TableWord) : Type 0 where
  pub slots : WritesSlots (before_first is_colon word) table.slots.items
  pub name : string_bytes table.name ≡ after_first is_colon word
  pub named : after_first is_colon word ≢ []

-- it names some table
abbrev pub IsTableWord : List ℕ → Type 0
IsTableWord word = Has (WritesSlots (before_first is_colon word)) × (after_first is_colon word ≢ [])

-- the table is that which the option's value names; without the option there is none
abbrev pub GivesTable : Option (List ℕ) → Option TableWord → Type 0
GivesTable None table = table ≡ None
GivesTable (Some word) None = ⊥
GivesTable (Some word) (Some table) = WritesTable word table

-- the option has a value that names no table
abbrev pub IsBadTable : Option (List ℕ) → Type 0
IsBadTable None = ⊥
IsBadTable (Some word) = ¬ IsTableWord word

-- the ranges are those that the option's value writes; without the option there are none
abbrev pub GivesRanges : Option (List ℕ) → List MemoryRange → Type 0
GivesRanges None ranges = ranges ≡ []
GivesRanges (Some text) ranges = WriteRanges (list_parts text) ranges

-- a list of which each part writes a range
abbrev pub IsRangeList : List ℕ → Type 0
IsRangeList text = All IsRangeWord (list_parts text)

-- the option has a value that writes no ranges
abbrev pub AreBadRanges : Option (List ℕ) → Type 0
AreBadRanges None = ⊥
AreBadRanges (Some text) = ¬ IsRangeList text

-- matches with such a seed
abbrev pub RefusesSeed : List Row → UsageFault → Type 0
RefusesSeed rows Memory = ⊥
RefusesSeed rows BadOption = IsBadSeed (first_of (codes "seed") rows)
RefusesSeed rows (Parse text) = ⊥

-- matches with such ranges, or memory was refused
abbrev pub RefusesRanges : List Row → UsageFault → Type 0
RefusesRanges rows Memory = Unit {0}
RefusesRanges rows BadOption = AreBadRanges (first_of (codes "within") rows)
RefusesRanges rows (Parse text) = ⊥

-- matches with such a beginning, or memory was refused
abbrev pub RefusesRows : List Row → UsageFault → Type 0
RefusesRows rows Memory = Unit {0}
RefusesRows rows BadOption = AreBadRows (first_of (codes "rows") rows)
RefusesRows rows (Parse text) = ⊥

-- the same of those that are left out
abbrev pub RefusesWithout : List Row → UsageFault → Type 0
RefusesWithout rows Memory = Unit {0}
RefusesWithout rows BadOption = IsBadWithout (first_of (codes "without") rows)
RefusesWithout rows (Parse text) = ⊥

-- matches with such a table, or memory was refused
abbrev pub RefusesTable : List Row → UsageFault → Type 0
RefusesTable rows Memory = Unit {0}
RefusesTable rows BadOption = IsBadTable (first_of (codes "table") rows)
RefusesTable rows (Parse text) = ⊥

-- the words are those of suite with these matches
pub record NamesSuite (rows : List Row) (words : SuiteWords) : Type 0 where
  pub node : option_map string_bytes words.node ≡ first_of (codes "node") rows
  pub seed : GivesSeed (first_of (codes "seed") rows) words.seed
  pub rows_are : GivesRows (first_of (codes "rows") rows) (string_bytes words.rows)
  pub without : GivesWithout (first_of (codes "without") rows) (string_bytes words.without)
  pub table : GivesTable (first_of (codes "table") rows) words.table
  pub within : GivesRanges (first_of (codes "within") rows) words.within.items
  pub loads : words.loads ≡ is_flag_set (codes "loads") rows
  pub index : words.index ≡ is_flag_set (codes "index") rows

-- matches with a seed, beginnings of names, a table or ranges that are none
abbrev pub SpoilsSuite : List Row → Type 0
SpoilsSuite rows =
    IsBadSeed (first_of (codes "seed") rows) ⊎ AreBadRows (first_of (codes "rows") rows)
    ⊎ IsBadWithout (first_of (codes "without") rows) ⊎ IsBadTable (first_of (codes "table") rows)
    ⊎ AreBadRanges (first_of (codes "within") rows)

-- such matches, or memory was refused
abbrev pub RefusesSuite : List Row → UsageFault → Type 0
RefusesSuite rows Memory = Unit {0}
RefusesSuite rows BadOption = SpoilsSuite rows
RefusesSuite rows (Parse text) = ⊥
