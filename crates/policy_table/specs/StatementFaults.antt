-- What is wrong with a line of a table, in words.
use Rattle.std.specs.Prelude.{ℕ, zero, suc, ◌-◌, Bool, true, false, ◌&&◌, nat_lt, if◌then◌else◌, List, ◌++◌, codes, decimal}
use Rattle.policy_table.specs.Words.{word_form, word_number}
use Rattle.policy_table.specs.declared.faults.PolicyFault.{PolicyFault}
use Rattle.policy_table.specs.declared.faults.PolicyFault.TheVariants as faults
use Rattle.policy_table.specs.declared.statement_faults.StatementFault.{StatementFault}
use Rattle.policy_table.specs.declared.statement_faults.StatementFault.TheVariants.{Version, Comment, Directive}
use Rattle.policy_table.specs.declared.statement_faults.StatementFault.TheVariants.{RangeCount, RangeJoined, RangeName}
use Rattle.policy_table.specs.declared.statement_faults.StatementFault.TheVariants.{RangeTwice, RangeLow, RangeHigh}
use Rattle.policy_table.specs.declared.statement_faults.StatementFault.TheVariants.{LineCount, RuleCount, RuleJoined}
use Rattle.policy_table.specs.declared.statement_faults.StatementFault.TheVariants.{Word, Port, RangeOrder, RuleOrder}
use Rattle.policy_table.specs.declared.statement_faults.StatementFault.TheVariants.{NoCell, TooManyRules, TooManySlots}
use Rattle.policy_table.specs.declared.words.RuleWord.{RuleWord}
use Rattle.policy_table.specs.declared.words.RuleWord.TheVariants.{Kind, Key, Initiator, Extended, Low, High, Quota, Verdict}

-- the number of a word of a rule in its line: one less after the name of a range
abbrev pub word_place : RuleWord → (named : Bool) → ℕ
word_place word named = if named && nat_lt 5 (word_number word) then word_number word - 1 else word_number word

-- the form of a word of a rule, as it is printed: there may be a name in place of LOW and HIGH
abbrev pub rule_form : RuleWord → (named : Bool) → List ℕ
rule_form Kind named = word_form Kind
rule_form Key named = word_form Key
rule_form Initiator named = word_form Initiator
rule_form Extended named = word_form Extended
rule_form Low true = codes "NAME is of no range above"
rule_form Low false = codes "LOW is eight hexadecimal digits, or in version 2 the NAME of a range above"
rule_form High named = word_form High
rule_form Quota named = word_form Quota
rule_form Verdict named = word_form Verdict

-- the number of the word after the verdict
abbrev pub port_place : (named : Bool) → ℕ
port_place true = 8
port_place false = 9

-- how many words a line of version 1 has, if these are not eight
abbrev pub count_text : (words : ℕ) → List ℕ
count_text zero = codes "has no words, and empty lines are of version 2, whose line 1 is .version 2"
count_text (suc n) =
    codes "ends after word " ++ decimal (suc n) ++ codes ", and a rule has 8: KIND KEY INIT EXT LOW HIGH QUOTA VERDICT"

-- what is wrong with a line, with its word and what is wanted there
abbrev pub statement_fault_text : StatementFault → List ℕ
statement_fault_text Version = codes "word 1: .version 2 must be line 1, before all else, and 2 is the only number"
statement_fault_text Comment = codes "word 1: a comment begins with ; and is of version 2, whose line 1 is .version 2"
statement_fault_text Directive = codes "word 1: the directives are .range NAME LOW HIGH and, in line 1, .version 2"
statement_fault_text (RangeCount words) =
    codes "has " ++ decimal words ++ codes " words after .range, and a range has 3: NAME LOW HIGH"
statement_fault_text RangeJoined = codes "word 3: LOW and HIGH are two words, with a space between them"
statement_fault_text RangeName =
    codes "word 2: NAME is a letter, then letters, digits and underscores, and not eight hexadecimal digits"
statement_fault_text RangeTwice = codes "word 2: NAME is of a range above"
statement_fault_text RangeLow = codes "word 3: LOW is eight hexadecimal digits"
statement_fault_text RangeHigh = codes "word 4: HIGH is eight hexadecimal digits"
statement_fault_text (LineCount words) = count_text words
statement_fault_text (RuleCount words) =
    codes "ends after word " ++ decimal words
    ++ codes ", and a rule has 8: KIND KEY INIT EXT LOW HIGH QUOTA VERDICT, or NAME for LOW HIGH"
statement_fault_text RuleJoined = codes "word 5: LOW and HIGH are two words, with a space between them"
statement_fault_text (Word word named) =
    codes "word " ++ decimal (word_place word named) ++ codes ": " ++ rule_form word named
statement_fault_text (Port named) =
    codes "word " ++ decimal (port_place named) ++ codes ": after VERDICT only port P may come, with P from 0 to 31"
statement_fault_text RangeOrder = codes "word 3: LOW is above HIGH"
statement_fault_text RuleOrder = codes "word 5: LOW is above HIGH"
statement_fault_text (NoCell named) =
    codes "word " ++ decimal (word_place Quota named) ++ codes ": QUOTA is of no cell of a counter map"
statement_fault_text TooManyRules = codes "is rule 13, and a table of version 1 has at most 12"
statement_fault_text (TooManySlots slots left) =
    codes "does not fit: its rule takes " ++ decimal slots ++ codes " slots, more than are left of the 512 of an image"

-- the fault without its place
abbrev pub policy_fault_in : StatementFault → PolicyFault
policy_fault_in Version = faults.BadLine
policy_fault_in Comment = faults.BadLine
policy_fault_in Directive = faults.BadLine
policy_fault_in (RangeCount words) = faults.BadLine
policy_fault_in RangeJoined = faults.BadLine
policy_fault_in RangeName = faults.BadLine
policy_fault_in RangeTwice = faults.BadLine
policy_fault_in RangeLow = faults.BadLine
policy_fault_in RangeHigh = faults.BadLine
policy_fault_in (LineCount words) = faults.BadLine
policy_fault_in (RuleCount words) = faults.BadLine
policy_fault_in RuleJoined = faults.BadLine
policy_fault_in (Word word named) = faults.BadLine
policy_fault_in (Port named) = faults.BadLine
policy_fault_in RangeOrder = faults.BadRange
policy_fault_in RuleOrder = faults.BadRange
policy_fault_in (NoCell named) = faults.NoCell
policy_fault_in TooManyRules = faults.TooLong
policy_fault_in (TooManySlots slots left) = faults.TooLong
