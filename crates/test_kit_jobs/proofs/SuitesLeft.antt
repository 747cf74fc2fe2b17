-- What the job `suite` leaves in a folder: its reads changed nothing.
use Rattle.std.proofs.Common.{◌≡◌, ◌∙◌, inl, inr, ℕ, List, Option, Some, None}
use Rattle.std.specs.Prelude.{option_map, string_bytes}
use Rattle.bver.specs.Justified.{AcceptedValue}
use Rattle.job_config.specs.OwnNodes.{OwnNodeValue}
use Rattle.job_parts.specs.declared.faults.Fault.{Fault}
use Rattle.job_suite.specs.SuiteFile.{HoldsTableAndNode, HoldsNoSuiteNode, HoldsSuiteNode, IsNoSuite, PrintsSuite}
use Rattle.job_suite.specs.SuiteJob.{name_of_table}
use Rattle.job_suite.specs.Tables.{ReadsSuiteTable, LacksSuiteTable}
use Rattle.job_suite.specs.declared.trials.Bench.{Bench}
use Rattle.job_suite.specs.declared.words.SuiteWords.{SuiteWords}
use Rattle.test_kit_jobs.proofs.NodesLeft.{no_node, some_read, unread}
use Rattle.folders.specs.Folders.{FolderReads, FolderValue}

-- the node was read
held : (node : Option (List ℕ)) (before : FolderValue) (own : OwnNodeValue) (first : AcceptedValue) (after : FolderValue)
    → HoldsSuiteNode FolderReads node before own first after → after ≡ before
held None before own first after holds = holds.1
held (Some name) before own first after holds = some_read before after holds.only_reads

-- there is none
unheld : (node : Option (List ℕ)) (before after : FolderValue) (fault : Fault) → HoldsNoSuiteNode FolderReads node before after fault
    → after ≡ before
unheld None before after fault none = none.1
unheld (Some name) before after fault none = no_node name before after fault none

-- the table was read, if one is named
asked : (name : Option (List ℕ)) (before : FolderValue) (text : Option (List ℕ)) (after : FolderValue)
    → ReadsSuiteTable FolderReads name before text after → after ≡ before
asked None before text after read = read.1
asked (Some name) before None after read = absurd read
asked (Some name) before (Some text) after read = read.read.0

unasked : (name : Option (List ℕ)) (before : FolderValue) (fault : Fault) (after : FolderValue)
    → LacksSuiteTable FolderReads name before fault after → after ≡ before
unasked None before fault after none = absurd none
unasked (Some name) before fault after none = unread before name none.no_text.given after none.no_text.read

-- both were read
all_held : (words : SuiteWords) (before : FolderValue) (table : Option (List ℕ)) (own : OwnNodeValue) (first : AcceptedValue) (b : Bench)
    (after : FolderValue) → HoldsTableAndNode FolderReads words before table own first b after → after ≡ before
all_held words before table own first b after is =
    held (option_map string_bytes words.node) is.middle own first after is.held
    ∙ asked (name_of_table words.table) before table is.middle is.read

pub prints_suite : (words : SuiteWords) (before after : FolderValue) (old new : Option (List ℕ))
    → PrintsSuite FolderReads words before after old new → after ≡ before
prints_suite words before after old new is = all_held words before is.table is.own is.first is.bench after is.held

pub no_suite : (words : SuiteWords) (before after : FolderValue) (fault : Fault) → IsNoSuite FolderReads words before after fault
    → after ≡ before
no_suite words before after fault (inl none) = unasked (name_of_table words.table) before fault after none
no_suite words before after fault (inr (inl none)) =
    unheld (option_map string_bytes words.node) none.middle after fault none.none
    ∙ asked (name_of_table words.table) before none.table none.middle none.read
no_suite words before after fault (inr (inr (inl none))) = all_held words before none.table none.own none.first none.bench after none.held
no_suite words before after fault (inr (inr (inr unreported))) =
    held (option_map string_bytes words.node) unreported.middle unreported.own unreported.first after unreported.held
    ∙ asked (name_of_table words.table) before unreported.table unreported.middle unreported.read
