-- What the reading of a node's file leaves in a folder: all as it was.
use Rattle.std.proofs.Common.{◌≡◌, ◌∙◌, inl, inr, ℕ, List, [], ◌∷◌, Option, Some, None}
use Rattle.job_config.specs.Reads.{AreRead, ReadsNoNode, SomeRead}
use Rattle.job_node_file.specs.Printed.{HasNoText}
use Rattle.job_node_file.specs.Quotas.{ReadsAsked, ReadsNotAsked}
use Rattle.job_node_file.specs.declared.node_file.NodeFileWords.{NodeFileWords}
use Rattle.job_parts.specs.declared.faults.Fault.{Fault}
use Rattle.folders.specs.Folders.{FolderReads, FolderValue}

-- a read leaves the folder as it was
pub unread : (before : FolderValue) (name : List ℕ) (given : Option (List ℕ)) (after : FolderValue)
    → FolderReads before name given after → after ≡ before
unread before name None after read = read
unread before name (Some bytes) after read = read.0

-- so do some
all_read : (files : List (List ℕ × Option (List ℕ))) (before after : FolderValue) → AreRead FolderReads files before after
    → after ≡ before
all_read [] before after same = same
all_read (r ∷ rs) before after (middle, one, others) = all_read rs middle after others ∙ unread before r.0 r.1 middle one

pub some_read : (before after : FolderValue) → SomeRead FolderReads before after → after ≡ before
some_read before after (files, read) = all_read files before after read

-- there is no node
pub no_node : (file : List ℕ) (before after : FolderValue) (fault : Fault) → ReadsNoNode FolderReads file before fault after
    → after ≡ before
no_node file before after fault (inl is) = unread before file is.no_text.given after is.no_text.read
no_node file before after fault (inr bad) = some_read before after bad.only_reads

-- the text of a table, if one is named
pub asked : (name : Option (List ℕ)) (before : FolderValue) (text : Option (List ℕ)) (after : FolderValue)
    → ReadsAsked FolderReads name before text after → after ≡ before
asked None before text after read = read.1
asked (Some name) before None after read = absurd read
asked (Some name) before (Some text) after read = read.read.0

-- why there is none
asked_none : (name : Option (List ℕ)) (before : FolderValue) (fault : Fault) (after : FolderValue)
    → ReadsNotAsked FolderReads name before fault after → after ≡ before
asked_none None before fault after none = absurd none
asked_none (Some name) before fault after none = unread before name none.no_text.given after none.no_text.read

-- no table or no node, or a node and no quotas of it or no memory for what is printed of it
pub unreported : (words : NodeFileWords) (before after : FolderValue) (fault : Fault) → HasNoText FolderReads words before after fault
    → after ≡ before
unreported words before after fault (inl none) = asked_none _ before fault after none
unreported words before after fault (inr (between, text, read, inl none)) =
    no_node _ between after fault none ∙ asked _ before text between read
unreported words before after fault (inr (between, text, read, inr (own, program, made, is))) =
    some_read between after made.only_reads ∙ asked _ before text between read
