-- The tables of files, and how their faults are printed.
use Rattle.std.specs.Prelude.{◌≡◌, ◌-◌, ℕ, List, [], ◌∷◌, ◌++◌, Option, Some, None, codes, slice_index_or}
use Rattle.std.specs.Io.KnownBytes.{Appends}
use Rattle.std.specs.Str.{IsUtf8}
use Rattle.machine.specs.Sizes.{Maps}
use Rattle.policy_table.specs.Policies.{IsDrawnFault, IsPolicyFault, PolicyValue, WritesPolicy, drawn_fault, policy_fault}
use Rattle.policy_table.specs.TextFaults.{text_fault_of, text_fault_text}
use Rattle.policy_table.specs.declared.text_faults.TextFault.{TextFault}
use Rattle.spw.specs.Line.{lines_of}
use Rattle.job_parts.specs.Files.{ReadsFile}
use Rattle.job_parts.specs.Printed.{job_fault_line}
use Rattle.job_parts.specs.Reading.{TextUnread}
use Rattle.job_parts.specs.declared.faults.Fault.TheVariants.{BadTable as IsBadTable}
use Rattle.job_decide.specs.declared.tables.NoTable.{NoTable}
use Rattle.job_decide.specs.declared.tables.NoTable.TheVariants.{BadTable, Ended}

-- the line of the rule of this number, from 1; the rules are in these lines; 0 if there is no such rule
abbrev pub decision_line_of : (lines : List ℕ) → (number : ℕ) → ℕ
decision_line_of lines number = slice_index_or lines (number - 1) 0

-- the line with the place of a table's fault
abbrev pub place_line : TextFault → List ℕ
place_line fault = codes "    " ++ text_fault_text fault ++ 10 ∷ []

-- the line of a table's fault was printed, and after it a line with the place
pub record PrintsTableFault (fault : TextFault) (old new : Option (List ℕ)) : Type 0 where
  pub reported : Option (List ℕ)
  pub line : Appends old reported (job_fault_line (IsBadTable (text_fault_of fault)))
  pub place : Appends reported new (place_line fault)

module _ {S : Type 0} (reads : ReadsFile S) where
  -- the file was read, and gave the UTF-8 of a table without a fault for these maps
  pub record HoldsSoundTable (before : S) (name : List ℕ) (sizes : Maps) (policy : PolicyValue) (after : S) : Type 0 where
    pub text : List ℕ
    pub read : reads before name (Some text) after
    pub utf8 : IsUtf8 text
    pub is_table : WritesPolicy (lines_of text) policy
    pub faultless : policy_fault sizes policy ≡ None

  -- the file was read, and gave the UTF-8 of this text, which is a table whose lines have no fault for these maps
  pub record HoldsTableText (before : S) (name : List ℕ) (sizes : Maps) (text : List ℕ) (policy : PolicyValue) (after : S) : Type 0 where
    pub read : reads before name (Some text) after
    pub utf8 : IsUtf8 text
    pub is_table : WritesPolicy (lines_of text) policy
    pub faultless : drawn_fault sizes policy ≡ None

  -- it gave some text that is such a table
  pub record HoldsDrawn (before : S) (name : List ℕ) (sizes : Maps) (policy : PolicyValue) (after : S) : Type 0 where
    pub text : List ℕ
    pub read : reads before name (Some text) after
    pub utf8 : IsUtf8 text
    pub is_table : WritesPolicy (lines_of text) policy
    pub faultless : drawn_fault sizes policy ≡ None

  -- the file was read, and gave the UTF-8 of a table whose first fault for these maps is this one, with its place
  pub record HoldsTableWithFault (before : S) (name : List ℕ) (sizes : Maps) (fault : TextFault) (after : S) : Type 0 where
    pub text : List ℕ
    pub read : reads before name (Some text) after
    pub utf8 : IsUtf8 text
    pub is_fault : IsPolicyFault sizes (lines_of text) fault

  -- why there is no table: the file cannot be read or is not UTF-8, or its table has a fault
  abbrev pub LacksTable : (before : S) (name : List ℕ) (sizes : Maps) (after : S) → NoTable → Type 0
  LacksTable before name sizes after (Ended fault) = TextUnread reads before name after fault
  LacksTable before name sizes after (BadTable fault) = HoldsTableWithFault before name sizes fault after

  -- the file was read, and gave the UTF-8 of a table whose lines have this first fault for these maps, with its place
  pub record HoldsBadDrawn (before : S) (name : List ℕ) (sizes : Maps) (fault : TextFault) (after : S) : Type 0 where
    pub text : List ℕ
    pub read : reads before name (Some text) after
    pub utf8 : IsUtf8 text
    pub is_fault : IsDrawnFault sizes (lines_of text) fault

  -- why there is no table to be drawn: the file cannot be read or is not UTF-8, or a line of its table has a fault
  abbrev pub IsNotDrawn : (before : S) (name : List ℕ) (sizes : Maps) (after : S) → NoTable → Type 0
  IsNotDrawn before name sizes after (Ended fault) = TextUnread reads before name after fault
  IsNotDrawn before name sizes after (BadTable fault) = HoldsBadDrawn before name sizes fault after
