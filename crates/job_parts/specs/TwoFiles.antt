-- Jobs on two files, an old one and a new one.
use Rattle.std.specs.Prelude.{◌≡◌, ◌&&◌, ◌++◌, ◌∷◌, [], ℕ, Bool, true, List, Option, Some, codes}
use Rattle.std.specs.Io.KnownBytes.{Appends}
use Rattle.std.specs.Str.{bytes_eq}
use Rattle.clap.specs.Walk.{Row, first_of}
use Rattle.policy_table.specs.TextFaults.{text_fault_of, text_fault_text}
use Rattle.policy_table.specs.declared.text_faults.TextFault.{TextFault}
use Rattle.job_parts.specs.Printed.{job_fault_line}
use Rattle.job_parts.specs.declared.faults.Fault.TheVariants.{BadTable}

-- both names are that of standard input, which one read ends
abbrev pub are_one_input : (old new : List ℕ) → Bool
are_one_input old new = bytes_eq old (codes "-") && bytes_eq new (codes "-")

-- matches that name standard input for both files
pub record NamesOneInput (rows : List Row) : Type 0 where
  pub old : List ℕ
  pub new : List ℕ
  pub old_name : first_of (codes "old") rows ≡ Some old
  pub new_name : first_of (codes "new") rows ≡ Some new
  pub one : are_one_input old new ≡ true

-- the line of a table's fault was printed, and after it a line with the name of its file and the place
pub record PrintsNamedFault (name : List ℕ) (fault : TextFault) (old new : Option (List ℕ)) : Type 0 where
  pub reported : Option (List ℕ)
  pub named : Option (List ℕ)
  pub line : Appends old reported (job_fault_line (BadTable (text_fault_of fault)))
  pub file : Appends reported named (codes "    " ++ name ++ codes " ")
  pub place : Appends named new (text_fault_text fault ++ 10 ∷ [])
