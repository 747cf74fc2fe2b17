-- What the job `policy` reads, writes and prints.
use Rattle.std.specs.Prelude.{◌≡◌, ◌⊎◌, ℕ, List, Option, Some, Bool, true, false}
use Rattle.std.specs.Borrow.{Bor}
use Rattle.std.specs.Io.KnownBytes.{Appends}
use Rattle.std.specs.Str.{IsUtf8, bytes_eq}
use Rattle.bpf.specs.Program.{Program, image_bytes}
use Rattle.bver.specs.Justified.{IsJustified}
use Rattle.machine.specs.Sizes.{Maps}
use Rattle.policy.specs.Compiled.{IsPortCompiled, IsPortFault}
use Rattle.policy_table.specs.Policies.{IsUnreadPolicy, PolicyValue, WritesPolicy, policy_fault}
use Rattle.policy_table.specs.TextFaults.{text_fault_of}
use Rattle.policy_table.specs.declared.faults.PolicyFault.{PolicyFault}
use Rattle.policy_table.specs.declared.text_faults.TextFault.{TextFault}
use Rattle.spw.specs.Line.{lines_of}
use Rattle.job_parts.specs.Files.{ReadsFile, WritesFile}
use Rattle.job_parts.specs.Reading.{TextUnread}
use Rattle.job_texts.specs.OneFile.{IsOneFile}
use Rattle.job_texts.specs.PolicyJob.{slots_line}
use Rattle.job_parts.specs.declared.faults.Fault.{Fault}
use Rattle.job_parts.specs.declared.faults.Fault.TheVariants.{CannotWrite, NoMemory, BadTable}

-- the text is that of a table, of the version that its first line says
abbrev pub IsTableText : (text : List ℕ) → PolicyValue → Type 0
IsTableText text policy = WritesPolicy (lines_of text) policy

module _ {S : Type 0} (reads : ReadsFile S) where
  -- the file was read, and gave UTF-8 that is this table
  pub record HoldsTable (before : S) (name : List ℕ) (policy : PolicyValue) (after : S) : Type 0 where
    pub bytes : List ℕ
    pub read : reads before name (Some bytes) after
    pub utf8 : IsUtf8 bytes
    pub table : IsTableText bytes policy

  -- the file was read, and gave UTF-8 that is no table, unless memory was refused
  pub record HoldsBadTable (before : S) (name : List ℕ) (after : S) (fault : PolicyFault) : Type 0 where
    pub bytes : List ℕ
    pub read : reads before name (Some bytes) after
    pub utf8 : IsUtf8 bytes
    pub found : TextFault
    pub bad : IsUnreadPolicy (lines_of bytes) found
    pub reported : fault ≡ text_fault_of found

  -- the file gives no table
  abbrev pub IsNoTable : (before : S) (name : List ℕ) (after : S) → Fault → Type 0
  IsNoTable before name after fault =
      TextUnread reads before name after fault
      ⊎ ((bad : PolicyFault) × (fault ≡ BadTable bad) × HoldsBadTable before name after bad)

  -- the file holds a table that was compiled to the program, for maps of these sizes, on a node with which it may judge
  pub record HoldsPolicy (before : S) (name : List ℕ) (sizes : Maps) (p : Program) (after : S) : Type 0 where
    pub policy : PolicyValue
    pub table : HoldsTable before name policy after
    pub compiled : IsPortCompiled sizes policy p
    pub justified : IsJustified p sizes

  -- the file holds a table whose first fault with maps of these sizes it is, or to whose program memory was refused
  pub record HoldsFaultyTable (before : S) (name : List ℕ) (sizes : Maps) (after : S) (fault : PolicyFault) : Type 0
    where
      pub policy : PolicyValue
      pub table : HoldsTable before name policy after
      pub found : TextFault
      pub faulty : IsPortFault (policy_fault sizes policy) found
      pub reported : fault ≡ text_fault_of found

  -- the file gives no table that is compiled for maps of these sizes
  abbrev pub IsNoPolicy : (before : S) (name : List ℕ) (sizes : Maps) (after : S) → Fault → Type 0
  IsNoPolicy before name sizes after fault =
      IsNoTable before name after fault
      ⊎ ((bad : PolicyFault) × (fault ≡ BadTable bad) × HoldsFaultyTable before name sizes after bad)

module _ {S : Type 0} (reads : ReadsFile S) (writes : WritesFile S) where
  -- the table's file was read and gave a table that was compiled to the program. Then the other was given the program's
  -- image; no other file was read or written
  pub record Compiled (before : S) (table image : List ℕ) (sizes : Maps) (p : Program) (taken : Bool) (after : S) : Type
      0 where
    pub between : S
    pub read : HoldsPolicy reads before table sizes p between
    pub written : writes between image (image_bytes p) taken after

  -- the image was written, and its line printed
  pub record CompilesTable (before : S) (table image : List ℕ) (sizes : Maps) (after : S) (old new : Option (List ℕ)) :
      Type 0 where
    pub apart : bytes_eq table image ≡ false
    pub program : Program
    pub compiled : Compiled before table image sizes program true after
    pub line : Appends old new (slots_line program)

  -- the image of the table's program could not be written
  pub record IsUnwritten (before : S) (table image : List ℕ) (sizes : Maps) (after : S) (fault : Fault) : Type 0 where
    pub file : Bor (List ℕ)
    pub named : file.now ≡ image
    pub is_fault : fault ≡ CannotWrite file
    pub program : Program
    pub compiled : Compiled before table image sizes program false after

  -- the file gives no table that is compiled, the image cannot be written, or memory was refused after the table was
  -- read. Or the image would be written to the table's file, and nothing was read
  abbrev pub IsNotCompiled : (before : S) (table image : List ℕ) (sizes : Maps) (after : S) → Fault → Type 0
  IsNotCompiled before table image sizes after fault =
      IsNoPolicy reads before table sizes after fault
      ⊎ IsUnwritten before table image sizes after fault
      ⊎ ((fault ≡ NoMemory) × (p : Program) × HoldsPolicy reads before table sizes p after)
      ⊎ (IsOneFile table image fault × (after ≡ before))
