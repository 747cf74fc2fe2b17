-- What the job `asm` reads, writes and prints.
use Rattle.std.specs.Prelude.{◌≡◌, ◌⊎◌, ℕ, List, Option, Some, Bool, true, false}
use Rattle.std.specs.Borrow.{Bor}
use Rattle.std.specs.Io.KnownBytes.{Appends}
use Rattle.std.specs.Str.{IsUtf8, bytes_eq}
use Rattle.bpf.specs.Program.{Program, image_bytes}
use Rattle.basm.specs.Outcomes.{out_of_memory}
use Rattle.basm.specs.Relation.{IsText}
use Rattle.basm.specs.declared.faults.AsmFault.{AsmFault}
use Rattle.job_texts.specs.AsmJob.{parts_line}
use Rattle.job_texts.specs.OneFile.{IsOneFile}
use Rattle.job_parts.specs.Files.{ReadsFile, WritesFile}
use Rattle.job_parts.specs.Reading.{TextUnread}
use Rattle.job_parts.specs.declared.faults.Fault.{Fault}
use Rattle.job_parts.specs.declared.faults.Fault.TheVariants.{CannotWrite, NoMemory, BadText}

module _ {S : Type 0} (reads : ReadsFile S) where
  -- the file was read, and gave UTF-8 that is a text of the program
  pub record HoldsText (before : S) (name : List ℕ) (p : Program) (after : S) : Type 0 where
    pub bytes : List ℕ
    pub read : reads before name (Some bytes) after
    pub utf8 : IsUtf8 bytes
    pub text : IsText bytes p

  -- the file was read, and gave UTF-8 that is a text of no program, unless memory was refused
  pub record HoldsBadText (before : S) (name : List ℕ) (after : S) (fault : AsmFault) : Type 0 where
    pub bytes : List ℕ
    pub read : reads before name (Some bytes) after
    pub utf8 : IsUtf8 bytes
    pub bad : (p : Program) → IsText bytes p → fault ≡ out_of_memory

  -- the file gives no text of a program
  abbrev pub IsNoText : (before : S) (name : List ℕ) (after : S) → Fault → Type 0
  IsNoText before name after fault =
      TextUnread reads before name after fault
      ⊎ ((bad : AsmFault) × (fault ≡ BadText bad) × HoldsBadText before name after bad)

module _ {S : Type 0} (reads : ReadsFile S) (writes : WritesFile S) where
  -- the text's file was read and gave a text of the program. Then the other was given the program's image; no other
  -- file was read or written
  pub record Assembled (before : S) (text image : List ℕ) (p : Program) (taken : Bool) (after : S) : Type 0 where
    pub between : S
    pub read : HoldsText reads before text p between
    pub written : writes between image (image_bytes p) taken after

  -- the image was written, and its line printed
  pub record Assembles (before : S) (text image : List ℕ) (after : S) (old new : Option (List ℕ)) : Type 0 where
    pub apart : bytes_eq text image ≡ false
    pub program : Program
    pub assembled : Assembled before text image program true after
    pub line : Appends old new (parts_line program)

  -- the image of the program could not be written
  pub record IsUnwritten (before : S) (text image : List ℕ) (after : S) (fault : Fault) : Type 0 where
    pub file : Bor (List ℕ)
    pub named : file.now ≡ image
    pub is_fault : fault ≡ CannotWrite file
    pub program : Program
    pub assembled : Assembled before text image program false after

  -- the file gives no text of a program, the image cannot be written, or memory was refused after the text was read. Or
  -- the image would be written to the text's file, and nothing was read
  abbrev pub IsNotAssembled : (before : S) (text image : List ℕ) (after : S) → Fault → Type 0
  IsNotAssembled before text image after fault =
      IsNoText reads before text after fault
      ⊎ IsUnwritten before text image after fault
      ⊎ ((fault ≡ NoMemory) × (p : Program) × HoldsText reads before text p after)
      ⊎ (IsOneFile text image fault × (after ≡ before))
