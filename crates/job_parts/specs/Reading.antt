-- Why a file gives no bytes, no text, no image or no program.
use Rattle.std.specs.Prelude.{◌≡◌, ◌⊎◌, ℕ, List, Some, None}
use Rattle.std.specs.Borrow.{Bor}
use Rattle.bpf.specs.declared.fault.ImageFault.{ImageFault}
use Rattle.bpf.specs.Program.{Program}
use Rattle.bpf.specs.Reading.{FailsReading, image_reading}
use Rattle.bver.specs.Refusals.{IsRefusal}
use Rattle.bver.specs.Unjustified.{ReportsUnjustified}
use Rattle.bver_form.specs.declared.refusal.Refused.{Refused}
use Rattle.machine.specs.Sizes.{Maps}
use Rattle.job_parts.specs.Files.{ReadsFile, HoldsImage, HoldsNoText}
use Rattle.job_parts.specs.declared.faults.Fault.{Fault}
use Rattle.job_parts.specs.declared.faults.Fault.TheVariants.{CannotRead, BadImage, Refused as IsRefused}

module _ {S : Type 0} (reads : ReadsFile S) where
  -- the file cannot be read
  pub record IsFileUnread (before : S) (name : List ℕ) (after : S) (fault : Fault) : Type 0 where
    pub file : Bor (List ℕ)
    pub named : file.now ≡ name
    pub is_fault : fault ≡ CannotRead file
    pub unread : reads before name None after

  -- the file cannot be read, or is not UTF-8
  pub record TextUnread (before : S) (name : List ℕ) (after : S) (fault : Fault) : Type 0 where
    pub file : Bor (List ℕ)
    pub named : file.now ≡ name
    pub is_fault : fault ≡ CannotRead file
    pub no_text : HoldsNoText reads before name after

  -- the file was read, and gave bytes in which an image's fault is the first
  pub record HoldsFault (before : S) (name : List ℕ) (after : S) (fault : ImageFault) : Type 0 where
    pub bytes : List ℕ
    pub read : reads before name (Some bytes) after
    pub first : FailsReading fault (image_reading bytes)

  -- the file cannot be read, or its bytes are no image
  abbrev pub IsNoImage : (before : S) (name : List ℕ) (after : S) → Fault → Type 0
  IsNoImage before name after fault =
      IsFileUnread before name after fault
      ⊎ ((bad : ImageFault) × (fault ≡ BadImage bad) × HoldsFault before name after bad)

  -- the file was read, and gave the image of a program that the verifier refuses so, for what is wrong at the slot.
  -- Except if memory was refused, nothing justifies the program on a node with these maps
  pub record HoldsRefused (before : S) (name : List ℕ) (maps : Maps) (after : S) (refused : Refused) : Type 0 where
    pub program : Program
    pub image : HoldsImage reads before name program after
    pub refusal : IsRefusal program refused
    pub unjustified : ReportsUnjustified program maps refused

  -- the file cannot be read, its bytes are no image, or the verifier refuses its image for a node with these maps
  abbrev pub HasNoProgram : (before : S) (name : List ℕ) (maps : Maps) (after : S) → Fault → Type 0
  HasNoProgram before name maps after fault =
      IsNoImage before name after fault
      ⊎ ((refused : Refused) × (fault ≡ IsRefused refused) × HoldsRefused before name maps after refused)
