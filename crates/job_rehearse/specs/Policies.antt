-- The policies of files: images, or tables, for a node with maps of some sizes.
use Rattle.std.specs.Prelude.{◌≡◌, ◌≤◌, ◌<◌, ◌⊎◌, nat_eq, ℕ, Bool, true, false, List, Option, Some, None, length, string_bytes}
use Rattle.std.specs.Borrow.{Bor}
use Rattle.std.specs.List.{starts_with}
use Rattle.std.specs.Str.{IsUtf8}
use Rattle.bpf.specs.Program.{IsProgram, Program, image_bytes}
use Rattle.bpf.specs.Reading.{FailsReading, image_reading, magic}
use Rattle.bpf.specs.declared.fault.ImageFault.{ImageFault}
use Rattle.bpf.specs.declared.fault.ImageFault.TheVariants.{Length}
use Rattle.bver.specs.Refusals.{IsRefusal}
use Rattle.bver.specs.Unjustified.{ReportsUnjustified}
use Rattle.bver_form.specs.declared.refusal.Refused.{Refused}
use Rattle.machine.specs.Sizes.{Maps}
use Rattle.policy.specs.Compiled.{IsPortCompiled}
use Rattle.policy_table.specs.Policies.{IsPolicyFault, PolicyValue, WritesPolicy, policy_fault}
use Rattle.policy_table.specs.declared.text_faults.TextFault.{TextFault}
use Rattle.rmap.specs.declared.boot.TheConstants.{STAGING_SIZE}
use Rattle.spw.specs.Line.{lines_of}
use Rattle.job_parts.specs.Files.{ReadsFile}
use Rattle.job_parts.specs.Reading.{IsFileUnread}
use Rattle.job_parts.specs.declared.faults.Fault.{Fault}
use Rattle.job_parts.specs.declared.faults.Fault.TheVariants.{BadImage, CannotRead, NoMemory, Refused as IsRefused}
use Rattle.job_rehearse.specs.Askers.{askers_of}
use Rattle.job_rehearse.specs.declared.policies.ComparedPolicies.{ComparedPolicies}
use Rattle.job_rehearse.specs.declared.policies.Images.{Images}
use Rattle.job_rehearse.specs.declared.policies.NoPolicy.{NoPolicy}
use Rattle.job_rehearse.specs.declared.policies.NoPolicy.TheVariants.{BadTable, Ended}
use Rattle.job_rehearse.specs.declared.policies.Policies.{Policies}
use Rattle.job_rehearse.specs.declared.rehearse.RehearseWords.{RehearseWords}

-- ---- bytes

-- the bytes begin as those of an image do
abbrev pub begins_image : List ℕ → Bool
begins_image bytes = starts_with nat_eq bytes magic

-- the bytes are UTF-8, and the text of a table without a fault for these maps
pub record IsTextOfTable (sizes : Maps) (bytes : List ℕ) (policy : PolicyValue) : Type 0 where
  pub utf8 : IsUtf8 bytes
  pub is_table : WritesPolicy (lines_of bytes) policy
  pub faultless : policy_fault sizes policy ≡ None

-- the bytes are an image of the program
pub record IsBytesOfImage (bytes : List ℕ) (p : Program) : Type 0 where
  pub begins : begins_image bytes ≡ true
  pub limits : IsProgram p
  pub spelled : bytes ≡ image_bytes p

-- the bytes are this table, which compiles to the program for these maps
pub record IsCompiledOf (sizes : Maps) (bytes : List ℕ) (p : Program) (policy : PolicyValue) : Type 0 where
  pub other : begins_image bytes ≡ false
  pub table : IsTextOfTable sizes bytes policy
  pub compiled : IsPortCompiled sizes policy p

-- the bytes are a policy of this program, for a node with these maps: its image, or this table, which compiles to it
abbrev pub IsPolicy : Maps → (bytes : List ℕ) → Program → Option PolicyValue → Type 0
IsPolicy sizes bytes p None = IsBytesOfImage bytes p
IsPolicy sizes bytes p (Some policy) = IsCompiledOf sizes bytes p policy

-- the first fault of bytes that are no image, or memory was refused to it
abbrev pub IsFaultyImage : (bytes : List ℕ) → Fault → Type 0
IsFaultyImage bytes fault = (bad : ImageFault) × (fault ≡ BadImage bad) × FailsReading bad (image_reading bytes)

-- the bytes of the file of this name are neither an image nor UTF-8
pub record IsNoPolicyText (name bytes : List ℕ) (fault : Fault) : Type 0 where
  pub file : Bor (List ℕ)
  pub named : file.now ≡ name
  pub is_fault : fault ≡ CannotRead file
  pub other : begins_image bytes ≡ false
  pub no_text : ¬ IsUtf8 bytes

-- the bytes are UTF-8, and no table without a fault for these maps: this is the first, with its place
pub record IsBadTableOf (sizes : Maps) (bytes : List ℕ) (fault : TextFault) : Type 0 where
  pub other : begins_image bytes ≡ false
  pub utf8 : IsUtf8 bytes
  pub is_fault : IsPolicyFault sizes (lines_of bytes) fault

-- why the bytes of the file of this name are no policy for these maps
abbrev pub HasNoPolicy : (name : List ℕ) → Maps → (bytes : List ℕ) → NoPolicy → Type 0
HasNoPolicy name sizes bytes (Ended fault) =
    ((begins_image bytes ≡ true) × IsFaultyImage bytes fault) ⊎ IsNoPolicyText name bytes fault ⊎ (fault ≡ NoMemory)
HasNoPolicy name sizes bytes (BadTable own fault) = (own.now ≡ name) × IsBadTableOf sizes bytes fault

-- ---- images

-- the verifier refuses the program for a node with these maps, or memory was refused
abbrev pub IsNotAccepted : Program → Maps → Fault → Type 0
IsNotAccepted p sizes fault =
    (fault ≡ NoMemory)
    ⊎ ((refused : Refused) × (fault ≡ IsRefused refused) × IsRefusal p refused × ReportsUnjustified p sizes refused)

-- the image has more bytes than the staging, or memory was refused to them
abbrev pub IsImageTooLong : Program → Fault → Type 0
IsImageTooLong p fault = (fault ≡ NoMemory) ⊎ ((fault ≡ BadImage Length) × (STAGING_SIZE < length (image_bytes p)))

-- what a rehearsal needs of two programs: the first may judge, and the bytes of both images, which the staging can hold
pub record ArePolicies (one other : Program) (sizes : Maps) (made : Policies) : Type 0 where
  pub program : made.program.program ≡ one
  pub sizes_are : made.program.sizes ≡ sizes
  pub old : made.old.items ≡ image_bytes one
  pub new : made.new.items ≡ image_bytes other
  pub old_fits : length made.old.items ≤ STAGING_SIZE
  pub new_fits : length made.new.items ≤ STAGING_SIZE

-- why two programs cannot be rehearsed with
abbrev pub AreUnready : (one other : Program) → Maps → Fault → Type 0
AreUnready one other sizes fault = IsNotAccepted one sizes fault ⊎ (IsImageTooLong one fault ⊎ IsImageTooLong other fault)

-- what is asked of two images: what a rehearsal needs of them, the second may judge, and whose loads it is asked about
pub record AreRehearsed (images : Images) (sizes : Maps) (made : ComparedPolicies) : Type 0 where
  pub policies : ArePolicies images.old images.new sizes made.policies
  pub judge : made.judge.program ≡ images.new
  pub sizes_are : made.judge.sizes ≡ sizes
  pub askers : made.askers.items ≡ askers_of images.table

-- why the second of two images cannot be asked
abbrev pub AreUnasked : Images → Maps → Fault → Type 0
AreUnasked images sizes fault = AreUnready images.old images.new sizes fault ⊎ IsNotAccepted images.new sizes fault

-- ---- files

module _ {S : Type 0} (reads : ReadsFile S) where
  -- the file was read, and gave a policy of this program for these maps, and this table if it is one
  pub record HoldsPolicyFor (before : S) (name : List ℕ) (sizes : Maps) (p : Program) (table : Option PolicyValue) (after : S) :
      Type 0 where
    pub bytes : List ℕ
    pub read : reads before name (Some bytes) after
    pub policy : IsPolicy sizes bytes p table

  -- the file was read, and gave no policy for these maps
  pub record HoldsNone (before : S) (name : List ℕ) (sizes : Maps) (after : S) (none : NoPolicy) : Type 0 where
    pub bytes : List ℕ
    pub read : reads before name (Some bytes) after
    pub is_none : HasNoPolicy name sizes bytes none

  -- the file cannot be read
  abbrev pub CannotBeRead : (before : S) (name : List ℕ) (after : S) → NoPolicy → Type 0
  CannotBeRead before name after (Ended fault) = IsFileUnread reads before name after fault
  CannotBeRead before name after (BadTable own fault) = ⊥

  -- the file cannot be read, or gives no policy for these maps
  abbrev pub GivesNoPolicy : (before : S) (name : List ℕ) (sizes : Maps) (after : S) → NoPolicy → Type 0
  GivesNoPolicy before name sizes after none =
      CannotBeRead before name after none ⊎ HoldsNone before name sizes after none

module _ {S : Type 0} (reads : ReadsFile S) (words : RehearseWords) (sizes : Maps) where
  -- the file of the old policy gave this program
  abbrev pub HoldsOldPolicy : (before : S) → Program → (after : S) → Type 0
  HoldsOldPolicy before p after =
      (table : Option (PolicyValue)) × HoldsPolicyFor reads before (string_bytes words.old) sizes p table after

  -- the files were read in this order, and gave policies of these images
  pub record AreImages (before : S) (images : Images) (after : S) : Type 0 where
    pub between : S
    pub first : HoldsOldPolicy before images.old between
    pub second : HoldsPolicyFor reads between (string_bytes words.new) sizes images.new images.table after

  -- the file of the new policy gives none, after that of the old one, which does
  pub record NewIsNone (before after : S) (none : NoPolicy) : Type 0 where
    pub between : S
    pub one : Program
    pub first : HoldsOldPolicy before one between
    pub second : GivesNoPolicy reads between (string_bytes words.new) sizes after none

  -- a file gives no policy
  abbrev pub AreNoImages : (before after : S) → NoPolicy → Type 0
  AreNoImages before after none =
      GivesNoPolicy reads before (string_bytes words.old) sizes after none ⊎ NewIsNone before after none

  -- the files gave what a rehearsal needs
  pub record HoldsBoth (before after : S) (made : Policies) : Type 0 where
    pub images : Images
    pub are_images : AreImages before images after
    pub policies : ArePolicies images.old images.new sizes made

  -- the files gave policies that cannot be rehearsed with
  pub record BothUnready (before after : S) (fault : Fault) : Type 0 where
    pub images : Images
    pub are_images : AreImages before images after
    pub unready : AreUnready images.old images.new sizes fault

  -- the same as a reason
  abbrev pub EndUnready : (before after : S) → NoPolicy → Type 0
  EndUnready before after (Ended fault) = BothUnready before after fault
  EndUnready before after (BadTable own fault) = ⊥

  -- why the files do not give what a rehearsal needs
  abbrev pub HoldsNotBoth : (before after : S) → NoPolicy → Type 0
  HoldsNotBoth before after none = AreNoImages before after none ⊎ EndUnready before after none

  -- the files gave policies of which the new one can be asked
  pub record HoldsAsked (before after : S) (made : ComparedPolicies) : Type 0 where
    pub images : Images
    pub are_images : AreImages before images after
    pub asked : AreRehearsed images sizes made

  -- the files gave policies of which the new one cannot be asked
  pub record BothUnasked (before after : S) (fault : Fault) : Type 0 where
    pub images : Images
    pub are_images : AreImages before images after
    pub unasked : AreUnasked images sizes fault

  -- the same as a reason
  abbrev pub EndUnasked : (before after : S) → NoPolicy → Type 0
  EndUnasked before after (Ended fault) = BothUnasked before after fault
  EndUnasked before after (BadTable own fault) = ⊥

  -- why the files do not give policies of which the new one can be asked
  abbrev pub HoldsNotAsked : (before after : S) → NoPolicy → Type 0
  HoldsNotAsked before after none = AreNoImages before after none ⊎ EndUnasked before after none
