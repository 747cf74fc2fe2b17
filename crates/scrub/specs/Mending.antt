-- The program of an image that is lent to a scrub.
use Rattle.std.specs.Prelude.{◌≡◌, ◌≢◌, ◌⊎◌, ℕ, false, true, List, []}
use Rattle.bpf.specs.Program.{Program, image_bytes}
use Rattle.bpf.specs.Reading.{FailsReading, image_reading}
use Rattle.bpf.specs.declared.fault.ImageFault.{ImageFault}
use Rattle.bpf.specs.declared.fault.ImageFault.TheVariants as faults
use Rattle.bver.specs.Justified.{AcceptedValue, IsJustified}
use Rattle.machine.specs.Sizes.{Maps}
use Rattle.scrub.specs.declared.kept.SlotSums.{SlotSums}
use Rattle.scrub.specs.declared.made.MendFault.{MendFault}
use Rattle.scrub.specs.declared.made.MendFault.TheVariants.{Memory, Image, Full}
use Rattle.scrub.specs.Kept.{has_sum}
use Rattle.scrub.specs.Sums.{IsSummed}

-- The program that the bytes of an image spell was accepted for those maps. There are some bytes.
pub record IsReadFrom (sizes : Maps) (image : List ℕ) (a : AcceptedValue) : Type 0 where
  pub some : image ≢ []
  pub spelled : image ≡ image_bytes a.program
  pub sizes_are : a.sizes ≡ sizes

-- the bytes spell a program that nothing justifies for those maps
pub record IsUnjustifiedIn (sizes : Maps) (image : List ℕ) : Type 0 where
  pub program : Program
  pub spelled : image ≡ image_bytes program
  pub unjustified : IsJustified program sizes → ⊥

-- No program may be read from the bytes. There are none, or they have a fault of an image, or the verifier refuses what
-- they spell.
pub data IsNoProgram (sizes : Maps) (image : List ℕ) : Type 0 where
  empty : image ≡ [] → IsNoProgram sizes image
  unspelled : (fault : ImageFault) → fault ≢ faults.Memory → FailsReading fault (image_reading image) → IsNoProgram sizes image
  refused : IsUnjustifiedIn sizes image → IsNoProgram sizes image

-- the reason that a fault of the image that is lent gives
abbrev pub read_fault : ImageFault → MendFault
read_fault faults.Memory = Memory
read_fault faults.Magic = Image
read_fault faults.Version = Image
read_fault faults.Length = Image
read_fault faults.Count = Image
read_fault faults.Budget = Image
read_fault faults.Loop = Image
read_fault (faults.Insn slot fault) = Image

-- why no program was read: memory is refused only if there are bytes
abbrev pub IsProgramUnread : Maps → (image : List ℕ) → MendFault → Type 0
IsProgramUnread sizes image Memory = image ≢ []
IsProgramUnread sizes image Image = IsNoProgram sizes image
IsProgramUnread sizes image Full = ⊥

-- the program that was read has that sum, which is one of those that are kept
pub record IsLentFor (sizes : Maps) (image : List ℕ) (kept : SlotSums) (a : AcceptedValue) (sum : ℕ) : Type 0 where
  pub is_read : IsReadFrom sizes image a
  pub summed : IsSummed a sum
  pub agrees : has_sum kept sum ≡ true

-- the program that was read has a sum that is none of those that are kept
pub record IsAnother (sizes : Maps) (image : List ℕ) (kept : SlotSums) : Type 0 where
  pub program : AcceptedValue
  pub sum : ℕ
  pub is_read : IsReadFrom sizes image program
  pub summed : IsSummed program sum
  pub differs : has_sum kept sum ≡ false

-- why no program with a sum that is kept was read
abbrev pub IsUnlent : Maps → (image : List ℕ) → SlotSums → MendFault → Type 0
IsUnlent sizes image kept Memory = image ≢ []
IsUnlent sizes image kept Image = IsNoProgram sizes image ⊎ IsAnother sizes image kept
IsUnlent sizes image kept Full = ⊥
