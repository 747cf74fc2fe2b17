-- What a publish without a packet reports and does.
use Rattle.std.specs.Prelude.{◌≡◌, ◌<◌, ◌≤◌, ◌^◌, ℕ, List, length, Option, None, Some}
use Rattle.bver.specs.Justified.{AcceptedValue}
use Rattle.node_programs.specs.Published.{sizes_of}
use Rattle.node_programs.specs.declared.faults.PublishFault.{PublishFault}
use Rattle.node_programs.specs.declared.faults.PublishFault.TheVariants.{Memory as NoRoom, Slot as NoSuchSlot, GenerationsFull}
use Rattle.scrub.specs.Guarded.{GuardedValue, Installs}
use Rattle.single_node_c.specs.Opening.{IsAccepted, IsImageUnfit, code_of_opening, no_why, why_of}
use Rattle.single_node_c.specs.declared.codes.TheConstants.{BAD_SLOT, NO_GENERATION, OK}
use Rattle.single_node_c.specs.declared.numbers.Why.{Why}
use Rattle.single_node_c.specs.declared.publishing.Unpublished.{Unpublished}
use Rattle.single_node_c.specs.declared.publishing.Unpublished.TheVariants.{Slot, Unfit, Full}
use Rattle.single_node_c.specs.declared.unfit.Unfit.TheVariants.{Memory}

-- The program that the image spells was accepted for the maps of the node, and published for the slot. If programs are
-- scrubbed, what is kept of the slot's program is that of this one.
pub record IsImagePublished (slot : ℕ) (image : List ℕ) (before after : GuardedValue) : Type 0 where
  pub program : AcceptedValue
  pub accepted : IsAccepted (sizes_of before.node.programs) image program
  pub installed : Installs slot program before after

-- why it was not, in the order of the tests
abbrev pub IsImageUnpublished : (slot : ℕ) → (image : List ℕ) → GuardedValue → Unpublished → Type 0
IsImageUnpublished slot image before Slot = 3 < slot
IsImageUnpublished slot image before (Unfit fault) = (slot ≤ 3) × IsImageUnfit (sizes_of before.node.programs) image fault
IsImageUnpublished slot image before Full = (slot ≤ 3) × (2 ^ 32 ≤ length before.node.programs)

-- The program of the image was published for the slot, or it was not, and nothing was done.
abbrev pub Publishes : (slot : ℕ) → (image : List ℕ) → Option Unpublished → (before after : GuardedValue) → Type 0
Publishes slot image None before after = IsImagePublished slot image before after
Publishes slot image (Some fault) before after = IsImageUnpublished slot image before fault × (after ≡ before)

-- why a node did not publish a program
abbrev pub publish_fault_of : PublishFault → Unpublished
publish_fault_of NoRoom = Unfit Memory
publish_fault_of NoSuchSlot = Slot
publish_fault_of GenerationsFull = Full

-- the code of it
abbrev pub publish_code : Option Unpublished → ℕ
publish_code None = OK
publish_code (Some Slot) = BAD_SLOT
publish_code (Some (Unfit fault)) = code_of_opening fault
publish_code (Some Full) = NO_GENERATION

-- what the call reports of the image
abbrev pub publish_why : Option Unpublished → Why
publish_why None = no_why
publish_why (Some Slot) = no_why
publish_why (Some (Unfit fault)) = why_of fault
publish_why (Some Full) = no_why

-- that became of the node, with that code, and the call reports that of the image
pub record AnswersPublish (slot : ℕ) (image : List ℕ) (code : ℕ) (why : Why) (before after : GuardedValue) : Type 0 where
  pub fault : Option Unpublished
  pub done : Publishes slot image fault before after
  pub code_is : code ≡ publish_code fault
  pub why_is : why ≡ publish_why fault
