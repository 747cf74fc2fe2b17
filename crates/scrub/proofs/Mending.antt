-- The image that is lent, how a slot is found if its program was not mended, and why no more programs are published.
use Rattle.std.proofs.Common.{◌≡◌, ◌≢◌, ◌<◌, ◌≤◌, ◌^◌, ◌⊎◌, ℕ, zero, suc, Bool, List, [], length, false, true, inl, inr, arith}
use Rattle.bpf.specs.Program.{Program, image_bytes}
use Rattle.bpf.specs.Reading.{FailsReading, image_reading}
use Rattle.bpf.specs.declared.fault.ImageFault.{ImageFault}
use Rattle.bpf.specs.declared.fault.ImageFault.TheVariants as faults
use Rattle.bver.specs.Unjustified.{ReportsUnjustified}
use Rattle.bver_form.specs.declared.refusal.Refusal.TheVariants.{Memory as RefusedMemory}
use Rattle.bver_form.specs.declared.refusal.Refused.{Refused}
use Rattle.machine.specs.Sizes.{Maps}
use Rattle.node_programs.specs.Codes.{IsUnpublished}
use Rattle.node_programs.specs.declared.faults.PublishFault.TheVariants.{GenerationsFull}
use Rattle.scrub.specs.Guarded.{IsPublishedAs, IsWithdrawn, LooksAt, PublishesAs, Repairs, RepairsUnless, Scrubs, ScrubsSlot, Watched, health_at, health_by}
use Rattle.scrub.specs.declared.guard.Scrubbed.{Scrubbed}
use Rattle.scrub.specs.declared.kept.SlotSums.{SlotSums}
use Rattle.scrub.specs.Mending.{IsUnlent, IsProgramUnread, empty, read_fault, refused as refused_by, unspelled}
use Rattle.scrub.specs.declared.guard.Health.{Health}
use Rattle.scrub.specs.declared.guard.Health.TheVariants.{Whole, Mended, Unmended, Withdrawn}
use Rattle.scrub.specs.declared.made.MendFault.{MendFault}
use Rattle.scrub.specs.declared.made.MendFault.TheVariants.{Memory, Image, Full}

-- a number that is not below another is at least it
at_least : (n m : ℕ) → (m < n → ⊥) → n ≤ m
at_least zero m not_below = omega arith
at_least (suc n) zero not_below = absurd (not_below (omega arith))
at_least (suc n) (suc m) not_below = omega (arith, at_least n m (λ low. not_below (omega (arith, low))))

-- if no program is published because there are too many, there are too many
pub no_more : (count : ℕ) → IsUnpublished count GenerationsFull → 2 ^ 32 ≤ count
no_more count is = at_least (2 ^ 32) count (λ low. cc (is.memory low))

-- from no bytes no program is read
pub empty_image : (sizes : Maps) (image : List ℕ) → image ≡ [] → IsProgramUnread sizes image Image
empty_image sizes image none = empty none

-- why no program is read, by the fault of its image
pub unread : (sizes : Maps) (image : List ℕ) (fault : ImageFault) → image ≢ [] → FailsReading fault (image_reading image) → IsProgramUnread sizes image (read_fault fault)
unread sizes image faults.Memory some fails = some
unread sizes image faults.Magic some fails = unspelled faults.Magic (λ e. absurd (cc e)) fails
unread sizes image faults.Version some fails = unspelled faults.Version (λ e. absurd (cc e)) fails
unread sizes image faults.Length some fails = unspelled faults.Length (λ e. absurd (cc e)) fails
unread sizes image faults.Count some fails = unspelled faults.Count (λ e. absurd (cc e)) fails
unread sizes image faults.Budget some fails = unspelled faults.Budget (λ e. absurd (cc e)) fails
unread sizes image faults.Loop some fails = unspelled faults.Loop (λ e. absurd (cc e)) fails
unread sizes image (faults.Insn slot fault) some fails = unspelled (faults.Insn slot fault) (λ e. absurd (cc e)) fails

-- the verifier refuses the program that the bytes spell
pub refused : (sizes : Maps) (image : List ℕ) (program : Program) (reported : Refused) → image ≡ image_bytes program → ReportsUnjustified program sizes reported → reported.code ≢ RefusedMemory → IsProgramUnread sizes image Image
refused sizes image program reported spelled reports other =
    refused_by (record { program = program; spelled = spelled; unjustified = λ justified. reports other justified })

-- if no program is read, no sum is taken
pub unlent : (sizes : Maps) (image : List ℕ) (kept : SlotSums) (fault : MendFault) → IsProgramUnread sizes image fault → IsUnlent sizes image kept fault
unlent sizes image kept Memory is = is
unlent sizes image kept Image is = inl is
unlent sizes image kept Full is = is

-- no slot whose program was not mended is found whole or mended
pub repairs_by : (fault : MendFault) (health : Health) (slot : ℕ) (image : List ℕ) (before after : Watched) → health ≡ health_by fault → IsWithdrawn health slot image before after → Repairs health slot image before after
repairs_by Memory Whole slot image before after is found = absurd (cc is)
repairs_by Image Whole slot image before after is found = absurd (cc is)
repairs_by Full Whole slot image before after is found = absurd (cc is)
repairs_by Memory Mended slot image before after is found = absurd (cc is)
repairs_by Image Mended slot image before after is found = absurd (cc is)
repairs_by Full Mended slot image before after is found = absurd (cc is)
repairs_by fault Withdrawn slot image before after is found = found
repairs_by fault Unmended slot image before after is found = found

-- ---- by what was found

-- a slot that was looked at, by whether its program is whole
pub scrubs_whole : (whole : Bool) (health : Health) (slot : ℕ) (before after : Watched) → whole ≡ true → LooksAt whole slot before after → health ≡ Whole → ScrubsSlot health slot before after
scrubs_whole true health slot before after is looks found = inl (found, looks)
scrubs_whole false health slot before after is looks found = absurd (cc is)

pub scrubs_all : (whole : Bool) (reported : Scrubbed) (health : Health) (slot : ℕ) (before between after : Watched) → whole ≡ false → LooksAt whole slot before between → Scrubs reported [] between after → health ≡ health_at reported slot
    → ScrubsSlot health slot before after
scrubs_all true reported health slot before between after is looks scrubs found = absurd (cc is)
scrubs_all false reported health slot before between after is looks scrubs found =
    inr (record { between = between; reported = reported; found = looks; scrubs = scrubs; health_is = found })

-- a slot that is repaired unless it is whole
pub repairs_none : (whole : Bool) (health : Health) (slot : ℕ) (image : List ℕ) (before after : Watched) → whole ≡ true → health ≡ Whole → after ≡ before → RepairsUnless whole health slot image before after
repairs_none true health slot image before after is found same = (found, same)
repairs_none false health slot image before after is found same = absurd (cc is)

pub repairs_one : (whole : Bool) (health : Health) (slot : ℕ) (image : List ℕ) (before after : Watched) → whole ≡ false → Repairs health slot image before after → RepairsUnless whole health slot image before after
repairs_one true health slot image before after is repairs = absurd (cc is)
repairs_one false health slot image before after is repairs = repairs

-- a program that was published once more, if it could be
pub published : (is_published : Bool) (slot sum : ℕ) (before after : Watched) → is_published ≡ true → PublishesAs is_published slot sum before after → IsPublishedAs slot sum before after
published true slot sum before after is publishes = publishes
published false slot sum before after is publishes = absurd (cc is)

pub unpublished : (is_published : Bool) (slot sum : ℕ) (before after : Watched) → is_published ≡ false → PublishesAs is_published slot sum before after → (after ≡ before) × (2 ^ 32 ≤ length before.node.programs)
unpublished true slot sum before after is publishes = absurd (cc is)
unpublished false slot sum before after is publishes = publishes
