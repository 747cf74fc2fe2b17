-- What the job `why` reads and prints.
use Rattle.std.specs.Prelude.{◌≡◌, ◌⊎◌, ℕ, List, [], ◌∷◌, ◌++◌, Option, Some, None, codes, decimal, string_bytes}
use Rattle.std.specs.Io.KnownBytes.{Appends}
use Rattle.bpf.specs.Program.{Program, IsProgram, image_bytes, insn_at}
use Rattle.bpf.specs.Reading.{FailsReading, image_reading}
use Rattle.bpf.specs.Weight.{weight_of, saturated_weight}
use Rattle.bpf.specs.declared.fault.ImageFault.{ImageFault}
use Rattle.bpf_insn.specs.declared.insn.Insn.{Insn}
use Rattle.bpf_insn.specs.Text.{insn_text}
use Rattle.bver.specs.Justified.{IsJustified}
use Rattle.bver.specs.Refusals.{IsRefusal}
use Rattle.bver.specs.Unjustified.{ReportsUnjustified}
use Rattle.bver_form.specs.declared.refusal.Refusal.{Refusal}
use Rattle.bver_form.specs.declared.refusal.Refusal.TheVariants.{Target, BackJump, LoopShape, LoopEntry, Unset}
use Rattle.bver_form.specs.declared.refusal.Refusal.TheVariants.{KindMismatch, OutOfRegion, UnsetStack, HeaderWrite}
use Rattle.bver_form.specs.declared.refusal.Refusal.TheVariants.{FrameWrite, PointerRange, MapKey, Helper, FallOff}
use Rattle.bver_form.specs.declared.refusal.Refusal.TheVariants.{Budget, Unsupported, Memory, MapKind}
use Rattle.bver_form.specs.declared.refusal.Refused.{Refused}
use Rattle.machine.specs.Runs.{IsSafe}
use Rattle.machine.specs.Sizes.{Maps}
use Rattle.job_parts.specs.Files.{ReadsFile}
use Rattle.job_parts.specs.Printed.{GivesReason, job_fault_line}
use Rattle.job_parts.specs.declared.faults.Fault.TheVariants.{BadImage, Refused as IsRefused}
use Rattle.job_parts.specs.declared.status.ExitStatus.{ExitStatus}
use Rattle.job_parts.specs.declared.status.ExitStatus.TheVariants.{Done, Failed, Misused}
use Rattle.job_parts.specs.Forms.{PrintsForm}
use Rattle.job_texts.specs.Needed.{PrintsMaps}
use Rattle.job_texts.specs.VerifyJob.{accepted_line}
use Rattle.job_texts.specs.declared.images.ImageArgs.{ImageArgs}

-- the line of the instruction that begins at a slot; if none does, there is no line
abbrev pub insn_line : (slot : ℕ) → Option Insn → List ℕ
insn_line slot None = []
insn_line slot (Some insn) = codes "slot " ++ decimal slot ++ codes ": " ++ insn_text insn ++ 10 ∷ []

-- the line of a program's weight and budget
abbrev pub weight_line : Program → List ℕ
weight_line p = codes "weight " ++ decimal (saturated_weight (weight_of p)) ++ codes " budget " ++ decimal p.budget ++ 10 ∷ []

-- what is printed of a program for this code of a refusal at a slot. It is its weight and budget if that is what is
-- wrong with it, nothing if memory was refused, and else the instruction at the slot
abbrev pub cause_of : Program → (slot : ℕ) → Refusal → List ℕ
cause_of p slot Target = insn_line slot (insn_at p slot)
cause_of p slot BackJump = insn_line slot (insn_at p slot)
cause_of p slot LoopShape = insn_line slot (insn_at p slot)
cause_of p slot LoopEntry = insn_line slot (insn_at p slot)
cause_of p slot Unset = insn_line slot (insn_at p slot)
cause_of p slot KindMismatch = insn_line slot (insn_at p slot)
cause_of p slot OutOfRegion = insn_line slot (insn_at p slot)
cause_of p slot UnsetStack = insn_line slot (insn_at p slot)
cause_of p slot HeaderWrite = insn_line slot (insn_at p slot)
cause_of p slot FrameWrite = insn_line slot (insn_at p slot)
cause_of p slot PointerRange = insn_line slot (insn_at p slot)
cause_of p slot MapKey = insn_line slot (insn_at p slot)
cause_of p slot Helper = insn_line slot (insn_at p slot)
cause_of p slot FallOff = insn_line slot (insn_at p slot)
cause_of p slot Budget = weight_line p
cause_of p slot Unsupported = insn_line slot (insn_at p slot)
cause_of p slot MapKind = insn_line slot (insn_at p slot)
cause_of p slot Memory = []

-- the same of a refusal
abbrev pub cause_line : Program → Refused → List ℕ
cause_line p refused = cause_of p refused.slot refused.code

-- the line of a refusal was printed, what the program is refused for, and a reason
pub record PrintsRefusal (p : Program) (refused : Refused) (old new : Option (List ℕ)) : Type 0 where
  pub reported : Option (List ℕ)
  pub caused : Option (List ℕ)
  pub line : Appends old reported (job_fault_line (IsRefused refused))
  pub cause : Appends reported caused (cause_line p refused)
  pub reason : GivesReason caused new

-- the program is justified, and so safe. Its weight and budget were printed, and after them the maps that it needs
pub record AcceptsProgram (p : Program) (sizes : Maps) (old new : Option (List ℕ)) : Type 0 where
  pub justified : IsJustified p sizes
  pub safe : IsSafe p sizes
  pub reported : Option (List ℕ)
  pub line : Appends old reported (accepted_line (saturated_weight (weight_of p)) p.budget)
  pub maps : PrintsMaps [] p reported new

-- the verifier refuses the program so, for a node with maps of these sizes. That was printed, with the maps that the
-- program needs after it
pub record RefusesProgram (p : Program) (sizes : Maps) (old new : Option (List ℕ)) : Type 0 where
  pub refused : Refused
  pub refusal : IsRefusal p refused
  pub unjustified : ReportsUnjustified p sizes refused
  pub reported : Option (List ℕ)
  pub reports : PrintsRefusal p refused old reported
  pub maps : PrintsMaps [] p reported new

-- what was printed of a program, by the status: 0 if it is accepted, 1 if it is refused
abbrev pub ExplainsProgram : Program → Maps → (old new : Option (List ℕ)) → ExitStatus → Type 0
ExplainsProgram p sizes old new Done = AcceptsProgram p sizes old new
ExplainsProgram p sizes old new Failed = RefusesProgram p sizes old new
ExplainsProgram p sizes old new Misused = ⊥

-- the bytes spell the program, and what there is to say of it was printed
pub record PrintsProgram (bytes : List ℕ) (Describes : Program → Type 0) : Type 0 where
  pub program : Program
  pub spelled : bytes ≡ image_bytes program
  pub limits : IsProgram program
  pub reported : Describes program

-- an image's fault is the first in the bytes; and its line was printed, a reason after it, and what the bytes are
pub record PrintsNoImage (bytes : List ℕ) (old new : Option (List ℕ)) : Type 0 where
  pub fault : ImageFault
  pub first : FailsReading fault (image_reading bytes)
  pub reported : Option (List ℕ)
  pub explained : Option (List ℕ)
  pub line : Appends old reported (job_fault_line (BadImage fault))
  pub reason : GivesReason reported explained
  pub form : PrintsForm bytes explained new

-- what was printed of the bytes of a file, by the status. It is 0 if they are an image whose program may judge, and 1
-- if the program is refused or they are no image
abbrev pub ExplainsBytes : (bytes : List ℕ) → Maps → (old new : Option (List ℕ)) → ExitStatus → Type 0
ExplainsBytes bytes sizes old new Done = PrintsProgram bytes (λ p. AcceptsProgram p sizes old new)
ExplainsBytes bytes sizes old new Failed =
    PrintsProgram bytes (λ p. RefusesProgram p sizes old new) ⊎ PrintsNoImage bytes old new
ExplainsBytes bytes sizes old new Misused = ⊥

module _ {S : Type 0} (reads : ReadsFile S) (args : ImageArgs) where
  -- what `why` reads and prints if no fault ends it, by its exit status: 0 if the program may judge, else 1
  pub record ExplainsFile (before after : S) (old new : Option (List ℕ)) (status : ExitStatus) : Type 0 where
    pub bytes : List ℕ
    pub read : reads before (string_bytes args.image) (Some bytes) after
    pub reported : ExplainsBytes bytes args.sizes old new status
