-- The load of an image at the node of a rehearsal.
use Rattle.std.specs.Prelude.{◌≡◌, ◌≤◌, ◌<◌, ◌⊎◌, ◌&&◌, not, ℕ, Bool, Decides, false, if◌then◌else◌, List, [], ◌∷◌, ◌++◌, length, slice_get, Option, Some}
use Rattle.std.specs.List.{list_all, list_any}
use Rattle.std.specs.Io.KnownBytes.{Appends}
use Rattle.bpf.specs.Program.{image_bytes}
use Rattle.bver.specs.Justified.{AcceptedValue}
use Rattle.node_programs.specs.Published.{generation_at, program_at}
use Rattle.node_programs.specs.declared.publishes.Publish.{Publish}
use Rattle.spw.specs.Line.{lines_of}
use Rattle.job_packets.specs.Loads.{with_loads}
use Rattle.job_packets.specs.declared.packet_options.HeaderWords.{HeaderWords}
use Rattle.job_parts.specs.Turns.{AreTaken, StopsInLines}
use Rattle.job_parts.specs.declared.faults.Fault.{Fault}
use Rattle.job_parts.specs.declared.faults.Fault.TheVariants.{NoMemory}
use Rattle.job_rehearse.specs.Loaders.{IsHeaderOf}
use Rattle.job_rehearse.specs.Steps.{IsNoStep, TakesStep}
use Rattle.job_rehearse.specs.declared.loads.LoadEnd.{LoadEnd}
use Rattle.job_rehearse.specs.declared.loads.LoadEnd.TheVariants.{InPart, Loaded, LockedOut, NotLoaded}
use Rattle.job_rehearse.specs.declared.loaders.LoadSender.{LoadSender}
use Rattle.job_rehearse.specs.declared.steps.Rehearsing.{Rehearsing}

-- the text is the lines that `packet load` prints with these slots, and with the port, the initiator and the key of the loader
pub record AreLoadLines (loader : LoadSender) (slots image text : List ℕ) : Type 0 where
  pub header : HeaderWords
  pub is_header : IsHeaderOf loader header
  pub lines : text ≡ with_loads [] header header.transaction slots image

-- the node took the packets of the loader's loads of the image into these slots, in turn, and what became of each was printed
pub record TakesLoad (loader : LoadSender) (slots image : List ℕ) (before after : Rehearsing) (old new : Option (List ℕ)) : Type 0 where
  pub text : List ℕ
  pub are_lines : AreLoadLines loader slots image text
  pub all : AreTaken TakesStep (lines_of text) before after old new

-- the node took those before one, at which it stopped
pub record StopsAtStep (loader : LoadSender) (slots image : List ℕ) (before after : Rehearsing) (old new : Option (List ℕ))
    (fault : Fault) : Type 0 where
  pub text : List ℕ
  pub are_lines : AreLoadLines loader slots image text
  pub stop : StopsInLines TakesStep IsNoStep (lines_of text) before after old new fault

-- the node took all of them, and memory was refused to what looks whether the image is loaded
abbrev pub LacksPrintRoom : LoadSender → (slots image : List ℕ) → (before after : Rehearsing) → (old new : Option (List ℕ)) → Fault
    → Type 0
LacksPrintRoom loader slots image before after old new fault =
    (fault ≡ NoMemory) × TakesLoad loader slots image before after old new

-- memory was refused before the first packet or after the last, or the node stopped at one
abbrev pub StopsTaking : LoadSender → (slots image : List ℕ) → (before after : Rehearsing) → (old new : Option (List ℕ)) → Fault
    → Type 0
StopsTaking loader slots image before after old new fault =
    ((fault ≡ NoMemory) × (after ≡ before) × (new ≡ old))
    ⊎ (StopsAtStep loader slots image before after old new fault ⊎ LacksPrintRoom loader slots image before after old new fault)

-- the image is loaded into the slot: the last program that was published for it is that of the image, and was published
-- after `count` others
pub record IsImageLoaded (image : List ℕ) (count : ℕ) (programs : List Publish) (slot : ℕ) : Type 0 where
  pub there : slot < 4
  pub generation : ℕ
  pub is_generation : generation_at programs slot ≡ Some generation
  pub later : count ≤ generation
  pub program : AcceptedValue
  pub is_program : program_at programs slot ≡ Some program
  pub begins_image : image_bytes program.program ≡ image

-- whether the image is loaded into each of these slots, in turn
abbrev pub AreLoaded : (image : List ℕ) → (count : ℕ) → (programs : List Publish) → (slots : List ℕ) → List Bool → Type 0
AreLoaded image count programs [] [] = Unit {0}
AreLoaded image count programs [] (is ∷ rest) = ⊥
AreLoaded image count programs (slot ∷ slots) [] = ⊥
AreLoaded image count programs (slot ∷ slots) (is ∷ rest) =
    Decides is (IsImageLoaded image count programs slot) × AreLoaded image count programs slots rest

-- how loads of an image into slots ended, by whether the image is loaded into each slot, whether a verdict refused a write of them,
-- and whether one was not answered with status 0
abbrev pub ending_of : (loaded : List Bool) → (is_refused is_failed : Bool) → LoadEnd
ending_of loaded is_refused is_failed =
    if is_refused then (if list_any (λ is. is) loaded then InPart else LockedOut)
    else (if list_all (λ is. is) loaded && not is_failed then Loaded else NotLoaded)

-- the node, of whose packets none was refused yet, and none failed
abbrev pub unrefused : Rehearsing → Rehearsing
unrefused r = record r { refused = false; failed = false }

-- the name of an image was printed, its loads were taken, and they ended so
pub record Loads (name : List ℕ) (loader : LoadSender) (slots image : List ℕ) (ending : LoadEnd) (before after : Rehearsing)
    (old new : Option (List ℕ)) : Type 0 where
  pub named : Option (List ℕ)
  pub heading : Appends old named (name ++ 10 ∷ [])
  pub taken : TakesLoad loader slots image (unrefused before) after named new
  pub loaded : List Bool
  pub are_loaded : AreLoaded image (length before.node.programs) after.node.programs slots loaded
  pub ended : ending ≡ ending_of loaded after.refused after.failed
  pub each : ending ≡ Loaded → (number slot : ℕ) → slice_get slots number ≡ Some slot
      → IsImageLoaded image (length before.node.programs) after.node.programs slot

-- the name of an image was printed, and a fault ended its loads
pub record StopsLoad (name : List ℕ) (loader : LoadSender) (slots image : List ℕ) (before : Rehearsing)
    (old new : Option (List ℕ)) (fault : Fault) : Type 0 where
  pub named : Option (List ℕ)
  pub heading : Appends old named (name ++ 10 ∷ [])
  pub after : Rehearsing
  pub stop : StopsTaking loader slots image (unrefused before) after named new fault
