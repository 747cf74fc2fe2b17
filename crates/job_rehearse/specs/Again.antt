-- The packets of a load, which a node takes a second time.
use Rattle.std.specs.Prelude.{◌≡◌, ℕ, Bool, true, false, List, [], ◌∷◌, replicate, Option, Some, None}
use Rattle.bpf.specs.Program.{IsProgram, Program, image_bytes}
use Rattle.bpf.specs.declared.fault.ImageFault.{ImageFault}
use Rattle.bpf.specs.declared.fault.ImageFault.TheVariants as faults
use Rattle.bver.specs.Justified.{AcceptedValue, IsJustified}
use Rattle.job_parts.specs.Factory.{factory}
use Rattle.job_parts.specs.Turns.{AreTaken}
use Rattle.machine.specs.Sizes.{Maps, counter_maps}
use Rattle.node_parts.specs.declared.config.NodeConfig.{NodeConfig}
use Rattle.single_node.specs.Nodes.{IsFreshNode}
use Rattle.spw.specs.Line.{lines_of}
use Rattle.job_rehearse.specs.Loads.{unrefused}
use Rattle.job_rehearse.specs.Steps.{TakesStep}
use Rattle.job_rehearse.specs.declared.steps.Rehearsing.{Rehearsing}

-- the node took the packets of the lines in turn, and this is whether a verdict refused one that was to do something
pub record TakesAll (lines : List ℕ) (before after : Rehearsing) (denied : Bool) : Type 0 where
  pub old : Option (List ℕ)
  pub new : Option (List ℕ)
  pub taken : AreTaken TakesStep (lines_of lines) (unrefused before) after old new
  pub is : denied ≡ after.refused

-- a fresh node of that logical address, with 32 ports and these maps, at which the factory program judges all
pub record IsNewNode (address : ℕ) (sizes : Maps) (r : Rehearsing) : Type 0 where
  pub config : NodeConfig
  pub own : config.address ≡ address
  pub many : config.ports ≡ 32
  pub maps : config.sizes ≡ sizes
  pub program : AcceptedValue
  pub is_factory : program.program ≡ factory
  pub fresh : IsFreshNode config program r.node

-- such a node took the packets of the lines, and then took them again. A verdict refused one of them the second time,
-- or none
pub record IsDeniedAgain (address : ℕ) (sizes : Maps) (lines : List ℕ) (denied : Bool) : Type 0 where
  pub before : Rehearsing
  pub new_node : IsNewNode address sizes before
  pub between : Rehearsing
  pub denied_first : Bool
  pub first : TakesAll lines before between denied_first
  pub after : Rehearsing
  pub second : TakesAll lines between after denied

-- memory was refused to what reads an image
abbrev pub lacks_memory : ImageFault → Bool
lacks_memory faults.Memory = true
lacks_memory faults.Magic = false
lacks_memory faults.Version = false
lacks_memory faults.Length = false
lacks_memory faults.Count = false
lacks_memory faults.Budget = false
lacks_memory faults.Loop = false
lacks_memory (faults.Insn slot fault) = false

-- the bytes are the image of a program that is justified for a node with these maps
pub record IsAcceptable (bytes : List ℕ) (sizes : Maps) : Type 0 where
  pub program : Program
  pub limits : IsProgram program
  pub spelled : bytes ≡ image_bytes program
  pub justified : IsJustified program sizes

-- the first maps on which an image is tried: none
abbrev pub no_maps : Maps
no_maps = counter_maps []

-- the next: one map of 256 cells
abbrev pub one_map : Maps
one_map = counter_maps (256 ∷ [])

-- the last: eight maps of 32 cells
abbrev pub eight_maps : Maps
eight_maps = counter_maps (replicate 8 32)

-- the first of these for which the bytes are acceptable
pub data IsFirstOfFour (bytes : List ℕ) (sizes : Maps) : Type 0 where
  of_none : IsAcceptable bytes no_maps → sizes ≡ no_maps → IsFirstOfFour bytes sizes
  of_one : ¬ IsAcceptable bytes no_maps → IsAcceptable bytes one_map → sizes ≡ one_map → IsFirstOfFour bytes sizes
  of_eight : ¬ IsAcceptable bytes no_maps → ¬ IsAcceptable bytes one_map → IsAcceptable bytes eight_maps → sizes ≡ eight_maps
      → IsFirstOfFour bytes sizes

-- the bytes are acceptable for none of them
pub record IsForNone (bytes : List ℕ) : Type 0 where
  pub none : ¬ IsAcceptable bytes no_maps
  pub one : ¬ IsAcceptable bytes one_map
  pub eight : ¬ IsAcceptable bytes eight_maps

-- the maps on which the bytes are tried, if there are some
abbrev pub IsTriedOn : (bytes : List ℕ) → Option Maps → Type 0
IsTriedOn bytes None = IsForNone bytes
IsTriedOn bytes (Some sizes) = IsFirstOfFour bytes sizes

-- whether a verdict refused one of the packets the second time at such a node with those maps; for an image that is not
-- tried it is no
abbrev pub IsDeniedOn : (address : ℕ) → (lines : List ℕ) → (denied : Bool) → Option Maps → Type 0
IsDeniedOn address lines denied None = denied ≡ false
IsDeniedOn address lines denied (Some sizes) = IsDeniedAgain address sizes lines denied

-- this is whether a verdict refused one of them the second time at such a node with the first maps for which the image
-- is acceptable
abbrev pub IsDeniedSomewhere : (address : ℕ) → (image lines : List ℕ) → (denied : Bool) → Type 0
IsDeniedSomewhere address image lines denied =
    (sizes : Option Maps) × IsTriedOn image sizes × IsDeniedOn address lines denied sizes
