-- The node at which is rehearsed: one with some maps, of which nothing else is said, or that of a file.
use Rattle.std.specs.Prelude.{◌≡◌, ◌⊎◌, nat_lt, min, ℕ, Bool, true, false, List, [], Option, Some, None, codes, string_bytes}
use Rattle.bver.specs.Justified.{AcceptedValue}
use Rattle.clap.specs.Walk.{Row, first_of}
use Rattle.machine.specs.Sizes.{Maps}
use Rattle.job_config.specs.OwnNodes.{OwnNodeValue}
use Rattle.job_config.specs.Reads.{ReadsNoNode, ReadsNode}
use Rattle.job_config.specs.declared.own_node.TheConstants.{NODE_ADDRESS}
use Rattle.job_nodes.specs.JobNode.{JobNodeValue, alone}
use Rattle.job_nodes.specs.Making.{IsNodeOf}
use Rattle.job_parts.specs.Files.{ReadsFile}
use Rattle.job_parts.specs.Inputs.{InputValue, input}
use Rattle.job_parts.specs.Options.{GivesSizes, IsBadList}
use Rattle.job_parts.specs.declared.faults.Fault.{Fault}
use Rattle.job_parts.specs.declared.inputs.Content.TheVariants.{ImageOrText, Node}
use Rattle.job_parts.specs.declared.usage.UsageFault.{UsageFault}
use Rattle.job_parts.specs.declared.usage.UsageFault.TheVariants.{Parse, BadOption, Memory}
use Rattle.job_rehearse.specs.Loaders.{loader_in, ports_in}
use Rattle.job_rehearse.specs.Steps.{IsBegunNode}
use Rattle.job_rehearse.specs.declared.loaders.LoadSender.{LoadSender}
use Rattle.job_rehearse.specs.declared.open_ports.LoadedNode.{LoadedNode}
use Rattle.job_rehearse.specs.declared.places.RehearsalNode.{RehearsalNode}
use Rattle.job_rehearse.specs.declared.places.RehearsalNode.TheVariants.{Plain, Own}
use Rattle.job_rehearse.specs.declared.places.PlaceWords.{PlaceWords}
use Rattle.job_rehearse.specs.declared.places.PlaceWords.TheVariants.{Maps as HasMaps, File}
use Rattle.job_rehearse.specs.declared.steps.Rehearsing.{Rehearsing}

-- ---- words

-- the maps that the words give, if they name no file
abbrev pub maps_of_words : PlaceWords → Option Maps
maps_of_words (HasMaps sizes) = Some sizes
maps_of_words (File name) = None

-- what is read first: the file of the node, if there is one, and else the old policy
abbrev pub first_read : PlaceWords → (old : List ℕ) → InputValue
first_read (HasMaps sizes) old = input old ImageOrText
first_read (File name) old = input (string_bytes name) Node

-- what is read after that beside the files that a node's file names: the new policy, if there is no node's file
abbrev pub second_read : PlaceWords → (new : List ℕ) → Option InputValue
second_read (HasMaps sizes) new = Some (input new ImageOrText)
second_read (File name) new = None

-- the file's name is the only option that says anything of the node: beside it are no maps
pub record IsOnlyFile (rows : List Row) (name : List ℕ) : Type 0 where
  pub named : first_of (codes "node") rows ≡ Some name
  pub no_maps : first_of (codes "maps") rows ≡ None

-- what the options say of the node
abbrev pub GivesRehearsalNode : List Row → PlaceWords → Type 0
GivesRehearsalNode rows (HasMaps sizes) =
    (first_of (codes "node") rows ≡ None) × GivesSizes (first_of (codes "maps") rows) sizes
GivesRehearsalNode rows (File name) = IsOnlyFile rows (string_bytes name)

-- the options say no node: the maps are none, or another option is beside the file
abbrev pub SpoilsPlace : List Row → Type 0
SpoilsPlace rows = IsBadList (first_of (codes "maps") rows)
    ⊎ ((name : List ℕ) × (first_of (codes "node") rows ≡ Some name) × ¬ IsOnlyFile rows name)

-- such options, or memory was refused
abbrev pub RefusesPlace : List Row → UsageFault → Type 0
RefusesPlace rows Memory = Unit {0}
RefusesPlace rows BadOption = SpoilsPlace rows
RefusesPlace rows (Parse text) = ⊥

-- ---- the node

-- its maps
abbrev pub sizes_at : RehearsalNode → Maps
sizes_at (Plain sizes) = sizes
sizes_at (Own own) = own.sizes

-- it has the port of the loader that is named
abbrev pub has_port : RehearsalNode → Option LoadSender → Bool
has_port (Plain sizes) named = true
has_port (Own own) named = nat_lt (loader_in named).port own.ports

-- who loads at it: the one that is named, or port 0, initiator 67 and key 00
abbrev pub loader_on : RehearsalNode → Option LoadSender → LoadSender
loader_on (Plain sizes) named = loader_in named
loader_on (Own own) named = record (loader_in named) { target = own.address }

-- the node is that of the configuration after what it publishes, with that program in all slots at first
pub record IsBegunOwn (own : OwnNodeValue) (program : AcceptedValue) (r : Rehearsing) : Type 0 where
  pub made : JobNodeValue
  pub is_made : IsNodeOf own program made
  pub node : r.node ≡ alone made
  pub silent : r.reply ≡ []
  pub unrefused : r.refused ≡ false

-- the node about whose loads a program is asked; if nothing else is said of it, it has logical address FE and 32 ports
abbrev pub loaded_at : RehearsalNode → LoadedNode
loaded_at (Plain sizes) = record { target = NODE_ADDRESS; ports = 32 }
loaded_at (Own own) = record { target = own.address; ports = min own.ports 32 }

-- the node before the first load, where the program judges in all slots at first
abbrev pub IsBegunAt : RehearsalNode → AcceptedValue → (named : Option LoadSender) → Rehearsing → Type 0
IsBegunAt (Plain sizes) program named r = IsBegunNode program (ports_in named) r
IsBegunAt (Own own) program named r = IsBegunOwn own program r

module _ {S : Type 0} (reads : ReadsFile S) where
  -- the node is that of the node's file of this name, whose program is not used
  pub record HoldsFile (name : List ℕ) (before : S) (own : OwnNodeValue) (after : S) : Type 0 where
    pub program : AcceptedValue
    pub read : ReadsNode reads name before own program after

  -- the node is that of the words
  abbrev pub HoldsPlace : PlaceWords → (before : S) → RehearsalNode → (after : S) → Type 0
  HoldsPlace (HasMaps sizes) before (Plain own) after = (own ≡ sizes) × (after ≡ before)
  HoldsPlace (HasMaps sizes) before (Own own) after = ⊥
  HoldsPlace (File name) before (Plain own) after = ⊥
  HoldsPlace (File name) before (Own own) after = HoldsFile (string_bytes name) before own after

  -- the words name a file that says no node
  abbrev pub HoldsNoPlace : PlaceWords → (before after : S) → Fault → Type 0
  HoldsNoPlace (HasMaps sizes) before after fault = ⊥
  HoldsNoPlace (File name) before after fault = ReadsNoNode reads (string_bytes name) before fault after
