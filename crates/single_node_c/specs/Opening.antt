-- What it takes to judge in a node, and what a fresh node is made of.
use Rattle.std.specs.Prelude.{◌≡◌, ◌≢◌, ◌≤◌, ℕ, List, All, map, Bool, true, false, Option, Some, None, Err, ◌&&◌}
use Rattle.bank.specs.Limits.{is_ports}
use Rattle.bpf.specs.Fault.{image_fault_code, image_fault_slot}
use Rattle.bpf.specs.Program.{Program, image_bytes}
use Rattle.bpf.specs.Reading.{image_reading}
use Rattle.bpf.specs.declared.fault.ImageFault.{ImageFault}
use Rattle.bpf.specs.declared.fault.ImageFault.TheVariants as faults
use Rattle.bver.specs.Justified.{AcceptedValue, IsJustified}
use Rattle.bver.specs.Refusals.{IsRefusal}
use Rattle.bver.specs.Unjustified.{ReportsUnjustified}
use Rattle.bver_form.specs.Codes.{refusal_code}
use Rattle.bver_form.specs.declared.refusal.Refusal.TheVariants.{Memory as RefusedMemory}
use Rattle.bver_form.specs.declared.refusal.Refused.{Refused}
use Rattle.machine.specs.Runs.{IsSafe}
use Rattle.machine.specs.Sizes.{Maps, AreSizes}
use Rattle.scrub.specs.Guarded.{GuardedValue, IsGuarded}
use Rattle.single_node.specs.Nodes.{SingleNodeValue, IsFreshNode}
use Rattle.single_node_c.specs.Numbers.{bank_of_numbers, maps_of}
use Rattle.single_node_c.specs.declared.codes.TheConstants.{OK, NO_MEMORY, BAD_CONFIG, BAD_MAPS, BAD_IMAGE, REFUSED}
use Rattle.single_node_c.specs.declared.numbers.BankNumbers.{BankNumbers}
use Rattle.single_node_c.specs.declared.numbers.MapNumbers.{MapNumbers}
use Rattle.single_node_c.specs.declared.numbers.Why.{Why}
use Rattle.single_node_c.specs.declared.unfit.Unfit.{Unfit}
use Rattle.single_node_c.specs.declared.unfit.Unfit.TheVariants.{Memory, Config, Maps as MapsUnfit, Image, Program as ProgramUnfit}
use Rattle.node_parts.specs.Nodes.{are_within, limit_fault}
use Rattle.node_parts.specs.declared.config.NodeConfig.{NodeConfig}

-- ---- programs

-- The numbers are maps that a node may have. Each is of one of the two kinds, and their sizes are in the limits.
pub record AreMaps (numbers : List MapNumbers) : Type 0 where
  pub kinds : All (λ m. m.peak ≤ 1) numbers
  pub sizes : AreSizes (maps_of numbers)

-- The program that the bytes of the image spell was accepted for those maps. It may judge, and is safe.
pub record IsAccepted (maps : Maps) (image : List ℕ) (a : AcceptedValue) : Type 0 where
  pub spelled : image ≡ image_bytes a.program
  pub sizes : a.sizes ≡ maps
  pub justified : IsJustified a.program maps
  pub safe : IsSafe a.program maps

-- the bytes spell a program, which the verifier refuses for those maps
pub record IsProgramRefused (maps : Maps) (image : List ℕ) (refused : Refused) : Type 0 where
  pub program : Program
  pub spelled : image ≡ image_bytes program
  pub refusal : IsRefusal program refused
  pub unjustified : ReportsUnjustified program maps refused

-- why an image may not judge if its bytes have that fault
abbrev pub unfit_of : ImageFault → Unfit
unfit_of faults.Memory = Memory
unfit_of faults.Magic = Image faults.Magic
unfit_of faults.Version = Image faults.Version
unfit_of faults.Length = Image faults.Length
unfit_of faults.Count = Image faults.Count
unfit_of faults.Budget = Image faults.Budget
unfit_of faults.Loop = Image faults.Loop
unfit_of (faults.Insn slot fault) = Image (faults.Insn slot fault)

-- Why an image may not judge in a node with those maps. The bytes are no image, and this is their first fault. Or they
-- spell a program that the verifier refuses, for another reason than lack of memory. Or memory was refused.
pub data IsImageUnfit (maps : Maps) (image : List ℕ) (fault : Unfit) : Type 0 where
  of_memory : fault ≡ Memory → IsImageUnfit maps image fault
  of_image : (first : ImageFault) → image_reading image ≡ Err first → fault ≡ Image first
      → IsImageUnfit maps image fault
  of_program : (refused : Refused) → IsProgramRefused maps image refused → refused.code ≢ RefusedMemory
      → fault ≡ ProgramUnfit refused → IsImageUnfit maps image fault

-- The same in a node with maps of those numbers. A node may not have these maps, which is tested first, or the image
-- may not judge.
pub data IsUnfit (numbers : List MapNumbers) (image : List ℕ) (fault : Unfit) : Type 0 where
  no_maps : (AreMaps numbers → ⊥) → fault ≡ MapsUnfit → IsUnfit numbers image fault
  bad_image : AreMaps numbers → IsImageUnfit (maps_of numbers) image fault → IsUnfit numbers image fault

-- the code for it
abbrev pub code_of_opening : Unfit → ℕ
code_of_opening Memory = NO_MEMORY
code_of_opening Config = BAD_CONFIG
code_of_opening MapsUnfit = BAD_MAPS
code_of_opening (Image fault) = BAD_IMAGE
code_of_opening (ProgramUnfit refused) = REFUSED

-- no number and no slot
abbrev pub no_why : Why
no_why = record { code = 0; slot = 0 }

-- the number of the image's fault or of the refusal, and its slot
abbrev pub why_of : Unfit → Why
why_of Memory = no_why
why_of Config = no_why
why_of MapsUnfit = no_why
why_of (Image fault) = record { code = image_fault_code fault; slot = image_fault_slot fault }
why_of (ProgramUnfit refused) = record { code = refusal_code refused.code; slot = refused.slot }

-- what a call reports of an image: its program may judge in a node with those maps, or why it may not
pub data ReportsFit (numbers : List MapNumbers) (image : List ℕ) (code : ℕ) (why : Why) : Type 0 where
  fit : (a : AcceptedValue) → AreMaps numbers → IsAccepted (maps_of numbers) image a → code ≡ OK → why ≡ no_why
      → ReportsFit numbers image code why
  unfit : (fault : Unfit) → IsUnfit numbers image fault → code ≡ code_of_opening fault → why ≡ why_of fault
      → ReportsFit numbers image code why

-- ---- nodes

-- 1 to 32 ports, and 1 to 8 banks, each within its limits
abbrev pub is_config : (ports : ℕ) → List BankNumbers → Bool
is_config ports banks = is_ports ports && are_within (map bank_of_numbers banks)

-- the node is a fresh one with that address, those ports and banks, and that program, which judges in each slot
pub record IsOpened (address ports : ℕ) (banks : List BankNumbers) (factory : AcceptedValue) (node : SingleNodeValue) :
    Type 0 where
  pub config : NodeConfig
  pub address_is : config.address ≡ address
  pub ports_are : config.ports ≡ ports
  pub banks_are : config.banks.now ≡ map bank_of_numbers banks
  pub fresh : IsFreshNode config factory node
  pub within : limit_fault config ≡ None

-- Why a node is not made of those ports and banks. They are outside their limits, or else memory was refused.
abbrev pub IsConfigFault : (within : Bool) → Unfit → Type 0
IsConfigFault true fault = fault ≡ Memory
IsConfigFault false fault = fault ≡ Config

-- Why no node is opened. The image may not judge, which is tested first, or no node is made of those ports and banks.
pub data IsUnopened (ports : ℕ) (banks : List BankNumbers) (numbers : List MapNumbers) (image : List ℕ)
    (fault : Unfit) : Type 0 where
  no_program : IsUnfit numbers image fault → IsUnopened ports banks numbers image fault
  bad_config : (factory : AcceptedValue) → AreMaps numbers → IsAccepted (maps_of numbers) image factory
      → IsConfigFault (is_config ports banks) fault → IsUnopened ports banks numbers image fault

-- The node is a fresh one with that address, those ports and banks, and the program that the image spells. That program
-- was accepted for those maps and judges in each slot.
pub record IsNodeMade (address ports : ℕ) (banks : List BankNumbers) (numbers : List MapNumbers) (image : List ℕ)
    (node : SingleNodeValue) : Type 0 where
  pub factory : AcceptedValue
  pub maps : AreMaps numbers
  pub accepted : IsAccepted (maps_of numbers) image factory
  pub opened : IsOpened address ports banks factory node

-- What an opening reports. The handle holds the node that was made, with the sums of its programs, or the call says why
-- it holds none.
pub data ReportsOpening (address ports : ℕ) (banks : List BankNumbers) (numbers : List MapNumbers) (image : List ℕ)
    (kept : Option GuardedValue) (code : ℕ) (why : Why) : Type 0 where
  opened : (guarded : GuardedValue) → IsNodeMade address ports banks numbers image guarded.node
      → IsGuarded (Some 0) guarded.node guarded → kept ≡ Some guarded → code ≡ OK → why ≡ no_why
      → ReportsOpening address ports banks numbers image kept code why
  unopened : (fault : Unfit) → IsUnopened ports banks numbers image fault → kept ≡ None → code ≡ code_of_opening fault
      → why ≡ why_of fault → ReportsOpening address ports banks numbers image kept code why
