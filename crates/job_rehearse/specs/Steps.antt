-- The packets of loads, which a node of one thread takes in turn.
use Rattle.std.specs.Prelude.{◌≡◌, ◌≤◌, ◌⊎◌, ◌==◌, ◌&&◌, ◌||◌, not, ℕ, Bool, true, false, if◌then◌else◌, List, [], length, Option, Some, None}
use Rattle.std.specs.Io.KnownBytes.{Appends}
use Rattle.bver.specs.Justified.{AcceptedValue}
use Rattle.node_parts.specs.declared.config.NodeConfig.{NodeConfig}
use Rattle.node_parts.specs.declared.served.Served.{Served}
use Rattle.rmap.specs.Command.{CommandValue, address_of, command_of, discard_of, writes}
use Rattle.rmap.specs.declared.boot.TheConstants.{LOAD_REGISTER}
use Rattle.rmap.specs.declared.discard.Discard.{Discard}
use Rattle.single_node.specs.Nodes.{IsFreshNode}
use Rattle.single_node.specs.Serving.{ServesReported}
use Rattle.single_node.specs.declared.served.ServedDetail.{ServedDetail}
use Rattle.spw.specs.Cargo.{Cargo}
use Rattle.spw.specs.Line.{HasFault, IsPacketLine, marker_word}
use Rattle.spw.specs.declared.faults.LineFault.TheVariants.{Memory}
use Rattle.job_nodes.specs.JobNode.{IsConfig}
use Rattle.job_parts.specs.declared.bad_lines.BadLine.{BadLine}
use Rattle.job_parts.specs.declared.bad_lines.BadLine.TheVariants.{Line, NoEvent, NoPort, NoRoom}
use Rattle.job_parts.specs.declared.stops.LineEnd.{LineEnd}
use Rattle.job_parts.specs.declared.stops.LineEnd.TheVariants.{Bad, NoMemory}
use Rattle.job_rehearse.specs.Words.{is_step_success, status_in, step_line}
use Rattle.job_rehearse.specs.declared.steps.Rehearsing.{Rehearsing}
use Rattle.job_rehearse.specs.declared.steps.LoadStep.{LoadStep}
use Rattle.job_rehearse.specs.declared.steps.LoadStep.TheVariants.{Control, Part, Result}

-- what a command of a load is: at the load register the control write and the read of the load result, and else the write
-- of a part
abbrev pub step_at : CommandValue → LoadStep
step_at c = if not (address_of c == LOAD_REGISTER) then Part else (if writes c then Control else Result)

-- the same of its packet
abbrev pub load_step_of : Cargo → Option Discard → LoadStep
load_step_of p (Some discard) = Part
load_step_of p None = step_at (command_of p)

-- it is a write; what reads the load result does nothing
abbrev pub is_write : LoadStep → Bool
is_write Part = true
is_write Control = true
is_write Result = false

-- the verdict does not let a write of a load be done
abbrev pub is_refused : LoadStep → (verdict : ℕ) → Bool
is_refused step verdict = is_write step && not (verdict == 0)

-- a write of a load was not answered with status 0
abbrev pub is_failed : LoadStep → Served → Bool
is_failed step served = is_write step && not (is_step_success (status_in served))

-- a fresh node of this many ports, at which the program judges all, and which has served nothing
pub record IsBegunNode (program : AcceptedValue) (ports : ℕ) (r : Rehearsing) : Type 0 where
  pub config : NodeConfig
  pub is_config : IsConfig ports program.sizes config
  pub fresh : IsFreshNode config program r.node
  pub silent : r.reply ≡ []
  pub unrefused : r.refused ≡ false
  pub unfailed : r.failed ≡ false

-- the line is a packet line, of a port that is none of this many
pub record HasNoSuchPort (line : List ℕ) (ports : ℕ) : Type 0 where
  pub port : ℕ
  pub packet : Cargo
  pub written : IsPacketLine line port packet
  pub other : ports ≤ port

-- why a line writes no packet for a node with this many ports, or memory was refused to it
abbrev pub IsNoPacket : List ℕ → (ports : ℕ) → BadLine → Type 0
IsNoPacket line ports (Line fault) = (fault ≡ Memory) ⊎ HasFault marker_word line fault
IsNoPacket line ports NoPort = HasNoSuchPort line ports
IsNoPacket line ports NoEvent = ⊥
IsNoPacket line ports NoRoom = ⊥

-- the node served the packet that the line writes, and what that is and how it ended was printed
pub record TakesStep (line : List ℕ) (before after : Rehearsing) (old new : Option (List ℕ)) : Type 0 where
  pub port : ℕ
  pub packet : Cargo
  pub written : IsPacketLine line port packet
  pub reported : ServedDetail
  pub served : ServesReported reported port packet before.node after.node after.reply
  pub refused : after.refused
      ≡ (before.refused || is_refused (load_step_of packet (discard_of packet.bytes)) reported.verdict)
  pub failed : after.failed ≡ (before.failed || is_failed (load_step_of packet (discard_of packet.bytes)) reported.served)
  pub printed : Appends old new (step_line (load_step_of packet (discard_of packet.bytes)) reported.served after.reply)

-- the node did not take the line, with which this is wrong, and nothing was printed
abbrev pub IsNoStep : List ℕ → (before after : Rehearsing) → (old new : Option (List ℕ)) → LineEnd → Type 0
IsNoStep line before after old new (Bad fault) =
    IsNoPacket line (length before.node.passes) fault × (after ≡ before) × (new ≡ old)
IsNoStep line before after old new NoMemory = ⊥
