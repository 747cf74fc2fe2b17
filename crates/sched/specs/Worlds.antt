-- What a world is, and of which history it is the world.
use Rattle.std.specs.Prelude.{◌≡◌, ◌≢◌, ◌<◌, ◌≤◌, ◌⊎◌, ℕ, List, [], ◌∷◌, length, replicate, slice_get, slice_index}
use Rattle.std.specs.Prelude.{slice_index_or, slice_set, Option, Some, None}
use base.Stored.{gnil}
use Rattle.spw.specs.Cargo.{Cargo}
use Rattle.rmap.specs.declared.places.Place.{Place}
use Rattle.rmap.specs.declared.places.Place.TheVariants as places
use Rattle.rmap.specs.Command.{discard_of}
use Rattle.rmap.specs.Windows.{WindowsValue}
use Rattle.bpf.specs.Program.{Program}
use Rattle.machine.specs.declared.calls.Call.{Call}
use Rattle.machine.specs.Memory.{Header}
use Rattle.machine.specs.Sizes.{Maps, IsInside}
use Rattle.bver_form.specs.declared.refusal.Refusal.TheVariants as refusals
use Rattle.bver_form.specs.declared.refusal.Refused.{Refused}
use Rattle.bver.specs.Justified.{AcceptedValue, IsJustified}
use Rattle.bver.specs.Refusals.{IsRefusal}
use Rattle.brun.specs.declared.frame.Frame.{Frame}
use Rattle.brun.specs.declared.turns.Turn.{Turn}
use Rattle.brun.specs.declared.turns.Turn.TheVariants as turns
use Rattle.brun.specs.Pauses.{Turns, AsksWithin}
use Rattle.plain_cells.specs.Words.{AreCells, key_word_at}
use Rattle.bank.specs.Admission.{IsPlacedBy}
use Rattle.bank.specs.Effect.{Memory}
use Rattle.bank.specs.Records.{BankValue, EntryValue, ShareValue, base_of, first_share, memory_of, numbers_of}
use Rattle.node_programs.specs.Staged.{Staged}
use Rattle.node_parts.specs.declared.config.NodeConfig.{NodeConfig}
use Rattle.node_parts.specs.declared.faults.NodeFault.{NodeFault}
use Rattle.node_parts.specs.Nodes.{first_staging}
use Rattle.node_parts.specs.Pairs.{IsPaired}
use Rattle.node_parts.specs.Passes.{PassValue}
use Rattle.sched.specs.declared.event.Event.{Event}
use Rattle.sched.specs.declared.event.Outcome.{Outcome}
use Rattle.sched.specs.declared.faults.WorldFault.{WorldFault}
use Rattle.sched.specs.declared.faults.WorldFault.TheVariants.{Memory as NoMemory, Config, Image}
use Rattle.sched.specs.History.{History, Then, Open, opened}
use Rattle.sched.specs.Looking.{Node, windows_in, seen_header_in, staging, published, publishes, program_of, turn_of}
use Rattle.sched.specs.Looking.{cell_word, room_of, entries, first_memory, memory}
use Rattle.sched.specs.Lawful.{IsLawful}
use Rattle.sched.specs.Turns.{answers_of_calls}

-- the node of that configuration, with that factory program, and with those programs published before the first event
abbrev pub node_with : NodeConfig → Program → (firsts : List (ℕ × Program)) → Node
node_with config factory firsts = record {
  address = config.address;
  ports = config.ports;
  banks = config.banks.now;
  sizes = config.sizes;
  factory = factory;
  firsts = firsts;
}

-- the same without such programs
abbrev pub node_of : NodeConfig → Program → Node
node_of config factory = node_with config factory []

-- ---- what a world has

-- A command that is judged: its packet and place, and the program that judges it with its generation. It also has where
-- that program is, with its registers and its stack.
pub record RunValue : Type 0 where
  pub packet : Cargo
  pub place : Place
  pub program : AcceptedValue
  pub generation : ℕ
  pub turn : Turn
  pub frame : Frame
  pub stack : List ℕ

-- what a port has: a share of each bank, its staging, and the command that is judged
pub record PortValue : Type 0 where
  pub shares : List ShareValue
  pub staging : Staged
  pub run : Option RunValue

-- A world: the windows and the maps of its node, its banks, the words of its cells by map, and its ports. It also has
-- the program of each slot with its generation, and how many were published.
pub record WorldValue : Type 0 where
  pub windows : WindowsValue
  pub sizes : Maps
  pub banks : List BankValue
  pub words : List (List ℕ)
  pub programs : List (AcceptedValue × ℕ)
  pub count : ℕ
  pub ports : List PortValue

-- a port of that number with a first share of each of that many banks, an empty staging, and no command
abbrev pub first_port : (banks port : ℕ) → PortValue
first_port banks port = record {
  shares = replicate banks (first_share port);
  staging = first_staging;
  run = None;
}

-- the program in each of the four slots, with generation 0
abbrev pub shown_in_all : AcceptedValue → List (AcceptedValue × ℕ)
shown_in_all program = (program, 0) ∷ (program, 0) ∷ (program, 0) ∷ (program, 0) ∷ []

-- the generation of a program that is shown
abbrev pub generation_in : Option (AcceptedValue × ℕ) → Option ℕ
generation_in None = None
generation_in (Some shown) = Some shown.1

-- the staging of a port
abbrev pub world_staging_in : Option PortValue → Option Staged
world_staging_in None = None
world_staging_in (Some p) = Some p.staging

-- ---- what is known of a world without a history

-- a run of the program is there, at some port and with some calls
pub record StandsThere (program : Program) (header : Header) (turn : Turn) (frame : Frame) (stack : List ℕ) : Type 0
  where
    pub port : ℕ
    pub low : port < 32
    pub calls : List Call
    pub turns : Turns program header port calls turn frame stack

-- The packet is a command. If its program asks a helper, it asks for a cell of the maps for which the program was
-- accepted.
pub record IsCommandHeld (r : RunValue) : Type 0 where
  pub command : discard_of r.packet.bytes ≡ None
  pub within : AsksWithin r.program.sizes r.turn

-- the same command with that stack, which is its port's
abbrev pub at_stack : RunValue → List ℕ → RunValue
at_stack r stack = record r { stack = stack }

-- the same, if a command is judged
abbrev pub at_stack_if_any : Option RunValue → List ℕ → Option RunValue
at_stack_if_any None stack = None
at_stack_if_any (Some r) stack = Some (at_stack r stack)

-- the program of the command that is judged is where its turn says
abbrev pub StandsIfAny : Option RunValue → Type 0
StandsIfAny None = Unit {0}
StandsIfAny (Some r) = StandsThere r.program.program (seen_header_in r.packet) r.turn r.frame r.stack

-- that command is judged, by that program of that generation
pub record IsRunWith (packet : Cargo) (place : Place) (program : AcceptedValue) (generation : ℕ) (r : RunValue) : Type 0
  where
    pub packet_is : r.packet ≡ packet
    pub place_is : r.place ≡ place
    pub program_is : r.program ≡ program
    pub generation_is : r.generation ≡ generation

-- the same command is judged by the same program
abbrev pub IsSameCommandRun : (old new : RunValue) → Type 0
IsSameCommandRun old new = IsRunWith old.packet old.place old.program old.generation new

-- the same, or none before and none now
abbrev pub IsSameRunIfAny : (old new : Option RunValue) → Type 0
IsSameRunIfAny None None = Unit {0}
IsSameRunIfAny None (Some r) = ⊥
IsSameRunIfAny (Some old) None = ⊥
IsSameRunIfAny (Some old) (Some new) = IsSameCommandRun old new

-- a program is at a question
abbrev pub IsHelperQuestion : Turn → Type 0
IsHelperQuestion (turns.Ask question) = Unit {0}
IsHelperQuestion (turns.Verdict verdict) = ⊥

-- where the program of the command that is judged is, if there is one
abbrev pub turn_in : Option RunValue → Option Turn
turn_in None = None
turn_in (Some r) = Some r.turn

-- the program of the command that is judged is at a question
abbrev pub AsksHelper : Option RunValue → Type 0
AsksHelper None = ⊥
AsksHelper (Some r) = IsHelperQuestion r.turn

-- the verdict of a program that is there, if it has one
abbrev pub verdict_of_turn : Turn → Option ℕ
verdict_of_turn (turns.Ask question) = None
verdict_of_turn (turns.Verdict verdict) = Some verdict

-- the verdict of a command that ends at that place by an Effect, if it has one: a control write does not
abbrev pub effect_due_at : Place → Turn → Option ℕ
effect_due_at (places.Bank k) turn = verdict_of_turn turn
effect_due_at places.Staging turn = verdict_of_turn turn
effect_due_at places.LoadResult turn = verdict_of_turn turn
effect_due_at places.Control turn = None

-- the verdict of a command that ends at that place by a Publish, if it has one: only a control write does
abbrev pub publish_due_at : Place → Turn → Option ℕ
publish_due_at (places.Bank k) turn = None
publish_due_at places.Staging turn = None
publish_due_at places.LoadResult turn = None
publish_due_at places.Control turn = verdict_of_turn turn

-- the verdict of the command that is judged, if an Effect is due
abbrev pub effect_due : Option RunValue → Option ℕ
effect_due None = None
effect_due (Some r) = effect_due_at r.place r.turn

-- the same, if a Publish is due
abbrev pub publish_due : Option RunValue → Option ℕ
publish_due None = None
publish_due (Some r) = publish_due_at r.place r.turn

-- the bytes of the command lie where its place says under those windows, and its program is for maps of those sizes
pub record IsRunUnder (windows : WindowsValue) (sizes : Maps) (r : RunValue) : Type 0 where
  pub placed : IsPlacedBy windows r.packet r.place
  pub sizes_are : r.program.sizes ≡ sizes

-- the same, if a command is judged
abbrev pub IsRunUnderIfAny : WindowsValue → Maps → Option RunValue → Type 0
IsRunUnderIfAny windows sizes None = Unit {0}
IsRunUnderIfAny windows sizes (Some r) = IsRunUnder windows sizes r

-- What a port of a world has, as the pass of a port of a node. It knows nothing of the node's cells and programs.
abbrev pub pass_of_port : WindowsValue → Maps → (port : ℕ) → PortValue → PassValue
pass_of_port windows sizes port p = record {
  port = port;
  windows = windows;
  programs = [];
  seat = record { sizes = sizes; home = gnil; asked = [] };
  shares = p.shares;
  staging = p.staging;
}

-- The port has its share of each of those banks. The command that it judges lies under those windows, and the program
-- that judges it is for maps of those sizes.
pub record IsPortIn (windows : WindowsValue) (sizes : Maps) (banks : List BankValue) (port : ℕ) (p : PortValue) : Type 0
  where
    pub paired : IsPaired banks (pass_of_port windows sizes port p)
    pub run : IsRunUnderIfAny windows sizes p.run

-- each port is such a port
abbrev pub ArePortsIn : WindowsValue → Maps → List BankValue → List PortValue → Type 0
ArePortsIn windows sizes banks ports =
    (port : ℕ) (p : PortValue) → slice_get ports port ≡ Some p → IsPortIn windows sizes banks port p

-- each program was accepted for maps of those sizes
abbrev pub AreAcceptedFor : Maps → List (AcceptedValue × ℕ) → Type 0
AreAcceptedFor sizes programs =
    (slot : ℕ) (shown : AcceptedValue × ℕ) → slice_get programs slot ≡ Some shown → shown.0.sizes ≡ sizes

-- The parts of a world fit together, whatever happened. The world has a word for each cell, four programs for the maps,
-- and at most 32 ports, each with its shares.
pub record IsWorld (w : WorldValue) : Type 0 where
  pub cells : AreCells w.sizes w.words
  pub slots : length w.programs ≡ 4
  pub accepted : AreAcceptedFor w.sizes w.programs
  pub few_ports : length w.ports ≤ 32
  pub ports : ArePortsIn w.windows w.sizes w.banks w.ports

-- ---- of which history it is the world

-- the program is accepted for the maps of the node
pub record IsFor (n : Node) (a : AcceptedValue) : Type 0 where
  pub sizes : a.sizes ≡ n.sizes
  pub justified : IsJustified a.program n.sizes

-- What is judged is the open command, by the program of its Take. That program is where the answers since led.
pub record IsRunOfOpen (n : Node) (port : ℕ) (o : Open) (r : RunValue) : Type 0 where
  pub packet : r.packet ≡ o.packet
  pub generation : r.generation ≡ o.generation
  pub placed : IsPlacedBy (windows_in n) o.packet r.place
  pub program : r.program.program ≡ program_of n o
  pub accepted : IsFor n r.program
  pub turn : turn_of n port o ≡ Some r.turn
  pub calls : List Call
  pub answered : answers_of_calls calls ≡ o.answers
  pub stands : Turns r.program.program (seen_header_in o.packet) port calls r.turn r.frame r.stack

-- a command is judged exactly if one is open
abbrev pub IsJudging : Node → (port : ℕ) → Option Open → Option RunValue → Type 0
IsJudging n port None None = Unit {0}
IsJudging n port None (Some r) = ⊥
IsJudging n port (Some o) None = ⊥
IsJudging n port (Some o) (Some r) = IsRunOfOpen n port o r

-- the share is the port's, with the number of its next entry
pub record IsShareWith (port number : ℕ) (share : ShareValue) : Type 0 where
  pub holder : share.port ≡ port
  pub next : share.number ≡ number

-- the port has that staging, that open command, and of each bank a share with the number after its entries there
pub record IsPortOf (n : Node) (port : ℕ) (staged : Staged) (last : Option Open) (entries_of : ℕ → List EntryValue)
    (p : PortValue) : Type 0 where
  pub staging_is : p.staging ≡ staged
  pub judging : IsJudging n port last p.run
  pub count : length p.shares ≡ length n.banks
  pub shares : (k : ℕ) (share : ShareValue) → slice_get p.shares k ≡ Some share
      → IsShareWith port (length (numbers_of port (entries_of k))) share

-- there are the ports of the node, each with what looking back gives
pub record ArePortsOf (n : Node) (h : History) (ports : List PortValue) : Type 0 where
  pub count : length ports ≡ n.ports
  pub each : (port : ℕ) (p : PortValue) → slice_get ports port ≡ Some p
      → IsPortOf n port (staging n h port) (opened h port) (entries n h) p

-- Bank k has those entries and that memory. It began with zeros, has the room of its configuration, and counts the
-- entries of each port.
pub record IsBankOf (n : Node) (k : ℕ) (entries : List EntryValue) (memory : Memory) (b : BankValue) : Type 0 where
  pub base_is : base_of b ≡ first_memory (slice_get n.banks k)
  pub memory_is : memory_of b ≡ memory
  pub entries_are : b.journal.entries ≡ entries
  pub room : b.journal.room ≡ room_of (slice_get n.banks k)
  pub ports : length b.counts ≡ n.ports
  pub counts : (port : ℕ) → port < n.ports → slice_index b.counts port ≡ length (numbers_of port entries)

-- there are the banks of the node, each with its entries and its memory
pub record AreBanksOf (n : Node) (entries_of : ℕ → List EntryValue) (memory_in : ℕ → Memory) (banks : List BankValue) :
    Type 0 where
  pub count : length banks ≡ length n.banks
  pub each : (k : ℕ) (b : BankValue) → slice_get banks k ≡ Some b → IsBankOf n k (entries_of k) (memory_in k) b

-- the word of each cell is that
abbrev pub AreCellWords : Maps → (word_of_cell : ℕ → ℕ → ℕ) → List (List ℕ) → Type 0
AreCellWords sizes word_of_cell words =
    (map key : ℕ) → IsInside sizes map key → key_word_at words map key ≡ word_of_cell map key

-- what is shown is that program of that generation, accepted for the maps of the node
pub record IsShownAs (n : Node) (published : Program × ℕ) (shown : AcceptedValue × ℕ) : Type 0 where
  pub program : shown.0.program ≡ published.0
  pub generation : shown.1 ≡ published.1
  pub accepted : IsFor n shown.0

-- each slot shows what is published for it
abbrev pub AreProgramsOf : Node → (published : ℕ → Program × ℕ) → List (AcceptedValue × ℕ) → Type 0
AreProgramsOf n published programs =
    (slot : ℕ) (shown : AcceptedValue × ℕ) → slice_get programs slot ≡ Some shown → IsShownAs n (published slot) shown

-- the world is the one that looking back from the end of the history gives
pub record IsWorldOf (n : Node) (h : History) (w : WorldValue) : Type 0 where
  pub windows_are : w.windows ≡ windows_in n
  pub sizes_are : w.sizes ≡ n.sizes
  pub banks_are : AreBanksOf n (entries n h) (memory n h) w.banks
  pub words_are : AreCellWords n.sizes (cell_word n h) w.words
  pub programs_are : AreProgramsOf n (published n h) w.programs
  pub count_is : w.count ≡ publishes n h
  pub ports_are : ArePortsOf n h w.ports

-- the history is lawful, and the world is its world
pub record IsLawfulWorld (n : Node) (h : History) (w : WorldValue) : Type 0 where
  pub lawful : IsLawful n h
  pub world : IsWorldOf n h w

-- After every lawful history of which the old world is the world, the outcome is lawful. The new world is that of the
-- history with the event and its outcome.
abbrev pub GoesOnLawfully : Event → Outcome → (old new : WorldValue) → Type 0
GoesOnLawfully event outcome old new =
    (n : Node) (h : History) → IsLawfulWorld n h old → IsLawfulWorld n (Then h event outcome) new

-- ---- faults

-- The verifier refused the factory program for these maps, and not for lack of memory. Nothing justifies the program.
pub record IsFactoryRefused (maps : Maps) (factory : Program) : Type 0 where
  pub refused : Refused
  pub why : IsRefusal factory refused
  pub no_want : refused.code ≢ refusals.Memory
  pub unjustified : IsJustified factory maps → ⊥

-- Why there is no world. A limit that the node passes comes first. Else the verifier refused the factory program, or
-- memory was refused.
abbrev pub IsWorldFault : (limit : Option NodeFault) → Maps → (factory : Program) → WorldFault → Type 0
IsWorldFault (Some limit) maps factory fault = fault ≡ Config
IsWorldFault None maps factory fault = (fault ≡ NoMemory) ⊎ ((fault ≡ Image) × IsFactoryRefused maps factory)

-- the same, if the factory program was accepted before
abbrev pub IsUnmade : (limit : Option NodeFault) → WorldFault → Type 0
IsUnmade (Some limit) fault = fault ≡ Config
IsUnmade None fault = fault ≡ NoMemory
