-- What looking back on a history of a node finds: stagings, programs, tickets, peaks, and what each bank's journal and
-- memory have. All of it comes from what the outcomes report.
use Rattle.std.specs.Prelude.{ℕ, ◌+◌, ◌-◌, ◌^◌, ◌%◌, ◌==◌, ◌&&◌, Bool, true, false, max, nat_lt, if◌then◌else◌}
use Rattle.std.specs.Prelude.{List, [], ◌∷◌, ◌++◌, length, replicate, slice_get, Option, Some, None, is_some}
use Rattle.std.specs.Prelude.{Result, Ok, Err}
use Rattle.bpf.specs.Program.{Program}
use Rattle.bpf.specs.Reading.{image_reading}
use Rattle.bpf.specs.declared.fault.ImageFault.{ImageFault}
use Rattle.rmap.specs.declared.places.Place.{Place}
use Rattle.rmap.specs.declared.places.Place.TheVariants as places
use Rattle.rmap.specs.declared.status.Status.{Status}
use Rattle.rmap.specs.Command.{CommandValue, command_of, command_kind}
use Rattle.rmap.specs.Windows.{WindowsValue, place_of}
use Rattle.machine.specs.Memory.{Header}
use Rattle.machine.specs.Sizes.{Maps, kind_of_map}
use Rattle.machine.specs.declared.kinds.MapKind.{MapKind}
use Rattle.machine.specs.declared.kinds.MapKind.TheVariants as kinds
use Rattle.machine.specs.declared.helpers.Helper.{Helper}
use Rattle.machine.specs.declared.helpers.Helper.TheVariants as helpers
use Rattle.machine.specs.Helpers.{helper_number}
use Rattle.brun.specs.declared.turns.Turn.{Turn}
use Rattle.brun.specs.declared.turns.Turn.TheVariants as turns
use Rattle.brun.specs.Runs.{header}
use Rattle.bank.specs.Answer.{effect_at, is_success}
use Rattle.bank.specs.Effect.{Memory, memory_at}
use Rattle.bank.specs.Records.{EntryValue, checked_entry, numbers_of, replay}
use Rattle.node_programs.specs.Staged.{Staged, staged}
use Rattle.node_parts.specs.declared.config.BankConfig.{BankConfig}
use Rattle.node_parts.specs.Loads.{loaded_bytes}
use Rattle.rmap.specs.BootRecords.{control_of}
use Rattle.node_parts.specs.Nodes.{windows_of, first_staging}
use Rattle.node_parts.specs.Slots.{slot_of}
use Rattle.spw.specs.Cargo.{Cargo}
use Rattle.sched.specs.declared.event.Event.{Event}
use Rattle.sched.specs.declared.event.Event.TheVariants.{Take, Count, Ticket, Peak, Effect, Publish}
use Rattle.sched.specs.declared.event.Outcome.{Outcome}
use Rattle.sched.specs.declared.event.Outcome.TheVariants.{Refused, Discarded, Answered, Taken, Told, Done}
use Rattle.sched.specs.History.{History, Start, Then, Open, port_of, opened}
use Rattle.sched.specs.Turns.{turn_after}

-- The node of a history: its logical address, how many ports it has, its banks, its maps and its factory program. It
-- also has what was published before the first event, in order: each slot with its program.
pub record Node : Type 0 where
  pub address : ℕ
  pub ports : ℕ
  pub banks : List BankConfig
  pub sizes : Maps
  pub factory : Program
  pub firsts : List (ℕ × Program)

-- the windows of a node
abbrev pub windows_in : Node → WindowsValue
windows_in n = windows_of n.address n.banks

-- ---- the command of a packet

-- where the bytes of a packet's command lie in a node
abbrev pub place_in : Node → Cargo → Option Place
place_in n p = place_of (command_of p) (windows_in n)

-- The slot of the program that judges a command at that place. Without a place it means nothing.
abbrev pub slot_at : CommandValue → Option Place → ℕ
slot_at c None = 0
slot_at c (Some place) = slot_of (command_kind c) place

-- the slot of the program that judges a packet's command in a node
abbrev pub slot_of_packet : Node → Cargo → ℕ
slot_of_packet n p = slot_at (command_of p) (place_in n p)

-- what a program sees of a packet's command
abbrev pub seen_header_in : Cargo → Header
seen_header_in p = header (command_of p).front (command_of p).tail

-- ---- stagings and load results

-- A staging after a command of its port that ended at that place with that status. It has the command's effect on its
-- bytes (ECSS-E-ST-50-52C, write action and read-modify-write action).
abbrev pub staged_at : Option Place → Status → CommandValue → Staged → Staged
staged_at None status c s = s
staged_at (Some (places.Bank k)) status c s = s
staged_at (Some places.Staging) status c s =
    staged (effect_at status (memory_at 0 s.bytes) c).memory.bytes s.load_result
staged_at (Some places.LoadResult) status c s = s
staged_at (Some places.Control) status c s = s

-- a staging after an open command that was done, with the load result if a load was decided
abbrev pub staged_after : Node → Option Open → Status → (loaded : Option (List ℕ)) → Staged → Staged
staged_after n None status loaded s = s
staged_after n (Some o) status None s = staged_at (place_in n o.packet) status (command_of o.packet) s
staged_after n (Some o) status (Some loaded) s = staged s.bytes loaded

-- a staging after an event of its port, by what that came to
abbrev pub staged_by : Node → Option Open → Outcome → Staged → Staged
staged_by n o Refused s = s
staged_by n o (Discarded discard) s = s
staged_by n o (Answered status reply) s = s
staged_by n o (Taken generation) s = s
staged_by n o (Told reported) s = s
staged_by n o (Done status reply loaded) s = staged_after n o status loaded s

-- the staging of a port, with the result of its last load
abbrev pub staging : Node → History → (port : ℕ) → Staged
staging n Start port = first_staging
staging n (Then h event outcome) port =
    if port_of event == port then staged_by n (opened h port) outcome (staging n h port) else staging n h port

-- ---- programs

-- the program that was read, for that slot
abbrev pub for_slot : ℕ → Result Program ImageFault → Option (ℕ × Program)
for_slot slot (Ok program) = Some (slot, program)
for_slot slot (Err fault) = None

-- what a control write with those data publishes of staged bytes: what its first bytes spell, for the slot that it
-- names
abbrev pub program_loaded : (body staged : List ℕ) → Option (ℕ × Program)
program_loaded body staged =
    for_slot (control_of body).slot (image_reading (loaded_bytes (control_of body) staged))

-- what a load of an open command publishes of staged bytes
abbrev pub loaded_by : (staged : List ℕ) → Option Open → Option (ℕ × Program)
loaded_by staged None = None
loaded_by staged (Some o) = program_loaded (command_of o.packet).body staged

-- what an event publishes, by what it came to: a load was decided, and ended with success
abbrev pub published_by : (staged : List ℕ) → Option Open → Outcome → Option (ℕ × Program)
published_by staged o Refused = None
published_by staged o (Discarded discard) = None
published_by staged o (Answered status reply) = None
published_by staged o (Taken generation) = None
published_by staged o (Told reported) = None
published_by staged o (Done status reply loaded) =
    if is_some loaded && is_success status then loaded_by staged o else None

-- what an event publishes after a history
abbrev pub published_at : Node → History → Event → Outcome → Option (ℕ × Program)
published_at n h event outcome =
    published_by (staging n h (port_of event)).bytes (opened h (port_of event)) outcome

-- one more, if something was published
abbrev pub counted_publish : Option (ℕ × Program) → ℕ → ℕ
counted_publish None count = count
counted_publish (Some made) count = count + 1

-- how many programs were published, with those before the first event
abbrev pub publishes : Node → History → ℕ
publishes n Start = length n.firsts
publishes n (Then h event outcome) = counted_publish (published_at n h event outcome) (publishes n h)

-- the program of a slot with its generation, after what was published as number `count + 1`
abbrev pub published_after_count : Option (ℕ × Program) → (count : ℕ) → (slot : ℕ) → Program × ℕ → Program × ℕ
published_after_count None count slot before = before
published_after_count (Some made) count slot before = if made.0 == slot then (made.1, count + 1) else before

-- the same after several in order, the first as number `count + 1`
abbrev pub published_after : List (ℕ × Program) → (count : ℕ) → (slot : ℕ) → Program × ℕ → Program × ℕ
published_after [] count slot before = before
published_after (made ∷ more) count slot before =
    published_after more (count + 1) slot (published_after_count (Some made) count slot before)

-- the program of a slot with its generation: the last that was published for it, else the factory program and 0
abbrev pub published : Node → History → (slot : ℕ) → Program × ℕ
published n Start slot = published_after n.firsts 0 slot (n.factory, 0)
published n (Then h event outcome) slot =
    published_after_count (published_at n h event outcome) (publishes n h) slot (published n h slot)

-- the program that judges an open command: the one of its slot when it was taken
abbrev pub program_of : Node → Open → Program
program_of n o = (published n o.before (slot_of_packet n o.packet)).0

-- where the program of an open command of the port is
abbrev pub turn_of : Node → (port : ℕ) → Open → Option Turn
turn_of n port o = turn_after (program_of n o) (seen_header_in o.packet) port o.answers

-- where the port's program is, if a command is open there
abbrev pub turn_by : Node → (port : ℕ) → Option Open → Option Turn
turn_by n port None = None
turn_by n port (Some o) = turn_of n port o

-- the same after a history
abbrev pub turn_at : Node → History → (port : ℕ) → Option Turn
turn_at n h port = turn_by n port (opened h port)

-- ---- tickets and peaks

-- whether it is that helper
abbrev pub is_helper : (asked helper : Helper) → Bool
is_helper asked helper = helper_number asked == helper_number helper

-- the cell, by map and key, for which a program that is there asks that helper
abbrev pub cell_asked : Helper → Option Turn → Option (ℕ × ℕ)
cell_asked helper None = None
cell_asked helper (Some (turns.Ask question)) =
    if is_helper question.helper helper then Some (question.map, question.key) else None
cell_asked helper (Some (turns.Verdict verdict)) = None

-- whether it is that cell
abbrev pub is_cell_of_node : Option (ℕ × ℕ) → (map key : ℕ) → Bool
is_cell_of_node None map key = false
is_cell_of_node (Some cell) map key = cell.0 == map && cell.1 == key

-- whether an outcome is an answer
abbrev pub is_answer : Outcome → Bool
is_answer Refused = false
is_answer (Discarded discard) = false
is_answer (Answered status reply) = false
is_answer (Taken generation) = false
is_answer (Told reported) = true
is_answer (Done status reply loaded) = false

-- whether an event draws a ticket of the cell, if the program of its port is there: `ticket` does
abbrev pub draws : Option Turn → Event → (map key : ℕ) → Bool
draws turn (Take port packet) map key = false
draws turn (Count port) map key = false
draws turn (Ticket port) map key = is_cell_of_node (cell_asked helpers.Ticket turn) map key
draws turn (Peak port) map key = false
draws turn (Effect port) map key = false
draws turn (Publish port) map key = false

-- how many tickets of the cell were drawn
abbrev pub tickets : Node → History → (map key : ℕ) → ℕ
tickets n Start map key = 0
tickets n (Then h event outcome) map key =
    if is_answer outcome && draws (turn_at n h (port_of event)) event map key
    then tickets n h map key + 1
    else tickets n h map key

-- whether an event raises the cell, if the program of its port is there: `peak` does
abbrev pub raises : Option Turn → Event → (map key : ℕ) → Bool
raises turn (Take port packet) map key = false
raises turn (Count port) map key = false
raises turn (Ticket port) map key = false
raises turn (Peak port) map key = is_cell_of_node (cell_asked helpers.Peak turn) map key
raises turn (Effect port) map key = false
raises turn (Publish port) map key = false

-- The number to which a program that is there raises a cell. If it asks for none, the number means nothing.
abbrev pub argument_asked : Option Turn → ℕ
argument_asked None = 0
argument_asked (Some (turns.Ask question)) = question.argument
argument_asked (Some (turns.Verdict verdict)) = 0

-- the greatest number to which the cell was raised, or 0 if it never was
abbrev pub peaks : Node → History → (map key : ℕ) → ℕ
peaks n Start map key = 0
peaks n (Then h event outcome) map key =
    if is_answer outcome && raises (turn_at n h (port_of event)) event map key
    then max (peaks n h map key) (argument_asked (turn_at n h (port_of event)))
    else peaks n h map key

-- what the word of a cell says, by the kind of its map: how many tickets were drawn, modulo 2^64, or the peak
abbrev pub word_by_kind : MapKind → (tickets peak : ℕ) → ℕ
word_by_kind kinds.Counter tickets peak = tickets % 2 ^ 64
word_by_kind kinds.Peak tickets peak = peak

-- what the word of a cell of the node says
abbrev pub cell_word : Node → History → (map key : ℕ) → ℕ
cell_word n h map key = word_by_kind (kind_of_map n.sizes map) (tickets n h map key) (peaks n h map key)

-- ---- banks

-- The verdict of a run that is there. If the run has none, the number means nothing.
abbrev pub verdict_at : Option Turn → ℕ
verdict_at None = 0
verdict_at (Some (turns.Ask question)) = 0
verdict_at (Some (turns.Verdict verdict)) = verdict

-- the entry of that number that an open command of the port leaves, which was done with that status
abbrev pub entry_left : Node → (port number : ℕ) → Open → Status → EntryValue
entry_left n port number o status =
    checked_entry port number o.packet o.generation (verdict_at (turn_of n port o)) status

-- how many entries the journal of a bank has room for
abbrev pub room_of : Option BankConfig → ℕ
room_of None = 0
room_of (Some bank) = bank.room

-- whether there is room for one more entry of the port: in the journal, and in the numbers of the port
abbrev pub has_entry_room : Option BankConfig → (port : ℕ) → List EntryValue → Bool
has_entry_room bank port entries =
    nat_lt (length entries) (room_of bank) && nat_lt (length (numbers_of port entries)) (2 ^ 64 - 1)

-- the entries with one more of the port, while there is room
abbrev pub entered : Node → Option BankConfig → (port : ℕ) → Open → Status → List EntryValue → List EntryValue
entered n bank port o status entries =
    if has_entry_room bank port entries
    then entries ++ entry_left n port (length (numbers_of port entries)) o status ∷ []
    else entries

-- the entries of bank k after a command that was done at that place
abbrev pub entries_at : Node → (k port : ℕ) → Option Place → Open → Status → List EntryValue → List EntryValue
entries_at n k port None o status entries = entries
entries_at n k port (Some (places.Bank j)) o status entries =
    if j == k then entered n (slice_get n.banks k) port o status entries else entries
entries_at n k port (Some places.Staging) o status entries = entries
entries_at n k port (Some places.LoadResult) o status entries = entries
entries_at n k port (Some places.Control) o status entries = entries

-- the same after an open command of the port
abbrev pub entries_after : Node → (k port : ℕ) → Option Open → Status → List EntryValue → List EntryValue
entries_after n k port None status entries = entries
entries_after n k port (Some o) status entries = entries_at n k port (place_in n o.packet) o status entries

-- the entries of bank k after an event of the port, by what that came to
abbrev pub entries_by_event : Node → (k port : ℕ) → Option Open → Outcome → List EntryValue → List EntryValue
entries_by_event n k port o Refused entries = entries
entries_by_event n k port o (Discarded discard) entries = entries
entries_by_event n k port o (Answered status reply) entries = entries
entries_by_event n k port o (Taken generation) entries = entries
entries_by_event n k port o (Told reported) entries = entries
entries_by_event n k port o (Done status reply loaded) entries = entries_after n k port o status entries

-- the entries of bank k: one for each of its commands that was done, while there was room
abbrev pub entries : Node → History → (k : ℕ) → List EntryValue
entries n Start k = []
entries n (Then h event outcome) k =
    entries_by_event n k (port_of event) (opened h (port_of event)) outcome (entries n h k)

-- the memory of a bank to which no command was applied: zeros
abbrev pub first_memory : Option BankConfig → Memory
first_memory None = memory_at 0 []
first_memory (Some bank) = memory_at bank.base (replicate bank.size 0)

-- the memory of bank k: the replay of its entries on zeros
abbrev pub memory : Node → History → (k : ℕ) → Memory
memory n h k = replay (first_memory (slice_get n.banks k)) (entries n h k)
