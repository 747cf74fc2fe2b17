-- What lawful histories say of each command that was judged.
use Rattle.std.specs.Prelude.{◌≡◌, ◌<◌, ◌≤◌, ℕ, ◌+◌, ◌==◌, if◌then◌else◌, Bool, true, false, List, [], All, Option}
use Rattle.std.specs.Prelude.{Some, None}
use Rattle.bpf.specs.Program.{Program}
use Rattle.rmap.specs.declared.places.Place.{Place}
use Rattle.rmap.specs.declared.places.Place.TheVariants as places
use Rattle.rmap.specs.declared.status.Status.{Status}
use Rattle.rmap.specs.Command.{CommandValue, command_of}
use Rattle.rmap.specs.Reply.{reply_of}
use Rattle.machine.specs.Memory.{IsProgramHeader}
use Rattle.machine.specs.Runs.{IsSafe}
use Rattle.bver.specs.Justified.{IsJustified}
use Rattle.brun.specs.declared.turns.Turn.TheVariants as turns
use Rattle.bank.specs.Answer.{judged_line}
use Rattle.bank.specs.Effect.{Memory}
use Rattle.node_programs.specs.Staged.{Staged, staged}
use Rattle.node_parts.specs.Loads.{published_result, refused_result}
use Rattle.rmap.specs.BootRecords.{control_of}
use Rattle.node_parts.specs.Outcomes.{Load, IsLoad}
use Rattle.node_parts.specs.Outcomes as loads
use Rattle.sched.specs.declared.event.Event.{Event}
use Rattle.sched.specs.declared.event.Event.TheVariants.{Take, Count, Ticket, Peak, Effect, Publish}
use Rattle.sched.specs.declared.event.Outcome.{Outcome}
use Rattle.sched.specs.declared.event.Outcome.TheVariants.{Refused, Discarded, Answered, Taken, Told, Done}
use Rattle.sched.specs.History.{History, Start, Then, Open, port_of, opened}
use Rattle.sched.specs.Lawful.{IsLawful, IsLawfulExceptAnswers, IsLoaded, bank_answer, staging_answer, effect_at_place}
use Rattle.sched.specs.Looking.{Node, place_in, slot_of_packet, seen_header_in, staging, publishes, published}
use Rattle.sched.specs.Looking.{program_of, turn_of, memory}
use Rattle.sched.specs.Turns.{AreWords, HasEnded}

-- ---- premises

-- A node has at most 32 ports. Its factory program, and those that were published before the first event, are justified
-- for its maps.
pub record IsNode (n : Node) : Type 0 where
  pub few_ports : n.ports ≤ 32
  pub factory : IsJustified n.factory n.sizes
  pub firsts : All (λ (made : ℕ × Program). IsJustified made.1 n.sizes) n.firsts

-- the packet that an event brings, if it brings one, has only bytes
abbrev pub BringsBytes : Event → Type 0
BringsBytes (Take port packet) = All (λ byte. byte < 256) packet.bytes
BringsBytes (Count port) = Unit {0}
BringsBytes (Ticket port) = Unit {0}
BringsBytes (Peak port) = Unit {0}
BringsBytes (Effect port) = Unit {0}
BringsBytes (Publish port) = Unit {0}

-- each packet of a history has only bytes
abbrev pub HasBytes : History → Type 0
HasBytes Start = Unit {0}
HasBytes (Then h event outcome) = HasBytes h × BringsBytes event

-- ---- once

-- whether an outcome begins or ends the judgement of a command
abbrev pub is_turning : Outcome → Bool
is_turning Refused = false
is_turning (Discarded discard) = false
is_turning (Answered status reply) = false
is_turning (Taken generation) = true
is_turning (Told reported) = false
is_turning (Done status reply loaded) = true

-- the first history begins the second, and after it the port took no command and did none
pub data LeadsTo (port : ℕ) (first : History) : History → Type 0 where
  same : LeadsTo port first first
  further : {h : History} {event : Event} {outcome : Outcome} → LeadsTo port first h
      → (port_of event ≡ port → is_turning outcome ≡ false) → LeadsTo port first (Then h event outcome)

-- the open command of a port was taken, and after that the port took none and did none
abbrev pub OpenedAreTaken : Type 0
OpenedAreTaken =
    (h : History) (port : ℕ) (o : Open) → opened h port ≡ Some o
    → LeadsTo port (Then o.before (Take port o.packet) (Taken o.generation)) h

-- the first history begins the second
pub data BeginsHistory (first : History) : History → Type 0 where
  whole : BeginsHistory first first
  longer : {h : History} {event : Event} {outcome : Outcome} → BeginsHistory first h → BeginsHistory first (Then h event outcome)

-- after a command of a port that was done, what is open there was taken after that
abbrev pub OpenedAfterDone : Type 0
OpenedAfterDone =
    (h later : History) (event : Event) (status : Status) (reply : List ℕ) (loaded : Option (List ℕ)) (o : Open)
    → BeginsHistory (Then h event (Done status reply loaded)) later → opened later (port_of event) ≡ Some o
    → BeginsHistory (Then h event (Done status reply loaded)) o.before

-- each command of the port that was done in the history was done in that beginning of it
abbrev pub AreDoneWithin : (port : ℕ) → (h first : History) → Type 0
AreDoneWithin port h first =
    (earlier : History) (event : Event) (status : Status) (reply : List ℕ) (loaded : Option (List ℕ)) → port_of event
    ≡ port
    → BeginsHistory (Then earlier event (Done status reply loaded)) h
    → BeginsHistory (Then earlier event (Done status reply loaded)) first

-- ---- what an effect leaves

-- The memory of bank k after an effect of the port at that place. If the command is the bank's, it is that of the
-- answer, else it is what it was.
abbrev pub memory_left : Node → History → (port : ℕ) → CommandValue → (verdict : ℕ) → Option Place → (k : ℕ) → Memory
memory_left n h port c verdict None k = memory n h k
memory_left n h port c verdict (Some (places.Bank j)) k =
    if j == k then (bank_answer n h k port c verdict).memory else memory n h k
memory_left n h port c verdict (Some places.Staging) k = memory n h k
memory_left n h port c verdict (Some places.LoadResult) k = memory n h k
memory_left n h port c verdict (Some places.Control) k = memory n h k

-- The staging of port q after an effect of the port at that place. If the staging is the port's own and the command is
-- its, it has the answer's bytes, else it is what it was.
abbrev pub staging_left : Node → History → (port : ℕ) → CommandValue → (verdict : ℕ) → Option Place → (q : ℕ) → Staged
staging_left n h port c verdict None q = staging n h q
staging_left n h port c verdict (Some (places.Bank k)) q = staging n h q
staging_left n h port c verdict (Some places.Staging) q =
    if port == q
    then staged (staging_answer n h q c verdict).memory.bytes (staging n h q).load_result
    else staging n h q
staging_left n h port c verdict (Some places.LoadResult) q = staging n h q
staging_left n h port c verdict (Some places.Control) q = staging n h q

-- A command ended by an Effect as the definition says for its verdict: outcome, each bank's memory and each staging. No
-- program changed.
pub record IsEffectOf (n : Node) (h : History) (port : ℕ) (c : CommandValue) (verdict : ℕ) (place : Option Place)
    (outcome : Outcome) (after : History) : Type 0 where
  pub reported : outcome ≡ effect_at_place n h port c verdict place
  pub memories : (k : ℕ) → memory n after k ≡ memory_left n h port c verdict place k
  pub stagings : (q : ℕ) → staging n after q ≡ staging_left n h port c verdict place q
  pub programs : (slot : ℕ) → published n after slot ≡ published n h slot

-- ---- what a load leaves

-- the load result that a load leaves
abbrev pub load_result_left : Node → History → Load → List ℕ
load_result_left n h (loads.Published slot program) = published_result (publishes n h + 1)
load_result_left n h (loads.Refused refusal) = refused_result refusal

-- The program of a slot with its generation, after a load. In the load's own slot it is the staged one, with the next
-- generation.
abbrev pub program_left : Node → History → Load → (slot : ℕ) → Program × ℕ
program_left n h (loads.Published asked program) slot =
    if asked == slot then (program.program, publishes n h + 1) else published n h slot
program_left n h (loads.Refused refusal) slot = published n h slot

-- a control write that something stops ended with that status, and changed nothing
pub record IsStoppedWrite (n : Node) (h : History) (c : CommandValue) (status : Status) (outcome : Outcome)
    (after : History) : Type 0 where
  pub reported : outcome ≡ Done status (reply_of c status []) None
  pub memories : (k : ℕ) → memory n after k ≡ memory n h k
  pub stagings : (q : ℕ) → staging n after q ≡ staging n h q
  pub programs : (slot : ℕ) → published n after slot ≡ published n h slot

-- A load decided, and left its result with its port. If it succeeded, it left the staged program in its slot.
pub record IsLoadOf (n : Node) (h : History) (port : ℕ) (c : CommandValue) (outcome : Outcome) (after : History) : Type
    0 where
  pub load : Load
  pub decides : IsLoad (control_of c.body) (staging n h port).bytes n.sizes (publishes n h + 1) load
  pub reported : IsLoaded n h c load outcome
  pub memories : (k : ℕ) → memory n after k ≡ memory n h k
  pub stagings : (q : ℕ) → staging n after q
      ≡ (if port == q then staged (staging n h q).bytes (load_result_left n h load) else staging n h q)
  pub programs : (slot : ℕ) → published n after slot ≡ program_left n h load slot

-- a control write ended by a Publish as the definition says for its verdict, by what stops it
abbrev pub IsWriteEnd : Node → History → (port : ℕ) → CommandValue → Option Status → Outcome → (after : History)
    → Type 0
IsWriteEnd n h port c (Some status) outcome after = IsStoppedWrite n h c status outcome after
IsWriteEnd n h port c None outcome after = IsLoadOf n h port c outcome after

-- ---- the headline

-- an open command of the port that has its verdict ended by that event as the definition says
abbrev pub EndsBy : Node → History → (port : ℕ) → Open → (verdict : ℕ) → Event → Outcome → Type 0
EndsBy n h port o verdict (Take at_port packet) outcome = ⊥
EndsBy n h port o verdict (Count at_port) outcome = ⊥
EndsBy n h port o verdict (Ticket at_port) outcome = ⊥
EndsBy n h port o verdict (Peak at_port) outcome = ⊥
EndsBy n h port o verdict (Effect at_port) outcome =
    IsEffectOf n h port (command_of o.packet) verdict (place_in n o.packet) outcome (Then h (Effect at_port) outcome)
EndsBy n h port o verdict (Publish at_port) outcome =
    IsWriteEnd n h port (command_of o.packet) (judged_line (command_of o.packet) verdict) outcome
    (Then h (Publish at_port) outcome)

-- A command that is done was taken once and is done once. After its Take the port took none and did none, and all that
-- were done there before were done before that Take. The program that was published in its slot when it was taken
-- judged it, and the Take reported that program's generation. That program is justified, so it is safe. What it saw is
-- a header, and the answers that it got are words. Its run on them ended with the verdict, within its budget. Outcome,
-- memories, stagings and programs are what the definition gives for that verdict.
pub record IsTakenOnceDoneOnce (n : Node) (h : History) (event : Event) (outcome : Outcome) : Type 0 where
  pub there : port_of event < n.ports
  pub taken : Open
  pub is_open : opened h (port_of event) ≡ Some taken
  pub once : LeadsTo (port_of event) (Then taken.before (Take (port_of event) taken.packet) (Taken taken.generation)) h
  pub alone : AreDoneWithin (port_of event) h taken.before
  pub judged_by : published n taken.before (slot_of_packet n taken.packet) ≡ (program_of n taken, taken.generation)
  pub justified : IsJustified (program_of n taken) n.sizes
  pub safe : IsSafe (program_of n taken) n.sizes
  pub header : IsProgramHeader (seen_header_in taken.packet)
  pub words : AreWords taken.answers
  pub verdict : ℕ
  pub stands : turn_of n (port_of event) taken ≡ Some (turns.Verdict verdict)
  pub run : HasEnded (program_of n taken) (seen_header_in taken.packet) (port_of event) taken.answers verdict
  pub ended : EndsBy n h (port_of event) taken verdict event outcome

-- over every schedule of a node, a command that is done is judged once
abbrev pub EveryScheduleJudgesOnce : Type 0
EveryScheduleJudgesOnce =
    (n : Node) (h : History) (event : Event) (status : Status) (reply : List ℕ) (loaded : Option (List ℕ))
    → IsNode n → HasBytes h → IsLawful n (Then h event (Done status reply loaded))
    → IsTakenOnceDoneOnce n h event (Done status reply loaded)

-- the same if cells may have answered any words: it asks for nothing that they answered
abbrev pub EveryHistoryJudgesOnce : Type 0
EveryHistoryJudgesOnce =
    (n : Node) (h : History) (event : Event) (status : Status) (reply : List ℕ) (loaded : Option (List ℕ))
    → IsNode n → HasBytes h → IsLawfulExceptAnswers n (Then h event (Done status reply loaded))
    → IsTakenOnceDoneOnce n h event (Done status reply loaded)

-- the command that an event ends, if it ends one, is judged once
abbrev pub IsJudgedOnceIfDone : Node → History → Event → Outcome → Type 0
IsJudgedOnceIfDone n h event Refused = Unit {0}
IsJudgedOnceIfDone n h event (Discarded discard) = Unit {0}
IsJudgedOnceIfDone n h event (Answered status reply) = Unit {0}
IsJudgedOnceIfDone n h event (Taken generation) = Unit {0}
IsJudgedOnceIfDone n h event (Told reported) = Unit {0}
IsJudgedOnceIfDone n h event (Done status reply loaded) = IsTakenOnceDoneOnce n h event (Done status reply loaded)

-- each command that is done in a history is judged once
abbrev pub AreJudgedOnce : Node → History → Type 0
AreJudgedOnce n Start = Unit {0}
AreJudgedOnce n (Then h event outcome) = AreJudgedOnce n h × IsJudgedOnceIfDone n h event outcome
