-- Lawful histories: each outcome is the one that looking back from its place gives.
use Rattle.std.specs.Prelude.{◌≡◌, ◌<◌, ◌≤◌, ◌^◌, ℕ, ◌+◌, ◌%◌, max, true, List, [], slice_get, Option, Some, None}
use Rattle.spw.specs.Cargo.{Cargo}
use Rattle.rmap.specs.declared.boot.TheConstants.{LOAD_REGISTER}
use Rattle.rmap.specs.declared.discard.Discard.{Discard}
use Rattle.rmap.specs.declared.places.Place.{Place}
use Rattle.rmap.specs.declared.places.Place.TheVariants as places
use Rattle.rmap.specs.declared.status.Status.{Status}
use Rattle.rmap.specs.declared.status.Status.TheVariants.{Success, GeneralError}
use Rattle.rmap.specs.Checks.{header_line}
use Rattle.rmap.specs.Command.{CommandValue, command_of, discard_of}
use Rattle.rmap.specs.Reply.{reply_of}
use Rattle.machine.specs.declared.helpers.Helper.{Helper}
use Rattle.machine.specs.declared.helpers.Helper.TheVariants as helpers
use Rattle.brun.specs.declared.turns.Turn.{Turn}
use Rattle.brun.specs.declared.turns.Turn.TheVariants as turns
use Rattle.bank.specs.Answer.{Answer, answer, judged_line}
use Rattle.bank.specs.Effect.{memory_at}
use Rattle.node_parts.specs.Loads.{published_result, refused_result}
use Rattle.rmap.specs.BootRecords.{control_of}
use Rattle.node_parts.specs.declared.stop.Stop.{Stop}
use Rattle.node_parts.specs.declared.stop.Stop.TheVariants.{Discarded as NoCommand, Answered as Fault}
use Rattle.node_parts.specs.Outcomes.{Load, IsLoad}
use Rattle.node_parts.specs.Outcomes as loads
use Rattle.sched.specs.declared.event.Event.{Event}
use Rattle.sched.specs.declared.event.Event.TheVariants.{Take, Count, Ticket, Peak, Effect, Publish}
use Rattle.sched.specs.declared.event.Outcome.{Outcome}
use Rattle.sched.specs.declared.event.Outcome.TheVariants.{Refused, Discarded, Answered, Taken, Told, Done}
use Rattle.sched.specs.History.{History, Start, Then, Open, port_of, opened}
use Rattle.sched.specs.Looking.{Node, windows_in, place_in, slot_of_packet, staging, publishes, published, turn_of}
use Rattle.sched.specs.Looking.{turn_at, cell_asked, argument_asked, tickets, peaks, cell_word, has_entry_room, entries}
use Rattle.sched.specs.Looking.{memory}

-- ---- Take

-- what a packet comes to if its header stops it, with the reply that is due then
abbrev pub stop_outcome : Stop → (reply : List ℕ) → Outcome
stop_outcome (NoCommand discard) reply = Discarded discard
stop_outcome (Fault status) reply = Answered status reply

-- What a command comes to. If a check of its header stops it, it is answered. Else it is taken, with the generation of
-- the program that is published in its slot.
abbrev pub header_outcome : Node → History → Cargo → Option Status → Outcome
header_outcome n h p (Some status) = Answered status (reply_of (command_of p) status [])
header_outcome n h p None = Taken (published n h (slot_of_packet n p)).1

-- what a packet comes to: it is discarded if it is no command
abbrev pub packet_outcome : Node → History → Cargo → Option Discard → Outcome
packet_outcome n h p (Some discard) = Discarded discard
packet_outcome n h p None = header_outcome n h p (header_line (command_of p) (windows_in n))

-- a packet is taken if no command is open
abbrev pub take_outcome : Node → History → Cargo → Option Open → Outcome
take_outcome n h p None = packet_outcome n h p (discard_of p.bytes)
take_outcome n h p (Some o) = Refused

-- ---- Count, Ticket and Peak

-- What a helper answers of a cell, asked with that argument: `count` what its word says, `ticket` how many tickets of
-- it were drawn before, modulo 2^64, `peak` the greater of its peak and the argument.
abbrev pub answer_of_cell : Node → History → Helper → (map key argument : ℕ) → ℕ
answer_of_cell n h helpers.Count map key argument = cell_word n h map key
answer_of_cell n h helpers.Ticket map key argument = tickets n h map key % 2 ^ 64
answer_of_cell n h helpers.Peak map key argument = max (peaks n h map key) argument

-- What the event of a helper comes to. If a program asks it for that cell, some word is the answer, else the event is
-- refused.
abbrev pub IsSomeAnswer : Option (ℕ × ℕ) → Outcome → Type 0
IsSomeAnswer None outcome = outcome ≡ Refused
IsSomeAnswer (Some cell) outcome = (answer : ℕ) × (answer < 2 ^ 64) × (outcome ≡ Told answer)

-- ---- Effect

-- the answer to a judged command of a port at bank k, on the memory that looking back gives
abbrev pub bank_answer : Node → History → (k port : ℕ) → CommandValue → (verdict : ℕ) → Answer
bank_answer n h k port c verdict =
    answer (memory n h k) (has_entry_room (slice_get n.banks k) port (entries n h k)) c verdict

-- the answer to it on the port's staging, which always has room
abbrev pub staging_answer : Node → History → (port : ℕ) → CommandValue → (verdict : ℕ) → Answer
staging_answer n h port c verdict = answer (memory_at 0 (staging n h port).bytes) true c verdict

-- the answer to it on the port's load result
abbrev pub load_result_answer : Node → History → (port : ℕ) → CommandValue → (verdict : ℕ) → Answer
load_result_answer n h port c verdict = answer (memory_at LOAD_REGISTER (staging n h port).load_result) true c verdict

-- a command that ended with that answer, and no load
abbrev pub done : Answer → Outcome
done a = Done a.status a.reply None

-- how a judged command ends by an Effect: everywhere except at a control write
abbrev pub effect_at_place : Node → History → (port : ℕ) → CommandValue → (verdict : ℕ) → Option Place → Outcome
effect_at_place n h port c verdict None = Refused
effect_at_place n h port c verdict (Some (places.Bank k)) = done (bank_answer n h k port c verdict)
effect_at_place n h port c verdict (Some places.Staging) = done (staging_answer n h port c verdict)
effect_at_place n h port c verdict (Some places.LoadResult) = done (load_result_answer n h port c verdict)
effect_at_place n h port c verdict (Some places.Control) = Refused

-- the same, if the program has its verdict
abbrev pub effect_at_turn : Node → History → (port : ℕ) → Open → Option Turn → Outcome
effect_at_turn n h port o None = Refused
effect_at_turn n h port o (Some (turns.Ask question)) = Refused
effect_at_turn n h port o (Some (turns.Verdict verdict)) =
    effect_at_place n h port (command_of o.packet) verdict (place_in n o.packet)

-- the same, if a command is open
abbrev pub effect_outcome : Node → History → (port : ℕ) → Option Open → Outcome
effect_outcome n h port None = Refused
effect_outcome n h port (Some o) = effect_at_turn n h port o (turn_of n port o)

-- ---- Publish

-- A load came to this. If it succeeded, the outcome has the next generation, else it says why the load was refused.
abbrev pub IsLoaded : Node → History → CommandValue → Load → Outcome → Type 0
IsLoaded n h c (loads.Published slot program) outcome =
    outcome ≡ Done Success (reply_of c Success []) (Some (published_result (publishes n h + 1)))
IsLoaded n h c (loads.Refused refusal) outcome =
    outcome ≡ Done GeneralError (reply_of c GeneralError []) (Some (refused_result refusal))

-- A load decides on what the port staged. The factory program is the first of those that were published.
pub record IsDecided (n : Node) (h : History) (port : ℕ) (c : CommandValue) (outcome : Outcome) : Type 0 where
  pub load : Load
  pub decides : IsLoad (control_of c.body) (staging n h port).bytes n.sizes (publishes n h + 1) load
  pub reported : IsLoaded n h c load outcome

-- how a control write ends, by what stops it: if nothing does, a load decides
abbrev pub IsControlled : Node → History → (port : ℕ) → CommandValue → Option Status → Outcome → Type 0
IsControlled n h port c (Some status) outcome = outcome ≡ Done status (reply_of c status []) None
IsControlled n h port c None outcome = IsDecided n h port c outcome

-- how a judged command ends by a Publish: only at a control write
abbrev pub IsPublishedAt : Node → History → (port : ℕ) → CommandValue → (verdict : ℕ) → Option Place → Outcome → Type 0
IsPublishedAt n h port c verdict None outcome = outcome ≡ Refused
IsPublishedAt n h port c verdict (Some (places.Bank k)) outcome = outcome ≡ Refused
IsPublishedAt n h port c verdict (Some places.Staging) outcome = outcome ≡ Refused
IsPublishedAt n h port c verdict (Some places.LoadResult) outcome = outcome ≡ Refused
IsPublishedAt n h port c verdict (Some places.Control) outcome =
    IsControlled n h port c (judged_line c verdict) outcome

-- the same, if the program has its verdict
abbrev pub IsPublishedBy : Node → History → (port : ℕ) → Open → Option Turn → Outcome → Type 0
IsPublishedBy n h port o None outcome = outcome ≡ Refused
IsPublishedBy n h port o (Some (turns.Ask question)) outcome = outcome ≡ Refused
IsPublishedBy n h port o (Some (turns.Verdict verdict)) outcome =
    IsPublishedAt n h port (command_of o.packet) verdict (place_in n o.packet) outcome

-- the same, if a command is open
abbrev pub IsPublishOutcome : Node → History → (port : ℕ) → Option Open → Outcome → Type 0
IsPublishOutcome n h port None outcome = outcome ≡ Refused
IsPublishOutcome n h port (Some o) outcome = IsPublishedBy n h port o (turn_of n port o) outcome

-- ---- all events, apart from what cells answered

-- what an event comes to at a port of the node, apart from what a cell answers
abbrev pub IsOutcomeAtExceptAnswer : Node → History → Event → Outcome → Type 0
IsOutcomeAtExceptAnswer n h (Take port p) outcome = outcome ≡ take_outcome n h p (opened h port)
IsOutcomeAtExceptAnswer n h (Count port) outcome = IsSomeAnswer (cell_asked helpers.Count (turn_at n h port)) outcome
IsOutcomeAtExceptAnswer n h (Ticket port) outcome = IsSomeAnswer (cell_asked helpers.Ticket (turn_at n h port)) outcome
IsOutcomeAtExceptAnswer n h (Peak port) outcome = IsSomeAnswer (cell_asked helpers.Peak (turn_at n h port)) outcome
IsOutcomeAtExceptAnswer n h (Effect port) outcome = outcome ≡ effect_outcome n h port (opened h port)
IsOutcomeAtExceptAnswer n h (Publish port) outcome = IsPublishOutcome n h port (opened h port) outcome

-- What an event comes to, apart from what a cell answers. At a port that the node does not have, it is refused.
pub record IsOutcomeExceptAnswer (n : Node) (h : History) (event : Event) (outcome : Outcome) : Type 0 where
  pub here : port_of event < n.ports → IsOutcomeAtExceptAnswer n h event outcome
  pub nowhere : n.ports ≤ port_of event → outcome ≡ Refused

-- each outcome is the one that looking back from its place gives, apart from what cells answered
abbrev pub IsLawfulExceptAnswers : Node → History → Type 0
IsLawfulExceptAnswers n Start = Unit {0}
IsLawfulExceptAnswers n (Then h event outcome) = IsLawfulExceptAnswers n h × IsOutcomeExceptAnswer n h event outcome

-- ---- what cells answered

-- the answer of a helper's event, if a program asks it for that cell with that argument, is what looking back gives
abbrev pub IsAnswerOf : Node → History → Helper → (argument : ℕ) → Option (ℕ × ℕ) → Outcome → Type 0
IsAnswerOf n h helper argument None outcome = Unit {0}
IsAnswerOf n h helper argument (Some cell) outcome = outcome ≡ Told (answer_of_cell n h helper cell.0 cell.1 argument)

-- the same by where the program of the port is
abbrev pub IsAnsweredAt : Node → History → Helper → (port : ℕ) → Outcome → Type 0
IsAnsweredAt n h helper port outcome =
    IsAnswerOf n h helper (argument_asked (turn_at n h port)) (cell_asked helper (turn_at n h port)) outcome

-- what an event answered, if it answered something
abbrev pub IsAnsweredBy : Node → History → Event → Outcome → Type 0
IsAnsweredBy n h (Take port p) outcome = Unit {0}
IsAnsweredBy n h (Count port) outcome = IsAnsweredAt n h helpers.Count port outcome
IsAnsweredBy n h (Ticket port) outcome = IsAnsweredAt n h helpers.Ticket port outcome
IsAnsweredBy n h (Peak port) outcome = IsAnsweredAt n h helpers.Peak port outcome
IsAnsweredBy n h (Effect port) outcome = Unit {0}
IsAnsweredBy n h (Publish port) outcome = Unit {0}

-- at the ports of the node each cell answered what looking back from there gives
abbrev pub AnswersLookedBack : Node → History → Type 0
AnswersLookedBack n Start = Unit {0}
AnswersLookedBack n (Then h event outcome) = AnswersLookedBack n h × (port_of event < n.ports → IsAnsweredBy n h event outcome)

-- ---- all of it

-- each outcome is the one that looking back from its place gives, and so is what cells answered
pub record IsLawful (n : Node) (h : History) : Type 0 where
  pub except_answers : IsLawfulExceptAnswers n h
  pub reported : AnswersLookedBack n h
