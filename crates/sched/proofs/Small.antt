-- The answers in a lawful history are words.
use Rattle.std.proofs.Common.{◌≡◌, ◌<◌, ◌≤◌, ◌⊎◌, ◌^◌, ◌==◌, ℕ, Bool, true, false, Option, Some, None, sym, subst, inl, inr}
use Rattle.std.specs.Prelude.{if◌then◌else◌}
use Rattle.std.proofs.lemmas.Bool.{cases_lt}
use Rattle.std.proofs.lemmas.List.Elements.{All-nil, All-push}
use Rattle.spw.specs.Cargo.{Cargo}
use Rattle.rmap.specs.declared.discard.Discard.{Discard}
use Rattle.rmap.specs.declared.places.Place.{Place}
use Rattle.rmap.specs.declared.places.Place.TheVariants as places
use Rattle.rmap.specs.declared.status.Status.{Status}
use Rattle.rmap.specs.Checks.{header_line}
use Rattle.rmap.specs.Command.{CommandValue, command_of, discard_of}
use Rattle.brun.specs.declared.turns.Turn.{Turn}
use Rattle.brun.specs.declared.turns.Turn.TheVariants as turns
use Rattle.bank.specs.Answer.{judged_line}
use Rattle.node_parts.specs.Outcomes.{Load}
use Rattle.node_parts.specs.Outcomes as loads
use Rattle.machine.specs.declared.helpers.Helper.TheVariants as helpers
use Rattle.sched.specs.declared.event.Event.{Event}
use Rattle.sched.specs.declared.event.Event.TheVariants.{Take, Count, Ticket, Peak, Effect, Publish}
use Rattle.sched.specs.declared.event.Outcome.{Outcome}
use Rattle.sched.specs.declared.event.Outcome.TheVariants.{Refused, Discarded, Answered, Taken, Told, Done}
use Rattle.sched.specs.History.{History, Start, Then, Open, port_of, taken_by, open_after_answer, opened_by, opened}
use Rattle.sched.specs.Lawful.{IsLawfulExceptAnswers, IsOutcomeExceptAnswer, IsOutcomeAtExceptAnswer, IsSomeAnswer, IsControlled, IsLoaded, IsPublishedAt, IsPublishedBy, IsPublishOutcome, effect_at_place, effect_at_turn, effect_outcome, header_outcome, packet_outcome, take_outcome}
use Rattle.sched.specs.Looking.{Node, windows_in, place_in, cell_asked, turn_at, turn_of}
use Rattle.sched.specs.Turns.{AreWords}
use Rattle.sched.proofs.Outcomes.{AnswersWord}

header_word : (n : Node) (h : History) (p : Cargo) (line : Option Status) → AnswersWord (header_outcome n h p line)
header_word n h p (Some status) = tt
header_word n h p None = tt

packet_word : (n : Node) (h : History) (p : Cargo) (discard : Option Discard) → AnswersWord (packet_outcome n h p discard)
packet_word n h p (Some discard) = tt
packet_word n h p None = header_word n h p (header_line (command_of p) (windows_in n))

take_word : (n : Node) (h : History) (p : Cargo) (last : Option Open) → AnswersWord (take_outcome n h p last)
take_word n h p None = packet_word n h p (discard_of p.bytes)
take_word n h p (Some o) = tt

place_word : (n : Node) (h : History) (port : ℕ) (c : CommandValue) (verdict : ℕ) (place : Option Place) → AnswersWord (effect_at_place n h port c verdict place)
place_word n h port c verdict None = tt
place_word n h port c verdict (Some (places.Bank k)) = tt
place_word n h port c verdict (Some places.Staging) = tt
place_word n h port c verdict (Some places.LoadResult) = tt
place_word n h port c verdict (Some places.Control) = tt

effect_turn_word : (n : Node) (h : History) (port : ℕ) (o : Open) (turn : Option Turn) → AnswersWord (effect_at_turn n h port o turn)
effect_turn_word n h port o None = tt
effect_turn_word n h port o (Some (turns.Ask question)) = tt
effect_turn_word n h port o (Some (turns.Verdict verdict)) = place_word n h port (command_of o.packet) verdict (place_in n o.packet)

effect_word : (n : Node) (h : History) (port : ℕ) (last : Option Open) → AnswersWord (effect_outcome n h port last)
effect_word n h port None = tt
effect_word n h port (Some o) = effect_turn_word n h port o (turn_of n port o)

loaded_word : (n : Node) (h : History) (c : CommandValue) (load : Load) (outcome : Outcome) → IsLoaded n h c load outcome → AnswersWord outcome
loaded_word n h c (loads.Published slot a) outcome reported = subst AnswersWord (sym reported) tt
loaded_word n h c (loads.Refused refusal) outcome reported = subst AnswersWord (sym reported) tt

controlled_word : (n : Node) (h : History) (port : ℕ) (c : CommandValue) (line : Option Status) (outcome : Outcome) → IsControlled n h port c line outcome → AnswersWord outcome
controlled_word n h port c (Some status) outcome reported = subst AnswersWord (sym reported) tt
controlled_word n h port c None outcome decided = loaded_word n h c decided.load outcome decided.reported

publish_place_word : (n : Node) (h : History) (port : ℕ) (c : CommandValue) (verdict : ℕ) (place : Option Place) (outcome : Outcome) → IsPublishedAt n h port c verdict place outcome → AnswersWord outcome
publish_place_word n h port c verdict None outcome reported = subst AnswersWord (sym reported) tt
publish_place_word n h port c verdict (Some (places.Bank k)) outcome reported = subst AnswersWord (sym reported) tt
publish_place_word n h port c verdict (Some places.Staging) outcome reported = subst AnswersWord (sym reported) tt
publish_place_word n h port c verdict (Some places.LoadResult) outcome reported = subst AnswersWord (sym reported) tt
publish_place_word n h port c verdict (Some places.Control) outcome reported = controlled_word n h port c (judged_line c verdict) outcome reported

publish_turn_word : (n : Node) (h : History) (port : ℕ) (o : Open) (turn : Option Turn) (outcome : Outcome) → IsPublishedBy n h port o turn outcome → AnswersWord outcome
publish_turn_word n h port o None outcome reported = subst AnswersWord (sym reported) tt
publish_turn_word n h port o (Some (turns.Ask question)) outcome reported = subst AnswersWord (sym reported) tt
publish_turn_word n h port o (Some (turns.Verdict verdict)) outcome reported = publish_place_word n h port (command_of o.packet) verdict (place_in n o.packet) outcome reported

publish_word : (n : Node) (h : History) (port : ℕ) (last : Option Open) (outcome : Outcome) → IsPublishOutcome n h port last outcome → AnswersWord outcome
publish_word n h port None outcome reported = subst AnswersWord (sym reported) tt
publish_word n h port (Some o) outcome reported = publish_turn_word n h port o (turn_of n port o) outcome reported

-- ---- what each event tells

helper_word : (cell : Option (ℕ × ℕ)) (outcome : Outcome) → IsSomeAnswer cell outcome → AnswersWord outcome
helper_word None outcome is = subst AnswersWord (sym is) tt
helper_word (Some cell) outcome is = subst AnswersWord (sym is.2) is.1

word_at_port : (n : Node) (h : History) (event : Event) (outcome : Outcome) → IsOutcomeAtExceptAnswer n h event outcome → AnswersWord outcome
word_at_port n h (Take port p) outcome reported = subst AnswersWord (sym reported) (take_word n h p (opened h port))
word_at_port n h (Count port) outcome reported = helper_word (cell_asked helpers.Count (turn_at n h port)) outcome reported
word_at_port n h (Ticket port) outcome reported = helper_word (cell_asked helpers.Ticket (turn_at n h port)) outcome reported
word_at_port n h (Peak port) outcome reported = helper_word (cell_asked helpers.Peak (turn_at n h port)) outcome reported
word_at_port n h (Effect port) outcome reported = subst AnswersWord (sym reported) (effect_word n h port (opened h port))
word_at_port n h (Publish port) outcome reported = publish_word n h port (opened h port) outcome reported

answers_word : (n : Node) (h : History) (event : Event) (outcome : Outcome) → IsOutcomeExceptAnswer n h event outcome → AnswersWord outcome
answers_word n h event outcome is = by (cases_lt (port_of event) n.ports)
  where
    by : (port_of event < n.ports) ⊎ (n.ports ≤ port_of event) → AnswersWord outcome
    by (inl below) = word_at_port n h event outcome (is.here below)
    by (inr past) = subst AnswersWord (sym (is.nowhere past)) tt

-- ---- what is open

-- the answers of a command, if one is open, are words
abbrev HaveWords : Option Open → Type 0
HaveWords None = Unit {0}
HaveWords (Some o) = AreWords o.answers

taken_words : (h : History) (generation : ℕ) (event : Event) → HaveWords (taken_by h generation event)
taken_words h generation (Take port p) = All-nil (λ answer. answer < 2 ^ 64)
taken_words h generation (Count port) = tt
taken_words h generation (Ticket port) = tt
taken_words h generation (Peak port) = tt
taken_words h generation (Effect port) = tt
taken_words h generation (Publish port) = tt

answered_words : (reported : ℕ) (last : Option Open) → reported < 2 ^ 64 → HaveWords last → HaveWords (open_after_answer reported last)
answered_words reported None word before = tt
answered_words reported (Some o) word before = All-push (λ answer. answer < 2 ^ 64) o.answers reported before word

words_by : (h : History) (last : Option Open) (event : Event) (outcome : Outcome) → AnswersWord outcome → HaveWords last → HaveWords (opened_by h last event outcome)
words_by h last event Refused word before = before
words_by h last event (Discarded discard) word before = before
words_by h last event (Answered status reply) word before = before
words_by h last event (Taken generation) word before = taken_words h generation event
words_by h last event (Told reported) word before = answered_words reported last word before
words_by h last event (Done status reply loaded) word before = tt

-- the answers of the open command of each port are words
are_words : (n : Node) (h : History) (port : ℕ) → IsLawfulExceptAnswers n h → HaveWords (opened h port)
are_words n Start port lawful = tt
are_words n (Then h event outcome) port lawful = by (port_of event == port) (are_words n h port lawful.0)
  where
    by : (own : Bool) → HaveWords (opened h port) → HaveWords (if own then opened_by h (opened h port) event outcome else opened h port)
    by true before = words_by h (opened h port) event outcome (answers_word n h event outcome lawful.1) before
    by false before = before

-- those of a command that is open in a lawful history
pub open_words : (n : Node) (h : History) (port : ℕ) (o : Open) → IsLawfulExceptAnswers n h → opened h port ≡ Some o → AreWords o.answers
open_words n h port o lawful is = subst HaveWords is (are_words n h port lawful)
