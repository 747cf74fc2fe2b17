-- What a lawful history says of a command that is done.
use Rattle.std.proofs.Common.{◌≡◌, ◌≢◌, ◌<◌, ◌≤◌, ◌+◌, ◌==◌, ◌⊎◌, ℕ, [], Bool, true, false, Option, Some, None, refl, sym, ap, subst, ◌∙◌, inl, inr}
use Rattle.std.specs.Prelude.{if◌then◌else◌}
use Rattle.std.proofs.lemmas.Bool.{cases_lt}
use Rattle.spw.specs.Cargo.{Cargo}
use Rattle.rmap.specs.declared.discard.Discard.{Discard}
use Rattle.rmap.specs.declared.places.Place.{Place}
use Rattle.rmap.specs.declared.places.Place.TheVariants as places
use Rattle.rmap.specs.declared.status.Status.{Status}
use Rattle.rmap.specs.declared.status.Status.TheVariants.{Success}
use Rattle.rmap.specs.Checks.{header_line}
use Rattle.rmap.specs.Command.{CommandValue, command_of, discard_of}
use Rattle.rmap.specs.Reply.{reply_of}
use Rattle.bpf.specs.Laws.{ImagesAreRead}
use Rattle.bpf.specs.Program.{Program}
use Rattle.bver.specs.Justified.{IsJustified}
use Rattle.brun.specs.declared.turns.Turn.{Turn}
use Rattle.brun.specs.declared.turns.Turn.TheVariants as turns
use Rattle.bank.specs.Answer.{judged_line}
use Rattle.node_parts.specs.Loads.{published_result}
use Rattle.rmap.specs.BootRecords.{control_of}
use Rattle.node_parts.specs.Outcomes.{Load, IsLoad}
use Rattle.node_parts.specs.Outcomes as loads
use Rattle.machine.specs.declared.helpers.Helper.TheVariants as helpers
use Rattle.sched.specs.declared.event.Event.{Event}
use Rattle.sched.specs.declared.event.Event.TheVariants.{Take, Count, Ticket, Peak, Effect, Publish}
use Rattle.sched.specs.declared.event.Outcome.{Outcome}
use Rattle.sched.specs.declared.event.Outcome.TheVariants.{Refused, Discarded, Answered, Taken, Told, Done}
use Rattle.sched.specs.Headline.{HasBytes, IsNode, LeadsTo, same, further}
use Rattle.sched.proofs.Firsts.{justified_after}
use Rattle.sched.specs.History.{History, Start, Then, Open, port_of, opened}
use Rattle.sched.specs.Lawful.{IsLawfulExceptAnswers, IsOutcomeExceptAnswer, IsOutcomeAtExceptAnswer, IsSomeAnswer, IsControlled, IsDecided, IsLoaded, IsPublishedAt, IsPublishedBy, IsPublishOutcome, effect_at_place, effect_at_turn, effect_outcome, header_outcome, packet_outcome, take_outcome}
use Rattle.sched.specs.Looking.{Node, windows_in, place_in, slot_of_packet, cell_asked, turn_at, turn_of, staging, published_at, published_after_count, publishes, published}
use Rattle.sched.proofs.Publishing.{loaded_program}

-- ---- what is left of an outcome

-- an outcome that is Done
abbrev pub IsDone : Outcome → Type 0
IsDone Refused = ⊥
IsDone (Discarded discard) = ⊥
IsDone (Answered status reply) = ⊥
IsDone (Taken generation) = ⊥
IsDone (Told reported) = ⊥
IsDone (Done status reply loaded) = Unit {0}

-- a Take is never Done
no_header_end : (n : Node) (h : History) (p : Cargo) (line : Option Status) → IsDone (header_outcome n h p line) → ⊥
no_header_end n h p (Some status) is = is
no_header_end n h p None is = is

no_packet_end : (n : Node) (h : History) (p : Cargo) (discard : Option Discard) → IsDone (packet_outcome n h p discard) → ⊥
no_packet_end n h p (Some discard) is = is
no_packet_end n h p None is = no_header_end n h p (header_line (command_of p) (windows_in n)) is

no_take_end : (n : Node) (h : History) (p : Cargo) (last : Option Open) → IsDone (take_outcome n h p last) → ⊥
no_take_end n h p None is = no_packet_end n h p (discard_of p.bytes) is
no_take_end n h p (Some o) is = is

-- nor is an answer
no_helper_end : (cell : Option (ℕ × ℕ)) (outcome : Outcome) → IsSomeAnswer cell outcome → IsDone outcome → ⊥
no_helper_end None outcome is done = subst IsDone is done
no_helper_end (Some cell) outcome is done = subst IsDone is.2 done

-- ---- how a command is done

-- how an open command with its verdict ended, by the event
abbrev pub EndsAs : Node → History → (port : ℕ) → Open → (verdict : ℕ) → Event → Outcome → Type 0
EndsAs n h port o verdict (Take at_port packet) outcome = ⊥
EndsAs n h port o verdict (Count at_port) outcome = ⊥
EndsAs n h port o verdict (Ticket at_port) outcome = ⊥
EndsAs n h port o verdict (Peak at_port) outcome = ⊥
EndsAs n h port o verdict (Effect at_port) outcome = outcome ≡ effect_at_place n h port (command_of o.packet) verdict (place_in n o.packet)
EndsAs n h port o verdict (Publish at_port) outcome = (place_in n o.packet ≡ Some places.Control) × IsControlled n h port (command_of o.packet) (judged_line (command_of o.packet) verdict) outcome

-- a command of the event's port was done
pub record IsEnd (n : Node) (h : History) (event : Event) (outcome : Outcome) : Type 0 where
  pub there : port_of event < n.ports
  pub command : Open
  pub is_open : opened h (port_of event) ≡ Some command
  pub verdict : ℕ
  pub stands : turn_of n (port_of event) command ≡ Some (turns.Verdict verdict)
  pub ended : EndsAs n h (port_of event) command verdict event outcome

effect_turn : (n : Node) (h : History) (port : ℕ) (o : Open) (outcome : Outcome) → port < n.ports → opened h port ≡ Some o → IsDone outcome → (turn : Option Turn) → turn_of n port o ≡ turn → outcome ≡ effect_at_turn n h port o turn → IsEnd n h (Effect port) outcome
effect_turn n h port o outcome there is done None at_turn reported = absurd (subst IsDone reported done)
effect_turn n h port o outcome there is done (Some (turns.Ask question)) at_turn reported = absurd (subst IsDone reported done)
effect_turn n h port o outcome there is done (Some (turns.Verdict verdict)) at_turn reported = record { there = there; command = o; is_open = is; verdict = verdict; stands = at_turn; ended = reported }

effect_end : (n : Node) (h : History) (port : ℕ) (outcome : Outcome) → port < n.ports → IsDone outcome → (last : Option Open) → opened h port ≡ last → outcome ≡ effect_outcome n h port last → IsEnd n h (Effect port) outcome
effect_end n h port outcome there done None is reported = absurd (subst IsDone reported done)
effect_end n h port outcome there done (Some o) is reported = effect_turn n h port o outcome there is done (turn_of n port o) refl reported

publish_place : (n : Node) (h : History) (port : ℕ) (o : Open) (verdict : ℕ) (outcome : Outcome) → port < n.ports → opened h port ≡ Some o → IsDone outcome → turn_of n port o ≡ Some (turns.Verdict verdict)
    → (place : Option Place) → place_in n o.packet ≡ place → IsPublishedAt n h port (command_of o.packet) verdict place outcome → IsEnd n h (Publish port) outcome
publish_place n h port o verdict outcome there is done stands None lies reported = absurd (subst IsDone reported done)
publish_place n h port o verdict outcome there is done stands (Some (places.Bank k)) lies reported = absurd (subst IsDone reported done)
publish_place n h port o verdict outcome there is done stands (Some places.Staging) lies reported = absurd (subst IsDone reported done)
publish_place n h port o verdict outcome there is done stands (Some places.LoadResult) lies reported = absurd (subst IsDone reported done)
publish_place n h port o verdict outcome there is done stands (Some places.Control) lies reported = record { there = there; command = o; is_open = is; verdict = verdict; stands = stands; ended = (lies, reported) }

publish_turn : (n : Node) (h : History) (port : ℕ) (o : Open) (outcome : Outcome) → port < n.ports → opened h port ≡ Some o → IsDone outcome → (turn : Option Turn) → turn_of n port o ≡ turn → IsPublishedBy n h port o turn outcome → IsEnd n h (Publish port) outcome
publish_turn n h port o outcome there is done None at_turn reported = absurd (subst IsDone reported done)
publish_turn n h port o outcome there is done (Some (turns.Ask question)) at_turn reported = absurd (subst IsDone reported done)
publish_turn n h port o outcome there is done (Some (turns.Verdict verdict)) at_turn reported = publish_place n h port o verdict outcome there is done at_turn (place_in n o.packet) refl reported

publish_end : (n : Node) (h : History) (port : ℕ) (outcome : Outcome) → port < n.ports → IsDone outcome → (last : Option Open) → opened h port ≡ last → IsPublishOutcome n h port last outcome → IsEnd n h (Publish port) outcome
publish_end n h port outcome there done None is reported = absurd (subst IsDone reported done)
publish_end n h port outcome there done (Some o) is reported = publish_turn n h port o outcome there is done (turn_of n port o) refl reported

end_at : (n : Node) (h : History) (event : Event) (outcome : Outcome) → port_of event < n.ports → IsDone outcome → IsOutcomeAtExceptAnswer n h event outcome → IsEnd n h event outcome
end_at n h (Take port p) outcome there done reported = absurd (no_take_end n h p (opened h port) (subst IsDone reported done))
end_at n h (Count port) outcome there done reported = absurd (no_helper_end (cell_asked helpers.Count (turn_at n h port)) outcome reported done)
end_at n h (Ticket port) outcome there done reported = absurd (no_helper_end (cell_asked helpers.Ticket (turn_at n h port)) outcome reported done)
end_at n h (Peak port) outcome there done reported = absurd (no_helper_end (cell_asked helpers.Peak (turn_at n h port)) outcome reported done)
end_at n h (Effect port) outcome there done reported = effect_end n h port outcome there done (opened h port) refl reported
end_at n h (Publish port) outcome there done reported = publish_end n h port outcome there done (opened h port) refl reported

-- an event that is not refused is at a port of the node
pub at_a_port : (n : Node) (h : History) (event : Event) (outcome : Outcome) → outcome ≢ Refused → IsOutcomeExceptAnswer n h event outcome → port_of event < n.ports
at_a_port n h event outcome other is = by (cases_lt (port_of event) n.ports)
  where
    by : (port_of event < n.ports) ⊎ (n.ports ≤ port_of event) → port_of event < n.ports
    by (inl below) = below
    by (inr past) = absurd (other (is.nowhere past))

done_not_refused : (outcome : Outcome) → IsDone outcome → outcome ≢ Refused
done_not_refused outcome done is = subst IsDone is done

-- a command that is done in a lawful history
pub lawful_end : (n : Node) (h : History) (event : Event) (outcome : Outcome) → IsDone outcome → IsOutcomeExceptAnswer n h event outcome → IsEnd n h event outcome
lawful_end n h event outcome done is =
    let there = at_a_port n h event outcome (done_not_refused outcome done) is in
    end_at n h event outcome there done (is.here there)

-- ---- what is published is justified

-- a decided load that published something published a justified program
decided_justified : (law : ImagesAreRead) (n : Node) (h : History) (port : ℕ) (o : Open) (outcome : Outcome) (made : ℕ × Program) → opened h port ≡ Some o → IsDecided n h port (command_of o.packet) outcome
    → published_at n h (Publish port) outcome ≡ Some made → IsJustified made.1 n.sizes
decided_justified law n h port o outcome made is decided e = by decided.load decided.decides decided.reported
  where
    by : (load : Load) → IsLoad (control_of (command_of o.packet).body) (staging n h port).bytes n.sizes (publishes n h + 1) load → IsLoaded n h (command_of o.packet) load outcome → IsJustified made.1 n.sizes
    by (loads.Published slot a) decides reported =
        let there = ap (published_at n h (Publish port)) reported ∙ loaded_program law n h port slot o a (reply_of (command_of o.packet) Success []) (published_result (publishes n h + 1)) is decides.0 in
        let same : (slot, a.program) ≡ made = some-same (slot, a.program) made (sym there ∙ e) in
        subst (λ (x : ℕ × Program). IsJustified x.1 n.sizes) same decides.0.justified
      where
        some-same : (x y : ℕ × Program) → ◌≡◌ {A = Option (ℕ × Program)} (Some x) (Some y) → x ≡ y
        some-same x y e = cc
    by (loads.Refused refusal) decides reported =
        let none : ◌≡◌ {A = Option (ℕ × Program)} None (Some made) = sym (ap (published_at n h (Publish port)) reported) ∙ e in
        absurd cc

controlled_justified : (law : ImagesAreRead) (n : Node) (h : History) (port : ℕ) (o : Open) (outcome : Outcome) (made : ℕ × Program) (line : Option Status) → opened h port ≡ Some o → IsControlled n h port (command_of o.packet) line outcome
    → published_at n h (Publish port) outcome ≡ Some made → IsJustified made.1 n.sizes
controlled_justified law n h port o outcome made (Some status) is reported e =
    let none : ◌≡◌ {A = Option (ℕ × Program)} None (Some made) = sym (ap (published_at n h (Publish port)) reported) ∙ e in
    absurd cc
controlled_justified law n h port o outcome made None is decided e = decided_justified law n h port o outcome made is decided e

-- an effect publishes nothing
effect_publishes : (n : Node) (h : History) (port : ℕ) (c : CommandValue) (verdict : ℕ) (place : Option Place) → published_at n h (Effect port) (effect_at_place n h port c verdict place) ≡ None
effect_publishes n h port c verdict None = refl
effect_publishes n h port c verdict (Some (places.Bank k)) = refl
effect_publishes n h port c verdict (Some places.Staging) = refl
effect_publishes n h port c verdict (Some places.LoadResult) = refl
effect_publishes n h port c verdict (Some places.Control) = refl

ended_justified : (law : ImagesAreRead) (n : Node) (h : History) (event : Event) (outcome : Outcome) (made : ℕ × Program) (end : IsEnd n h event outcome) → published_at n h event outcome ≡ Some made → IsJustified made.1 n.sizes
ended_justified law n h (Take port p) outcome made end e = absurd end.ended
ended_justified law n h (Count port) outcome made end e = absurd end.ended
ended_justified law n h (Ticket port) outcome made end e = absurd end.ended
ended_justified law n h (Peak port) outcome made end e = absurd end.ended
ended_justified law n h (Effect port) outcome made end e =
    let none : ◌≡◌ {A = Option (ℕ × Program)} None (Some made) =
    sym (effect_publishes n h port (command_of end.command.packet) end.verdict (place_in n end.command.packet)) ∙ sym (ap (published_at n h (Effect port)) end.ended) ∙ e in
    absurd cc
ended_justified law n h (Publish port) outcome made end e =
    controlled_justified law n h port end.command outcome made (judged_line (command_of end.command.packet) end.verdict) end.is_open end.ended.1 e

-- what an event of a lawful history published is justified
made_justified : (law : ImagesAreRead) (n : Node) (h : History) (event : Event) (outcome : Outcome) (made : ℕ × Program) → IsOutcomeExceptAnswer n h event outcome → published_at n h event outcome ≡ Some made → IsJustified made.1 n.sizes
made_justified law n h event Refused made is e = absurd cc
made_justified law n h event (Discarded discard) made is e = absurd cc
made_justified law n h event (Answered status reply) made is e = absurd cc
made_justified law n h event (Taken generation) made is e = absurd cc
made_justified law n h event (Told reported) made is e = absurd cc
made_justified law n h event (Done status reply loaded) made is e =
    ended_justified law n h event (Done status reply loaded) made (lawful_end n h event (Done status reply loaded) tt is) e

-- the program of a slot is justified
pub published_justified : (law : ImagesAreRead) (n : Node) (h : History) (slot : ℕ) → IsNode n → IsLawfulExceptAnswers n h → IsJustified (published n h slot).0 n.sizes
published_justified law n Start slot node lawful = justified_after n n.firsts 0 slot (n.factory, 0) node.firsts node.factory
published_justified law n (Then h event outcome) slot node lawful =
    by (published_at n h event outcome) refl (published_justified law n h slot node lawful.0)
  where
    by : (made : Option (ℕ × Program)) → published_at n h event outcome ≡ made → IsJustified (published n h slot).0 n.sizes → IsJustified (published_after_count made (publishes n h) slot (published n h slot)).0 n.sizes
    by None e before = before
    by (Some made) e before = own (made.0 == slot)
      where
        own : (b : Bool) → IsJustified (if b then (made.1, publishes n h + 1) else published n h slot).0 n.sizes
        own true = made_justified law n h event outcome made lawful.1 e
        own false = before

-- ---- the Take of an open command

-- what leads on from a lawful beginning began lawfully
pub began_lawful : (n : Node) (port : ℕ) (first h : History) → LeadsTo port first h → IsLawfulExceptAnswers n h → IsLawfulExceptAnswers n first
began_lawful n port first h same lawful = lawful
began_lawful n port first h (further leads others) lawful = began_lawful n port first _ leads lawful.0

-- a Taken has the generation that is published in the slot of its packet
taken_header : (n : Node) (h : History) (p : Cargo) (generation : ℕ) (line : Option Status) → Taken generation ≡ header_outcome n h p line → generation ≡ (published n h (slot_of_packet n p)).1
taken_header n h p generation (Some status) e = absurd cc
taken_header n h p generation None e = cc

taken_packet : (n : Node) (h : History) (p : Cargo) (generation : ℕ) (discard : Option Discard) → Taken generation ≡ packet_outcome n h p discard → generation ≡ (published n h (slot_of_packet n p)).1
taken_packet n h p generation (Some discard) e = absurd cc
taken_packet n h p generation None e = taken_header n h p generation (header_line (command_of p) (windows_in n)) e

taken_generation : (n : Node) (h : History) (p : Cargo) (generation : ℕ) (last : Option Open) → Taken generation ≡ take_outcome n h p last → generation ≡ (published n h (slot_of_packet n p)).1
taken_generation n h p generation None e = taken_packet n h p generation (discard_of p.bytes) e
taken_generation n h p generation (Some o) e = absurd cc

pub generation_reported : (n : Node) (h : History) (port : ℕ) (p : Cargo) (generation : ℕ) → IsOutcomeExceptAnswer n h (Take port p) (Taken generation) → (published n h (slot_of_packet n p)).1 ≡ generation
generation_reported n h port p generation is =
    let there = at_a_port n h (Take port p) (Taken generation) (λ e. absurd cc) is in
    sym (taken_generation n h p generation (opened h port) (is.here there))

-- a packet of which a command was taken is kept
kept_by : (n : Node) (h : History) (p : Cargo) (generation : ℕ) (discard : Option Discard) → Taken generation ≡ packet_outcome n h p discard → discard ≡ None
kept_by n h p generation (Some discard) e = absurd cc
kept_by n h p generation None e = refl

kept_where_free : (n : Node) (h : History) (p : Cargo) (generation : ℕ) (last : Option Open) → Taken generation ≡ take_outcome n h p last → discard_of p.bytes ≡ None
kept_where_free n h p generation None e = kept_by n h p generation (discard_of p.bytes) e
kept_where_free n h p generation (Some o) e = absurd cc

pub taken_kept : (n : Node) (h : History) (port : ℕ) (p : Cargo) (generation : ℕ) → IsOutcomeExceptAnswer n h (Take port p) (Taken generation) → discard_of p.bytes ≡ None
taken_kept n h port p generation is =
    kept_where_free n h p generation (opened h port) (is.here (at_a_port n h (Take port p) (Taken generation) (λ e. absurd cc) is))

-- what leads on from a beginning has its bytes
pub began_bytes : (port : ℕ) (first h : History) → LeadsTo port first h → HasBytes h → HasBytes first
began_bytes port first h same bytes = bytes
began_bytes port first h (further leads others) bytes = began_bytes port first _ leads bytes.0
