-- The headline: each command that is done in a lawful history was judged once.
use Rattle.std.proofs.Common.{◌≡◌, ◌<◌, ◌+◌, ◌==◌, ℕ, List, [], length, Bool, true, false, cond, Option, Some, None, refl, sym, ap, subst, ◌∙◌, arith, eqb-true}
use Rattle.std.specs.Prelude.{slice_get, if◌then◌else◌}
use Rattle.rmap.specs.declared.places.Place.{Place}
use Rattle.rmap.specs.declared.places.Place.TheVariants as places
use Rattle.rmap.specs.declared.status.Status.{Status}
use Rattle.rmap.specs.declared.status.Status.TheVariants.{Success, GeneralError}
use Rattle.rmap.specs.Command.{command_of}
use Rattle.rmap.specs.Reply.{reply_of}
use Rattle.bpf.specs.Laws.{ImagesAreRead}
use Rattle.bpf.specs.Program.{Program}
use Rattle.bver.specs.Laws.{JustifiedIsSafe}
use Rattle.bank.specs.Answer.{Answer, effect_at, judged_line}
use Rattle.bank.specs.Effect.{memory_at}
use Rattle.bank.specs.Records.{numbers_of, replay}
use Rattle.node_programs.specs.Staged.{Staged, staged}
use Rattle.node_parts.specs.Loads.{published_result, refused_result}
use Rattle.rmap.specs.BootRecords.{control_of}
use Rattle.node_parts.specs.Outcomes.{Load, IsLoad}
use Rattle.node_parts.specs.Outcomes as loads
use Rattle.sched.specs.declared.event.Event.{Event}
use Rattle.sched.specs.declared.event.Event.TheVariants.{Take, Count, Ticket, Peak, Effect, Publish}
use Rattle.sched.specs.declared.event.Outcome.{Outcome}
use Rattle.sched.specs.declared.event.Outcome.TheVariants.{Refused, Discarded, Answered, Taken, Told, Done}
use Rattle.sched.specs.Headline.{AreJudgedOnce, EndsBy, EveryHistoryJudgesOnce, HasBytes, IsEffectOf, IsTakenOnceDoneOnce, IsJudgedOnceIfDone, IsLoadOf, IsStoppedWrite, IsNode, IsWriteEnd, memory_left}
use Rattle.sched.specs.History.{History, Start, Then, Open, port_of, opened}
use Rattle.sched.specs.Lawful.{IsLawfulExceptAnswers, IsControlled, IsLoaded, bank_answer, staging_answer, load_result_answer, done, effect_at_place}
use Rattle.sched.specs.Looking.{Node, place_in, slot_of_packet, seen_header_in, staging, staged_at, staged_after, entry_left, has_entry_room, entered, entries, first_memory, memory, published_after_count, publishes, published, program_of}
use Rattle.sched.specs.Turns.{TurnsArePaths}
use Rattle.sched.proofs.Ending.{IsNoBank, entries_stay}
use Rattle.sched.proofs.Entering.{entries_done, entered_memory}
use Rattle.sched.proofs.Judging.{IsDone, IsEnd, lawful_end, published_justified, began_bytes, began_lawful, generation_reported, taken_kept}
use Rattle.sched.proofs.Small.{open_words}
use Rattle.sched.proofs.Headers.{header_of_command}
use Rattle.sched.proofs.Opened.{opened_taken, opened_after_done}
use Rattle.sched.proofs.Publishing.{loaded_program}

cond_same : {A : Type 0} (b : Bool) (x y : A) → y ≡ x → cond b y x ≡ x
cond_same true x y e = e
cond_same false x y e = refl

-- ---- memories

-- after a command that ended elsewhere the memory of each bank is what it was
memory_stays : (n : Node) (h : History) (event : Event) (status : Status) (reply : List ℕ) (loaded : Option (List ℕ)) (o : Open) (place : Place) → opened h (port_of event) ≡ Some o → place_in n o.packet ≡ Some place → IsNoBank place
    → (k : ℕ) → memory n (Then h event (Done status reply loaded)) k ≡ memory n h k
memory_stays n h event status reply loaded o place is lies none k =
    ap (replay (first_memory (slice_get n.banks k))) (entries_stay n h event status reply loaded o place is lies none k)

-- after one that ended at a bank the memory of each bank is what the answer leaves
memory_answered : (n : Node) (h : History) (port j : ℕ) (verdict : ℕ) (o : Open) → opened h port ≡ Some o → place_in n o.packet ≡ Some (places.Bank j)
    → (k : ℕ) → memory n (Then h (Effect port) (done (bank_answer n h j port (command_of o.packet) verdict))) k ≡ memory_left n h port (command_of o.packet) verdict (Some (places.Bank j)) k
memory_answered n h port j verdict o is lies k =
    ap (replay (first_memory (slice_get n.banks k))) (entries_done n h (Effect port) a.status a.reply None o (Some (places.Bank j)) is lies k) ∙ by (j == k) refl
  where
    a : Answer
    a = bank_answer n h j port (command_of o.packet) verdict

    by : (own : Bool) → (j == k) ≡ own
        → replay (first_memory (slice_get n.banks k)) (if own then entered n (slice_get n.banks k) port o (bank_answer n h j port (command_of o.packet) verdict).status (entries n h k) else entries n h k)
        ≡ (if own then (bank_answer n h k port (command_of o.packet) verdict).memory else memory n h k)
    by true own =
        let same = eqb-true j k own in
        entered_memory (first_memory (slice_get n.banks k)) (entries n h k) (entry_left n port (length (numbers_of port (entries n h k))) o (bank_answer n h j port (command_of o.packet) verdict).status) (has_entry_room (slice_get n.banks k) port (entries n h k)) (command_of o.packet) verdict refl
        (ap (λ (i : ℕ). (bank_answer n h i port (command_of o.packet) verdict).status) same)
    by false own = refl

-- ---- effects

-- at the event's port a staging is what the outcome says, at the others what it was
staging_by : (n : Node) (h : History) (event : Event) (status : Status) (reply : List ℕ) (loaded : Option (List ℕ)) (o : Open) → opened h (port_of event) ≡ Some o → (q : ℕ)
    → staging n (Then h event (Done status reply loaded)) q ≡ (if port_of event == q then staged_after n (Some o) status loaded (staging n h q) else staging n h q)
staging_by n h event status reply loaded o is q = by (port_of event == q) refl
  where
    by : (own : Bool) → (port_of event == q) ≡ own → (if own then staged_after n (opened h q) status loaded (staging n h q) else staging n h q) ≡ (if own then staged_after n (Some o) status loaded (staging n h q) else staging n h q)
    by true own = ap (λ (last : Option Open). staged_after n last status loaded (staging n h q)) (ap (opened h) (sym (eqb-true (port_of event) q own)) ∙ is)
    by false own = refl

-- an effect elsewhere than at a staging leaves each
staging_stays : (n : Node) (h : History) (port : ℕ) (status : Status) (reply : List ℕ) (o : Open) (place : Place) → opened h port ≡ Some o → place_in n o.packet ≡ Some place
    → ((s : Staged) → staged_at (Some place) status (command_of o.packet) s ≡ s) → (q : ℕ) → staging n (Then h (Effect port) (Done status reply None)) q ≡ staging n h q
staging_stays n h port status reply o place is lies stays q =
    staging_by n h (Effect port) status reply None o is q
    ∙ cond_same (port == q) (staging n h q) _ (ap (λ (x : Option Place). staged_at x status (command_of o.packet) (staging n h q)) lies ∙ stays (staging n h q))

-- how an effect at a place leaves memories, stagings and programs
effect_left : (n : Node) (h : History) (port verdict : ℕ) (o : Open) (place : Option Place) → opened h port ≡ Some o → place_in n o.packet ≡ place → IsDone (effect_at_place n h port (command_of o.packet) verdict place)
    → IsEffectOf n h port (command_of o.packet) verdict place (effect_at_place n h port (command_of o.packet) verdict place) (Then h (Effect port) (effect_at_place n h port (command_of o.packet) verdict place))
effect_left n h port verdict o None is lies ends = absurd ends
effect_left n h port verdict o (Some (places.Bank j)) is lies ends =
    let a = bank_answer n h j port (command_of o.packet) verdict in
    record {
      reported = refl;
      memories = memory_answered n h port j verdict o is lies;
      stagings = staging_stays n h port a.status a.reply o (places.Bank j) is lies (λ s. refl);
      programs = λ slot. refl;
    }
effect_left n h port verdict o (Some places.Staging) is lies ends =
    let a = staging_answer n h port (command_of o.packet) verdict in
    record {
      reported = refl;
      memories = memory_stays n h (Effect port) a.status a.reply None o places.Staging is lies tt;
      stagings = λ q. staging_by n h (Effect port) a.status a.reply None o is q ∙ by q (port == q) refl;
      programs = λ slot. refl;
    }
  where
    by : (q : ℕ) (own : Bool) → (port == q) ≡ own
        → (if own then staged_after n (Some o) (staging_answer n h port (command_of o.packet) verdict).status None (staging n h q) else staging n h q)
        ≡ (if own then staged (staging_answer n h q (command_of o.packet) verdict).memory.bytes (staging n h q).load_result else staging n h q)
    by q true own =
        let same = eqb-true port q own in
        ap (λ (x : Option Place). staged_at x (staging_answer n h port (command_of o.packet) verdict).status (command_of o.packet) (staging n h q)) lies
        ∙ ap (λ (i : ℕ). staged (effect_at (staging_answer n h i (command_of o.packet) verdict).status (memory_at 0 (staging n h q).bytes) (command_of o.packet)).memory.bytes (staging n h q).load_result) same
    by q false own = refl
effect_left n h port verdict o (Some places.LoadResult) is lies ends =
    let a = load_result_answer n h port (command_of o.packet) verdict in
    record {
      reported = refl;
      memories = memory_stays n h (Effect port) a.status a.reply None o places.LoadResult is lies tt;
      stagings = staging_stays n h port a.status a.reply o places.LoadResult is lies (λ s. refl);
      programs = λ slot. refl;
    }
effect_left n h port verdict o (Some places.Control) is lies ends = absurd ends

effect_ends : (n : Node) (h : History) (port verdict : ℕ) (o : Open) (outcome : Outcome) → opened h port ≡ Some o → IsDone outcome → outcome ≡ effect_at_place n h port (command_of o.packet) verdict (place_in n o.packet)
    → EndsBy n h port o verdict (Effect port) outcome
effect_ends n h port verdict o outcome is done reported =
    rw reported (effect_left n h port verdict o (place_in n o.packet) is refl (subst IsDone reported done))

-- ---- control writes

stopped_left : (n : Node) (h : History) (port : ℕ) (o : Open) (status : Status) → opened h port ≡ Some o → place_in n o.packet ≡ Some places.Control
    → IsStoppedWrite n h (command_of o.packet) status (Done status (reply_of (command_of o.packet) status []) None) (Then h (Publish port) (Done status (reply_of (command_of o.packet) status []) None))
stopped_left n h port o status is lies =
    let reply = reply_of (command_of o.packet) status [] in
    record {
      reported = refl;
      memories = memory_stays n h (Publish port) status reply None o places.Control is lies tt;
      stagings = λ q. staging_by n h (Publish port) status reply None o is q ∙ cond_same (port == q) (staging n h q) _ (ap (λ (x : Option Place). staged_at x status (command_of o.packet) (staging n h q)) lies);
      programs = λ slot. refl;
    }

load_left : (law : ImagesAreRead) (n : Node) (h : History) (port : ℕ) (o : Open) (load : Load) (outcome : Outcome) → opened h port ≡ Some o → place_in n o.packet ≡ Some places.Control
    → IsLoad (control_of (command_of o.packet).body) (staging n h port).bytes n.sizes (publishes n h + 1) load → IsLoaded n h (command_of o.packet) load outcome
    → IsLoadOf n h port (command_of o.packet) outcome (Then h (Publish port) outcome)
load_left law n h port o (loads.Published slot a) outcome is lies decides reported =
    let reply = reply_of (command_of o.packet) Success [] in
    let result = published_result (publishes n h + 1) in
    rw reported (record {
      load = loads.Published slot a;
      decides = decides;
      reported = refl;
      memories = memory_stays n h (Publish port) Success reply (Some result) o places.Control is lies tt;
      stagings = staging_by n h (Publish port) Success reply (Some result) o is;
      programs = λ s. ap (λ (x : Option (ℕ × Program)). published_after_count x (publishes n h) s (published n h s)) (loaded_program law n h port slot o a reply result is decides.0);
    })
load_left law n h port o (loads.Refused refusal) outcome is lies decides reported =
    let reply = reply_of (command_of o.packet) GeneralError [] in
    let result = refused_result refusal in
    rw reported (record {
      load = loads.Refused refusal;
      decides = decides;
      reported = refl;
      memories = memory_stays n h (Publish port) GeneralError reply (Some result) o places.Control is lies tt;
      stagings = staging_by n h (Publish port) GeneralError reply (Some result) o is;
      programs = λ s. refl;
    })

write_left : (law : ImagesAreRead) (n : Node) (h : History) (port : ℕ) (o : Open) (line : Option Status) (outcome : Outcome) → opened h port ≡ Some o → place_in n o.packet ≡ Some places.Control
    → IsControlled n h port (command_of o.packet) line outcome → IsWriteEnd n h port (command_of o.packet) line outcome (Then h (Publish port) outcome)
write_left law n h port o (Some status) outcome is lies reported = rw reported (stopped_left n h port o status is lies)
write_left law n h port o None outcome is lies decided = load_left law n h port o decided.load outcome is lies decided.decides decided.reported

-- ---- the headline

ends_by : (law : ImagesAreRead) (n : Node) (h : History) (event : Event) (outcome : Outcome) → IsDone outcome → (end : IsEnd n h event outcome) → EndsBy n h (port_of event) end.command end.verdict event outcome
ends_by law n h (Take port p) outcome done end = absurd end.ended
ends_by law n h (Count port) outcome done end = absurd end.ended
ends_by law n h (Ticket port) outcome done end = absurd end.ended
ends_by law n h (Peak port) outcome done end = absurd end.ended
ends_by law n h (Effect port) outcome done end = effect_ends n h port end.verdict end.command outcome end.is_open done end.ended
ends_by law n h (Publish port) outcome done end = write_left law n h port end.command (judged_line (command_of end.command.packet) end.verdict) outcome end.is_open end.ended.0 end.ended.1

judged_once : ImagesAreRead → JustifiedIsSafe → TurnsArePaths → (n : Node) (h : History) (event : Event) (outcome : Outcome) → IsNode n → HasBytes h → IsLawfulExceptAnswers n (Then h event outcome) → IsDone outcome → IsTakenOnceDoneOnce n h event outcome
judged_once law safety paths n h event outcome node bytes lawful done =
    let end = lawful_end n h event outcome done lawful.1 in
    let o = end.command in
    let leads = opened_taken h (port_of event) o end.is_open in
    let first = began_lawful n (port_of event) _ h leads lawful.0 in
    let justified = published_justified law n o.before (slot_of_packet n o.packet) node first.0 in
    let safe = safety (program_of n o) n.sizes justified in
    let reported = generation_reported n o.before (port_of event) o.packet o.generation first.1 in
    let words = open_words n h (port_of event) o lawful.0 end.is_open in
    let kept = taken_kept n o.before (port_of event) o.packet o.generation first.1 in
    let header = header_of_command o.packet kept (began_bytes (port_of event) _ h leads bytes).1 in
    let low : port_of event < 32 = omega (arith, end.there, node.few_ports) in
    record {
      there = end.there;
      taken = o;
      is_open = end.is_open;
      once = leads;
      alone = λ earlier e status reply loaded own begins. opened_after_done earlier h e status reply loaded o begins (ap (opened h) own ∙ end.is_open);
      judged_by = ap (λ (generation : ℕ). (program_of n o, generation)) reported;
      justified = justified;
      safe = safe;
      header = header;
      words = words;
      verdict = end.verdict;
      stands = end.stands;
      run = ((paths (program_of n o) n.sizes (seen_header_in o.packet) (port_of event) o.answers safe header low words).ends end.verdict).0 end.stands;
      ended = ends_by law n h event outcome done end;
    }

pub every_history_judges_once : ImagesAreRead → JustifiedIsSafe → TurnsArePaths → EveryHistoryJudgesOnce
every_history_judges_once law safety paths n h event status reply loaded node bytes lawful =
    judged_once law safety paths n h event (Done status reply loaded) node bytes lawful tt

-- ---- whole histories

once_if_done : EveryHistoryJudgesOnce → (n : Node) (h : History) (event : Event) (outcome : Outcome) → IsNode n → HasBytes h → IsLawfulExceptAnswers n (Then h event outcome) → IsJudgedOnceIfDone n h event outcome
once_if_done law n h event Refused node bytes lawful = tt
once_if_done law n h event (Discarded discard) node bytes lawful = tt
once_if_done law n h event (Answered status reply) node bytes lawful = tt
once_if_done law n h event (Taken generation) node bytes lawful = tt
once_if_done law n h event (Told reported) node bytes lawful = tt
once_if_done law n h event (Done status reply loaded) node bytes lawful = law n h event status reply loaded node bytes lawful

-- each command that is done in a lawful history is judged once
pub all_judged_once : EveryHistoryJudgesOnce → (n : Node) (h : History) → IsNode n → HasBytes h → IsLawfulExceptAnswers n h → AreJudgedOnce n h
all_judged_once law n Start node bytes lawful = tt
all_judged_once law n (Then h event outcome) node bytes lawful =
    (all_judged_once law n h node bytes.0 lawful.0, once_if_done law n h event outcome node bytes.0 lawful)
