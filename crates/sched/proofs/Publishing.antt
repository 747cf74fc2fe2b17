-- Publish: how a judged control write ends is lawful, and the world goes on.
use Rattle.std.proofs.Common.{◌≡◌, ◌≢◌, ◌<◌, ◌+◌, ◌==◌, ◌⊎◌, ℕ, List, [], length, set, Bool, true, false, Option, Some, None, Ok, refl, sym, ap, subst, ◌∙◌, eqb-true, inl, inr}
use Rattle.std.specs.Prelude.{slice_get, slice_set, if◌then◌else◌}
use Rattle.std.proofs.lemmas.Bool.{eqb-false}
use Rattle.std.proofs.lemmas.Grind.{get_or-set_at}
use Rattle.std.proofs.lemmas.List.{length-set}
use Rattle.std.proofs.lemmas.Option.{slice_get_within, get_or_from_slice_get}
use Rattle.spw.specs.Cargo.{Cargo}
use Rattle.rmap.specs.declared.places.Place.{Place}
use Rattle.rmap.specs.declared.places.Place.TheVariants as places
use Rattle.rmap.specs.declared.status.Status.{Status}
use Rattle.rmap.specs.declared.status.Status.TheVariants.{Success}
use Rattle.rmap.specs.Command.{CommandValue, command_of}
use Rattle.rmap.specs.Reply.{reply_of}
use Rattle.bpf.specs.Laws.{ImagesAreRead}
use Rattle.bpf.specs.Program.{Program}
use Rattle.bpf.specs.Reading.{image_reading}
use Rattle.machine.specs.Sizes.{Maps}
use Rattle.bver.specs.Justified.{AcceptedValue}
use Rattle.brun.specs.declared.turns.Turn.{Turn}
use Rattle.brun.specs.declared.turns.Turn.TheVariants as turns
use Rattle.bank.specs.Answer.{judged_line}
use Rattle.bank.specs.Records.{EntryValue, numbers_of}
use Rattle.node_programs.specs.Staged.{Staged}
use Rattle.rmap.specs.declared.boot_records.ControlData.{ControlData}
use Rattle.node_parts.specs.declared.refusal.LoadRefusal.{LoadRefusal}
use Rattle.node_parts.specs.Loads.{loaded_bytes, published_result, refused_result, wants_memory, IsPrepared, IsUnprepared, WantsToPrepare}
use Rattle.rmap.specs.BootRecords.{control_of}
use Rattle.node_parts.specs.Loads as loading
use Rattle.node_parts.specs.Outcomes.{Load, IsLoad}
use Rattle.node_parts.specs.Outcomes as loads
use Rattle.sched.specs.declared.event.Event.TheVariants.{Publish}
use Rattle.sched.specs.declared.event.Outcome.{Outcome}
use Rattle.sched.specs.declared.event.Outcome.TheVariants.{Refused, Done}
use Rattle.sched.specs.declared.control.Decision.{Decision}
use Rattle.sched.specs.declared.control.Decision.TheVariants.{Stopped, NotLoaded, Loaded}
use Rattle.sched.specs.Ends.{IsDecisionBy, IsLoadDecision, after_control_write, count_shown, load_result_kept, load_result_of_decision, programs_shown, status_of_decision}
use Rattle.sched.specs.History.{History, Then, Open, opened}
use Rattle.sched.specs.Lawful.{IsLawful, IsControlled, IsLoaded, IsPublishedAt, IsPublishedBy, IsPublishOutcome}
use Rattle.sched.specs.Looking.{Node, place_in, turn_of, staging, staged_at, staged_after, for_slot, program_loaded, loaded_by, published_at, counted_publish, publishes, published_after_count, published, entries}
use Rattle.sched.specs.Worlds.{RunValue, PortValue, WorldValue, AreProgramsOf, GoesOnLawfully, IsFor, IsJudging, IsLawfulWorld, IsPortOf, IsShareWith, IsShownAs, IsWorldOf, publish_due, publish_due_at, verdict_of_turn}
use Rattle.sched.proofs.Outcomes.{then_lawful}
use Rattle.sched.proofs.Growth.{IsPortAfter, ports_changed, left_all}
use Rattle.lemmas.proofs.Places.{at_other}
use Rattle.sched.proofs.Ending.{IsJudgedIn, banks_same, entries_stay, lies_at, open_run, stands_at}
use Rattle.sched.proofs.Reporting.{outcome_here}

-- ---- what is told

-- if a control write of the port has its verdict, its end is by what stops it
publish_reported : (n : Node) (h : History) (port verdict : ℕ) (o : Open) (outcome : Outcome) → opened h port ≡ Some o → turn_of n port o ≡ Some (turns.Verdict verdict) → place_in n o.packet ≡ Some places.Control
    → IsControlled n h port (command_of o.packet) (judged_line (command_of o.packet) verdict) outcome → IsPublishOutcome n h port (opened h port) outcome
publish_reported n h port verdict o outcome is stands lies reported =
    subst (λ (last : Option Open). IsPublishOutcome n h port last outcome) (sym is)
    (subst (λ (turn : Option Turn). IsPublishedBy n h port o turn outcome) (sym stands)
    (subst (λ (place : Option Place). IsPublishedAt n h port (command_of o.packet) verdict place outcome) (sym lies) reported))

-- ---- what is published

-- what staged bytes that spell a program publish
spelled_program : (law : ImagesAreRead) (body bytes : List ℕ) (sizes : Maps) (slot : ℕ) (a : AcceptedValue) → IsPrepared (control_of body) bytes sizes slot a → program_loaded body bytes ≡ Some (slot, a.program)
spelled_program law body bytes sizes slot a is =
    let read : image_reading (loaded_bytes (control_of body) bytes) ≡ Ok a.program = ap image_reading is.spelled ∙ law a.program is.is_program in
    ap (for_slot (control_of body).slot) read ∙ ap (λ (s : ℕ). Some (s, a.program)) (sym is.slot_is)

-- a load of the port's command that succeeded published its program
pub loaded_program : (law : ImagesAreRead) (n : Node) (h : History) (port slot : ℕ) (o : Open) (a : AcceptedValue) (reply result : List ℕ) → opened h port ≡ Some o
    → IsPrepared (control_of (command_of o.packet).body) (staging n h port).bytes n.sizes slot a → published_at n h (Publish port) (Done Success reply (Some result)) ≡ Some (slot, a.program)
loaded_program law n h port slot o a reply result is prepared =
    ap (loaded_by (staging n h port).bytes) is ∙ spelled_program law (command_of o.packet).body (staging n h port).bytes n.sizes slot a prepared

-- the programs with one more of a slot
programs_after : (n : Node) (before : ℕ → Program × ℕ) (programs : List (AcceptedValue × ℕ)) (slot count : ℕ) (shown : AcceptedValue × ℕ) → IsFor n shown.0 → shown.1 ≡ count + 1 → AreProgramsOf n before programs
    → AreProgramsOf n (λ s. if slot == s then (shown.0.program, count + 1) else before s) (set programs slot shown)
programs_after n before programs slot count shown accepted generation are = λ s x found. by s x found (slot == s) refl
  where
    by : (s : ℕ) (x : AcceptedValue × ℕ) → slice_get (set programs slot shown) s ≡ Some x → (own : Bool) → (slot == s) ≡ own → IsShownAs n (if own then (shown.0.program, count + 1) else before s) x
    by s x found true own =
        let same = eqb-true slot s own in
        let within : s < length programs = rw (← length-set programs slot shown) (slice_get_within (set programs slot shown) s x found) in
        let inside : slot < length programs = rw same within in
        let is : x ≡ shown = sym (get_or_from_slice_get (set programs slot shown) s x x found) ∙ get_or-set_at programs slot s shown x (sym same) inside in
        rw is (record { program = refl; generation = generation; accepted = accepted })
    by s x found false own = are s x (at_other programs slot s shown x (λ e. eqb-false slot s own (sym e)) found)

-- ---- the port

-- a control write leaves the staged bytes, and the load result that was decided
staged_by_write : (n : Node) (o : Open) (status : Status) (loaded : Option (List ℕ)) (s : Staged) → place_in n o.packet ≡ Some places.Control → staged_after n (Some o) status loaded s ≡ load_result_kept loaded s
staged_by_write n o status None s lies = ap (λ (place : Option Place). staged_at place status (command_of o.packet) s) lies
staged_by_write n o status (Some result) s lies = refl

port_at_control : (n : Node) (h : History) (port : ℕ) (o : Open) (p : PortValue) (status : Status) (reply : List ℕ) (loaded : Option (List ℕ)) → opened h port ≡ Some o → place_in n o.packet ≡ Some places.Control
    → IsPortOf n port (staging n h port) (opened h port) (entries n h) p
    → IsPortAfter n h (Publish port) (Done status reply loaded) port (after_control_write loaded p)
port_at_control n h port o p status reply loaded is lies before = record {
  staging_is = ap (load_result_kept loaded) before.staging_is ∙ sym (ap (λ (last : Option Open). staged_after n last status loaded (staging n h port)) is ∙ staged_by_write n o status loaded (staging n h port) lies);
  judging = tt;
  count = before.count;
  shares = λ k share there. subst (λ (es : List EntryValue). IsShareWith port (length (numbers_of port es)) share) (sym (entries_stay n h (Publish port) status reply loaded o places.Control is lies tt k)) (before.shares k share there);
}

-- ---- the world

-- what is known if a control write of the port ends
record IsAtControl (n : Node) (h : History) (w : WorldValue) (port verdict : ℕ) (p : PortValue) (o : Open) : Type 0 where
  there : slice_get w.ports port ≡ Some p
  below : port < length w.ports
  old : IsWorldOf n h w
  before : IsPortOf n port (staging n h port) (opened h port) (entries n h) p
  is_open : opened h port ≡ Some o
  stands : turn_of n port o ≡ Some (turns.Verdict verdict)
  lies : place_in n o.packet ≡ Some places.Control

-- what is published or not, and how many, after a control write
record IsWorldAfter (n : Node) (h : History) (w : WorldValue) (port : ℕ) (decision : Decision) (reply : List ℕ) : Type 0 where
  programs : AreProgramsOf n (published n (Then h (Publish port) (Done (status_of_decision decision) reply (load_result_of_decision decision)))) (programs_shown w.programs decision)
  count : count_shown w.count decision ≡ publishes n (Then h (Publish port) (Done (status_of_decision decision) reply (load_result_of_decision decision)))

world_after_write : (n : Node) (h : History) (w : WorldValue) (port verdict : ℕ) (p : PortValue) (o : Open) (decision : Decision) (reply : List ℕ) → IsAtControl n h w port verdict p o → IsWorldAfter n h w port decision reply
    → IsWorldOf n (Then h (Publish port) (Done (status_of_decision decision) reply (load_result_of_decision decision)))
    (record w { programs = programs_shown w.programs decision; count = count_shown w.count decision; ports = slice_set w.ports port (after_control_write (load_result_of_decision decision) p) })
world_after_write n h w port verdict p o decision reply here following =
    let status = status_of_decision decision in
    let loaded = load_result_of_decision decision in
    let stay = entries_stay n h (Publish port) status reply loaded o places.Control here.is_open here.lies tt in
    record {
      windows_are = here.old.windows_are;
      sizes_are = here.old.sizes_are;
      banks_are = banks_same n (entries n h) (entries n (Then h (Publish port) (Done status reply loaded))) w.banks stay here.old.banks_are;
      words_are = here.old.words_are;
      programs_are = following.programs;
      count_is = following.count;
      ports_are = ports_changed n h (Publish port) (Done status reply loaded) w.ports p _ here.there (port_at_control n h port o p status reply loaded here.is_open here.lies here.before)
          (λ other k apart. ap (λ (es : List EntryValue). length (numbers_of other es)) (stay k)) here.old.ports_are;
    }

-- a load that was decided in the world is decided by the history
load_here : (n : Node) (h : History) (w : WorldValue) (port verdict : ℕ) (p : PortValue) (o : Open) (packet : Cargo) (load : Load) → IsAtControl n h w port verdict p o → packet ≡ o.packet
    → IsLoad (control_of (command_of packet).body) p.staging.bytes w.sizes (w.count + 1) load → IsLoad (control_of (command_of o.packet).body) (staging n h port).bytes n.sizes (publishes n h + 1) load
load_here n h w port verdict p o packet load here same is =
    let at_packet = subst (λ (x : Cargo). IsLoad (control_of (command_of x).body) p.staging.bytes w.sizes (w.count + 1) load) same is in
    let at_staging = subst (λ (s : Staged). IsLoad (control_of (command_of o.packet).body) s.bytes w.sizes (w.count + 1) load) here.before.staging_is at_packet in
    let at_sizes = subst (λ (sizes : Maps). IsLoad (control_of (command_of o.packet).body) (staging n h port).bytes sizes (w.count + 1) load) here.old.sizes_are at_staging in
    subst (λ (count : ℕ). IsLoad (control_of (command_of o.packet).body) (staging n h port).bytes n.sizes (count + 1) load) here.old.count_is at_sizes

-- what the outcome says if a load decides
answered_as : (n : Node) (h : History) (port : ℕ) (c : CommandValue) (load : Load) (outcome : Outcome) → IsLoad (control_of c.body) (staging n h port).bytes n.sizes (publishes n h + 1) load → IsLoaded n h c load outcome
    → (line : Option Status) → line ≡ None → IsControlled n h port c line outcome
answered_as n h port c load outcome decides reported None none = record { load = load; decides = decides; reported = reported }
answered_as n h port c load outcome decides reported (Some status) none = absurd cc

stopped_as : (n : Node) (h : History) (port : ℕ) (c : CommandValue) (status : Status) (outcome : Outcome) → outcome ≡ Done status (reply_of c status []) None → (line : Option Status) → line ≡ Some status → IsControlled n h port c line outcome
stopped_as n h port c status outcome reported None is = absurd cc
stopped_as n h port c status outcome reported (Some s) is =
    let same : s ≡ status = cc in
    rw same reported

-- the world after a control write
abbrev pub world_after : WorldValue → (port : ℕ) → PortValue → Decision → WorldValue
world_after w port p decision = record w {
  programs = programs_shown w.programs decision;
  count = count_shown w.count decision;
  ports = slice_set w.ports port (after_control_write (load_result_of_decision decision) p);
}

-- what a control write comes to
abbrev pub outcome_of : CommandValue → Decision → Outcome
outcome_of c decision = Done (status_of_decision decision) (reply_of c (status_of_decision decision) []) (load_result_of_decision decision)

-- a judged control write of a port of the world
pub record IsWriteIn (w : WorldValue) (port verdict : ℕ) (p : PortValue) (r : RunValue) : Type 0 where
  pub judged : IsJudgedIn w port verdict p r
  pub control : r.place ≡ places.Control

-- the open command of a control write
record IsWriteOf (n : Node) (h : History) (w : WorldValue) (port verdict : ℕ) (p : PortValue) (r : RunValue) : Type 0 where
  command : Open
  packet : r.packet ≡ command.packet
  here : IsAtControl n h w port verdict p command

write_of : (n : Node) (h : History) (w : WorldValue) (port verdict : ℕ) (p : PortValue) (r : RunValue) → IsWriteIn w port verdict p r → IsWorldOf n h w → IsWriteOf n h w port verdict p r
write_of n h w port verdict p r write old =
    let before = old.ports_are.each port p write.judged.there in
    let command = open_run n h port p r (staging n h port) (entries n h) write.judged.run_is before in
    record {
      command = command.command;
      packet = command.run.packet;
      here = record {
        there = write.judged.there;
        below = write.judged.below;
        old = old;
        before = before;
        is_open = command.is_open;
        stands = stands_at n port verdict command.command r write.judged.turn_is command.run;
        lies = lies_at n port command.command r places.Control write.control command.run;
      };
    }

-- a control write goes on if its outcome is lawful and the programs are those after it
write_goes_on : (n : Node) (h : History) (w : WorldValue) (port verdict : ℕ) (p : PortValue) (o : Open) (packet : Cargo) (decision : Decision) → packet ≡ o.packet → IsAtControl n h w port verdict p o → IsLawful n h
    → IsControlled n h port (command_of o.packet) (judged_line (command_of o.packet) verdict) (outcome_of (command_of o.packet) decision)
    → ((reply : List ℕ) → IsWorldAfter n h w port decision reply) → IsLawfulWorld n (Then h (Publish port) (outcome_of (command_of packet) decision)) (world_after w port p decision)
write_goes_on n h w port verdict p o packet decision same here lawful reported following =
    let c = command_of o.packet in
    let reply = reply_of c (status_of_decision decision) [] in
    let is : IsLawfulWorld n (Then h (Publish port) (outcome_of c decision)) (world_after w port p decision) = record {
      lawful = then_lawful n h (Publish port) (outcome_of c decision) lawful (outcome_here n h (Publish port) (outcome_of c decision) w.ports here.below here.old.ports_are.count (publish_reported n h port verdict o (outcome_of c decision) here.is_open here.stands here.lies reported)) tt;
      world = world_after_write n h w port verdict p o decision reply here (following reply);
    } in
    subst (λ (x : Cargo). IsLawfulWorld n (Then h (Publish port) (outcome_of (command_of x) decision)) (world_after w port p decision)) (sym same) is

-- its verdict or its body stops it
stopped_write : (w : WorldValue) (port verdict : ℕ) (p : PortValue) (r : RunValue) (status : Status) → IsWriteIn w port verdict p r → judged_line (command_of r.packet) verdict ≡ Some status
    → GoesOnLawfully (Publish port) (outcome_of (command_of r.packet) (Stopped status)) w (world_after w port p (Stopped status))
stopped_write w port verdict p r status write line n h world =
    let of = write_of n h w port verdict p r write world.world in
    let o = of.command in
    let line_here = subst (λ (x : Cargo). judged_line (command_of x) verdict ≡ Some status) of.packet line in
    write_goes_on n h w port verdict p o r.packet (Stopped status) of.packet of.here world.lawful
    (stopped_as n h port (command_of o.packet) status _ refl (judged_line (command_of o.packet) verdict) line_here)
    (λ reply. record { programs = of.here.old.programs_are; count = of.here.old.count_is })

-- its load is refused
refused_load : (w : WorldValue) (port verdict : ℕ) (p : PortValue) (r : RunValue) (refusal : LoadRefusal) → IsWriteIn w port verdict p r → judged_line (command_of r.packet) verdict ≡ None
    → IsLoad (control_of (command_of r.packet).body) p.staging.bytes w.sizes (w.count + 1) (loads.Refused refusal)
    → GoesOnLawfully (Publish port) (outcome_of (command_of r.packet) (NotLoaded refusal)) w (world_after w port p (NotLoaded refusal))
refused_load w port verdict p r refusal write line decides n h world =
    let of = write_of n h w port verdict p r write world.world in
    let o = of.command in
    let line_here = subst (λ (x : Cargo). judged_line (command_of x) verdict ≡ None) of.packet line in
    write_goes_on n h w port verdict p o r.packet (NotLoaded refusal) of.packet of.here world.lawful
    (answered_as n h port (command_of o.packet) (loads.Refused refusal) _ (load_here n h w port verdict p o r.packet (loads.Refused refusal) of.here of.packet decides) refl (judged_line (command_of o.packet) verdict) line_here)
    (λ reply. record { programs = of.here.old.programs_are; count = of.here.old.count_is })

-- its load succeeds
loaded : (w : WorldValue) (port verdict : ℕ) (p : PortValue) (r : RunValue) (slot : ℕ) (shown : AcceptedValue × ℕ) → ImagesAreRead → IsWriteIn w port verdict p r → judged_line (command_of r.packet) verdict ≡ None
    → IsLoad (control_of (command_of r.packet).body) p.staging.bytes w.sizes (w.count + 1) (loads.Published slot shown.0) → shown.1 ≡ w.count + 1
    → GoesOnLawfully (Publish port) (outcome_of (command_of r.packet) (Loaded slot shown)) w (world_after w port p (Loaded slot shown))
loaded w port verdict p r slot shown law write line decides generation n h world =
    let of = write_of n h w port verdict p r write world.world in
    let o = of.command in
    let old = of.here.old in
    let line_here = subst (λ (x : Cargo). judged_line (command_of x) verdict ≡ None) of.packet line in
    let decides_here = load_here n h w port verdict p o r.packet (loads.Published slot shown.0) of.here of.packet decides in
    let number : shown.1 ≡ publishes n h + 1 = generation ∙ ap (λ (x : ℕ). x + 1) old.count_is in
    let reported : outcome_of (command_of o.packet) (Loaded slot shown) ≡ Done Success (reply_of (command_of o.packet) Success []) (Some (published_result (publishes n h + 1))) =
    ap (λ (x : ℕ). Done Success (reply_of (command_of o.packet) Success []) (Some (published_result x))) number in
    let accepted : IsFor n shown.0 = record { sizes = decides_here.0.sizes_are; justified = decides_here.0.justified } in
    let made = λ (reply : List ℕ). loaded_program law n h port slot o shown.0 reply (published_result shown.1) of.here.is_open decides_here.0 in
    write_goes_on n h w port verdict p o r.packet (Loaded slot shown) of.packet of.here world.lawful
    (answered_as n h port (command_of o.packet) (loads.Published slot shown.0) _ decides_here reported (judged_line (command_of o.packet) verdict) line_here)
    (λ reply. record {
      programs = subst (λ (x : Option (ℕ × Program)). AreProgramsOf n (λ s. published_after_count x (publishes n h) s (published n h s)) (set w.programs slot shown)) (sym (made reply))
          (programs_after n (published n h) w.programs slot (publishes n h) shown accepted number old.programs_are);
      count = number ∙ sym (ap (λ (x : Option (ℕ × Program)). counted_publish x (publishes n h)) (made reply));
    })

-- a control write goes on as was decided
load_goes_on : (w : WorldValue) (port verdict : ℕ) (p : PortValue) (r : RunValue) (decision : Decision) → ImagesAreRead → IsWriteIn w port verdict p r → judged_line (command_of r.packet) verdict ≡ None
    → IsLoadDecision (control_of (command_of r.packet).body) p.staging.bytes w.sizes w.count decision → GoesOnLawfully (Publish port) (outcome_of (command_of r.packet) decision) w (world_after w port p decision)
load_goes_on w port verdict p r (Stopped status) law write line decides = absurd decides
load_goes_on w port verdict p r (NotLoaded refusal) law write line decides = refused_load w port verdict p r refusal write line decides
load_goes_on w port verdict p r (Loaded slot shown) law write line decides = loaded w port verdict p r slot shown law write line decides.0 decides.1

publish_by : (w : WorldValue) (port verdict : ℕ) (p : PortValue) (r : RunValue) (decision : Decision) (line : Option Status) → ImagesAreRead → IsWriteIn w port verdict p r → judged_line (command_of r.packet) verdict ≡ line
    → IsDecisionBy line (control_of (command_of r.packet).body) p.staging.bytes w.sizes w.count decision → GoesOnLawfully (Publish port) (outcome_of (command_of r.packet) decision) w (world_after w port p decision)
publish_by w port verdict p r decision None law write line decides = load_goes_on w port verdict p r decision law write line decides
publish_by w port verdict p r decision (Some status) law write line decides = rw decides (stopped_write w port verdict p r status write line)

pub publish_goes_on : (w : WorldValue) (port verdict : ℕ) (p : PortValue) (r : RunValue) (decision : Decision) → ImagesAreRead → IsWriteIn w port verdict p r
    → IsDecisionBy (judged_line (command_of r.packet) verdict) (control_of (command_of r.packet).body) p.staging.bytes w.sizes w.count decision
    → GoesOnLawfully (Publish port) (outcome_of (command_of r.packet) decision) w (world_after w port p decision)
publish_goes_on w port verdict p r decision law write decides = publish_by w port verdict p r decision (judged_line (command_of r.packet) verdict) law write refl decides

-- ---- what is due

-- a control write is judged, and has its verdict
pub record IsPublishDue (run : Option RunValue) (verdict : ℕ) : Type 0 where
  pub r : RunValue
  pub run_is : run ≡ Some r
  pub turn_is : r.turn ≡ turns.Verdict verdict
  pub control : r.place ≡ places.Control

verdict_is : (turn : Turn) (verdict : ℕ) → Some verdict ≡ verdict_of_turn turn → turn ≡ turns.Verdict verdict
verdict_is (turns.Ask question) verdict is = absurd cc
verdict_is (turns.Verdict v) verdict is = let same : verdict ≡ v = cc in ap turns.Verdict (sym same)

due_at : (place : Place) (turn : Turn) (verdict : ℕ) → Some verdict ≡ publish_due_at place turn → (turn ≡ turns.Verdict verdict) × (place ≡ places.Control)
due_at (places.Bank k) turn verdict is = absurd cc
due_at places.Staging turn verdict is = absurd cc
due_at places.LoadResult turn verdict is = absurd cc
due_at places.Control turn verdict is = (verdict_is turn verdict is, refl)

pub publish_is_due : (run : Option RunValue) (verdict : ℕ) → Some verdict ≡ publish_due run → IsPublishDue run verdict
publish_is_due None verdict is = absurd cc
publish_is_due (Some r) verdict is = let both = due_at r.place r.turn verdict is in record { r = r; run_is = refl; turn_is = both.0; control = both.1 }

-- ---- refused

-- a Publish does nothing at a command that is no control write
elsewhere : (n : Node) (h : History) (port : ℕ) (o : Open) (place : Place) (turn : Turn) → place_in n o.packet ≡ Some place → place ≢ places.Control → IsPublishedBy n h port o (Some turn) Refused
elsewhere n h port o place (turns.Ask question) lies other = refl
elsewhere n h port o place (turns.Verdict v) lies other =
    subst (λ (x : Option Place). IsPublishedAt n h port (command_of o.packet) v x Refused) (sym lies) (by place other)
  where
    by : (place : Place) → place ≢ places.Control → IsPublishedAt n h port (command_of o.packet) v (Some place) Refused
    by (places.Bank k) other = refl
    by places.Staging other = refl
    by places.LoadResult other = refl
    by places.Control other = absurd (other refl)

undue_control : (n : Node) (h : History) (port : ℕ) (o : Open) (turn : Turn) → None ≡ verdict_of_turn turn → IsPublishedBy n h port o (Some turn) Refused
undue_control n h port o (turns.Ask question) none = refl
undue_control n h port o (turns.Verdict v) none = absurd cc

undue_at : (n : Node) (h : History) (port : ℕ) (o : Open) (place : Place) (turn : Turn) → place_in n o.packet ≡ Some place → None ≡ publish_due_at place turn → IsPublishedBy n h port o (Some turn) Refused
undue_at n h port o (places.Bank k) turn lies none = elsewhere n h port o (places.Bank k) turn lies (λ e. absurd cc)
undue_at n h port o places.Staging turn lies none = elsewhere n h port o places.Staging turn lies (λ e. absurd cc)
undue_at n h port o places.LoadResult turn lies none = elsewhere n h port o places.LoadResult turn lies (λ e. absurd cc)
undue_at n h port o places.Control turn lies none = undue_control n h port o turn none

no_publish : (n : Node) (h : History) (port : ℕ) (last : Option Open) (run : Option RunValue) → IsJudging n port last run → None ≡ publish_due run → IsPublishOutcome n h port last Refused
no_publish n h port None run is none = refl
no_publish n h port (Some o) None is none = absurd is
no_publish n h port (Some o) (Some r) is none =
    subst (λ (turn : Option Turn). IsPublishedBy n h port o turn Refused) (sym is.turn) (undue_at n h port o r.place r.turn is.placed.lies none)

-- a publish is refused if none is due
pub publish_refused : (w : WorldValue) (port : ℕ) (p : PortValue) → slice_get w.ports port ≡ Some p → port < length w.ports → None ≡ publish_due p.run → GoesOnLawfully (Publish port) Refused w w
publish_refused w port p there below none n h world = record {
  lawful = then_lawful n h (Publish port) Refused world.lawful (outcome_here n h (Publish port) Refused w.ports below world.world.ports_are.count (no_publish n h port (opened h port) p.run (world.world.ports_are.each port p there).judging none)) tt;
  world = left_all n h (Publish port) Refused w tt world.world;
}

-- ---- what a refusal tells

-- if memory was not refused, a load was refused for what was staged
pub not_wanted : (control : ControlData) (bytes : List ℕ) (sizes : Maps) (refusal : LoadRefusal) → IsUnprepared control bytes sizes refusal ⊎ WantsToPrepare control bytes refusal → wants_memory refusal ≡ false → IsUnprepared control bytes sizes refusal
not_wanted control bytes sizes refusal (inl why) no_want = why
not_wanted control bytes sizes refusal (inr wants) no_want = absurd (wanted control bytes refusal wants no_want)
  where
    wanted : (control : ControlData) (bytes : List ℕ) (refusal : LoadRefusal) → WantsToPrepare control bytes refusal → wants_memory refusal ≡ false → ⊥
    wanted control bytes refusal (loading.of_image right is) no_want = let clash : true ≡ false = sym (ap wants_memory is) ∙ no_want in absurd cc
    wanted control bytes refusal (loading.of_verifier right program is_program spelled is) no_want = let clash : true ≡ false = sym (ap wants_memory is) ∙ no_want in absurd cc
