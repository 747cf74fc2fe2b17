-- What a Publish of a port does to the world, by what the world's calls say.
use Rattle.std.proofs.Common.{◌≡◌, ◌<◌, ℕ, List, [], length, set, Bool, true, false, ◌==◌, Option, Some, None, refl, sym, ap, subst, ◌∙◌, arith, eqb-true}
use Rattle.std.specs.Prelude.{IsSome, slice_get, slice_set}
use Rattle.std.proofs.lemmas.Bool.{eqb-false}
use Rattle.std.proofs.lemmas.List.{length-set}
use Rattle.std.proofs.lemmas.Option.{slice_get_within, slice_get-get_or}
use Rattle.rmap.specs.declared.status.Status.{Status}
use Rattle.rmap.specs.Command.{command_of}
use Rattle.rmap.specs.Reply.{reply_of}
use Rattle.bpf.specs.Laws.{ImagesAreRead}
use Rattle.machine.specs.Sizes.{Maps}
use Rattle.bver.specs.Justified.{AcceptedValue}
use Rattle.bank.specs.Answer.{judged_line}
use Rattle.rmap.specs.declared.boot_records.ControlData.{ControlData}
use Rattle.rmap.specs.BootRecords.{control_of}
use Rattle.sched.specs.declared.control.Decision.{Decision}
use Rattle.sched.specs.declared.control.Decision.TheVariants.{Stopped, NotLoaded, Loaded}
use Rattle.sched.specs.declared.event.Event.TheVariants.{Publish}
use Rattle.sched.specs.declared.event.Outcome.{Outcome}
use Rattle.sched.specs.declared.event.Outcome.TheVariants.{Refused, Done}
use Rattle.sched.specs.Ends.{IsDecisionBy, IsDecisionOf, IsLoadDecision, IsReplyTo, IsWriteUnder, ShowsInSlot, after_control_write, count_shown, load_result_of_decision, programs_shown, status_of_decision}
use Rattle.sched.specs.Worlds.{RunValue, PortValue, WorldValue, AreAcceptedFor, GoesOnLawfully, IsRunUnderIfAny, IsWorld, publish_due}
use Rattle.sched.proofs.Ending.{IsJudgedIn}
use Rattle.sched.proofs.Events.{IsRead, below, read_again, there}
use Rattle.sched.proofs.Finishing.{run_under}
use Rattle.sched.proofs.Growth.{at_written}
use Rattle.lemmas.proofs.Places.{at_other}
use Rattle.sched.proofs.Keeping.{port_keeps, world_with_port}
use Rattle.sched.proofs.Publishing.{IsPublishDue, outcome_of, publish_goes_on, publish_is_due, publish_refused}

-- ---- what is shown

-- the slot of a program that was loaded is there, and the program is for the maps
record IsShownRightly (sizes : Maps) (slot : ℕ) (shown : AcceptedValue × ℕ) : Type 0 where
  few : slot < 4
  sizes_are : shown.0.sizes ≡ sizes

abbrev ShowsRightly : Maps → Decision → Type 0
ShowsRightly sizes (Stopped status) = Unit {0}
ShowsRightly sizes (NotLoaded refusal) = Unit {0}
ShowsRightly sizes (Loaded slot shown) = IsShownRightly sizes slot shown

rightly_loaded : (control : ControlData) (staged : List ℕ) (sizes : Maps) (count : ℕ) (decision : Decision) → IsLoadDecision control staged sizes count decision → ShowsRightly sizes decision
rightly_loaded control staged sizes count (Stopped status) is = tt
rightly_loaded control staged sizes count (NotLoaded refusal) is = tt
rightly_loaded control staged sizes count (Loaded slot shown) is =
    let few = is.0.0.few in
    record { few = omega (arith, few); sizes_are = is.0.0.sizes_are }

rightly_by : (line : Option Status) (control : ControlData) (staged : List ℕ) (sizes : Maps) (count : ℕ) (decision : Decision) → IsDecisionBy line control staged sizes count decision → ShowsRightly sizes decision
rightly_by (Some status) control staged sizes count decision is = subst (ShowsRightly sizes) (sym is) tt
rightly_by None control staged sizes count decision is = rightly_loaded control staged sizes count decision is

rightly : (run : Option RunValue) (staged : List ℕ) (verdict : ℕ) (sizes : Maps) (count : ℕ) (decision : Decision) → IsDecisionOf run staged verdict sizes count decision → ShowsRightly sizes decision
rightly None staged verdict sizes count decision is = absurd is
rightly (Some r) staged verdict sizes count decision is =
    rightly_by (judged_line (command_of r.packet) verdict) (control_of (command_of r.packet).body) staged sizes count decision is

in_slot : (sizes : Maps) (decision : Decision) → ShowsRightly sizes decision → ShowsInSlot decision
in_slot sizes (Stopped status) is = tt
in_slot sizes (NotLoaded refusal) is = tt
in_slot sizes (Loaded slot shown) is = is.few

-- the slot of what was decided is there
pub shows_in_slot : (run : Option RunValue) (staged : List ℕ) (verdict : ℕ) (sizes : Maps) (count : ℕ) (decision : Decision) → IsDecisionOf run staged verdict sizes count decision → ShowsInSlot decision
shows_in_slot run staged verdict sizes count decision is = in_slot sizes decision (rightly run staged verdict sizes count decision is)

-- there are as many programs after it
shown_slots : (programs : List (AcceptedValue × ℕ)) (decision : Decision) → length (programs_shown programs decision) ≡ length programs
shown_slots programs (Stopped status) = refl
shown_slots programs (NotLoaded refusal) = refl
shown_slots programs (Loaded slot shown) = length-set programs slot shown

accepted_with : (sizes : Maps) (programs : List (AcceptedValue × ℕ)) (slot : ℕ) (new : AcceptedValue × ℕ) → new.0.sizes ≡ sizes → AreAcceptedFor sizes programs → AreAcceptedFor sizes (set programs slot new)
accepted_with sizes programs slot new is are = λ s x at. by s x at (s == slot) refl
  where
    by : (s : ℕ) (x : AcceptedValue × ℕ) → slice_get (set programs slot new) s ≡ Some x → (own : Bool) → (s == slot) ≡ own → x.0.sizes ≡ sizes
    by s x at true own =
        let same = eqb-true s slot own in
        let within : s < length programs = rw (← length-set programs slot new) (slice_get_within (set programs slot new) s x at) in
        let old = slice_get-get_or programs slot new (rw (← same) within) in
        ap (λ (v : AcceptedValue × ℕ). v.0.sizes) (at_written programs slot s _ new x old same at) ∙ is
    by s x at false own = are s x (at_other programs slot s new x (eqb-false s slot own) at)

accepted_shown : (sizes : Maps) (programs : List (AcceptedValue × ℕ)) (decision : Decision) → ShowsRightly sizes decision → AreAcceptedFor sizes programs → AreAcceptedFor sizes (programs_shown programs decision)
accepted_shown sizes programs (Stopped status) is are = are
accepted_shown sizes programs (NotLoaded refusal) is are = are
accepted_shown sizes programs (Loaded slot shown) is are = accepted_with sizes programs slot shown is.sizes_are are

-- each program after it is for the maps
shown_accepted : (run : Option RunValue) (staged : List ℕ) (verdict : ℕ) (sizes : Maps) (count : ℕ) (decision : Decision) (programs : List (AcceptedValue × ℕ)) → IsDecisionOf run staged verdict sizes count decision → AreAcceptedFor sizes programs → AreAcceptedFor sizes (programs_shown programs decision)
shown_accepted run staged verdict sizes count decision programs is are = accepted_shown sizes programs decision (rightly run staged verdict sizes count decision is) are

-- ---- Publish

-- Publish, if none is due
pub publish_none : (old w : WorldValue) (place port : ℕ) (p : PortValue) → IsRead old w place port p → None ≡ publish_due p.run → GoesOnLawfully (Publish port) Refused old old
publish_none old w place port p is none =
    subst (λ (v : WorldValue). GoesOnLawfully (Publish port) Refused v v) is.is (publish_refused w port p (there old w place port p is) (below old w place port p is) none)

-- a port that was read, whose control write has its verdict, read again
pub record IsPublishDueAt (old w : WorldValue) (place port verdict : ℕ) (p q : PortValue) : Type 0 where
  pub first : IsRead old w place port p
  pub read : IsRead old w place port q
  pub due : Some verdict ≡ publish_due p.run

publish_due_there : (old w : WorldValue) (place port verdict : ℕ) (p q : PortValue) → IsPublishDueAt old w place port verdict p q → IsPublishDue q.run verdict
publish_due_there old w place port verdict p q is =
    let due = subst (λ (v : PortValue). Some verdict ≡ publish_due v.run) (sym (read_again old w place port p q is.first is.read)) is.due in
    publish_is_due q.run verdict due

-- a command is judged there
pub publish_some : (old w : WorldValue) (place port verdict : ℕ) (p q : PortValue) → IsPublishDueAt old w place port verdict p q → IsSome q.run
publish_some old w place port verdict p q is =
    subst IsSome (sym (publish_due_there old w place port verdict p q is).run_is) refl

-- it is a control write of the port
pub publish_under : (old w : WorldValue) (place port verdict : ℕ) (p q : PortValue) → IsPublishDueAt old w place port verdict p q → IsWorld w → IsWriteUnder w.windows q.run
publish_under old w place port verdict p q is fits =
    let due = publish_due_there old w place port verdict p q is in
    let under = run_under w port q due.r fits (there old w place port q is.read) due.run_is in
    subst (IsWriteUnder w.windows) (sym due.run_is) (under.placed, due.control)

-- it ended as was decided, with that status, reply and load result
pub record IsPublishAt (old w : WorldValue) (place port verdict : ℕ) (p q r : PortValue) (decision : Decision) (status : Status) (loaded : Option (List ℕ)) (reply : List ℕ) : Type 0 where
  pub due : IsPublishDueAt old w place port verdict p q
  pub decides : IsDecisionOf q.run q.staging.bytes verdict w.sizes w.count decision
  pub status_is : status ≡ status_of_decision decision
  pub loaded_is : loaded ≡ load_result_of_decision decision
  pub reply_is : IsReplyTo q.run status reply
  pub written : r ≡ after_control_write loaded q

publish_world : (old w : WorldValue) (place port verdict : ℕ) (p q r : PortValue) (decision : Decision) (status : Status) (loaded : Option (List ℕ)) (reply : List ℕ) → IsPublishAt old w place port verdict p q r decision status loaded reply → IsWorld w
    → IsWorld (record w { programs = programs_shown w.programs decision; count = count_shown w.count decision; ports = slice_set w.ports place r })
publish_world old w place port verdict p q r decision status loaded reply is fits =
    let read = is.due.read in
    let at = there old w place port q read in
    let made = world_with_port w port q r at (port_keeps w.windows w.sizes w.banks port q r (ap (λ (v : PortValue). v.shares) is.written) (subst (λ (v : PortValue). IsRunUnderIfAny w.windows w.sizes v.run) (sym is.written) tt) (fits.ports port q at)) fits in
    let all = subst (λ (k : ℕ). IsWorld (record w { ports = slice_set w.ports k r })) (sym read.place_is) made in
    record {
      cells = all.cells;
      slots = shown_slots w.programs decision ∙ all.slots;
      accepted = shown_accepted q.run q.staging.bytes verdict w.sizes w.count decision w.programs is.decides all.accepted;
      few_ports = all.few_ports;
      ports = all.ports;
    }

publish_ends : (old w : WorldValue) (place port verdict : ℕ) (p q r : PortValue) (decision : Decision) (status : Status) (loaded : Option (List ℕ)) (reply reported : List ℕ) → ImagesAreRead
    → IsPublishAt old w place port verdict p q r decision status loaded reply → reported ≡ reply
    → GoesOnLawfully (Publish port) (Done status reported loaded) old (record w { programs = programs_shown w.programs decision; count = count_shown w.count decision; ports = slice_set w.ports place r })
publish_ends old w place port verdict p q r decision status loaded reply reported law is same =
    let due = publish_due_there old w place port verdict p q is.due in
    let read = is.due.read in
    let judged : IsJudgedIn w port verdict q due.r = record { there = there old w place port q read; below = below old w place port q read; run_is = due.run_is; turn_is = due.turn_is } in
    let decides = subst (λ (run : Option RunValue). IsDecisionOf run q.staging.bytes verdict w.sizes w.count decision) due.run_is is.decides in
    let made = publish_goes_on w port verdict q due.r decision law (record { judged = judged; control = due.control }) decides in
    let replied = subst (λ (run : Option RunValue). IsReplyTo run status reply) due.run_is is.reply_is in
    let bytes : reported ≡ reply_of (command_of due.r.packet) (status_of_decision decision) [] = same ∙ replied ∙ ap (λ (s : Status). reply_of (command_of due.r.packet) s []) is.status_is in
    let outcome : Done status reported loaded ≡ outcome_of (command_of due.r.packet) decision =
    ap (λ (s : Status). Done s reported loaded) is.status_is ∙ ap (λ (b : List ℕ). Done (status_of_decision decision) b loaded) bytes ∙ ap (Done (status_of_decision decision) (reply_of (command_of due.r.packet) (status_of_decision decision) [])) is.loaded_is in
    let port_is : r ≡ after_control_write (load_result_of_decision decision) q = is.written ∙ ap (λ (l : Option (List ℕ)). after_control_write l q) is.loaded_is in
    let with_port = subst (λ (v : PortValue). GoesOnLawfully (Publish port) (outcome_of (command_of due.r.packet) decision) w (record w { programs = programs_shown w.programs decision; count = count_shown w.count decision; ports = slice_set w.ports port v })) (sym port_is) made in
    let at_place = subst (λ (k : ℕ). GoesOnLawfully (Publish port) (outcome_of (command_of due.r.packet) decision) w (record w { programs = programs_shown w.programs decision; count = count_shown w.count decision; ports = slice_set w.ports k r })) (sym read.place_is) with_port in
    let of_old = subst (λ (v : WorldValue). GoesOnLawfully (Publish port) (outcome_of (command_of due.r.packet) decision) v (record w { programs = programs_shown w.programs decision; count = count_shown w.count decision; ports = slice_set w.ports place r })) read.is at_place in
    subst (λ (x : Outcome). GoesOnLawfully (Publish port) x old (record w { programs = programs_shown w.programs decision; count = count_shown w.count decision; ports = slice_set w.ports place r })) (sym outcome) of_old

-- what was decided of a port that was read is decided of it as it is read again
pub decided_again : (old w : WorldValue) (place port verdict : ℕ) (p q : PortValue) (decision : Decision) → IsRead old w place port p → IsRead old w place port q → IsDecisionOf p.run p.staging.bytes verdict w.sizes w.count decision
    → IsDecisionOf q.run q.staging.bytes verdict w.sizes w.count decision
decided_again old w place port verdict p q decision first again is =
    subst (λ (v : PortValue). IsDecisionOf v.run v.staging.bytes verdict w.sizes w.count decision) (sym (read_again old w place port p q first again)) is

-- what is shown then
pub record IsShownAfter (w : WorldValue) (decision : Decision) (programs : List (AcceptedValue × ℕ)) (count : ℕ) : Type 0 where
  pub programs_are : programs ≡ programs_shown w.programs decision
  pub count_is : count ≡ count_shown w.count decision

pub published_world : (old w : WorldValue) (place port verdict : ℕ) (p q r : PortValue) (decision : Decision) (status : Status) (loaded : Option (List ℕ)) (reply : List ℕ) (programs : List (AcceptedValue × ℕ)) (count : ℕ)
    → IsPublishAt old w place port verdict p q r decision status loaded reply → IsShownAfter w decision programs count → IsWorld w → IsWorld (record w { programs = programs; count = count; ports = slice_set w.ports place r })
published_world old w place port verdict p q r decision status loaded reply programs count is shown fits =
    rw (shown.programs_are, shown.count_is) (publish_world old w place port verdict p q r decision status loaded reply is fits)

pub published_ends : (old w : WorldValue) (place port verdict : ℕ) (p q r : PortValue) (decision : Decision) (status : Status) (loaded : Option (List ℕ)) (reply reported : List ℕ) (programs : List (AcceptedValue × ℕ)) (count : ℕ) → ImagesAreRead
    → IsPublishAt old w place port verdict p q r decision status loaded reply → IsShownAfter w decision programs count → reported ≡ reply
    → GoesOnLawfully (Publish port) (Done status reported loaded) old (record w { programs = programs; count = count; ports = slice_set w.ports place r })
published_ends old w place port verdict p q r decision status loaded reply reported programs count law is shown same =
    rw (shown.programs_are, shown.count_is) (publish_ends old w place port verdict p q r decision status loaded reply reported law is same)
