-- What a judged command leaves in the journal and the memory of its bank, as looking back finds it.
use Rattle.std.proofs.Common.{◌≡◌, ◌+◌, ◌==◌, ℕ, List, [], ◌∷◌, ◌++◌, length, Bool, true, false, eqb, Option, Some, None, refl, sym, ap, ◌∙◌}
use Rattle.std.specs.Prelude.{if◌then◌else◌, option_map}
use Rattle.std.proofs.lemmas.List.{length-append, map-append, append-nil}
use Rattle.std.proofs.lemmas.List.Elements.{filter-append}
use Rattle.std.proofs.lemmas.List.Sums.{fold-append}
use Rattle.rmap.specs.declared.places.Place.{Place}
use Rattle.rmap.specs.declared.status.Status.{Status}
use Rattle.rmap.specs.declared.verdict.Verdict.{Verdict}
use Rattle.rmap.specs.declared.verdict.Verdict.TheVariants as verdicts
use Rattle.rmap.specs.Verdict.{verdict_of}
use Rattle.rmap.specs.Command.{CommandValue, command_of}
use Rattle.rmap.specs.declared.body_faults.BodyFault.{BodyFault}
use Rattle.rmap.specs.declared.body_faults.BodyFault.TheVariants.{ErrorEnd, TooFewBytes, TooManyBytes, WrongDataCrc}
use Rattle.rmap.specs.Checks.{body_check, body_line, body_status}
use Rattle.bank.specs.Answer.{answer, effect_at, first_line, is_success, judged_line, status_of, status_with, verdict_line}
use Rattle.bank.specs.Effect.{Memory}
use Rattle.bank.specs.Records.{EntryValue, after_entry, numbers_of, replay}
use Rattle.node_parts.specs.declared.config.BankConfig.{BankConfig}
use Rattle.sched.specs.declared.event.Event.{Event}
use Rattle.sched.specs.declared.event.Outcome.TheVariants.{Done}
use Rattle.sched.specs.History.{History, Then, Open, port_of, opened}
use Rattle.sched.specs.Looking.{Node, place_in, entry_left, has_entry_room, entered, entries_at, entries_after, entries}

-- ---- entries

-- the entries of each bank after a command of the event's port that was done at that place
pub entries_done : (n : Node) (h : History) (event : Event) (status : Status) (reply : List ℕ) (loaded : Option (List ℕ)) (o : Open) (place : Option Place) → opened h (port_of event) ≡ Some o → place_in n o.packet ≡ place
    → (k : ℕ) → entries n (Then h event (Done status reply loaded)) k ≡ entries_at n k (port_of event) place o status (entries n h k)
entries_done n h event status reply loaded o place is lies k =
    ap (λ (last : Option Open). entries_after n k (port_of event) last status (entries n h k)) is ∙ ap (λ (p : Option Place). entries_at n k (port_of event) p o status (entries n h k)) lies

-- ---- the numbers of ports

pub numbers_same : (port : ℕ) (es : List EntryValue) (e : EntryValue) → (e.port == port) ≡ true → length (numbers_of port (es ++ e ∷ [])) ≡ length (numbers_of port es) + 1
numbers_same port es e same =
    let one : numbers_of port (es ++ e ∷ []) ≡ numbers_of port es ++ e.number ∷ [] = rw (filter-append (λ (x : EntryValue). eqb x.port port) es (e ∷ []), same, map-append) refl in
    ap length one ∙ length-append (numbers_of port es) (e.number ∷ [])

pub numbers_other : (port : ℕ) (es : List EntryValue) (e : EntryValue) → (e.port == port) ≡ false → length (numbers_of port (es ++ e ∷ [])) ≡ length (numbers_of port es)
numbers_other port es e other =
    let none : numbers_of port (es ++ e ∷ []) ≡ numbers_of port es = rw (filter-append (λ (x : EntryValue). eqb x.port port) es (e ∷ []), other, append-nil) refl in
    ap length none

-- another port has as many entries after an entry of the port
pub entered_other : (n : Node) (bank : Option BankConfig) (port : ℕ) (o : Open) (status : Status) (es : List EntryValue) (q : ℕ) → (port == q) ≡ false → length (numbers_of q (entered n bank port o status es)) ≡ length (numbers_of q es)
entered_other n bank port o status es q apart =
    by_room (has_entry_room bank port es)
  where
    by_room : (room : Bool) → length (numbers_of q (if room then es ++ entry_left n port (length (numbers_of port es)) o status ∷ [] else es)) ≡ length (numbers_of q es)
    by_room true = numbers_other q es (entry_left n port (length (numbers_of port es)) o status) apart
    by_room false = refl

-- ---- memory

-- no check before the room gives success
pub no_success : (c : CommandValue) (v : ℕ) (status : Status) → judged_line c v ≡ Some status → is_success status ≡ false
no_success c v status e = by (verdict_of v) e
  where
    some-is : (x y : Status) → ◌≡◌ {A = Option Status} (Some x) (Some y) → x ≡ y
    some-is x y is = cc

    is-none : (x : Status) → ◌≡◌ {A = Option Status} None (Some x) → ⊥
    is-none x is = cc

    failing : (fault : BodyFault) → is_success (body_status fault) ≡ false
    failing ErrorEnd = refl
    failing (TooFewBytes found wanted) = refl
    failing (TooManyBytes found wanted) = refl
    failing (WrongDataCrc found right) = refl

    body : (fault : Option BodyFault) → option_map body_status fault ≡ Some status → is_success status ≡ false
    body None is = absurd (is-none status is)
    body (Some fault) is = ap is_success (sym (some-is _ _ is)) ∙ failing fault

    by : (verdict : Verdict) → first_line (verdict_line verdict) (body_line c) ≡ Some status → is_success status ≡ false
    by verdicts.Authorised is = body (body_check c) is
    by verdicts.InvalidKey is = ap is_success (sym (some-is _ _ is))
    by verdicts.NotAuthorised is = ap is_success (sym (some-is _ _ is))
    by verdicts.InvalidLogicalAddress is = ap is_success (sym (some-is _ _ is))

-- a command for which there is no room leaves memory
no_room_line : (line : Option Status) → ((status : Status) → line ≡ Some status → is_success status ≡ false) → is_success (status_with false line) ≡ false
no_room_line None fails = refl
no_room_line (Some status) fails = fails status refl

pub no_room_memory : (m : Memory) (c : CommandValue) (v : ℕ) → (answer m false c v).memory ≡ m
no_room_memory m c v =
    let fails : is_success (status_of false c v) ≡ false = no_room_line (judged_line c v) (no_success c v) in
    ap (λ (b : Bool). (if b then Rattle.bank.specs.Effect.effect m c else record { memory = m; reply = [] }).memory) fails

-- the replay of the entries with that of a judged command is the memory of its answer
pub entered_memory : (base : Memory) (es : List EntryValue) (e : EntryValue) (room : Bool) (c : CommandValue) (v : ℕ) → command_of e.packet ≡ c → e.status ≡ (answer (replay base es) room c v).status
    → replay base (if room then es ++ e ∷ [] else es) ≡ (answer (replay base es) room c v).memory
entered_memory base es e true c v command status =
    fold-append after_entry base es (e ∷ []) ∙ ap (λ (d : CommandValue). (effect_at e.status (replay base es) d).memory) command ∙ ap (λ (s : Status). (effect_at s (replay base es) c).memory) status
entered_memory base es e false c v command status = sym (no_room_memory (replay base es) c v)
