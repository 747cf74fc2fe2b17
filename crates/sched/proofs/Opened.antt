-- Open commands, and where they were taken.
use Rattle.std.proofs.Common.{◌≡◌, ℕ, Bool, true, false, ◌==◌, cond, List, Option, Some, None, refl, sym, subst, ◌∙◌, arith, eqb-true}
use Rattle.std.proofs.lemmas.Bool.{eqb-false}
use Rattle.std.proofs.lemmas.Bool.Decides.{nat_tests}
use Rattle.rmap.specs.declared.status.Status.{Status}
use Rattle.sched.specs.declared.event.Event.{Event}
use Rattle.sched.specs.declared.event.Event.TheVariants.{Take, Count, Ticket, Peak, Effect, Publish}
use Rattle.sched.specs.declared.event.Outcome.{Outcome}
use Rattle.sched.specs.declared.event.Outcome.TheVariants.{Refused, Discarded, Answered, Taken, Told, Done}
use Rattle.sched.specs.History.{History, Start, Then, Open, port_of, taken_by, open_after_answer, opened_by, opened}
use Rattle.sched.specs.Headline.{BeginsHistory, whole, longer, LeadsTo, same, further, OpenedAfterDone}

-- the beginning that ends with the Take of an open command
abbrev from_take : ℕ → Open → History
from_take port o = Then o.before (Take port o.packet) (Taken o.generation)

some-is : {A : Type 0} (x y : A) → ◌≡◌ {A = Option A} (Some x) (Some y) → x ≡ y
some-is x y e = cc

none-is : {A : Type 0} (x : A) → ◌≡◌ {A = Option A} None (Some x) → ⊥
none-is x e = cc

-- an answer leaves where the command was taken
answered-from : (h : History) (port n : ℕ) (last : Option Open) (o : Open) → ((p : Open) → last ≡ Some p → LeadsTo port (from_take port p) h)
    → open_after_answer n last ≡ Some o → LeadsTo port (from_take port o) h
answered-from h port n None o before e = absurd (none-is o e)
answered-from h port n (Some p) o before e =
    subst (λ (x : Open). LeadsTo port (from_take port x) h) (some-is _ o e) (before p refl)

-- an event of the port that took a command
taken-here : (h : History) (port generation : ℕ) (event : Event) (o : Open) → port_of event ≡ port → taken_by h generation event ≡ Some o
    → LeadsTo port (from_take port o) (Then h event (Taken generation))
taken-here h port generation (Take at packet) o own e =
    let is = some-is _ o e in
    subst (λ (x : Open). LeadsTo port (from_take port x) (Then h (Take at packet) (Taken generation))) is
    (subst (λ (k : ℕ). LeadsTo port (Then h (Take port packet) (Taken generation)) (Then h (Take k packet) (Taken generation))) (sym own) same)
taken-here h port generation (Count at) o own e = absurd (none-is o e)
taken-here h port generation (Ticket at) o own e = absurd (none-is o e)
taken-here h port generation (Peak at) o own e = absurd (none-is o e)
taken-here h port generation (Effect at) o own e = absurd (none-is o e)
taken-here h port generation (Publish at) o own e = absurd (none-is o e)

-- an event of the port, by what it came to
own-event : (h : History) (port : ℕ) (event : Event) (outcome : Outcome) (o : Open) → port_of event ≡ port
    → ((p : Open) → opened h port ≡ Some p → LeadsTo port (from_take port p) h)
    → opened_by h (opened h port) event outcome ≡ Some o → LeadsTo port (from_take port o) (Then h event outcome)
own-event h port event Refused o own before e = further (before o e) (λ _. refl)
own-event h port event (Discarded discard) o own before e = further (before o e) (λ _. refl)
own-event h port event (Answered status reply) o own before e = further (before o e) (λ _. refl)
own-event h port event (Taken generation) o own before e = taken-here h port generation event o own e
own-event h port event (Told reported) o own before e = further (answered-from h port reported (opened h port) o before e) (λ _. refl)
own-event h port event (Done status reply loaded) o own before e = absurd (none-is o e)

-- an event, of the port or another
by-port : (h : History) (port : ℕ) (event : Event) (outcome : Outcome) (o : Open) (own : Bool) → (port_of event == port) ≡ own
    → ((p : Open) → opened h port ≡ Some p → LeadsTo port (from_take port p) h)
    → cond own (opened_by h (opened h port) event outcome) (opened h port) ≡ Some o → LeadsTo port (from_take port o) (Then h event outcome)
by-port h port event outcome o true is before e = own-event h port event outcome o (eqb-true _ _ is) before e
by-port h port event outcome o false is before e = further (before o e) (λ port_is. absurd (eqb-false _ _ is port_is))

pub opened_taken : (h : History) (port : ℕ) (o : Open) → opened h port ≡ Some o → LeadsTo port (from_take port o) h
opened_taken Start port o e = absurd (none-is o e)
opened_taken (Then h event outcome) port o e =
    by-port h port event outcome o (port_of event == port) refl (opened_taken h port) e

-- ---- behind a command that was done

-- an answer leaves what was before the Take
answered_after : (first : History) (reported : ℕ) (last : Option Open) (o : Open) → ((p : Open) → last ≡ Some p → BeginsHistory first p.before) → open_after_answer reported last ≡ Some o → BeginsHistory first o.before
answered_after first reported None o before e = absurd (none-is o e)
answered_after first reported (Some p) o before e = subst (λ (x : Open). BeginsHistory first x.before) (some-is _ o e) (before p refl)

-- a Take comes after all that was
taken_after : (first h : History) (generation : ℕ) (event : Event) (o : Open) → BeginsHistory first h → taken_by h generation event ≡ Some o → BeginsHistory first o.before
taken_after first h generation (Take at packet) o begins e = subst (λ (x : Open). BeginsHistory first x.before) (some-is _ o e) begins
taken_after first h generation (Count at) o begins e = absurd (none-is o e)
taken_after first h generation (Ticket at) o begins e = absurd (none-is o e)
taken_after first h generation (Peak at) o begins e = absurd (none-is o e)
taken_after first h generation (Effect at) o begins e = absurd (none-is o e)
taken_after first h generation (Publish at) o begins e = absurd (none-is o e)

own_after : (first h : History) (last : Option Open) (event : Event) (outcome : Outcome) (o : Open) → BeginsHistory first h → ((p : Open) → last ≡ Some p → BeginsHistory first p.before)
    → opened_by h last event outcome ≡ Some o → BeginsHistory first o.before
own_after first h last event Refused o begins before e = before o e
own_after first h last event (Discarded discard) o begins before e = before o e
own_after first h last event (Answered status reply) o begins before e = before o e
own_after first h last event (Taken generation) o begins before e = taken_after first h generation event o begins e
own_after first h last event (Told reported) o begins before e = answered_after first reported last o before e
own_after first h last event (Done status reply loaded) o begins before e = absurd (none-is o e)

after_by : (first h : History) (event : Event) (outcome : Outcome) (port : ℕ) (o : Open) (own : Bool) → BeginsHistory first h → ((p : Open) → opened h port ≡ Some p → BeginsHistory first p.before)
    → cond own (opened_by h (opened h port) event outcome) (opened h port) ≡ Some o → BeginsHistory first o.before
after_by first h event outcome port o true begins before e = own_after first h (opened h port) event outcome o begins before e
after_by first h event outcome port o false begins before e = before o e

-- if nothing is open where the history begins, what is open later was taken after that
following : (first later : History) (port : ℕ) → opened first port ≡ None → BeginsHistory first later → (o : Open) → opened later port ≡ Some o → BeginsHistory first o.before
following first later port free whole o e = absurd (none-is o (sym free ∙ e))
following first later port free (longer {h = h} {event = event} {outcome = outcome} begins) o e =
    after_by first h event outcome port o (port_of event == port) begins (following first h port free begins) e

done_free : (h : History) (event : Event) (status : Status) (reply : List ℕ) (loaded : Option (List ℕ)) → opened (Then h event (Done status reply loaded)) (port_of event) ≡ None
done_free h event status reply loaded =
    let own : (port_of event == port_of event) ≡ true = grind (arith, nat_tests) in rw own refl

pub opened_after_done : OpenedAfterDone
opened_after_done h later event status reply loaded o begins e =
    following (Then h event (Done status reply loaded)) later (port_of event) (done_free h event status reply loaded) begins o e
