-- What happened at one port in a history, and what happens by what became of its packets.
use Rattle.std.specs.Prelude.{◌≡◌, ◌==◌, ℕ, List, [], ◌∷◌, ◌++◌, map, Option, if◌then◌else◌}
use Rattle.spw.specs.Cargo.{Cargo}
use Rattle.rmap.specs.declared.discard.Discard.{Discard}
use Rattle.rmap.specs.declared.places.Place.{Place}
use Rattle.rmap.specs.declared.places.Place.TheVariants as places
use Rattle.rmap.specs.declared.status.Status.{Status}
use Rattle.machine.specs.declared.calls.Call.{Call}
use Rattle.ports.specs.Due.{Deed, Judging}
use Rattle.ports.specs.Due.Deed.{Dropped, Answered as Replied, Judged}
use Rattle.sched.specs.Answers.{answering}
use Rattle.sched.specs.declared.event.Event.{Event}
use Rattle.sched.specs.declared.event.Event.TheVariants.{Take, Effect, Publish}
use Rattle.sched.specs.declared.event.Outcome.{Outcome}
use Rattle.sched.specs.declared.event.Outcome.TheVariants.{Discarded, Answered, Taken, Told, Done}
use Rattle.sched.specs.History.{History, Start, Then, port_of}

-- an event, and what it came to
pub record Happening : Type 0 where
  pub event : Event
  pub outcome : Outcome

-- the event that came to that
abbrev pub happening : Event → Outcome → Happening
happening event outcome = record { event = event; outcome = outcome }

-- what happened at a port in a history, in order
abbrev pub happened_at : (port : ℕ) → History → List Happening
happened_at port Start = []
happened_at port (Then h event outcome) =
    if port_of event == port then happened_at port h ++ happening event outcome ∷ [] else happened_at port h

-- the helper of a call of the port's program answers
abbrev pub answered_call : (port : ℕ) → Call → Happening
answered_call port c = happening (answering c.question.helper port) (Told c.answer)

-- the helpers of some calls of the port's program answer, in order
abbrev pub answered_calls : (port : ℕ) → List Call → List Happening
answered_calls port calls = map (answered_call port) calls

-- the event by which a command of that place ends: a Publish at a control write, and else an Effect
abbrev pub ending : Place → (port : ℕ) → Event
ending (places.Bank k) port = Effect port
ending places.Staging port = Effect port
ending places.LoadResult port = Effect port
ending places.Control port = Publish port

-- What happens by a command of the port that was judged. It is taken, with the generation of the program that judged.
-- Each helper that its run asked answers, in order. The command is done, with the reply that is due.
pub record IsJudgedThus (port : ℕ) (p : Cargo) (j : Judging) (happened : List Happening) : Type 0 where
  pub status : Status
  pub loaded : Option (List ℕ)
  pub is : happened
      ≡ (happening (Take port p) (Taken j.judged.generation) ∷ answered_calls port j.calls)
      ++ happening (ending j.judged.place port) (Done status j.reply loaded) ∷ []

-- what happens by what became of a packet of the port
abbrev pub HappensBy : Deed → (port : ℕ) → Cargo → List Happening → Type 0
HappensBy Dropped port p happened =
    (discard : Discard) × (happened ≡ happening (Take port p) (Discarded discard) ∷ [])
HappensBy (Replied reply) port p happened =
    (status : Status) × (happened ≡ happening (Take port p) (Answered status reply) ∷ [])
HappensBy (Judged j) port p happened = IsJudgedThus port p j happened

-- what happens by what became of some packets of the port, one after the other
abbrev pub HappenBy : (port : ℕ) → List Cargo → List Deed → List Happening → Type 0
HappenBy port [] [] happened = happened ≡ []
HappenBy port [] (d ∷ ds) happened = ⊥
HappenBy port (p ∷ ps) [] happened = ⊥
HappenBy port (p ∷ ps) (d ∷ ds) happened =
    (first : List Happening) × (rest : List Happening) × (happened ≡ first ++ rest)
    × HappensBy d port p first × HappenBy port ps ds rest
