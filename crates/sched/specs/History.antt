-- Histories of a node: what happened at its ports, event by event, and which commands were open then.
use Rattle.std.specs.Prelude.{ℕ, ◌==◌, if◌then◌else◌, List, [], ◌∷◌, ◌++◌, Option, Some, None}
use Rattle.spw.specs.Cargo.{Cargo}
use Rattle.sched.specs.declared.event.Event.{Event}
use Rattle.sched.specs.declared.event.Event.TheVariants.{Take, Count, Ticket, Peak, Effect, Publish}
use Rattle.sched.specs.declared.event.Outcome.{Outcome}
use Rattle.sched.specs.declared.event.Outcome.TheVariants.{Refused, Discarded, Answered, Taken, Told, Done}

-- The events of a node, each with what it came to. The last one is outermost.
pub data History : Type 0 where
  Start : History
  Then : History → Event → Outcome → History

-- the history of these events with these outcomes, in order, after another
abbrev pub history_from : History → List Event → List Outcome → History
history_from h [] outcomes = h
history_from h (event ∷ events) [] = h
history_from h (event ∷ events) (outcome ∷ outcomes) = history_from (Then h event outcome) events outcomes

-- the port of an event
abbrev pub port_of : Event → ℕ
port_of (Take port packet) = port
port_of (Count port) = port
port_of (Ticket port) = port
port_of (Peak port) = port
port_of (Effect port) = port
port_of (Publish port) = port

-- A command that was taken: its packet, the generation that the Take reported, what happened before, and the answers of
-- its program's helpers since.
pub record Open : Type 0 where
  pub packet : Cargo
  pub generation : ℕ
  pub before : History
  pub answers : List ℕ

-- the command of a packet that was taken after this history, with that generation
abbrev pub taken : Cargo → ℕ → History → Open
taken packet generation before = record { packet = packet; generation = generation; before = before; answers = [] }

-- the command that an event takes, if it takes one
abbrev pub taken_by : History → (generation : ℕ) → Event → Option Open
taken_by h generation (Take port packet) = Some (taken packet generation h)
taken_by h generation (Count port) = None
taken_by h generation (Ticket port) = None
taken_by h generation (Peak port) = None
taken_by h generation (Effect port) = None
taken_by h generation (Publish port) = None

-- an open command after a helper of its program answered that
abbrev pub with_answer : ℕ → Open → Open
with_answer reported o = record o { answers = o.answers ++ reported ∷ [] }

-- the same, if one is open
abbrev pub open_after_answer : ℕ → Option Open → Option Open
open_after_answer reported None = None
open_after_answer reported (Some o) = Some (with_answer reported o)

-- The open command of a port after an event of its own, by what that came to. `Taken` opens one, `Told` answers it, and
-- after `Done` none is open.
abbrev pub opened_by : History → (last : Option Open) → Event → Outcome → Option Open
opened_by h last event Refused = last
opened_by h last event (Discarded discard) = last
opened_by h last event (Answered status reply) = last
opened_by h last event (Taken generation) = taken_by h generation event
opened_by h last event (Told reported) = open_after_answer reported last
opened_by h last event (Done status reply loaded) = None

-- the open command of a port: the last that was taken there, if none was done since
abbrev pub opened : History → (port : ℕ) → Option Open
opened Start port = None
opened (Then h event outcome) port =
    if port_of event == port then opened_by h (opened h port) event outcome else opened h port
