-- The events with which helpers answer.
use Rattle.std.specs.Prelude.{ℕ}
use Rattle.machine.specs.declared.helpers.Helper.{Helper}
use Rattle.machine.specs.declared.helpers.Helper.TheVariants as helpers
use Rattle.sched.specs.declared.event.Event.{Event}
use Rattle.sched.specs.declared.event.Event.TheVariants.{Count, Ticket, Peak}

-- the event with which a helper of a port's program answers
abbrev pub answering : Helper → (port : ℕ) → Event
answering helpers.Count port = Count port
answering helpers.Ticket port = Ticket port
answering helpers.Peak port = Peak port
