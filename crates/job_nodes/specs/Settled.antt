-- How a command of a schedule ends.
use Rattle.std.specs.Prelude.{◌≡◌, ◌⊎◌, ℕ}
use Rattle.sched.specs.declared.event.Event.{Event}
use Rattle.sched.specs.declared.event.Event.TheVariants.{Effect, Publish}

-- the event ends a command of the port
abbrev pub IsCommandEnd : (port : ℕ) → Event → Type 0
IsCommandEnd port event = (event ≡ Effect port) ⊎ (event ≡ Publish port)
