-- Which program judges a command: a choice of this target.
use Rattle.std.specs.Prelude.{ℕ}
use Rattle.rmap.specs.declared.kind.Kind.{Kind}
use Rattle.rmap.specs.declared.kind.Kind.TheVariants.{Read, Write, Rmw, Unused}
use Rattle.rmap.specs.declared.places.Place.{Place}
use Rattle.rmap.specs.declared.places.Place.TheVariants.{Bank, Staging, LoadResult, Control}

-- The slot for commands of that kind to banks. For a code that is not used it means nothing.
abbrev pub bank_slot_of : Kind → ℕ
bank_slot_of Read = 0
bank_slot_of Write = 1
bank_slot_of Rmw = 2
bank_slot_of Unused = 0

-- The slot of the program that judges a command of that kind at that place. There is one for each kind of command to
-- banks, and one for the boot window.
abbrev pub slot_of : Kind → Place → ℕ
slot_of kind (Bank k) = bank_slot_of kind
slot_of kind Staging = 3
slot_of kind LoadResult = 3
slot_of kind Control = 3
