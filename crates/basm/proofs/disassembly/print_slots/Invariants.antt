use Rattle.std.proofs.Common.{◌≡◌, ◌++◌, drop}
use Rattle.std.specs.List.{flat_map}
use Rattle.std.specs.String.{string_bytes}
use Rattle.basm.specs.Printed.{slot_line}
use Rattle.basm.proofs.disassembly.print_slots.Given as goal

abbrev pub invariant-loop-slot : goal.invariant-loop-slot
invariant-loop-slot l =
    string_bytes l.text ++ flat_map slot_line (drop l.slot l.image.slots) ≡ string_bytes l.initial.text ++ flat_map slot_line l.image.slots
