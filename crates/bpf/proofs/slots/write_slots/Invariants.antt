use Rattle.std.proofs.Common.{◌≡◌, ◌++◌, drop}
use Rattle.std.specs.List.{flat_map}
use Rattle.bpf.specs.Program.{slot_bytes}
use Rattle.bpf.proofs.slots.write_slots.Given as goal

abbrev pub invariant-loop-slot : goal.invariant-loop-slot
invariant-loop-slot l =
    l.bytes.items ++ flat_map slot_bytes (drop l.slot-index l.slots) ≡ l.initial.bytes.items ++ flat_map slot_bytes l.slots
