use Rattle.std.proofs.Common.{◌≡◌, drop, string_bytes}
use Rattle.job_packets.specs.Loads.{with_loads}
use Rattle.job_packets.proofs.loads.add_loads.Given as goal

abbrev pub invariant-loop-slot : goal.invariant-loop-slot
invariant-loop-slot l =
    with_loads (string_bytes l.text) l.header l.transaction (drop l.slot-index l.slots) l.image
    ≡ with_loads (string_bytes l.initial.text) l.header l.header.transaction l.slots l.image
