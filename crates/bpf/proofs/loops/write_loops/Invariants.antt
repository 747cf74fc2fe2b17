use Rattle.std.proofs.Common.{◌≡◌, ◌++◌, drop}
use Rattle.std.specs.List.{flat_map}
use Rattle.bpf.specs.Program.{loop_bytes}
use Rattle.bpf.proofs.loops.write_loops.Given as goal

abbrev pub invariant-loop-found : goal.invariant-loop-found
invariant-loop-found l =
    l.bytes.items ++ flat_map loop_bytes (drop l.found-index l.loops) ≡ l.initial.bytes.items ++ flat_map loop_bytes l.loops
