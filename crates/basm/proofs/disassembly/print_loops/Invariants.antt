use Rattle.std.proofs.Common.{◌≡◌, ◌++◌, drop}
use Rattle.std.specs.List.{flat_map}
use Rattle.std.specs.String.{string_bytes}
use Rattle.basm.specs.Printed.{loop_line}
use Rattle.basm.proofs.disassembly.print_loops.Given as goal

abbrev pub invariant-loop-found : goal.invariant-loop-found
invariant-loop-found l =
    string_bytes l.text ++ flat_map loop_line (drop l.found-index l.loops) ≡ string_bytes l.initial.text ++ flat_map loop_line l.loops
