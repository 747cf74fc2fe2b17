use Rattle.std.proofs.Common.{◌≡◌, drop}
use Rattle.bpf.specs.Reading.{are_loops}
use Rattle.bpf.proofs.loops.are_loops.Given as goal

abbrev pub invariant-loop-found : goal.invariant-loop-found
invariant-loop-found l = are_loops l.slots l.least (drop l.found-index l.loops) ≡ are_loops l.slots 0 l.loops
