use Rattle.std.proofs.Common.{◌≡◌, replicate, None}
use Rattle.publish.specs.Reached.{known}
use Rattle.publish.proofs.programs.entrances.Given as goal

abbrev pub invariant-loop-port : goal.invariant-loop-port
invariant-loop-port g l = l.entrances.items ≡ replicate l._port (known l.fn.front.programs None)
