use Rattle.std.proofs.Common.{◌+◌, take}
use Rattle.job_rehearse.specs.Loads.{AreLoaded}
use Rattle.job_rehearse.proofs.loads.are_loaded.Given as goal

abbrev pub invariant-loop-slot : goal.invariant-loop-slot
invariant-loop-slot l =
    AreLoaded l.image (l.generation + 1) l.node.programs (take l.slot-index l.slots) l.loaded.items
