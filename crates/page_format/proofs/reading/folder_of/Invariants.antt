use Rattle.std.proofs.Common.{length}
use Rattle.page_format.proofs.Found.{AreRead}
use Rattle.page_format.proofs.reading.folder_of.Given as goal

abbrev pub invariant-loop-rest : goal.invariant-loop-rest
invariant-loop-rest l = AreRead l.bytes l.folder l.rest

abbrev pub decreases-loop-rest : goal.decreases-loop-rest
decreases-loop-rest l = length l.rest
