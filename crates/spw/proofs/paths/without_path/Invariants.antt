use Rattle.std.proofs.Common.{◌≡◌, ◌≤◌, length}
use Rattle.spw.specs.Paths.{without_path}
use Rattle.spw.proofs.paths.without_path.Given as goal

abbrev pub invariant-loop-rest : goal.invariant-loop-rest
invariant-loop-rest l = (without_path l.rest ≡ without_path l.bytes) × (length l.rest ≤ length l.bytes)

abbrev pub decreases-loop-rest : goal.decreases-loop-rest
decreases-loop-rest l = length l.rest
