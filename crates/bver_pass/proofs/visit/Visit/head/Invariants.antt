use Rattle.std.proofs.Common.{◌≡◌}
use Rattle.bver_pass.proofs.Widening.{NoneBefore}
use Rattle.bver_pass.proofs.visit.Visit.head.Given as goal

abbrev pub invariant-loop-place : goal.invariant-loop-place
invariant-loop-place l = NoneBefore (λ m. m.head ≡ l.self.slot) l.self.program l.place
