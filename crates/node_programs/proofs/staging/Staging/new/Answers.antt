use Rattle.std.proofs.Common.{ℕ, List, ap, replicate}
use Rattle.node_programs.specs.Staged.{staged}
use Rattle.node_programs.proofs.staging.Staging.new.Goals as goal

pub returns : goal.returns
returns c = ap (λ (bytes : List ℕ). staged bytes (replicate 8 0)) c.in_ok-zeros.ensures
