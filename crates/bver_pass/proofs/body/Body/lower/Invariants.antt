use Rattle.std.proofs.Common.{◌<◌}
use Rattle.bver_pass.specs.Heads.{AreLowered}
use Rattle.bver_pass.specs.StateTable.{knowledge_in}
use Rattle.bver_pass.proofs.body.Body.lower.Given as goal

-- the registers so far are lowered if they fall
abbrev pub invariant-loop-number : goal.invariant-loop-number
invariant-loop-number l =
    AreLowered l.self (knowledge_in l.table l.self.declared.head) l.edge (λ r. r < l.number) l.fn.lowered l.lowered
