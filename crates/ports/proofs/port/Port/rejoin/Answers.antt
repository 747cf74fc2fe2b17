use Rattle.std.proofs.Common.{rules}
use Rattle.ports.proofs.Rules.{merges, totals}
use Rattle.ports.proofs.port.Port.rejoin.Goals as goal

pub absorb-requires-clause-rule : goal.absorb-requires-clause-rule
absorb-requires-clause-rule g = merges _ _ _ _ (search rules) (search rules)

pub learn_as-requires-clause-rule : goal.learn_as-requires-clause-rule
learn_as-requires-clause-rule g = totals _ _ (search rules) (search rules)
