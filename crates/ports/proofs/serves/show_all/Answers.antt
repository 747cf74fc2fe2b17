use Rattle.std.proofs.Common.{arith}
use Rattle.lemmas.proofs.Prefixes.{prefix_length}
use Rattle.ports.proofs.serves.show_all.Goals as goal

pub returns-clause-shown : goal.returns-clause-shown
returns-clause-shown g c =
    let few = prefix_length _ _ c.knows_all.ensures.begins in let all = c.announce.ensures.shown in omega (arith, few, all)
