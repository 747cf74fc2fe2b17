use Rattle.std.proofs.Common.{sym, subst}
use Rattle.std.specs.List.{All}
use Rattle.annals.specs.Banks.{IsFresh}
use Rattle.target.proofs.Fresh.{banks_are_fresh}
use Rattle.target.proofs.unshared.UnsharedNode.with_programs.Goals as goal

pub banks_and_chain-requires-clause-fresh : goal.banks_and_chain-requires-clause-fresh
banks_and_chain-requires-clause-fresh g c = subst (All IsFresh) (sym c.in_ok-banks.ensures.banks) (banks_are_fresh _ _)
