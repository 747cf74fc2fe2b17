use Rattle.absdom.proofs.Order.{below_fits, below_is_reflexive, below_is_transitive, below_is_antisymmetric}
use Rattle.absdom.proofs.laws.order_of_states.Goals as goal

pub returns-clause-fits : goal.returns-clause-fits
returns-clause-fits c = below_fits

pub returns-clause-reflexive : goal.returns-clause-reflexive
returns-clause-reflexive c = below_is_reflexive

pub returns-clause-transitive : goal.returns-clause-transitive
returns-clause-transitive c = below_is_transitive

pub returns-clause-antisymmetric : goal.returns-clause-antisymmetric
returns-clause-antisymmetric c = below_is_antisymmetric
