use Rattle.absdom.proofs.JoinOrder as joins
use Rattle.absdom.proofs.laws.join_is_least.Goals as goal

pub returns-clause-above : goal.returns-clause-above
returns-clause-above c = joins.join_is_above

pub returns-clause-least : goal.returns-clause-least
returns-clause-least c = joins.join_is_least

pub returns-clause-grows : goal.returns-clause-grows
returns-clause-grows c = joins.join_grows
