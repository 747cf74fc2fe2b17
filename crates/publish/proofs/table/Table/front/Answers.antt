use Rattle.publish.proofs.Shelves.{table_some}
use Rattle.publish.proofs.table.Table.front.Goals as goal

pub returns-clause-some : goal.returns-clause-some
returns-clause-some c = rw (← c.self.view_is) (table_some c.self.inside.slots c.self.inside.front.programs c.self.invariant)
