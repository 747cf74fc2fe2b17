use Rattle.node_programs.proofs.Shelves.{slot_at}
use Rattle.publish.proofs.Shelves.{table_sizes}
use Rattle.publish.proofs.table.Table.shown.Goals as goal

pub returns-clause-value : goal.returns-clause-value
returns-clause-value c =
    rw (c.from.ensures, ← c.self.view_is) (slot_at c.self.inside.slots c.self.inside.front.programs c.args.slot c.index-self-from.result c.requires c.self.invariant.slots)

pub returns-clause-sizes : goal.returns-clause-sizes
returns-clause-sizes c =
    rw (c.from.ensures, ← c.self.view_is) (table_sizes c.self.inside.slots c.self.inside.front.programs c.args.slot c.index-self-from.result c.requires c.self.invariant)
