use Rattle.std.proofs.Common.{sym, ◌∙◌}
use Rattle.single_node.specs.Nodes.{single_node}
use Rattle.single_node.proofs.Growing.{grown, node_grows}
use Rattle.single_node.proofs.Serving.{sizes_kept}
use Rattle.single_node.proofs.node.SingleNode.publish.Goals as goal

pub invariant_of-self : goal.invariant_of-self
invariant_of-self c =
    let old = c.self.inside.programs in
    let new = c.install.new.self in
    let s = single_node c.self.inside.banks c.self.inside.cells.words old c.self.inside.ports.items in
    let some = c.list-list.ensures.some in
    let grows = grown c.install.result c.args.slot c.args.program old new c.install.ensures.published c.install.ensures.same in
    (node_grows s new some grows c.self.invariant.0, c.self.invariant.1 ∙ sym (sizes_kept old new some grows), c.self.invariant.2)
