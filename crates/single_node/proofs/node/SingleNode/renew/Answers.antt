use Rattle.single_node.proofs.node.SingleNode.renew.Goals as goal

pub invariant_of-self : goal.invariant_of-self
invariant_of-self c = rw c.renew.ensures c.self.invariant

pub returns : goal.returns
returns c = rw c.renew.ensures c.self.view_is
