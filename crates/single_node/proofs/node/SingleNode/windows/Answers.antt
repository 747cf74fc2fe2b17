use Rattle.std.proofs.Common.{ap, sym, ◌∙◌}
use Rattle.std.specs.Prelude.{slice_get}
use Rattle.single_node.specs.Nodes.{SingleNodeValue}
use Rattle.single_node.proofs.node.SingleNode.windows.Goals as goal

pub returns : goal.returns
returns c = λ k h at. sym (c.self.invariant.2 k h (ap (λ (x : SingleNodeValue). slice_get x.passes k) c.self.view_is ∙ at))
