use Rattle.std.proofs.Common.{◌≡◌, ◌∙◌, ap, sym}
use base.Stored.{gnil}
use Rattle.plain_cells.specs.Cells.{PlainCellsValue}
use Rattle.node_programs.specs.Published.{sizes_of}
use Rattle.node_parts.specs.Nodes.{first_passes}
use Rattle.single_node.specs.Nodes.{IsSingleNode, single_node}
use Rattle.single_node.proofs.Nodes.{fresh_node, fresh_under}
use Rattle.single_node.proofs.node.SingleNode.new.Goals as goal

pub invariant_of-result : goal.invariant_of-result
invariant_of-result c =
    let config = c.args.config.now in
    let ports : c.in_ok-ports.ports.items ≡ first_passes config c.args.factory gnil = c.in_ok-ports.ensures c.args.factory c.in_ok-programs.ensures c.requires in
    let node : IsSingleNode (single_node c.in_ok-banks.banks c.in_ok-cells.cells.words c.in_ok-programs.programs c.in_ok-ports.ports.items)
    = rw (c.in_ok-banks.ensures.banks, c.in_ok-programs.ensures, ports) (fresh_node c.made_are_paired.ensures config c.in_ok-cells.cells.words c.args.factory c.in_ok-banks.ensures.few_ports c.in_ok-banks.ensures.few_banks) in
    (node, ap (λ (x : PlainCellsValue). x.sizes) c.in_ok-cells.ensures ∙ sym c.requires ∙ sym (ap sizes_of c.in_ok-programs.ensures), rw (c.windows-windows.ensures, ports) (fresh_under config c.args.factory))

pub returns-clause-node : goal.returns-clause-node
returns-clause-node c = (invariant_of-result c).0
