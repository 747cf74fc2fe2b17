use Rattle.std.proofs.Common.{refl, subst, sym}
use Rattle.bank.specs.Records.{BankValue, after_rotation, empty_journal}
use Rattle.single_node.specs.Nodes.{IsSingleNode, single_node, with_bank}
use Rattle.single_node.proofs.Handing.{node_with_bank}
use Rattle.single_node.proofs.node.SingleNode.turn.Goals as goal

pub invariant_of-self : goal.invariant_of-self
invariant_of-self c =
    let s = single_node c.self.inside.banks c.self.inside.cells.words c.self.inside.programs c.self.inside.ports.items in
    let b = c.bank_mut.result.now in
    let next = after_rotation b (empty_journal c.args.room) in
    let kept : IsSingleNode (with_bank s c.args.k next) = node_with_bank s c.args.k b next c.bank_mut.ensures.value refl refl c.self.invariant.0 in
    (subst (λ (x : BankValue). IsSingleNode (with_bank s c.args.k x)) (sym c.turn.ensures.bank) kept, c.self.invariant.1, c.self.invariant.2)
