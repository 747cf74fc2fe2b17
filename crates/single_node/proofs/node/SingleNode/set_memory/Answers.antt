use Rattle.std.proofs.Common.{◌≡◌, ◌∙◌, Option, Some, ap, length, refl, subst, sym, true}
use Rattle.std.specs.Prelude.{slice_get}
use Rattle.bank.specs.Records.{BankValue, after_setting, covers}
use Rattle.single_node.specs.Nodes.{IsSingleNode, SingleNodeValue, covers_in, single_node, with_bank}
use Rattle.single_node.proofs.Handing.{node_with_bank, setting_stays}
use Rattle.single_node.proofs.node.SingleNode.set_memory.Goals as goal

pub invariant_of-self : goal.invariant_of-self
invariant_of-self c =
    let s = single_node c.self.inside.banks c.self.inside.cells.words c.self.inside.programs c.self.inside.ports.items in
    let b = c.bank_mut.result.now in
    let bytes = c.args.bytes.now in
    let next = after_setting b c.args.address bytes c.args.fresh in
    let there : slice_get c.args.self.now.banks c.args.k ≡ Some b = ap (λ (x : SingleNodeValue). slice_get x.banks c.args.k) (sym c.self.view_is) ∙ c.bank_mut.ensures.value in
    let covered : covers b c.args.address (length bytes) ≡ true = subst (λ (o : Option BankValue). covers_in o c.args.address (length bytes) ≡ true) there c.requires.inside in
    let kept : IsSingleNode (with_bank s c.args.k next) = node_with_bank s c.args.k b next c.bank_mut.ensures.value (setting_stays b c.args.address bytes c.args.fresh covered) refl c.self.invariant.0 in
    (subst (λ (x : BankValue). IsSingleNode (with_bank s c.args.k x)) (sym c.set.ensures.bank) kept, c.self.invariant.1, c.self.invariant.2)
