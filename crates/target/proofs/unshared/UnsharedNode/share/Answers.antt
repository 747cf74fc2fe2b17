use Rattle.std.proofs.Common.{◌∙◌, ap, length, subst, sym}
use Rattle.std.proofs.lemmas.List.{length-map}
use Rattle.target.specs.Nodes.{AreInPlace}
use Rattle.target.proofs.unshared.UnsharedNode.share.Goals as goal

pub of_parts-requires-clause-numbers : goal.of_parts-requires-clause-numbers
of_parts-requires-clause-numbers g c = subst AreInPlace (sym c.in_ok-locks.ensures) c.self.invariant.0

pub returns : goal.returns
returns g c =
    c.of_parts.ensures ∙ ap (λ l. length l) c.in_ok-locks.ensures ∙ length-map c.self.inside.banks.items (λ k. k.chain.number) ∙ sym (length-map c.self.inside.banks.items (λ k. k.bank)) ∙ ap (λ l. length l) c.self.view_is
