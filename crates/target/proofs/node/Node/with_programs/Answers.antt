use Rattle.std.proofs.Common.{◌∙◌, ap, length}
use Rattle.std.proofs.lemmas.List.{length-map}
use Rattle.node_parts.specs.Nodes.{bank_of}
use Rattle.target.proofs.node.Node.with_programs.Goals as goal

pub returns-clause-banks : goal.returns-clause-banks
returns-clause-banks g c =
    c.in_ok-node.ensures ∙ ap (λ l. length l) c.in_ok-unshared.ensures.banks ∙ length-map c.args.config.now.banks.now (bank_of c.args.config.now.ports)
