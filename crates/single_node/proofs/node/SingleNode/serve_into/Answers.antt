use Rattle.std.proofs.Common.{rules, subst, ◌≡◌, ◌<◌, Some, length, sym, ap, ◌∙◌}
use Rattle.std.specs.Prelude.{slice_get, slice_set}
use Rattle.std.proofs.lemmas.Option.{slice_get-get_or}
use Rattle.single_node.specs.Nodes.{IsSingleNode, SingleNodeValue, single_node}
use Rattle.single_node.specs.Serving.{ServesReported}
use Rattle.single_node.proofs.Nodes.{node_after, serves_of}
use Rattle.single_node.proofs.Serving.{kept_or_longer, sizes_kept}
use Rattle.single_node.proofs.Under.{served_windows, under_after}
use Rattle.single_node.proofs.node.SingleNode.serve_into.Goals as goal

pub serve_at-reported-requires-clause-paired : goal.serve_at-reported-requires-clause-paired
serve_at-reported-requires-clause-paired c =
    let passes = c.self.inside.ports.items in
    let pass = c.index_mut-port.result.now in
    let below : c.from-place.result < length passes = search rules in
    let own : slice_get passes c.from-place.result ≡ Some pass = slice_get-get_or passes c.from-place.result pass below ∙ ap Some (sym c.index_mut-port.ensures.value) in
    c.self.invariant.0.paired.each c.from-place.result pass own

pub serve_at-reported-requires-clause-informed : goal.serve_at-reported-requires-clause-informed
serve_at-reported-requires-clause-informed c =
    let passes = c.self.inside.ports.items in
    let pass = c.index_mut-port.result.now in
    let below : c.from-place.result < length passes = search rules in
    let own : slice_get passes c.from-place.result ≡ Some pass = slice_get-get_or passes c.from-place.result pass below ∙ ap Some (sym c.index_mut-port.ensures.value) in
    c.self.invariant.0.informed c.from-place.result pass own

pub serve_at-reported-requires-clause-windows : goal.serve_at-reported-requires-clause-windows
serve_at-reported-requires-clause-windows c =
    let passes = c.self.inside.ports.items in
    let pass = c.index_mut-port.result.now in
    let below : c.from-place.result < length passes = search rules in
    let own : slice_get passes c.from-place.result ≡ Some pass = slice_get-get_or passes c.from-place.result pass below ∙ ap Some (sym c.index_mut-port.ensures.value) in
    sym (c.self.invariant.2 c.from-place.result pass own)

pub invariant_of-self : goal.invariant_of-self
invariant_of-self c =
    let passes = c.self.inside.ports.items in
    let pass = c.index_mut-port.result.now in
    let below : c.from-place.result < length passes = search rules in
    let own : slice_get passes c.from-place.result ≡ Some pass = slice_get-get_or passes c.from-place.result pass below ∙ ap Some (sym c.index_mut-port.ensures.value) in
    let before = single_node c.self.inside.banks c.self.inside.cells.words c.self.inside.programs passes in
    let reported = c.serve_at-reported.result in
    let some = c.serve_at-reported.ensures.some in
    let served = c.serve_at-reported.ensures.served in
    let node : IsSingleNode (single_node c.serve_at-reported.new.banks c.serve_at-reported.new.cells.words c.serve_at-reported.new.programs (slice_set passes c.from-place.result c.serve_at-reported.new.port))
    = node_after c.packets_keep_pairs.ensures.served c.packets_keep_pairs.ensures.all reported.served reported.generation reported.verdict c.args.packet before c.serve_at-reported.new.banks c.serve_at-reported.new.cells.words c.serve_at-reported.new.programs c.from-place.result pass c.serve_at-reported.new.port c.serve_at-reported.new.reply c.self.invariant.0 own some served in (
      node,
      c.serve_at-reported.ensures.sizes ∙ c.self.invariant.1 ∙ sym (sizes_kept c.self.inside.programs c.serve_at-reported.new.programs some (kept_or_longer reported.served reported.generation reported.verdict c.args.packet _ _ _ _ pass c.serve_at-reported.new.port c.serve_at-reported.new.reply served).longer),
      under_after c.self.inside.windows passes c.from-place.result pass c.serve_at-reported.new.port c.self.invariant.2 own (served_windows reported.served reported.generation reported.verdict c.args.packet _ _ _ _ pass c.serve_at-reported.new.port c.serve_at-reported.new.reply served),
    )

pub returns-clause-serves : goal.returns-clause-serves
returns-clause-serves c =
    let passes = c.self.inside.ports.items in
    let pass = c.index_mut-port.result.now in
    let below : c.from-place.result < length passes = search rules in
    let own : slice_get passes c.from-place.result ≡ Some pass = slice_get-get_or passes c.from-place.result pass below ∙ ap Some (sym c.index_mut-port.ensures.value) in
    let before = single_node c.self.inside.banks c.self.inside.cells.words c.self.inside.programs passes in
    let after = single_node c.serve_at-reported.new.banks c.serve_at-reported.new.cells.words c.serve_at-reported.new.programs (slice_set passes c.from-place.result c.serve_at-reported.new.port) in
    let serves : ServesReported c.serve_at-reported.result c.args.port c.args.packet c.args.self.now after c.serve_at-reported.new.reply
    = subst (λ (s : SingleNodeValue). ServesReported c.serve_at-reported.result c.args.port c.args.packet s after c.serve_at-reported.new.reply) c.self.view_is
    (serves_of c.serve_at-reported.result c.args.packet before c.serve_at-reported.new.banks c.serve_at-reported.new.cells.words c.serve_at-reported.new.programs c.args.port c.from-place.result pass c.serve_at-reported.new.port c.serve_at-reported.new.reply c.from-place.ensures own c.serve_at-reported.ensures.served) in
    record { reply = c.serve_at-reported.new.reply; serves = serves; left_is = search rules; size_is = search rules }

pub returns-clause-node : goal.returns-clause-node
returns-clause-node c = (invariant_of-self c).0
