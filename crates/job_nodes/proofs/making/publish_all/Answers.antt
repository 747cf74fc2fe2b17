use Rattle.std.proofs.Common.{◌≡◌, ◌<◌, ◌+◌, get_or, length, take, sym, subst, ap, ◌∙◌, arith}
use Rattle.std.proofs.lemmas.Grind.{common_steps}
use Rattle.std.proofs.lemmas.List.{length-take}
use Rattle.std.proofs.lemmas.List.Elements.{All-get_or}
use Rattle.bver.specs.Justified.{AcceptedValue}
use Rattle.node_programs.specs.Published.{sizes_of}
use Rattle.job_config.specs.OwnNodes.{IsPublish}
use Rattle.job_nodes.specs.JobNode.{with_node_publish}
use Rattle.job_nodes.proofs.Made.{publish_next, publishes_count, publishes_sizes}
use Rattle.job_nodes.proofs.making.publish_all.Goals as goal

pub publish-requires-clause-publish : goal.publish-requires-clause-publish
publish-requires-clause-publish c =
    let publishes = c.args.publishes.now in
    let index = c.loop-index.index in
    let first = c.index-publishes-index.result in
    let at_first : first ≡ get_or publishes index first = grind (arith, common_steps) in
    let own = All-get_or (IsPublish (sizes_of c.args.node.now.programs)) publishes index first c.loop-index-test.true c.requires.each in
    let mine : IsPublish (sizes_of c.args.node.now.programs) first = subst (IsPublish (sizes_of c.args.node.now.programs)) (sym at_first) own in
    let same : sizes_of c.loop-index.node.programs ≡ sizes_of c.args.node.now.programs =
    ap (λ n. sizes_of n.programs) c.loop-index.invariant ∙ publishes_sizes c.args.node.now (take index publishes) c.requires.some in
    (mine.0, ap (λ (a : AcceptedValue). a.sizes) c.in_ok-program.ensures ∙ mine.1 ∙ sym same)

pub publish-requires-clause-few : goal.publish-requires-clause-few
publish-requires-clause-few c =
    let publishes = c.args.publishes.now in
    let index = c.loop-index.index in
    let count : length c.loop-index.node.programs ≡ length c.args.node.now.programs + length (take index publishes) =
    ap (λ n. length n.programs) c.loop-index.invariant ∙ publishes_count c.args.node.now (take index publishes) in
    omega (arith, count, length-take index publishes, c.loop-index-test.true, c.requires.few)

pub loop-index-preserved : goal.loop-index-preserved
loop-index-preserved c =
    let publishes = c.args.publishes.now in
    let index = c.loop-index.index in
    let first = c.index-publishes-index.result in
    let at_first : first ≡ get_or publishes index first = grind (arith, common_steps) in
    publish_next c.args.node.now publishes index first first _ _ c.loop-index-test.true at_first c.loop-index.invariant
    (c.in_ok-publish.ensures ∙ ap (λ (a : AcceptedValue). with_node_publish c.loop-index.node first.0 a) c.in_ok-program.ensures)
