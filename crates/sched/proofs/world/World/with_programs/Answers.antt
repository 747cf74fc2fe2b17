use Rattle.std.proofs.Common.{◌≡◌, get_or, sym, subst, ◌∙◌, arith}
use Rattle.std.proofs.lemmas.Grind.{common_steps}
use Rattle.bver.specs.Justified.{AcceptedValue}
use Rattle.sched.specs.Firsts.{AddsFirst}
use Rattle.sched.proofs.Firsts.{firsts_node, firsts_world}
use Rattle.sched.proofs.world.World.with_programs.Goals as goal

pub loop-index-preserved : goal.loop-index-preserved
loop-index-preserved c =
    let before = c.loop-index.invariant in
    let first = c.index-firsts-index.result in
    let at_first : first ≡ get_or c.args.firsts.now c.loop-index.index first = grind (arith, common_steps) in
    let adds : AddsFirst first c.loop-index.world c.publish_first.new.self =
    subst (λ (a : AcceptedValue). AddsFirst (first.0, a) c.loop-index.world c.publish_first.new.self) c.in_ok-program.ensures c.in_ok-publish_first.ensures in
    record {
      world = firsts_world c.args.config.now _ c.args.firsts.now c.loop-index.index _ first _ _ c.loop-index-test.true at_first adds before.world;
      node = firsts_node c.args.config.now _ c.args.firsts.now c.loop-index.index _ first _ _ c.loop-index-test.true at_first adds (sym before.sizes) before.node;
      sizes = adds.sizes ∙ before.sizes;
      count = adds.count ∙ omega (arith, before.count);
    }
