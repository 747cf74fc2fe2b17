use Rattle.std.proofs.Common.{◌≡◌, take}
use Rattle.std.specs.Prelude.{map}
use Rattle.sched.specs.Firsts.{slot_with_program}
use Rattle.sched.specs.Headline.{IsNode}
use Rattle.sched.specs.History.{Start}
use Rattle.sched.specs.Worlds.{IsWorldOf, node_with}
use Rattle.sched.proofs.world.World.with_programs.Given as goal

abbrev pub invariant-loop-index : goal.invariant-loop-index
invariant-loop-index l = record {
  world : IsWorldOf (node_with l.config l.fn.factory.program (map slot_with_program (take l.index l.firsts))) Start l.world;
  node : IsNode (node_with l.config l.fn.factory.program (map slot_with_program (take l.index l.firsts)));
  sizes : l.world.sizes ≡ l.config.sizes;
  count : l.world.count ≡ l.index;
}
