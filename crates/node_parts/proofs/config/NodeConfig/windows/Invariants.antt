use Rattle.std.proofs.Common.{◌≡◌, length}
use Rattle.std.specs.Prelude.{map, take}
use Rattle.node_parts.specs.Nodes.{range_of}
use Rattle.node_parts.proofs.config.NodeConfig.windows.Given as goal

abbrev pub invariant-loop-k : goal.invariant-loop-k
invariant-loop-k l = (length l.ranges ≡ 8) × (take l.k l.ranges ≡ map range_of (take l.k l.banks))
