use Rattle.node_parts.specs.Nodes.{ArePortShares}
use Rattle.node_parts.proofs.banks.empty_shares.Given as goal

abbrev pub invariant-loop-port : goal.invariant-loop-port
invariant-loop-port l = ArePortShares 0 l._port l.by_port.items
