use Rattle.std.proofs.Common.{◌≡◌, ◌≤◌, ℕ, [], length, get_or}
use Rattle.std.specs.Prelude.{map}
use Rattle.std.specs.List.{range_with_len}
use Rattle.node_parts.specs.Nodes.{ArePortShares}
use Rattle.sched.specs.Worlds.{first_port}
use Rattle.sched.proofs.world.free_ports.Given as goal

abbrev pub invariant-loop-port : goal.invariant-loop-port
invariant-loop-port l = record {
  count : length l.by_port.items ≡ length l.initial.by_port.items;
  ports : (banks count : ℕ) → ArePortShares banks count l.initial.by_port.items → l.ports.items ≡ map (first_port banks) (range_with_len 0 l.port);
  rest : (k : ℕ) → l.port ≤ k → get_or l.by_port.items k [] ≡ get_or l.initial.by_port.items k [];
}
