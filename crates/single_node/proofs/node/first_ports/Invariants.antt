use Rattle.std.proofs.Common.{◌≡◌, ◌<◌, ◌≤◌, ℕ, [], length, get_or}
use Rattle.std.specs.Prelude.{map, replicate}
use Rattle.std.specs.List.{range_with_len}
use base.Stored.{gnil}
use Rattle.bver.specs.Justified.{AcceptedValue}
use Rattle.bank.specs.Records.{first_share}
use Rattle.node_parts.specs.Nodes.{first_pass, first_programs}
use Rattle.single_node.proofs.node.first_ports.Given as goal

abbrev pub invariant-loop-port : goal.invariant-loop-port
invariant-loop-port l = record {
  count : length l.by_port.items ≡ l.config.ports;
  ports : (factory : AcceptedValue) → l.programs ≡ first_programs factory → factory.sizes ≡ l.config.sizes → l.ports.items ≡ map (first_pass l.config.address l.config.banks.now factory gnil) (range_with_len 0 l.port);
  rest : (k : ℕ) → l.port ≤ k → k < l.config.ports → get_or l.by_port.items k [] ≡ replicate (length l.config.banks.now) (first_share k);
}
