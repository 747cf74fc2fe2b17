use Rattle.std.proofs.Common.{◌≡◌}
use Rattle.std.specs.Prelude.{map, take}
use Rattle.node_parts.specs.Nodes.{ArePortShares, bank_of}
use Rattle.node_parts.proofs.banks.make_banks.Given as goal

abbrev pub invariant-loop-bank : goal.invariant-loop-bank
invariant-loop-bank l = (l.banks.items ≡ map (bank_of l.config.ports) (take l.bank-index l.config.banks.now)) × ArePortShares l.bank-index l.config.ports l.by_port.items
