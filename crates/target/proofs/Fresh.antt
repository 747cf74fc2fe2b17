-- Banks as they are made.
use Rattle.std.proofs.Common.{ℕ, List, refl}
use Rattle.std.specs.Prelude.{map}
use Rattle.std.specs.List.{All}
use Rattle.std.proofs.lemmas.List.Elements.{All-map}
use Rattle.node_parts.specs.declared.config.BankConfig.{BankConfig}
use Rattle.node_parts.specs.Nodes.{bank_of}
use Rattle.annals.specs.Banks.{IsFresh}

-- a node's banks are banks of zeros, to which no command was applied
pub banks_are_fresh : (ports : ℕ) (banks : List BankConfig) → All IsFresh (map (bank_of ports) banks)
banks_are_fresh ports banks =
    All-map IsFresh (bank_of ports) banks
    (λ k bank below. record { first = _; size = _; journal = _; ports = ports; fresh = refl })
