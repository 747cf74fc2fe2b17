-- What a node takes of its configuration.
use Rattle.std.specs.Prelude.{◌≡◌, ◌≤◌, ◌-◌, All, ℕ, List, [], ◌∷◌, ◌++◌, length, replicate, Bool, true, false, ◌&&◌, nat_le}
use Rattle.job_config.specs.declared.own_node.TheConstants.{BANK_BASE, BANK_ROOM, BANK_SIZE, NODE_ADDRESS}
use Rattle.bver.specs.Justified.{AcceptedValue}
use Rattle.machine.specs.Sizes.{Maps}
use Rattle.node_parts.specs.Nodes.{are_within}
use Rattle.node_parts.specs.declared.config.BankConfig.{BankConfig}
use Rattle.node_parts.specs.declared.config.NodeConfig.{NodeConfig}

-- the program is for one of the four slots, and was accepted for maps of those sizes
abbrev pub IsPublish : Maps → ℕ × AcceptedValue → Type 0
IsPublish sizes publish = (publish.0 ≤ 3) × (publish.1.sizes ≡ sizes)

-- what a node takes beside its first program: its logical address, how many ports it has, and its banks by their
-- extended address. Then the bytes at the beginning of each bank, its maps, and the programs that are published before
-- the first packet, in that order, each with its slot
pub record OwnNodeValue : Type 0 where
  pub address : ℕ
  pub ports : ℕ
  pub banks : List BankConfig
  pub contents : List (List ℕ)
  pub sizes : Maps
  pub publishes : List (ℕ × AcceptedValue)

-- the node of those
abbrev pub own_node : (address ports : ℕ) → List BankConfig → List (List ℕ) → Maps → List (ℕ × AcceptedValue)
    → OwnNodeValue
own_node address ports banks contents sizes publishes = record {
  address = address;
  ports = ports;
  banks = banks;
  contents = contents;
  sizes = sizes;
  publishes = publishes;
}

-- whether there are contents for each bank, no longer than the bank
abbrev pub fit : List BankConfig → List (List ℕ) → Bool
fit [] [] = true
fit [] (c ∷ cs) = false
fit (b ∷ bs) [] = false
fit (b ∷ bs) (c ∷ cs) = nat_le (length c) b.size && fit bs cs

-- the banks are within their limits, and hold their contents; and the programs may be published
pub record IsOwnNode (n : OwnNodeValue) : Type 0 where
  pub within : are_within n.banks ≡ true
  pub fits : fit n.banks n.contents ≡ true
  pub each : All (IsPublish n.sizes) n.publishes
  pub few : length n.publishes ≤ 4294967295

-- the memory of a bank of that size that begins with those bytes: the rest of it is zeros
abbrev pub filled : (size : ℕ) → List ℕ → List ℕ
filled size contents = contents ++ replicate (size - length contents) 0

-- 65,536 bytes at A0000000, and a journal with room for 1,024 entries
abbrev pub own_bank : BankConfig
own_bank = record { base = BANK_BASE; size = BANK_SIZE; room = BANK_ROOM }

-- the node of which no file says anything: logical address FE, and one bank of zeros
abbrev pub plain_node : (ports : ℕ) → Maps → OwnNodeValue
plain_node ports sizes = own_node NODE_ADDRESS ports (own_bank ∷ []) ([] ∷ []) sizes []

-- the configuration has that address, those ports, banks and maps
pub record IsConfigOf (n : OwnNodeValue) (config : NodeConfig) : Type 0 where
  pub address : config.address ≡ n.address
  pub ports_are : config.ports ≡ n.ports
  pub banks_are : config.banks.now ≡ n.banks
  pub sizes_are : config.sizes ≡ n.sizes
