-- How a node is made of its configuration.
use Rattle.std.specs.Prelude.{◌≡◌, ◌<◌, ℕ, List, [], ◌∷◌, ◌++◌, map, length, slice_index_or, replicate, Bool, ◌&&◌}
use Rattle.std.specs.Prelude.{not, nat_le, Option, None, Some, if◌then◌else◌}
use Rattle.rmap.specs.Windows.{WindowsValue}
use Rattle.std.specs.List.{list_all, range_with_len}
use Rattle.bver.specs.Justified.{AcceptedValue}
use Rattle.bank.specs.Limits.{is_bank_size, is_ports}
use Rattle.bank.specs.Records.{BankValue, ShareValue, first_share, fresh_bank}
use Rattle.node_programs.specs.declared.publishes.Publish.{Publish}
use Rattle.node_programs.specs.Histories.{entry}
use Rattle.node_programs.specs.declared.staging.TheConstants.{STAGING_BYTES}
use Rattle.node_programs.specs.Staged.{Staged, staged}
use base.Stored.{Gv}
use Rattle.node_parts.specs.Passes.{PassValue}
use Rattle.node_parts.specs.declared.config.BankConfig.{BankConfig}
use Rattle.node_parts.specs.declared.config.NodeConfig.{NodeConfig}
use Rattle.node_parts.specs.declared.faults.NodeFault.{NodeFault}
use Rattle.node_parts.specs.declared.faults.NodeFault.TheVariants.{Memory, Ports, Banks}

-- where a bank lies
abbrev pub range_of : BankConfig → ℕ × ℕ
range_of bank = (bank.base, bank.size)

-- the windows of a node with that address and those banks
abbrev pub windows_of : ℕ → List BankConfig → WindowsValue
windows_of address banks = record { node_address = address; banks = map range_of banks }

-- each port has its share of the next bank after those that it had
pub record AreDistributed (old : List (List ShareValue)) (shares : List ShareValue)
    (new : List (List ShareValue)) : Type 0 where
  pub count : length new ≡ length old
  pub by_port : (k : ℕ) → k < length old → slice_index_or new k [] ≡ slice_index_or old k []
      ++ slice_index_or shares k (first_share k) ∷ []

-- for each port, by its number, a first share of each of n banks
pub record ArePortShares (n ports : ℕ) (by_port : List (List ShareValue)) : Type 0 where
  pub count : length by_port ≡ ports
  pub shares : (k : ℕ) → k < ports → slice_index_or by_port k [] ≡ replicate n (first_share k)

-- the bank of that configuration, to which no command was applied
abbrev pub bank_of : ℕ → BankConfig → BankValue
bank_of ports bank = fresh_bank bank.base bank.size (record { entries = []; room = bank.room }) ports

-- the banks of a node
abbrev pub fresh_banks : NodeConfig → List BankValue
fresh_banks config = map (bank_of config.ports) config.banks.now

-- for each port of a node, by its number, a first share of each of its banks
abbrev pub AreSharesOf : NodeConfig → List (List ShareValue) → Type 0
AreSharesOf config by_port = ArePortShares (length config.banks.now) config.ports by_port

-- what was published of a node at first: the factory program
abbrev pub first_programs : AcceptedValue → List Publish
first_programs factory = entry 0 factory ∷ []

-- a staging at first: zero bytes, and a load result of zeros
abbrev pub first_staging : Staged
first_staging = staged (replicate STAGING_BYTES 0) (replicate 8 0)

-- What a port has of its node at first. It knows of the factory program. It has a seat at the cells of that name, for
-- the program's maps, of which nothing was asked.
abbrev pub first_pass : ℕ → List BankConfig → AcceptedValue → Gv → ℕ → PassValue
first_pass address banks factory home port = record {
  port = port;
  windows = windows_of address banks;
  programs = first_programs factory;
  seat = record { sizes = factory.sizes; home = home; asked = [] };
  shares = replicate (length banks) (first_share port);
  staging = first_staging;
}

-- what the ports of a node have of it at first, in order
abbrev pub first_passes : NodeConfig → AcceptedValue → Gv → List PassValue
first_passes config factory home =
    map (first_pass config.address config.banks.now factory home) (range_with_len 0 config.ports)

-- whether a bank is within its limits
abbrev pub is_within : BankConfig → Bool
is_within bank = is_bank_size bank.base bank.size bank.room

-- whether a node may have those banks: 1 to 8, each within its limits
abbrev pub are_within : List BankConfig → Bool
are_within banks = nat_le 1 (length banks) && nat_le (length banks) 8 && list_all is_within banks

-- the limit that a node's ports and banks pass, the ports' first
abbrev pub limit_fault : NodeConfig → Option NodeFault
limit_fault config =
    if not (is_ports config.ports) then Some Ports else if not (are_within config.banks.now) then Some Banks else None

-- why a node could not be made: a limit that was passed, else lack of memory
abbrev pub IsNodeFault : (limit : Option NodeFault) → NodeFault → Type 0
IsNodeFault (Some limit) fault = fault ≡ limit
IsNodeFault None fault = fault ≡ Memory
