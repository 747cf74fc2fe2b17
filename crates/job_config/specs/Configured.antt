-- The configuration that a table says, and the first fault of one that says none.
use Rattle.std.specs.Prelude.{◌≡◌, ◌⊎◌, ◌+◌, ◌-◌, ◌^◌, ℕ, suc, List, [], ◌∷◌, ◌++◌, codes, length, map, sum, min, nat_le, Bool, true, false, ◌&&◌, if◌then◌else◌, Option, None, Some, Result, Ok, Err}
use Rattle.bank.specs.declared.bank.TheConstants.{MAX_SIZE}
use Rattle.bank.specs.declared.journal.TheConstants.{MAX_ROOM}
use Rattle.machine.specs.Sizes.{Maps, listed_maps}
use Rattle.machine.specs.declared.kinds.MapKind.{MapKind}
use Rattle.machine.specs.declared.kinds.MapKind.TheVariants.{Counter, Peak}
use Rattle.node_parts.specs.declared.config.BankConfig.{BankConfig}
use Rattle.toml.specs.Data.{Data, Items, no_items, item, Members, no_members, member, as_array, as_bool, as_table, get_member}
use Rattle.job_config.specs.Faults.{◌>>=◌, IsFaultOf}
use Rattle.job_config.specs.Numbers.{number_at_key, number_or}
use Rattle.job_config.specs.OwnNodes.{own_bank}
use Rattle.job_config.specs.Places.{kind_key, knows, place}
use Rattle.job_config.specs.declared.configuration.Configuration.{Configuration}
use Rattle.job_config.specs.declared.faults.ConfigFault.{ConfigFault}
use Rattle.job_config.specs.declared.faults.ConfigFault.TheVariants.{BadCount, BadPeak, Memory, NoList, NoTable, UnknownKey}
use Rattle.job_config.specs.declared.own_node.TheConstants.{NODE_ADDRESS}
use Rattle.job_config.specs.declared.places.TableKind.{TableKind}
use Rattle.job_config.specs.declared.places.TableKind.TheVariants.{Node, Bank, Map, Publish}
use Rattle.job_config.specs.declared.places.NumberKey.TheVariants.{Address, Ports, Base, Size, Journal, Cells}
use Rattle.job_config.specs.declared.places.TablePlace.{TablePlace}

-- ---- tables, and their keys

-- the place of the node's own table
abbrev pub own_place : TablePlace
own_place = place Node 0

-- the first fault of two
abbrev pub first_config_fault : Option ConfigFault → Option ConfigFault → Option ConfigFault
first_config_fault None next = next
first_config_fault (Some fault) next = Some fault

-- memory was refused, or this is the fault that was found
abbrev pub IsKeyFault : Option ConfigFault → ConfigFault → Type 0
IsKeyFault found fault = (fault ≡ Memory) ⊎ (found ≡ Some fault)

-- the first key of a table that none of the kind may have
abbrev pub unknown_key : TableKind → Members → Option (List ℕ)
unknown_key kind no_members = None
unknown_key kind (member key value members) = if knows kind key then unknown_key kind members else Some key

-- the fault of a key that is unknown
abbrev pub unknown : TablePlace → Option (List ℕ) → Option ConfigFault
unknown at None = None
unknown at (Some key) = Some (UnknownKey at key)

-- the same of a value, if it is a table
abbrev pub unknown_in : TablePlace → Option Members → Option ConfigFault
unknown_in at None = None
unknown_in at (Some table) = unknown at (unknown_key at.kind table)

-- the same of the tables of a list, after `before` others
abbrev pub unknown_among : TableKind → (before : ℕ) → Items → Option ConfigFault
unknown_among kind before no_items = None
unknown_among kind before (item value items) =
    first_config_fault (unknown_in (place kind before) (as_table value)) (unknown_among kind (before + 1) items)

-- the list that a value is, if there is one
abbrev pub array_in : Option Data → Option Items
array_in None = None
array_in (Some value) = as_array value

-- the same of a list, if there is one
abbrev pub unknown_listed : TableKind → Option Items → Option ConfigFault
unknown_listed kind None = None
unknown_listed kind (Some items) = unknown_among kind 0 items

-- the same of the tables of a kind
abbrev pub unknown_of_kind : Members → TableKind → Option ConfigFault
unknown_of_kind table kind = unknown_listed kind (array_in (get_member (kind_key kind) table))

-- the first key that is unknown: of the node's own table, then of banks, maps and publishes
abbrev pub unknown_at_all : Members → Option ConfigFault
unknown_at_all table =
    first_config_fault (unknown own_place (unknown_key Node table)) (first_config_fault (unknown_of_kind table Bank)
    (first_config_fault (unknown_of_kind table Map) (unknown_of_kind table Publish)))

-- the list of tables that a value is
abbrev pub list_of : TableKind → Option Items → Result (Option Items) ConfigFault
list_of kind None = Err (NoList kind)
list_of kind (Some items) = Ok (Some items)

-- the list of tables at a key, if something is there
abbrev pub list_in : TableKind → Option Data → Result (Option Items) ConfigFault
list_in kind None = Ok None
list_in kind (Some value) = list_of kind (as_array value)

-- the list of the tables of a kind, if the file has one
abbrev pub list_at : Members → TableKind → Result (Option Items) ConfigFault
list_at table kind = list_in kind (get_member (kind_key kind) table)

-- the table that a value is
abbrev pub table_of : TablePlace → Option Members → Result Members ConfigFault
table_of at None = Err (NoTable at)
table_of at (Some table) = Ok table

-- the same
abbrev pub table_in : Data → TablePlace → Result Members ConfigFault
table_in value at = table_of at (as_table value)

-- what is read of the items of a list, each by those that were read before it; the first fault ends it
abbrev pub each : {A : Type 0} → (List A → Data → Result A ConfigFault) → List A → Items → Result (List A) ConfigFault
each one done no_items = Ok done
each one done (item value items) = one done value >>= (λ read. each one (done ++ read ∷ []) items)

-- how many items there are
abbrev pub count : Items → ℕ
count no_items = 0
count (item value items) = suc (count items)

-- ---- banks

-- the greatest size of a bank at an address
abbrev pub greatest_size : (base : ℕ) → ℕ
greatest_size base = min MAX_SIZE (2 ^ 32 - base)

-- the bank of a table: a base of 32 bits, a size with which no byte is past the last address, the room of a journal
unfoldable pub bank_in : (number : ℕ) → Data → Result BankConfig ConfigFault
bank_in number value =
    table_in value (place Bank number) >>= (λ table.
    number_at_key table (place Bank number) Base 0 4294967295 >>= (λ base.
    number_at_key table (place Bank number) Size 1 (greatest_size base) >>= (λ size.
    number_at_key table (place Bank number) Journal 1 MAX_ROOM >>= (λ room.
    Ok (record { base = base; size = size; room = room })))))

-- the bank that comes after those
abbrev pub next_bank : List BankConfig → Data → Result BankConfig ConfigFault
next_bank banks value = bank_in (length banks) value

-- the banks of a list of 1 to 8 tables; without a list the one of 65,536 bytes at A0000000
abbrev pub banks_in : Option Items → Result (List BankConfig) ConfigFault
banks_in None = Ok (own_bank ∷ [])
banks_in (Some items) =
    if nat_le 1 (count items) && nat_le (count items) 8 then each next_bank [] items
    else Err (BadCount Bank (count items))

-- the banks of a file
unfoldable pub banks_at : Members → Result (List BankConfig) ConfigFault
banks_at table = list_at table Bank >>= banks_in

-- ---- maps

-- the kind of a map by what is at its key `peak`
abbrev pub configured_kind_of : TablePlace → Option Bool → Result MapKind ConfigFault
configured_kind_of at None = Err (BadPeak at)
configured_kind_of at (Some true) = Ok Peak
configured_kind_of at (Some false) = Ok Counter

-- the same; it counts if nothing is there
abbrev pub kind_in_file : TablePlace → Option Data → Result MapKind ConfigFault
kind_in_file at None = Ok Counter
kind_in_file at (Some value) = configured_kind_of at (as_bool value)

-- how many cells are left after those maps
abbrev pub cells_left : List (ℕ × MapKind) → ℕ
cells_left maps = 256 - sum (map (λ m. m.0) maps)

-- the map of a table, of a cell at least and of no more than are left
unfoldable pub map_in : (number left : ℕ) → Data → Result (ℕ × MapKind) ConfigFault
map_in number left value =
    table_in value (place Map number) >>= (λ table.
    number_at_key table (place Map number) Cells 1 left >>= (λ cells.
    kind_in_file (place Map number) (get_member (codes "peak") table) >>= (λ kind.
    Ok (cells, kind))))

-- the map that comes after those
abbrev pub next_map : List (ℕ × MapKind) → Data → Result (ℕ × MapKind) ConfigFault
next_map maps value = map_in (length maps) (cells_left maps) value

-- the maps of a list of at most 8 tables
abbrev pub maps_in : Items → Result (List (ℕ × MapKind)) ConfigFault
maps_in items = if nat_le (count items) 8 then each next_map [] items else Err (BadCount Map (count items))

-- the items of a list; none if there is no list
abbrev pub items_in : Option Items → Items
items_in None = no_items
items_in (Some items) = items

-- the maps of a file
unfoldable pub maps_at : Members → Result Maps ConfigFault
maps_at table =
    list_at table Map >>= (λ list. maps_in (items_in list) >>= (λ maps. Ok (listed_maps maps)))

-- ---- the whole

-- what a node's file says in numbers: its logical address, how many ports it has, its banks and its maps
pub record ConfigurationValue : Type 0 where
  pub address : ℕ
  pub ports : ℕ
  pub banks : List BankConfig
  pub sizes : Maps

-- what the text of a node's file says in numbers
abbrev pub numbers_in : Configuration → ConfigurationValue
numbers_in c = record { address = c.address; ports = c.ports; banks = c.banks.items; sizes = c.sizes }

-- the configuration unless a key is unknown
abbrev pub unless_unknown : Option ConfigFault → Result ConfigurationValue ConfigFault → Result ConfigurationValue ConfigFault
unless_unknown None reading = reading
unless_unknown (Some fault) reading = Err fault

-- the address, the ports, the banks and the maps of a table, in this order
unfoldable pub node_numbers_at : Members → Result ConfigurationValue ConfigFault
node_numbers_at table =
    number_or table own_place Address 32 254 NODE_ADDRESS >>= (λ address.
    number_or table own_place Ports 1 32 1 >>= (λ ports.
    banks_at table >>= (λ banks.
    maps_at table >>= (λ sizes.
    Ok (record { address = address; ports = ports; banks = banks; sizes = sizes })))))

-- the configuration of a table, or its first fault: a key that is unknown, then those of address, ports, banks and maps
abbrev pub configuration_at : Members → Result ConfigurationValue ConfigFault
configuration_at table = unless_unknown (unknown_at_all table) (node_numbers_at table)

-- the table says this configuration
abbrev pub IsConfiguration : Members → Configuration → Type 0
IsConfiguration table configuration = configuration_at table ≡ Ok (numbers_in configuration)

-- the table says none, and this is its first fault; or memory was refused
abbrev pub IsBadConfiguration : Members → ConfigFault → Type 0
IsBadConfiguration table fault = IsFaultOf (configuration_at table) fault
