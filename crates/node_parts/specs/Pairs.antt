-- Banks and what ports have of them, as they are made together and as packets leave them.
use Rattle.std.specs.Prelude.{◌≡◌, ◌≢◌, ℕ, true, List, map, length, slice_get, slice_set, Some}
use Rattle.std.specs.List.{range_with_len}
use Rattle.rmap.specs.declared.places.Place.TheVariants.{Bank}
use Rattle.bver.specs.Justified.{AcceptedValue}
use base.Stored.{Gv}
use Rattle.bank.specs.Admission.{IsPlacedBy}
use Rattle.bank.specs.Records.{BankValue, ShareValue, JudgedValue, extent_of, is_next, fits, after_command, next_share}
use Rattle.node_parts.specs.declared.config.BankConfig.{BankConfig}
use Rattle.node_parts.specs.Passes.{PassValue}
use Rattle.node_parts.specs.Nodes.{bank_of, first_pass}
use Rattle.node_parts.specs.Applied.{share_of, with_share}

-- the share is that port's, and its number is the bank's count of the port
abbrev pub IsShareOf : BankValue → ℕ → ShareValue → Type 0
IsShareOf b port share = (share.port ≡ port) × (is_next b share ≡ true)

-- the port's windows are the extents of the banks, and it has its share of each
pub record IsPaired (banks : List BankValue) (h : PassValue) : Type 0 where
  pub count : length h.shares ≡ length banks
  pub windows : h.windows.banks ≡ map extent_of banks
  pub shares : (k : ℕ) (b : BankValue) → slice_get banks k ≡ Some b → IsShareOf b h.port (share_of h (Bank k))

-- the banks and the passes of all ports: each port is paired, and the passes are in order
pub record ArePaired (banks : List BankValue) (passes : List PassValue) : Type 0 where
  pub each : (k : ℕ) (h : PassValue) → slice_get passes k ≡ Some h → IsPaired banks h
  pub ports : (k : ℕ) (h : PassValue) → slice_get passes k ≡ Some h → h.port ≡ k

-- the banks and the passes of all ports are paired as they are made
abbrev pub MadeArePaired : Type 0
MadeArePaired =
    (address ports : ℕ) (banks : List BankConfig) (program : AcceptedValue) (home : Gv)
    → ArePaired (map (bank_of ports) banks) (map (first_pass address banks program home) (range_with_len 0 ports))

-- If banks and a port are paired, a judged command of the port fits the bank of its place. That place must be the one
-- of its bytes under the port's windows.
abbrev pub PairedCommandsFit : Type 0
PairedCommandsFit =
    (banks : List BankValue) (h : PassValue) (k : ℕ) (j : JudgedValue) (b : BankValue)
    → IsPaired banks h → j.port ≡ h.port → IsPlacedBy h.windows j.packet j.place
    → j.place ≡ Bank k → slice_get banks k ≡ Some b → fits b (share_of h j.place) j ≡ true

-- a command that is applied with the port's share leaves the port paired
abbrev pub OwnStaysPaired : Type 0
OwnStaysPaired =
    (banks : List BankValue) (h : PassValue) (k : ℕ) (j : JudgedValue) (b : BankValue)
    → IsPaired banks h → j.port ≡ h.port → j.place ≡ Bank k → slice_get banks k ≡ Some b
    → IsPaired (slice_set banks k (after_command b (share_of h j.place) j))
    (with_share h j.place (next_share b (share_of h j.place) j))

-- a command of another port leaves the port paired
abbrev pub OthersStayPaired : Type 0
OthersStayPaired =
    (banks : List BankValue) (h : PassValue) (k : ℕ) (share : ShareValue) (j : JudgedValue) (b : BankValue)
    → IsPaired banks h → h.port ≢ j.port → slice_get banks k ≡ Some b
    → IsPaired (slice_set banks k (after_command b share j)) h
