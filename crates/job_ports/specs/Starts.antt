-- What is done at a node of threads before its first packet: programs are published, and its banks begin with their contents.
use Rattle.std.specs.Prelude.{◌≡◌, ℕ, zero, suc, List, [], ◌∷◌, length, slice_index_or}
use base.Stored.{Gv}
use Rattle.annals.specs.declared.deed.Act.TheVariants.{Sets}
use Rattle.annals.specs.declared.deed.Deed.TheVariants.{Does}
use Rattle.annals.specs.declared.deed.HistoryEntry.{HistoryEntry}
use Rattle.annals.specs.Chains.{IsLastDeed}
use Rattle.bver.specs.Justified.{AcceptedValue}
use Rattle.node_parts.specs.declared.config.BankConfig.{BankConfig}
use Rattle.node_parts.specs.declared.config.NodeConfig.{NodeConfig}
use Rattle.ports.specs.Due.{Standing, stand}
use Rattle.target.specs.Nodes.{informed_pass}
use Rattle.job_config.specs.OwnNodes.{IsConfigOf, OwnNodeValue}

-- ---- contents

-- somebody who knew this of the history put bytes at an address of the bank of that number, as its instrument. That is
-- the last that he knows then
abbrev pub SetsBank : (number address : ℕ) → (bytes : List ℕ) → (known reached : List HistoryEntry) → Type 0
SetsBank number address bytes known reached = IsLastDeed number known reached (Does (Sets (address, bytes)))

-- the same, if there are bytes; no bytes change nothing
abbrev pub SetsFirst : (number address : ℕ) → (bytes : List ℕ) → (known reached : List HistoryEntry) → Type 0
SetsFirst number address [] known reached = reached ≡ known
SetsFirst number address (byte ∷ bytes) known reached = SetsBank number address (byte ∷ bytes) known reached

-- the base of the bank of that number
abbrev pub base_in : List BankConfig → (number : ℕ) → ℕ
base_in [] number = 0
base_in (bank ∷ banks) zero = bank.base
base_in (bank ∷ banks) (suc number) = base_in banks number

-- the first `count` banks begin with the bytes of their number, in turn
abbrev pub SetsAll : List BankConfig → (contents : List (List ℕ)) → (count : ℕ) → (known reached : List HistoryEntry) → Type 0
SetsAll banks contents zero known reached = reached ≡ known
SetsAll banks contents (suc count) known reached =
    (between : List HistoryEntry) × SetsAll banks contents count known between
    × SetsFirst count (base_in banks count) (slice_index_or contents count []) between reached

-- ---- the whole

-- what a port has at a node of that configuration before the first packet, and knows of its history. The program judges
-- there, and after it those that were published
abbrev pub first_standing : NodeConfig → AcceptedValue → List (ℕ × AcceptedValue) → (home : Gv) → (known : List HistoryEntry) → (port : ℕ)
    → Standing
first_standing config program publishes home known port =
    stand (informed_pass config program publishes home port) [] known

-- what each port of the node of the configuration has before the first packet, with that program in all slots at first.
-- It knows what was published after that, and that the banks begin with their contents. Its staging and its cells are
-- fresh
pub record AreStarts (own : OwnNodeValue) (program : AcceptedValue) (starts : ℕ → Standing) : Type 0 where
  pub config : NodeConfig
  pub home : Gv
  pub known : List HistoryEntry
  pub is_config : IsConfigOf own config
  pub sets : SetsAll own.banks own.contents (length own.banks) [] known
  pub each : (port : ℕ) → starts port ≡ first_standing config program own.publishes home known port
