-- A node that is made of its configuration: its banks begin with their contents, and programs are published before the first
-- packet.
use Rattle.std.specs.Prelude.{◌≡◌, ℕ, zero, suc, Bool, true, false, List, []}
use Rattle.std.specs.Prelude.{◌∷◌, length, slice_get, slice_index_or}
use Rattle.bver.specs.Justified.{AcceptedValue}
use Rattle.bank.specs.Records.{JournalValue}
use Rattle.node_parts.specs.declared.config.NodeConfig.{NodeConfig}
use Rattle.single_node.specs.Nodes.{covers_in}
use Rattle.job_config.specs.OwnNodes.{IsConfigOf, OwnNodeValue}
use Rattle.job_nodes.specs.JobNode.{IsFreshOf, JobNodeValue, SetsNodeBytes, first_address_of, with_node_publish}

-- ---- contents

-- the bytes are at the beginning of the bank of that number, if they fit in it
abbrev pub BeginsLine : (covers : Bool) → (number : ℕ) → (bytes : List ℕ) → (before after : JobNodeValue) → Type 0
BeginsLine true number bytes before after =
    (journal : JournalValue) × SetsNodeBytes number (first_address_of (slice_get before.banks number)) bytes before after journal
BeginsLine false number bytes before after = after ≡ before

-- the same, if there are bytes; no bytes change nothing
abbrev pub FillsOne : (number : ℕ) → (bytes : List ℕ) → (before after : JobNodeValue) → Type 0
FillsOne number [] before after = after ≡ before
FillsOne number (byte ∷ bytes) before after =
    BeginsLine (covers_in (slice_get before.banks number) (first_address_of (slice_get before.banks number)) (length (byte ∷ bytes)))
    number (byte ∷ bytes) before after

-- the first `count` banks begin with the bytes of their number, in turn
abbrev pub Fills : (contents : List (List ℕ)) → (count : ℕ) → (before after : JobNodeValue) → Type 0
Fills contents zero before after = after ≡ before
Fills contents (suc count) before after =
    (between : JobNodeValue) × Fills contents count before between
    × FillsOne count (slice_index_or contents count []) between after

-- ---- publishes

-- the node with those programs published in order after the others, each for its slot; all else is the same
abbrev pub with_publishes : JobNodeValue → List (ℕ × AcceptedValue) → JobNodeValue
with_publishes node [] = node
with_publishes node (publish ∷ publishes) = with_publishes (with_node_publish node publish.0 publish.1) publishes

-- ---- the whole

-- the banks of a fresh node of that configuration begin with their contents, and the program judges at each of its
-- ports
pub record AreBanksFilled (own : OwnNodeValue) (program : AcceptedValue) (node : JobNodeValue) : Type 0 where
  pub config : NodeConfig
  pub fresh : JobNodeValue
  pub is_config : IsConfigOf own config
  pub is_fresh : IsFreshOf config program fresh
  pub fills : Fills own.contents (length fresh.banks) fresh node

-- the node is that of the configuration: its banks begin with their contents, and the program is in all slots. After
-- that its programs were published in order
pub record IsNodeOf (own : OwnNodeValue) (program : AcceptedValue) (node : JobNodeValue) : Type 0 where
  pub first : JobNodeValue
  pub filled : AreBanksFilled own program first
  pub published : node ≡ with_publishes first own.publishes
