-- Who loads: the port, the initiator and the key of the packets of a load.
use Rattle.std.specs.Prelude.{◌≡◌, ◌&&◌, ◌||◌, ℕ, Bool, false, true, is_some, List, [], ◌∷◌, ◌++◌, Option, Some, None, codes, decimal}
use Rattle.clap.specs.Walk.{Row, Text, first_of}
use Rattle.hex.specs.Hex.{encode_upper}
use Rattle.job_config.specs.declared.own_node.TheConstants.{NODE_ADDRESS}
use Rattle.job_packets.specs.PacketOptions.{GivesHeader, GivesHex, GivesPort}
use Rattle.job_packets.specs.declared.packet_options.HeaderWords.{HeaderWords}
use Rattle.job_parts.specs.Arguments.{is_flag_set}
use Rattle.job_rehearse.specs.declared.loaders.LoadSender.{LoadSender}
use Rattle.job_rehearse.specs.declared.loaders.Loaders.{Loaders}
use Rattle.job_rehearse.specs.declared.loaders.Loaders.TheVariants.{Any, One}

-- the option has a value
abbrev pub has_value : Text → List Row → Bool
has_value name rows = is_some (first_of name rows)

-- an option names who loads
abbrev pub names_loader : List Row → Bool
names_loader rows = has_value (codes "port") rows || has_value (codes "initiator") rows || has_value (codes "key") rows

-- `--any` is there, and with it an option of loads that are done
abbrev pub is_any_beside : List Row → Bool
is_any_beside rows = is_flag_set (codes "any") rows && (names_loader rows || has_value (codes "slot") rows)

-- who loads by the options; without them port 0, initiator 67 (103) and key 00. The node is FE
pub record GivesLoader (rows : List Row) (loader : LoadSender) : Type 0 where
  pub port : GivesPort (first_of (codes "port") rows) loader.port
  pub initiator : GivesHex 2 103 (first_of (codes "initiator") rows) loader.initiator
  pub key : GivesHex 2 0 (first_of (codes "key") rows) loader.key
  pub target : loader.target ≡ NODE_ADDRESS

-- one who is named by the options, or nobody if none of them is there
abbrev pub GivesNamed : List Row → Option LoadSender → Type 0
GivesNamed rows None = names_loader rows ≡ false
GivesNamed rows (Some loader) = (names_loader rows ≡ true) × GivesLoader rows loader

-- whose loads are rehearsed by the options
abbrev pub GivesLoaders : List Row → Loaders → Type 0
GivesLoaders rows (One named) = (is_flag_set (codes "any") rows ≡ false) × GivesNamed rows named
GivesLoaders rows Any = (is_flag_set (codes "any") rows ≡ true) × (is_any_beside rows ≡ false)

-- who loads: the one that is named, or port 0, initiator 67 and key 00
abbrev pub loader_in : Option LoadSender → LoadSender
loader_in None = record { port = 0; initiator = 103; key = 0; target = NODE_ADDRESS }
loader_in (Some loader) = loader

-- how many ports the node has: 32 if someone is named to load, or else one
abbrev pub ports_in : Option LoadSender → ℕ
ports_in None = 1
ports_in (Some loader) = 32

-- what the last line says of a port, and of an initiator and a key that are written so
abbrev pub named_words : (port : ℕ) → (initiator key : List ℕ) → List ℕ
named_words port initiator key =
    codes " (port " ++ decimal port ++ codes " initiator " ++ initiator ++ codes " key " ++ key ++ codes ")"

-- what it says of a loader
abbrev pub named_text : LoadSender → List ℕ
named_text loader = named_words loader.port (encode_upper (loader.initiator ∷ [])) (encode_upper (loader.key ∷ []))

-- what it says of who loads: the one that is named, or port 0, initiator 67 and key 00
abbrev pub loader_text : Option LoadSender → List ℕ
loader_text named = named_text (loader_in named)

-- the words of a header are those of the loader. Except for its port, initiator, key and target they are those that
-- `packet` has without an option
pub record IsHeaderOf (loader : LoadSender) (header : HeaderWords) : Type 0 where
  pub port : header.port ≡ loader.port
  pub initiator : header.initiator ≡ loader.initiator
  pub key : header.key ≡ loader.key
  pub target : header.target ≡ loader.target
  pub plain : GivesHeader [] (record header { port = 0; initiator = 103; key = 0; target = 254 })
