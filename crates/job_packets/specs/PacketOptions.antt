-- The options of the job `packet`: the port, and the fields of a header that have a default.
use Rattle.std.specs.Prelude.{◌≡◌, ◌≤◌, ◌-◌, ◌%◌, ◌++◌, ℕ, List, [], Option, Some, None, codes, length, replicate}
use Rattle.clap.specs.Walk.{Row, first_of}
use Rattle.clap.specs.Simple.{App, with_rule}
use Rattle.spw.specs.Line.{WritesPort}
use Rattle.job_parts.specs.Arguments.{option_rule}
use Rattle.job_packets.specs.HexWords.{WritesBytes, WritesHexWord}
use Rattle.job_packets.specs.declared.packet_options.HeaderWords.{HeaderWords}

-- a subcommand with the options of a packet's fields
abbrev pub with_field_options : App → App
with_field_options app =
    with_rule (with_rule (with_rule (with_rule (with_rule (with_rule app (option_rule (codes "target")))
    (option_rule (codes "key"))) (option_rule (codes "initiator"))) (option_rule (codes "transaction")))
    (option_rule (codes "extended"))) (option_rule (codes "reply-address"))

-- the number is what the option's value writes in at most `most` hexadecimal digits; without the option it is this one
abbrev pub GivesHex : (most default : ℕ) → Option (List ℕ) → ℕ → Type 0
GivesHex most default None n = n ≡ default
GivesHex most default (Some word) n = WritesHexWord most word n

-- the port is what the option's value writes; without the option it is 0
abbrev pub GivesPort : Option (List ℕ) → ℕ → Type 0
GivesPort None port = port ≡ 0
GivesPort (Some word) port = WritesPort word port

-- how many zeros a reply address of this many bytes has in front: as many as it lacks to 0, 4, 8 or 12 bytes
-- (ECSS-E-ST-50-52C, reply address field)
abbrev pub zeros_before : ℕ → ℕ
zeros_before count = (4 - count % 4) % 4

-- the bytes of a reply address, with its zeros in front
abbrev pub padded_address : List ℕ → List ℕ
padded_address bytes = replicate (zeros_before (length bytes)) 0 ++ bytes

-- the reply address is that of the bytes that the word writes, at most 12
pub record PadsAddress (word bytes : List ℕ) : Type 0 where
  pub written : List ℕ
  pub writes : WritesBytes word written
  pub few : length written ≤ 12
  pub is : bytes ≡ padded_address written

-- the reply address is what the option's value writes; without the option there is none
abbrev pub GivesAddress : Option (List ℕ) → List ℕ → Type 0
GivesAddress None bytes = bytes ≡ []
GivesAddress (Some word) bytes = PadsAddress word bytes

-- the words of a header are those of the options, each with its default
pub record GivesHeader (rows : List Row) (header : HeaderWords) : Type 0 where
  pub port : GivesPort (first_of (codes "port") rows) header.port
  pub target : GivesHex 2 254 (first_of (codes "target") rows) header.target
  pub key : GivesHex 2 0 (first_of (codes "key") rows) header.key
  pub initiator : GivesHex 2 103 (first_of (codes "initiator") rows) header.initiator
  pub transaction : GivesHex 4 0 (first_of (codes "transaction") rows) header.transaction
  pub extended : GivesHex 2 0 (first_of (codes "extended") rows) header.extended
  pub reply_address : GivesAddress (first_of (codes "reply-address") rows) header.reply_address.items
