-- The words of the job `packet`.
use Rattle.std.specs.Prelude.{◌≡◌, List, codes}
use Rattle.clap.specs.Walk.{Row}
use Rattle.clap.specs.Simple.{App, new_app, with_rule}
use Rattle.job_parts.specs.Arguments.{file_rule, flag_rule, is_flag_set, option_rule, optional_rule}
use Rattle.job_packets.specs.HexWords.{Has}
use Rattle.job_packets.specs.Orders.{NamesOrder}
use Rattle.job_packets.specs.PacketOptions.{GivesHeader, with_field_options}
use Rattle.job_packets.specs.declared.packet.PacketWords.{PacketWords}
use Rattle.job_parts.specs.declared.usage.UsageFault.{UsageFault}
use Rattle.job_parts.specs.declared.usage.UsageFault.TheVariants.{Parse, BadOption, Memory}

-- a subcommand with what is made and at which address: `KIND ADDRESS [DATA] [MASK]`
abbrev pub with_order_words : App → App
with_order_words app =
    with_rule (with_rule (with_rule (with_rule app (file_rule (codes "kind"))) (file_rule (codes "address")))
    (optional_rule (codes "data"))) (optional_rule (codes "mask"))

-- a subcommand with the options of what is made: `[--slot LIST] [--verify] [--no-reply] [--no-increment] [--final]`
abbrev pub with_order_options : App → App
with_order_options app =
    with_rule (with_rule (with_rule (with_rule (with_rule app (option_rule (codes "slot"))) (flag_rule (codes "verify")))
    (flag_rule (codes "no-reply"))) (flag_rule (codes "no-increment"))) (flag_rule (codes "final"))

-- `packet KIND ADDRESS [DATA] [MASK] [OPTIONS]`
abbrev pub packet_app : App
packet_app =
    with_field_options (with_order_options
    (with_rule (with_order_words (new_app (codes "packet"))) (option_rule (codes "port"))))

-- the words are those of packet with these matches
abbrev pub NamesPacket : List Row → PacketWords → Type 0
NamesPacket rows words =
    GivesHeader rows words.header × NamesOrder rows words.order × (words.is_final ≡ is_flag_set (codes "final") rows)

-- matches that no words of packet have
abbrev pub SpoilsPacket : List Row → Type 0
SpoilsPacket rows = ¬ Has (NamesPacket rows)

-- such matches, or memory was refused
abbrev pub RefusesPacket : List Row → UsageFault → Type 0
RefusesPacket rows Memory = Unit {0}
RefusesPacket rows BadOption = SpoilsPacket rows
RefusesPacket rows (Parse text) = ⊥
