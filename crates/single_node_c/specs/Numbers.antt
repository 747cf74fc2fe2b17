-- The numbers of what a call reports.
use Rattle.std.specs.Prelude.{ℕ, ◌==◌, if◌then◌else◌, length, List, map, Option, Some, None}
use Rattle.bank.specs.Records.{EntryValue}
use Rattle.machine.specs.Sizes.{Maps, listed_maps}
use Rattle.machine.specs.declared.kinds.MapKind.{MapKind}
use Rattle.machine.specs.declared.kinds.MapKind.TheVariants.{Counter, Peak}
use Rattle.rmap.specs.Codes.{discard_code, status_code}
use Rattle.scrub.specs.declared.answer.ServedAnswer.{ServedAnswer}
use Rattle.single_node_c.specs.Finding.{found_number, found_slot}
use Rattle.single_node_c.specs.declared.numbers.BankNumbers.{BankNumbers}
use Rattle.single_node_c.specs.declared.numbers.EntryNumbers.{EntryNumbers}
use Rattle.single_node_c.specs.declared.numbers.MapNumbers.{MapNumbers}
use Rattle.single_node_c.specs.declared.numbers.ServedNumbers.{ServedNumbers}
use Rattle.single_node_c.specs.declared.numbers.TheConstants.{ANSWERED, AT_BANK, AT_WINDOW, DISCARDED, JUDGED}
use Rattle.single_node_c.specs.declared.numbers.TheConstants.{NOWHERE}
use Rattle.single_node_c.specs.declared.parts.ServedParts.{ServedParts}
use Rattle.spw.specs.declared.packets.End.{End}
use Rattle.spw.specs.declared.packets.End.TheVariants.{Eop, Eep}
use Rattle.node_parts.specs.declared.config.BankConfig.{BankConfig}
use Rattle.node_parts.specs.declared.served.Served.{Served}
use Rattle.node_parts.specs.declared.served.Served.TheVariants.{Stopped, Unread, Done, Window}
use Rattle.node_parts.specs.declared.stop.Stop.{Stop}
use Rattle.node_parts.specs.declared.stop.Stop.TheVariants.{Discarded, Answered}

-- the kind of a packet that its header stops
abbrev pub kind_of_stop : Stop → ℕ
kind_of_stop (Discarded discard) = DISCARDED
kind_of_stop (Answered status) = ANSWERED

-- The kind of what became of a packet. One that is left unread is answered: its slot is withdrawn.
abbrev pub served_kind_of : Served → ℕ
served_kind_of (Stopped stop) = kind_of_stop stop
served_kind_of Unread = ANSWERED
served_kind_of (Done applied) = JUDGED
served_kind_of (Window status) = JUDGED

-- the number of a discard, or the status of a reply to a packet that its header stops
abbrev pub status_of_stop : Stop → ℕ
status_of_stop (Discarded discard) = discard_code discard
status_of_stop (Answered status) = status_code status

-- The number of a discard, or the status of a reply. That of a packet that is left unread is a general error.
abbrev pub served_status_of : Served → ℕ
served_status_of (Stopped stop) = status_of_stop stop
served_status_of Unread = 1
served_status_of (Done applied) = status_code applied.status
served_status_of (Window status) = status_code status

-- where a packet's command ended: at its bank, in the boot window, or nowhere if no program judged it
abbrev pub served_place_of : Served → ℕ
served_place_of (Stopped stop) = NOWHERE
served_place_of Unread = NOWHERE
served_place_of (Done applied) = AT_BANK
served_place_of (Window status) = AT_WINDOW

-- The numbers of what became of a packet that asks for these parts. Its bank's journal then has that much room left,
-- and its reply has that many bytes.
abbrev pub served_numbers : ServedAnswer → ServedParts → (room reply_length : ℕ) → ServedNumbers
served_numbers answer parts room reply_length = record {
  verdict = answer.reported.verdict;
  generation = answer.reported.generation;
  reply_length = reply_length;
  address = parts.address;
  length = parts.length;
  room = room;
  kind = served_kind_of answer.reported.served;
  status = served_status_of answer.reported.served;
  command = parts.command;
  place = served_place_of answer.reported.served;
  extended = parts.extended;
  found = found_number answer.found;
  found_slot = found_slot answer.found;
  unused = 0;
  unused_word = 0;
}

-- the number of an end
abbrev pub end_code : End → ℕ
end_code Eop = 0
end_code Eep = 1

-- the end of a number, if it is the number of one
abbrev pub end_of_number : ℕ → Option End
end_of_number number = if number == 0 then Some Eop else if number == 1 then Some Eep else None

-- the numbers of an entry
abbrev pub entry_numbers : EntryValue → EntryNumbers
entry_numbers entry = record {
  number = entry.number;
  verdict = entry.verdict;
  generation = entry.generation;
  packet_length = length entry.packet.bytes;
  port = entry.port;
  status = status_code entry.status;
  end = end_code entry.packet.end;
  unused = 0;
  unused_word = 0;
}

-- the bank of these numbers
abbrev pub bank_of_numbers : BankNumbers → BankConfig
bank_of_numbers bank = record { base = bank.base; size = bank.size; room = bank.room }

-- what the cells of a map with that number are for: 0 counts, any other number is a peak
abbrev pub map_kind_of_number : ℕ → MapKind
map_kind_of_number peak = if peak == 0 then Counter else Peak

-- the map of these numbers
abbrev pub map_of_numbers : MapNumbers → ℕ × MapKind
map_of_numbers m = (m.cells, map_kind_of_number m.peak)

-- the maps of these numbers
abbrev pub maps_of : List MapNumbers → Maps
maps_of numbers = listed_maps (map map_of_numbers numbers)
