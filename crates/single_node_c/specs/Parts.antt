-- What a packet asks for, in numbers.
use Rattle.std.specs.Prelude.{ℕ, Option, Some, None}
use Rattle.node_parts.specs.declared.served.Served.{Served}
use Rattle.node_parts.specs.declared.served.Served.TheVariants.{Stopped, Unread, Done, Window}
use Rattle.node_parts.specs.declared.stop.Stop.{Stop}
use Rattle.node_parts.specs.declared.stop.Stop.TheVariants.{Discarded, Answered}
use Rattle.rmap.specs.Command.{CommandValue, address_of, command_kind, command_of, discard_of, extended_of, length_of}
use Rattle.rmap.specs.declared.discard.Discard.{Discard}
use Rattle.rmap.specs.declared.kind.Kind.{Kind}
use Rattle.rmap.specs.declared.kind.Kind.TheVariants.{Read, Write, Rmw, Unused}
use Rattle.single_node_c.specs.declared.parts.ServedParts.{ServedParts}
use Rattle.single_node_c.specs.declared.parts.TheConstants.{NO_COMMAND, READ, WRITE, RMW}
use Rattle.spw.specs.Cargo.{Cargo}

-- The number of a kind of command. An unused command code is none.
abbrev pub command_number : Kind → ℕ
command_number Unused = NO_COMMAND
command_number Read = READ
command_number Write = WRITE
command_number Rmw = RMW

-- what a command asks for: its kind, and the fields of its header that say where and how much
abbrev pub command_parts_of : CommandValue → ServedParts
command_parts_of c = record {
  command = command_number (command_kind c);
  extended = extended_of c;
  address = address_of c;
  length = length_of c;
}

-- the parts if there is no command
abbrev pub no_parts : ServedParts
no_parts = record { command = NO_COMMAND; extended = 0; address = 0; length = 0 }

-- why the header of a packet stopped it without a reply, if it did
abbrev pub discard_in_stop : Stop → Option Discard
discard_in_stop (Discarded discard) = Some discard
discard_in_stop (Answered status) = None

-- why a packet was discarded, by what became of it, if it was
abbrev pub discard_in : Served → Option Discard
discard_in (Stopped stop) = discard_in_stop stop
discard_in Unread = None
discard_in (Done applied) = None
discard_in (Window status) = None

-- what a packet asks for, by why it is no command, if it is none
abbrev pub parts_unless : Option Discard → CommandValue → ServedParts
parts_unless None c = command_parts_of c
parts_unless (Some discard) c = no_parts

-- what a packet asks for: the parts of its command, or zeros if it is none
abbrev pub served_parts : Cargo → ServedParts
served_parts p = parts_unless (discard_of p.bytes) (command_of p)
