-- Event lines: what a line of a schedule writes, and which fault it has.
use Rattle.std.specs.Prelude.{◌≡◌, ◌⊎◌, ◌<◌, ◌≤◌, ℕ, List, [], ◌∷◌, codes, length}
use Rattle.spw.specs.Line.{HasFault, HasPort, IsPacketLine, IsPort, WritesPort, marker_word, words_of}
use Rattle.spw.specs.declared.faults.LineFault.{LineFault}
use Rattle.spw.specs.declared.faults.LineFault.TheVariants.{NoPort, BadHex, BadMarker, TooLong, Memory}
use Rattle.spw.specs.declared.packets.TheConstants.{MAX_PACKET}
use Rattle.sched.specs.History.{port_of}
use Rattle.sched.specs.declared.event.Event.{Event}
use Rattle.sched.specs.declared.event.Event.TheVariants.{Take, Count, Ticket, Peak, Effect, Publish}
use Rattle.job_parts.specs.declared.bad_lines.BadLine.{BadLine}
use Rattle.job_parts.specs.declared.bad_lines.BadLine.TheVariants.{Line, NoPort as NoSuchPort, NoEvent, NoRoom}

-- the first word of the line is this one, and the words of the text come after it
abbrev pub BeginsLine : (word line text : List ℕ) → Type 0
BeginsLine word line text = words_of line ≡ word ∷ words_of text

-- the word of an event that names a port and no more
abbrev pub IsPortWord : List ℕ → Type 0
IsPortWord word =
    (word ≡ codes "count") ⊎ (word ≡ codes "ticket") ⊎ (word ≡ codes "peak") ⊎ (word ≡ codes "effect")
    ⊎ (word ≡ codes "publish")

-- the word of an event
abbrev pub IsEventWord : List ℕ → Type 0
IsEventWord word = (word ≡ codes "take") ⊎ IsPortWord word

-- the text has one word, which writes this port
abbrev pub WritesLonePort : List ℕ → ℕ → Type 0
WritesLonePort text port = (word : List ℕ) × (words_of text ≡ word ∷ []) × WritesPort word port

-- the first word of the text is a port, and there are more
abbrev pub HasMoreWords : List ℕ → Type 0
HasMoreWords text =
    (word : List ℕ) × (next : List ℕ) × (more : List (List ℕ)) × (words_of text ≡ word ∷ next ∷ more) × IsPort word

-- the text is a packet line, and the event takes its packet, of at most 4,200 bytes, at its port
abbrev pub IsTakeLine : List ℕ → Event → Type 0
IsTakeLine text (Take port packet) = IsPacketLine text port packet × (length packet.bytes ≤ MAX_PACKET)
IsTakeLine text (Count port) = ⊥
IsTakeLine text (Ticket port) = ⊥
IsTakeLine text (Peak port) = ⊥
IsTakeLine text (Effect port) = ⊥
IsTakeLine text (Publish port) = ⊥

-- the line is this word, and after it only a port
abbrev pub IsPortLine : (word line : List ℕ) → ℕ → Type 0
IsPortLine word line port = (text : List ℕ) × BeginsLine word line text × WritesLonePort text port

-- the line writes the event: the word of the event, and after it a packet line or a port
abbrev pub IsEventLine : List ℕ → Event → Type 0
IsEventLine line (Take port packet) =
    (text : List ℕ) × BeginsLine (codes "take") line text × IsTakeLine text (Take port packet)
IsEventLine line (Count port) = IsPortLine (codes "count") line port
IsEventLine line (Ticket port) = IsPortLine (codes "ticket") line port
IsEventLine line (Peak port) = IsPortLine (codes "peak") line port
IsEventLine line (Effect port) = IsPortLine (codes "effect") line port
IsEventLine line (Publish port) = IsPortLine (codes "publish") line port

-- why a text is no packet line: its fault, or memory was refused
abbrev pub IsNoTake : List ℕ → BadLine → Type 0
IsNoTake text (Line NoPort) = HasFault marker_word text NoPort
IsNoTake text (Line BadHex) = HasFault marker_word text BadHex
IsNoTake text (Line BadMarker) = HasFault marker_word text BadMarker
IsNoTake text (Line TooLong) = HasFault marker_word text TooLong
IsNoTake text (Line Memory) = Unit {0}
IsNoTake text NoSuchPort = ⊥
IsNoTake text NoEvent = ⊥
IsNoTake text NoRoom = ⊥

-- why a text is not one port: its first word is none, there are more words, or memory was refused
abbrev pub IsNoLonePort : List ℕ → BadLine → Type 0
IsNoLonePort text (Line NoPort) = ¬ HasPort text
IsNoLonePort text (Line BadHex) = ⊥
IsNoLonePort text (Line BadMarker) = ⊥
IsNoLonePort text (Line TooLong) = ⊥
IsNoLonePort text (Line Memory) = Unit {0}
IsNoLonePort text NoSuchPort = ⊥
IsNoLonePort text NoEvent = HasMoreWords text
IsNoLonePort text NoRoom = ⊥

-- the line is of an event that takes a packet, and the packet line after the word has this fault
abbrev pub IsBadTake : List ℕ → LineFault → Type 0
IsBadTake line fault = (text : List ℕ) × BeginsLine (codes "take") line text × HasFault marker_word text fault

-- the first word is that of an event, and the words of the text come after it
abbrev pub IsOfEvent : (line text : List ℕ) → Type 0
IsOfEvent line text = (word : List ℕ) × IsEventWord word × BeginsLine word line text

-- the line is of an event that names a port and no more, and has more
abbrev pub HasTooMany : List ℕ → Type 0
HasTooMany line = (word : List ℕ) × (text : List ℕ) × IsPortWord word × BeginsLine word line text × HasMoreWords text

-- why a line writes no event: the first fault of no event, no port, those of a packet line, and words too many; or
-- memory was refused
abbrev pub IsNoEvent : List ℕ → BadLine → Type 0
IsNoEvent line (Line NoPort) = (text : List ℕ) × IsOfEvent line text × ¬ HasPort text
IsNoEvent line (Line BadMarker) = IsBadTake line BadMarker
IsNoEvent line (Line BadHex) = IsBadTake line BadHex
IsNoEvent line (Line TooLong) = IsBadTake line TooLong
IsNoEvent line (Line Memory) = Unit {0}
IsNoEvent line NoSuchPort = ⊥
IsNoEvent line NoEvent = ((text : List ℕ) → ¬ IsOfEvent line text) ⊎ HasTooMany line
IsNoEvent line NoRoom = ⊥

-- the line writes the event, at one of this many ports
abbrev pub IsEventOf : (ports : ℕ) → List ℕ → Event → Type 0
IsEventOf ports line event = IsEventLine line event × (port_of event < ports)

-- the line writes an event at a port that is none of this many
abbrev pub HasOtherPort : (ports : ℕ) → List ℕ → Type 0
HasOtherPort ports line = (event : Event) × IsEventLine line event × (ports ≤ port_of event)

-- the line writes no event at one of this many ports, and this is what is wrong with it
abbrev pub IsBadEvent : (ports : ℕ) → List ℕ → BadLine → Type 0
IsBadEvent ports line fault = IsNoEvent line fault ⊎ ((fault ≡ NoSuchPort) × HasOtherPort ports line)
