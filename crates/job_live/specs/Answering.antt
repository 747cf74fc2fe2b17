-- What a line of a talk does at the node, and what is printed of it.
use Rattle.std.specs.Prelude.{◌≡◌, ◌⊎◌, nat_lt, ℕ, Bool, true, false, List, [], ◌∷◌, ◌++◌, length, codes, decimal}
use Rattle.std.specs.Prelude.{Option, Some, None, is_some, slice_get}
use Rattle.std.specs.Io.KnownBytes.{Appends}
use Rattle.node_programs.specs.Published.{sizes_of}
use Rattle.spw.specs.Line.{IsPort, words_of}
use Rattle.spw.specs.declared.faults.LineFault.TheVariants.{NoPort, TooLong}
use Rattle.bank.specs.Records.{JournalValue}
use Rattle.job_parts.specs.Printed.{job_fault_line}
use Rattle.job_parts.specs.declared.bad_lines.BadLine.{BadLine}
use Rattle.job_parts.specs.declared.bad_lines.BadLine.TheVariants.{Line, NoPort as NoSuchPort}
use Rattle.job_parts.specs.declared.faults.Fault.TheVariants.{BadLine as AtLine}
use Rattle.job_nodes.specs.JobNode.{RefusesLine, SetsNodeBytes, alone}
use Rattle.job_nodes.specs.LiveNodes.{KeepsGuard, LiveNodeValue, TakesPacketLine}
use Rattle.job_nodes.specs.declared.live_node.LineResult.{LineResult}
use Rattle.single_node.specs.Nodes.{SingleNodeValue, covers_in}
use Rattle.job_live.specs.Asks.{IsAskedBy}
use Rattle.job_live.specs.CellLines.{cells_text}
use Rattle.job_live.specs.Entries.{AreEmptyJournals, HandsOutLeft, taken_text}
use Rattle.job_live.specs.Settings.{IsNoSetting, WritesSetting}
use Rattle.job_live.specs.Journals.{PrintsJournals, bank_text}
use Rattle.job_live.specs.declared.answering.TheConstants.{MAX_LINE}
use Rattle.job_live.specs.declared.asks.Asks.{Asks}
use Rattle.job_live.specs.declared.asks.Asks.TheVariants.{Packet, Journal, Cells, Set}
use Rattle.job_live.specs.declared.settings.Setting.{Setting}

-- the journals were handed out, and their entries were printed
abbrev pub PrintsJournal : (before after : LiveNodeValue) → (old new : Option (List ℕ)) → Type 0
PrintsJournal before after old new = PrintsJournals true before after old new

-- the word of each cell of the node's maps was printed, and the node stays
pub record PrintsCells (before after : LiveNodeValue) (old new : Option (List ℕ)) : Type 0 where
  pub same : after ≡ before
  pub printed : Appends old new (cells_text (sizes_of before.node.programs) before.node.words)

-- the journals that are full were handed out, and those that are not stay
abbrev pub MakesRoom : (before after : LiveNodeValue) → (old new : Option (List ℕ)) → Type 0
MakesRoom before after old new = PrintsJournals false before after old new

-- if a line ended no packet, nothing was printed; else what came of its packet was printed. The entries that are handed
-- out at once are among that, and their journals begin anew
abbrev pub PrintsTaken : (at_once : Bool) → Option LineResult → (served after : LiveNodeValue) → (old new : Option (List ℕ)) → Type 0
PrintsTaken at_once None served after old new = (after ≡ served) × (new ≡ old)
PrintsTaken at_once (Some taken) served after old new =
    Appends old new (taken_text at_once taken served.node) × HandsOutLeft at_once served after

-- the node took a packet line, and what came of it was printed; or it refuses the line for that fault
abbrev pub TakesOrRefuses : (at_once : Bool) (line : List ℕ) (fault : Option BadLine) (before after : LiveNodeValue) (old new : Option (List ℕ)) → Type 0
TakesOrRefuses at_once line None before after old new =
    (taken : Option LineResult) × (served : LiveNodeValue) × TakesPacketLine line taken before served
    × PrintsTaken at_once taken served after old new
TakesOrRefuses at_once line (Some fault) before after old new =
    RefusesLine line fault before.node after.node × KeepsGuard before after × (new ≡ old)

-- a packet line met a journal with room for its command
pub record MeetsRoom (at_once : Bool) (line : List ℕ) (fault : Option BadLine) (before after : LiveNodeValue) (old new : Option (List ℕ)) : Type 0 where
  pub ready : LiveNodeValue
  pub between : Option (List ℕ)
  pub room : MakesRoom before ready old between
  pub taken : TakesOrRefuses at_once line fault ready after between new

-- the bytes of a write are in the bank of its extended address, if there is one
unfoldable pub is_inside : SingleNodeValue → Setting → Bool
is_inside node setting = covers_in (slice_get node.banks setting.extended) setting.address (length setting.bytes.items)

-- the line that reports how many bytes were set
abbrev pub set_line : (count : ℕ) → List ℕ
set_line count = codes "set " ++ decimal count ++ 10 ∷ []

-- the journal of the bank was handed out, and then the bytes of the write are in its memory. The entries were printed,
-- and how many bytes were set
pub record PrintsSetting (setting : Setting) (before after : LiveNodeValue) (old new : Option (List ℕ)) : Type 0 where
  pub journal : JournalValue
  pub between : Option (List ℕ)
  pub set : SetsNodeBytes setting.extended setting.address setting.bytes.items before.node after.node journal
  pub guard : KeepsGuard before after
  pub reported : Appends old between (bank_text before.node.banks setting.extended)
  pub printed : Appends between new (set_line (length setting.bytes.items))

-- the words write the setting, whose bytes are in its bank
pub record WritesInside (words : List (List ℕ)) (node : SingleNodeValue) (setting : Setting) : Type 0 where
  pub written : WritesSetting words setting
  pub inside : is_inside node setting ≡ true

-- the words write a setting whose bytes are not in its bank
pub record WritesOutside (words : List (List ℕ)) (node : SingleNodeValue) : Type 0 where
  pub setting : Setting
  pub written : WritesSetting words setting
  pub outside : is_inside node setting ≡ false

-- why nothing was set: the words write no such thing, or the bytes are not in its bank
abbrev pub IsUnset : (words : List (List ℕ)) → SingleNodeValue → BadLine → Type 0
IsUnset words node fault =
    IsNoSetting words fault
    ⊎ ((fault ≡ NoSuchPort) × WritesOutside words node)

-- the write of an instrument, or nothing for that fault
abbrev pub SetsOrRefuses : (words : List (List ℕ)) (fault : Option BadLine) (before after : LiveNodeValue) (old new : Option (List ℕ)) → Type 0
SetsOrRefuses words None before after old new =
    (setting : Setting) × WritesInside words (alone before.node) setting × PrintsSetting setting before after old new
SetsOrRefuses words (Some fault) before after old new =
    IsUnset words (alone before.node) fault × (after ≡ before) × (new ≡ old)

-- the first word is a port
abbrev pub BeginsWithPort : List (List ℕ) → Type 0
BeginsWithPort [] = ⊥
BeginsWithPort (first ∷ others) = IsPort first

-- a line that is too long has that fault if it begins with a port, and else that it has no port
abbrev pub IsFaultByPort : List (List ℕ) → BadLine → Type 0
IsFaultByPort words fault =
    ((fault ≡ Line TooLong) × BeginsWithPort words) ⊎ ((fault ≡ Line NoPort) × ¬ BeginsWithPort words)

-- the fault of a line that is longer than any packet line. It is its length, if it begins as a packet line or a write
-- does, and else that it has no port
abbrev pub IsLongFault : List (List ℕ) → Asks → BadLine → Type 0
IsLongFault words Set fault = fault ≡ Line TooLong
IsLongFault words Journal fault = IsFaultByPort words fault
IsLongFault words Cells fault = IsFaultByPort words fault
IsLongFault words Packet fault = IsFaultByPort words fault

-- a line that is longer than any packet line does nothing
abbrev pub RefusesLong : List (List ℕ) → Asks → (fault : Option BadLine) (before after : LiveNodeValue) (old new : Option (List ℕ)) → Type 0
RefusesLong words asks None before after old new = ⊥
RefusesLong words asks (Some fault) before after old new = IsLongFault words asks fault × (after ≡ before) × (new ≡ old)

-- what a line does that is not too long, by what it asks for; only a packet line may have a program scrubbed
abbrev pub DoesAsked : (at_once : Bool) → Asks → (line : List ℕ) (fault : Option BadLine) (before after : LiveNodeValue) (old new : Option (List ℕ)) → Type 0
DoesAsked at_once Packet line fault before after old new = MeetsRoom at_once line fault before after old new
DoesAsked at_once Journal line fault before after old new = (fault ≡ None) × PrintsJournal before after old new
DoesAsked at_once Cells line fault before after old new = (fault ≡ None) × PrintsCells before after old new
DoesAsked at_once Set line fault before after old new = SetsOrRefuses (words_of line) fault before after old new

-- what a line does that may be too long, by what it asks for
abbrev pub DoesBy : (at_once is_long : Bool) → Asks → (line : List ℕ) (fault : Option BadLine) (before after : LiveNodeValue) (old new : Option (List ℕ)) → Type 0
DoesBy at_once true asks line fault before after old new = RefusesLong (words_of line) asks fault before after old new
DoesBy at_once false asks line fault before after old new = DoesAsked at_once asks line fault before after old new

-- the words before the number of a line's fault
abbrev pub fault_words : (number : ℕ) → List ℕ
fault_words number = codes "line " ++ decimal number ++ codes " fault "

-- if a line has a fault, it was printed with the line's number
abbrev pub IsFaultPrinted : (number : ℕ) → Option BadLine → (old new : Option (List ℕ)) → Type 0
IsFaultPrinted number None old new = new ≡ old
IsFaultPrinted number (Some fault) old new = Appends old new (job_fault_line (AtLine number fault))

-- the node took a packet line or refuses it, and after a text is what came of it, or its fault
pub record TakesAndPrints (at_once : Bool) (line : List ℕ) (number : ℕ) (is_bad : Bool) (before after : LiveNodeValue) (old new : List ℕ) :
    Type 0 where
  pub fault : Option BadLine
  pub between : List ℕ
  pub taken : TakesOrRefuses at_once line fault before after (Some old) (Some between)
  pub reported : IsFaultPrinted number fault (Some between) (Some new)
  pub bad : is_bad ≡ is_some fault

-- the write of an instrument was done, and what is due for it was printed; or not, for a fault that was printed
pub record AnswersSetting (words : List (List ℕ)) (number : ℕ) (before after : LiveNodeValue) (old new : Option (List ℕ)) (is_bad : Bool) :
    Type 0 where
  pub fault : Option BadLine
  pub between : Option (List ℕ)
  pub done : SetsOrRefuses words fault before after old between
  pub reported : IsFaultPrinted number fault between new
  pub bad : is_bad ≡ is_some fault

-- the line of that number did what it asks for, and what is due for it was printed; it is bad if it has a fault
pub record AnswersAsked (at_once is_long : Bool) (asks : Asks) (line : List ℕ) (number : ℕ) (before after : LiveNodeValue)
    (old new : Option (List ℕ)) (is_bad : Bool) : Type 0 where
  pub fault : Option BadLine
  pub between : Option (List ℕ)
  pub done : DoesBy at_once is_long asks line fault before after old between
  pub reported : IsFaultPrinted number fault between new
  pub bad : is_bad ≡ is_some fault

-- the same, by what its words ask for and by its length
pub record AnswersTalkLine (at_once : Bool) (line : List ℕ) (number : ℕ) (before after : LiveNodeValue) (old new : Option (List ℕ)) (is_bad : Bool) :
    Type 0 where
  pub asks : Asks
  pub asked : IsAskedBy (words_of line) asks
  pub answered : AnswersAsked at_once (nat_lt MAX_LINE (length line)) asks line number before after old new is_bad

-- if entries are handed out at once, and no journal has an entry before a line, none has one after it
abbrev pub LeavesNone : Type 0
LeavesNone =
    (line : List ℕ) (number : ℕ) (before after : LiveNodeValue) (old new : Option (List ℕ)) (is_bad : Bool)
    → AnswersTalkLine true line number before after old new is_bad → AreEmptyJournals before.node.banks → AreEmptyJournals after.node.banks
