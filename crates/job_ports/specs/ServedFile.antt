-- What the job `serve` reads and prints.
use Rattle.std.specs.Prelude.{◌≡◌, ◌⊎◌, ◌<◌, ℕ, List, [], ◌++◌, length, map, slice_index_or, Option, Some, string_bytes}
use Rattle.std.specs.Io.KnownBytes.{Appends}
use Rattle.std.specs.Str.{IsUtf8}
use mathlib.Core.List.{IsPrefix}
use Rattle.annals.specs.declared.deed.HistoryEntry.{HistoryEntry}
use Rattle.bver.specs.Justified.{AcceptedValue}
use Rattle.spw.specs.Cargo.{Cargo}
use Rattle.spw.specs.Line.{lines_of}
use Rattle.ports.specs.Due.{Standing, standing}
use Rattle.ports.specs.Serves.{total_of}
use Rattle.ports.specs.Sinks.{SinkValue, replies_in}
use Rattle.ports.specs.Worked.{HasServed}
use Rattle.ports.specs.declared.worker.Report.{Report}
use Rattle.job_parts.specs.Files.{ReadsFile}
use Rattle.job_parts.specs.declared.bad_lines.BadLine.{BadLine}
use Rattle.job_parts.specs.declared.faults.Fault.{Fault}
use Rattle.job_parts.specs.declared.faults.Fault.TheVariants.{BadLine as AtLine, NoMemory}
use Rattle.job_config.specs.OwnNodes.{OwnNodeValue}
use Rattle.job_config.specs.declared.node_lines.NodeLines.{NodeLines}
use Rattle.job_nodes.specs.Judged.{IsNotReady}
use Rattle.job_ports.specs.Arrivals.{AreArrivalLines, BreaksAt, packets_at}
use Rattle.job_ports.specs.Ends.{PortEnd}
use Rattle.job_ports.specs.Law.{IsOneLawfulHistory}
use Rattle.job_ports.specs.OwnNodes.{HoldsOwn}
use Rattle.job_ports.specs.Quotas.{QuotasAreKept}
use Rattle.job_ports.specs.ServeJob.{lines_from, report_line}
use Rattle.job_ports.specs.Starts.{AreStarts}

-- a sink that has taken nothing
abbrev pub no_replies : SinkValue
no_replies = record { sent = []; failed = 0 }

-- the worker of a port that starts with that served these packets and no others. Each became what is due, and its
-- replies are those that were due, except the lost ones, which its report counts
abbrev pub EndsSo : (start : Standing) → List Cargo → PortEnd → Type 0
EndsSo start packets end =
    HasServed (λ (s : SinkValue). s.sent) (λ (s : SinkValue). s.failed) start (standing end.pass end.front) no_replies end.sink
    packets end.report

-- what the ports know of the history of the node's banks begins one list
pub record BeginOneHistory (ends : List PortEnd) : Type 0 where
  pub whole : List HistoryEntry
  pub begin : (port : ℕ) (end : PortEnd) → port < length ends → IsPrefix (slice_index_or ends port end).front whole

-- each of this many ports, in order, from what it starts with on, served its packets among these, at banks of one
-- history
pub record ServePackets (starts : ℕ → Standing) (ports : ℕ) (packets : List (ℕ × Cargo)) (ends : List PortEnd) : Type 0
  where
    pub count : length ends ≡ ports
    pub each : (port : ℕ) (end : PortEnd) → port < ports
        → EndsSo (starts port) (packets_at port packets) (slice_index_or ends port end)
    pub history : BeginOneHistory ends

-- the replies of each port
abbrev pub replies_of : List PortEnd → List (List (List ℕ))
replies_of ends = map (λ (end : PortEnd). replies_in end.sink.sent) ends

-- what all workers reported
abbrev pub report_of : List PortEnd → Report
report_of ends = total_of (map (λ (end : PortEnd). end.report) ends)

-- the replies of each port in order, port by port, and what the workers reported
abbrev pub ports_served_text : List PortEnd → List ℕ
ports_served_text ends = lines_from 0 (replies_of ends) ++ report_line (report_of ends)

module _ {S : Type 0} (reads : ReadsFile S) (args : NodeLines) where
  -- the text is that of the file of lines, which is UTF-8. The node, which was read after it, and its program are those
  -- of these arguments
  pub record AreGiven (before : S) (text : List ℕ) (own : OwnNodeValue) (program : AcceptedValue) (after : S) : Type 0 where
    pub between : S
    pub read : reads before (string_bytes args.lines) (Some text) between
    pub utf8 : IsUtf8 text
    pub holds : HoldsOwn reads args.node between own program after

  -- the lines of the file write packets, and each port of the node served its own from what it starts with on. What
  -- they did is one lawful history, and quotas were kept
  pub record ServesLines (before after : S) (ends : List PortEnd) : Type 0 where
    pub text : List ℕ
    pub own : OwnNodeValue
    pub program : AcceptedValue
    pub packets : List (ℕ × Cargo)
    pub starts : ℕ → Standing
    pub given : AreGiven before text own program after
    pub lines : AreArrivalLines (lines_of text) own.ports packets
    pub are_starts : AreStarts own program starts
    pub served : ServePackets starts own.ports packets ends
    pub law : IsOneLawfulHistory own program starts (λ port. packets_at port packets) ends served.history.whole
    pub quotas : QuotasAreKept own.sizes ends

  -- those are the replies then and what the workers reported
  pub record ServesWords (before after : S) (sinks : List SinkValue) (report : Report) : Type 0 where
    pub ends : List PortEnd
    pub serves : ServesLines before after ends
    pub sinks_are : sinks ≡ map (λ (end : PortEnd). end.sink) ends
    pub report_is : report ≡ report_of ends

  -- that was printed then
  pub record ServesFile (before after : S) (old new : Option (List ℕ)) : Type 0 where
    pub ends : List PortEnd
    pub serves : ServesLines before after ends
    pub printed : Appends old new (ports_served_text ends)

  -- lines and node were read, and a line is bad
  pub record HasBadServedLine (before after : S) (fault : Fault) : Type 0 where
    pub text : List ℕ
    pub own : OwnNodeValue
    pub program : AcceptedValue
    pub number : ℕ
    pub bad : BadLine
    pub given : AreGiven before text own program after
    pub breaks : BreaksAt (lines_of text) own.ports number bad
    pub is_fault : fault ≡ AtLine number bad

  -- lines and node were read, and memory or a thread was refused
  pub record LacksServeMemory (before after : S) (fault : Fault) : Type 0 where
    pub text : List ℕ
    pub own : OwnNodeValue
    pub program : AcceptedValue
    pub given : AreGiven before text own program after
    pub no_memory : fault ≡ NoMemory

  -- why the ports were not served: lines or node cannot be read, a line is bad, or memory was refused
  abbrev pub IsNotServed : (before after : S) → Fault → Type 0
  IsNotServed before after fault =
      IsNotReady reads args before after fault ⊎ HasBadServedLine before after fault ⊎ LacksServeMemory before after fault
