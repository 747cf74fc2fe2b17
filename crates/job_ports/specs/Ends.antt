-- What became of a port.
use Rattle.std.specs.Prelude.{List}
use Rattle.annals.specs.declared.deed.HistoryEntry.{HistoryEntry}
use Rattle.ports.specs.Sinks.{SinkValue}
use Rattle.ports.specs.declared.worker.Report.{Report}
use Rattle.target.specs.Passes.{PortPass}

-- what became of a port: what it has of the node and asked for then, and what it knows of the history of the node's
-- banks. Besides, its replies, and the report of its worker
pub record PortEnd : Type 0 where
  pub pass : PortPass
  pub front : List HistoryEntry
  pub sink : SinkValue
  pub report : Report
