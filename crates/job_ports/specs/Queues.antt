-- Packets that wait in the queues of ports, and the workers that serve them.
use Rattle.std.specs.Prelude.{◌≡◌, ◌<◌, ◌≤◌, ◌-◌, ℕ, List, [], ◌∷◌, ◌++◌, length, map, slice_index_or}
use Rattle.annals.specs.declared.deed.HistoryEntry.{HistoryEntry}
use Rattle.bver.specs.Justified.{AcceptedValue}
use Rattle.cells.specs.Seats.{CellsValue, cells}
use Rattle.spw.specs.Cargo.{Cargo}
use Rattle.ports.specs.Queue.{IsPutPassOf, IsServePassOf, put_of, taken_of}
use Rattle.ports.specs.Sinks.{SinkValue}
use Rattle.ports.specs.declared.item.Item.{Item}
use Rattle.ports.specs.declared.item.Item.TheVariants.{Data, Mark}
use Rattle.ports.specs.declared.port.Port.{Port}
use Rattle.ports.specs.declared.port.PutPass.{PutPass}
use Rattle.ports.specs.declared.port.ServePass.{ServePass}
use Rattle.ports.specs.declared.worker.Report.{Report}
use Rattle.ports.specs.declared.worker.Worker.{Worker}
use Rattle.ports.specs.Due.{Standing}
use Rattle.ports.specs.Worked.{standing_of}
use Rattle.target.specs.Passes.{PortPass}
use Rattle.job_config.specs.OwnNodes.{OwnNodeValue}
use Rattle.job_ports.specs.Ends.{PortEnd}
use Rattle.job_ports.specs.Law.{IsOneLawfulHistory}
use Rattle.job_ports.specs.Quotas.{IsSeated, QuotasAreKept}
use Rattle.job_ports.specs.ServedFile.{BeginOneHistory, EndsSo, no_replies, report_of}
use Rattle.job_ports.specs.Starts.{AreStarts}

-- no port has over 1,023 packets
abbrev pub AreFew : List (List Cargo) → Type 0
AreFew by_port = (port : ℕ) → port < length by_port → length (slice_index_or by_port port []) ≤ 1023

-- these packets and then the end mark were put into the queue of the port, and nothing was taken; the passes
-- are its own
pub record IsQueueFilled (packets : List Cargo) (port : Port) (put_pass : PutPass) (serve_pass : ServePass) : Type 0 where
  pub puts : IsPutPassOf port put_pass
  pub serves : IsServePassOf port serve_pass
  pub put : put_of put_pass ≡ map Data packets ++ Mark ∷ []
  pub taken : taken_of serve_pass ≡ []

-- the port at each place holds the packets at its place, and the passes are those of that port
pub record AreFilled (by_port : List (List Cargo)) (ports : List Port) (put_passes : List PutPass)
    (serve_passes : List ServePass) : Type 0 where
  pub ports_count : length ports ≡ length by_port
  pub puts_count : length put_passes ≡ length by_port
  pub serves_count : length serve_passes ≡ length by_port
  pub puts : (k : ℕ) (port : Port) (put_pass : PutPass) → k < length by_port
      → IsPutPassOf (slice_index_or ports k port) (slice_index_or put_passes k put_pass)
  pub serves : (k : ℕ) (port : Port) (serve_pass : ServePass) → k < length by_port
      → IsServePassOf (slice_index_or ports k port) (slice_index_or serve_passes k serve_pass)
  pub put : (k : ℕ) (packets : List Cargo) (put_pass : PutPass) → k < length by_port
      → put_of (slice_index_or put_passes k put_pass) ≡ map Data (slice_index_or by_port k packets) ++ Mark ∷ []
  pub taken : (k : ℕ) (packets : List Cargo) (serve_pass : ServePass) → k < length by_port
      → taken_of (slice_index_or serve_passes k serve_pass) ≡ []

-- a worker with what its port has of the node, and with what takes from the port's queue. It knows this of the history
-- of the node's banks, and its sink has taken nothing
abbrev pub new_worker : {J : Type 0} → (known : List HistoryEntry) → PortPass × ServePass → Worker J SinkValue
new_worker known parts = record { pass = parts.0; front = known; serve_pass = parts.1; sink = no_replies }

-- the worker has and knows that, takes from that queue, and has a share of each of `banks` banks; its sink has taken
-- nothing
pub record IsDeskWorker {J : Type 0} (start : Standing) (banks : ℕ) (serve_pass : ServePass) (worker : Worker J SinkValue) :
    Type 0 where
  pub stands : standing_of worker ≡ start
  pub serves : worker.serve_pass ≡ serve_pass
  pub silent : worker.sink ≡ no_replies
  pub shares : length worker.pass.pass.shares ≡ banks

-- a node of `banks` banks. Each of its ports has what it starts with, and holds these packets. Besides, what puts into
-- the ports, and their workers
pub record IsDesk {J : Type 0} (starts : ℕ → Standing) (ports : ℕ) (by_port : List (List Cargo)) (banks : ℕ)
    (queues : List Port) (puts : List PutPass) (workers : List (Worker J SinkValue)) : Type 0 where
  pub serves : List ServePass
  pub count : length by_port ≡ ports
  pub filled : AreFilled by_port queues puts serves
  pub workers_count : length workers ≡ ports
  pub each : (k : ℕ) (worker : Worker J SinkValue) (serve_pass : ServePass) → k < ports
      → IsDeskWorker (starts k) banks (slice_index_or serves k serve_pass) (slice_index_or workers k worker)

-- the same, if each port starts as the node of the configuration has it before the first packet. It has a seat at the
-- cells of the node's maps, to which no seat came back yet
pub record IsOwnDesk {J : Type 0} (own : OwnNodeValue) (program : AcceptedValue) (by_port : List (List Cargo)) (banks : ℕ)
    (own_cells : CellsValue) (queues : List Port) (puts : List PutPass) (workers : List (Worker J SinkValue)) : Type 0 where
  pub starts : ℕ → Standing
  pub are_starts : AreStarts own program starts
  pub few : own.ports ≤ 32
  pub cells_are : own_cells ≡ cells own.sizes own_cells.home (256 - own.ports) []
  pub seats : (port : ℕ) → IsSeated own_cells (starts port).pass.seat
  pub desk : IsDesk starts own.ports by_port banks queues puts workers

-- the first list is a beginning of the second
pub record IsBeginning (taken put : List Item) : Type 0 where
  pub rest : List Item
  pub whole : put ≡ taken ++ rest

-- at each place is what takes from the port, and what puts into it
pub record AreOfPorts {J : Type 0} (ports : List Port) (put_passes : List PutPass) (workers : List (Worker J SinkValue))
    : Type 0 where
  pub puts_count : length put_passes ≡ length ports
  pub workers_count : length workers ≡ length ports
  pub puts : (k : ℕ) (port : Port) (put_pass : PutPass) → k < length ports
      → IsPutPassOf (slice_index_or ports k port) (slice_index_or put_passes k put_pass)
  pub serves : (k : ℕ) (port : Port) (worker : Worker J SinkValue) → k < length ports
      → IsServePassOf (slice_index_or ports k port) (slice_index_or workers k worker).serve_pass

-- what the worker at each place took is a beginning of what was put at that place
abbrev pub AreTakenBeginnings : {J : Type 0} → List PutPass → List (Worker J SinkValue) → Type 0
AreTakenBeginnings {J} put_passes workers =
    (k : ℕ) (put_pass : PutPass) (worker : Worker J SinkValue) → k < length workers
    → IsBeginning (taken_of (slice_index_or workers k worker).serve_pass)
    (put_of (slice_index_or put_passes k put_pass))

-- each port, from what it starts with on, served the packets at its place and no others, in order, at banks of one
-- history. Those are its replies and what the workers reported
pub record ServeEach (starts : ℕ → Standing) (ports : ℕ) (by_port : List (List Cargo)) (sinks : List SinkValue)
    (report : Report) : Type 0 where
  pub ends : List PortEnd
  pub count : length ends ≡ ports
  pub each : (port : ℕ) (end : PortEnd) → port < ports
      → EndsSo (starts port) (slice_index_or by_port port []) (slice_index_or ends port end)
  pub history : BeginOneHistory ends
  pub sinks_are : sinks ≡ map (λ (end : PortEnd). end.sink) ends
  pub report_is : report ≡ report_of ends

-- the same at the node of a configuration: what the ports did is one lawful history, and quotas were kept
pub record ServeOwn (own : OwnNodeValue) (program : AcceptedValue) (by_port : List (List Cargo)) (sinks : List SinkValue)
    (report : Report) : Type 0 where
  pub starts : ℕ → Standing
  pub are_starts : AreStarts own program starts
  pub served : ServeEach starts own.ports by_port sinks report
  pub law : IsOneLawfulHistory own program starts (λ port. slice_index_or by_port port []) served.ends served.history.whole
  pub quotas : QuotasAreKept own.sizes served.ends
