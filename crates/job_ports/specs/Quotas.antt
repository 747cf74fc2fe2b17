-- The seats of ports at the cells of their node, once they came back, and what that says of quotas.
use Rattle.std.specs.Prelude.{◌≡◌, ◌<◌, ◌≤◌, ◌+◌, ◌^◌, ℕ, List, ◌++◌, All, length, map}
use Rattle.std.specs.List.{flat_map}
use Rattle.cells.specs.Logs.{tickets_of}
use Rattle.cells.specs.Seats.{AreNumbered, CellsValue, calls_back}
use Rattle.machine.specs.Sizes.{IsInside, Maps, kind_of_map}
use Rattle.machine.specs.declared.kinds.MapKind.TheVariants.{Counter}
use Rattle.node_parts.specs.Passes.{SeatValue}
use Rattle.ports.specs.Due.{standing}
use Rattle.ports.specs.Sinks.{SinkValue}
use Rattle.ports.specs.declared.worker.Worker.{Worker}
use Rattle.quotas.specs.Threads.{HaveMatched, PortRun, calls_at, judged_at}
use Rattle.job_ports.specs.Ends.{PortEnd}

-- the seat is one at those cells
pub record IsSeated (it : CellsValue) (s : SeatValue) : Type 0 where
  pub sizes : s.sizes ≡ it.sizes
  pub home : s.home ≡ it.home

-- the seat of each worker is one at those cells
abbrev pub AreSeated : {J : Type 0} → CellsValue → List (Worker J SinkValue) → Type 0
AreSeated {J} it workers = All (λ (w : Worker J SinkValue). IsSeated it w.pass.pass.seat) workers

-- a seat came back to the cells, with its calls
pub record IsTakenBack (before after : CellsValue) (s : SeatValue) : Type 0 where
  pub sizes : after.sizes ≡ before.sizes
  pub home : after.home ≡ before.home
  pub parts : after.parts ≡ before.parts + 1
  pub calls : calls_back after ≡ calls_back before ++ s.asked

-- the seats of those workers came back to the cells, in order
pub record AreTakenBack {J : Type 0} (before after : CellsValue) (workers : List (Worker J SinkValue)) : Type 0 where
  pub sizes : after.sizes ≡ before.sizes
  pub home : after.home ≡ before.home
  pub parts : after.parts ≡ before.parts + length workers
  pub calls : calls_back after
      ≡ calls_back before ++ flat_map (λ (w : Worker J SinkValue). w.pass.pass.seat.asked) workers

-- if there is such a cell and it counts, its tickets are numbered
abbrev pub IsNumberedAt : CellsValue → (map key : ℕ) → Type 0
IsNumberedAt it map key =
    IsInside it.sizes map key → kind_of_map it.sizes map ≡ Counter → (n : ℕ) × AreNumbered it map key n

-- so it is with each cell of that map
abbrev pub AreNumberedIn : CellsValue → (map : ℕ) → Type 0
AreNumberedIn it map = (key : ℕ) → IsNumberedAt it map key

-- the tickets of each cell of a counter map are numbered
abbrev pub AreAllNumbered : CellsValue → Type 0
AreAllNumbered it = (map : ℕ) → AreNumberedIn it map

-- an account of what the ports did, which ends as they ended
abbrev pub AreRunsOf : List PortRun → List PortEnd → Type 0
AreRunsOf runs ends =
    map (λ (run : PortRun). run.last) runs ≡ map (λ (end : PortEnd). standing end.pass end.front) ends

-- take any account of what the ports did, and a cell of a counter map from which fewer than 2^64 tickets were drawn.
-- Then rules on it with limits of at most N matched at most N of the commands that were judged, over all ports
abbrev pub QuotasAreKept : Maps → List PortEnd → Type 0
QuotasAreKept sizes ends =
    (runs : List PortRun) (map key limit count : ℕ) → AreRunsOf runs ends → IsInside sizes map key
    → kind_of_map sizes map ≡ Counter → length (tickets_of map key (calls_at runs)) < 2 ^ 64
    → HaveMatched map key limit (judged_at runs) count → count ≤ limit
