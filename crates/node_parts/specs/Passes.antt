-- What a node and a port's pass are to those who read them.
use Rattle.std.specs.Prelude.{◌≡◌, ◌<◌, ℕ, List, ◌++◌, length}
use Rattle.rmap.specs.Windows.{WindowsValue}
use Rattle.bank.specs.Records.{ShareValue}
use Rattle.node_programs.specs.declared.publishes.Publish.{Publish}
use Rattle.node_programs.specs.Published.{sizes_of}
use Rattle.node_programs.specs.Staged.{Staged}
use base.Stored.{Gv}
use Rattle.machine.specs.declared.calls.Call.{Call}
use Rattle.machine.specs.Sizes.{Maps}

-- what a port has of its node's cells: the maps, the name of the cells, and the calls of its programs so far
pub record SeatValue : Type 0 where
  pub sizes : Maps
  pub home : Gv
  pub asked : List Call

-- a seat at the cells of that name, for those maps, after those calls
abbrev pub seat_at : Maps → Gv → List Call → SeatValue
seat_at sizes home asked = record { sizes = sizes; home = home; asked = asked }

-- a seat after more calls
abbrev pub seat_after : SeatValue → List Call → SeatValue
seat_after s more = record { sizes = s.sizes; home = s.home; asked = s.asked ++ more }

-- what a run needs of a port: its number, the windows of its node, and the cells that are asked
pub record RunContextValue : Type 0 where
  pub port : ℕ
  pub windows : WindowsValue
  pub seat : SeatValue

-- the context of that port, in a node with those windows, with that seat
abbrev pub run_context : ℕ → WindowsValue → SeatValue → RunContextValue
run_context port windows seat = record { port = port; windows = windows; seat = seat }

-- a context after more calls
abbrev pub context_after : RunContextValue → List Call → RunContextValue
context_after b more = record { port = b.port; windows = b.windows; seat = seat_after b.seat more }

-- What a port has of its node: the node's windows, what it knows of the programs that were published, and its seat at
-- the cells. It also has a share of each bank, and its own staging with the result of its last load.
pub record PassValue : Type 0 where
  pub port : ℕ
  pub windows : WindowsValue
  pub programs : List Publish
  pub seat : SeatValue
  pub shares : List ShareValue
  pub staging : Staged

-- what a port has, by its context
abbrev pub pass_of : RunContextValue → List Publish → List ShareValue → Staged → PassValue
pass_of b programs shares staging = record {
  port = b.port;
  windows = b.windows;
  programs = programs;
  seat = b.seat;
  shares = shares;
  staging = staging;
}

-- a pass that saw those programs, after more calls
abbrev pub pass_after : PassValue → List Publish → List Call → PassValue
pass_after h seen more = record h { programs = seen; seat = seat_after h.seat more }

-- a pass with another staging
abbrev pub with_staging : PassValue → Staged → PassValue
with_staging h staging = record h { staging = staging }

-- A port's number is below 32, and it has a share of each bank of its node. The programs of its node are accepted for
-- the maps at which it has its seat.
pub record IsPass (p : PassValue) : Type 0 where
  pub port : p.port < 32
  pub sizes : p.seat.sizes ≡ sizes_of p.programs
  pub shares : length p.shares ≡ length p.windows.banks
