-- How a node that threads share is made.
use Rattle.std.specs.Prelude.{◌≡◌, ◌<◌, ℕ, List, [], length, map, replicate, slice_index, None}
use base.Stored.{Gv}
use Rattle.bver.specs.Justified.{AcceptedValue}
use Rattle.cells.specs.Seats.{CellSeatValue, seat}
use Rattle.publish.specs.Reached.{Known, known}
use Rattle.publish.specs.Firsts.{programs_with}
use Rattle.node_parts.specs.Nodes.{first_pass}
use Rattle.node_parts.specs.Passes.{PassValue}
use Rattle.node_parts.specs.declared.config.NodeConfig.{NodeConfig}
use Rattle.std.specs.List.{range_with_len}

-- That many seats at the cells of that name, for the program's maps, and readers. These know of the program and of
-- those that were published after it.
pub record AreFirst (factory : AcceptedValue) (firsts : List (ℕ × AcceptedValue)) (home : Gv) (ports : ℕ) (seats : List CellSeatValue)
    (readers : List Known) : Type 0 where
  pub seats_are : seats ≡ replicate ports (seat factory.sizes home [])
  pub readers_are : readers ≡ replicate ports (known (programs_with factory firsts) None)

-- each number is its place
abbrev pub AreInPlace : List ℕ → Type 0
AreInPlace numbers = (k : ℕ) → k < length numbers → slice_index numbers k ≡ k

-- What a port of a node has of it at first, if those programs were published after the factory program. The port knows
-- of all of them. All else is as without them.
abbrev pub informed_pass : NodeConfig → AcceptedValue → List (ℕ × AcceptedValue) → Gv → ℕ → PassValue
informed_pass config factory firsts home port =
    record (first_pass config.address config.banks.now factory home port) { programs = programs_with factory firsts }

-- what the ports of the node have of it at first, in order
abbrev pub informed_passes : NodeConfig → AcceptedValue → List (ℕ × AcceptedValue) → Gv → List PassValue
informed_passes config factory firsts home =
    map (informed_pass config factory firsts home) (range_with_len 0 config.ports)
