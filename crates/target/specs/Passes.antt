-- What a port has of its node.
use Rattle.std.specs.Prelude.{List, [], map}
use Rattle.annals.specs.Chains.{Due}
use Rattle.cells.specs.Seats.{CellSeatValue, calls}
use Rattle.node_parts.specs.Passes.{PassValue, SeatValue, seat_at}

-- a seat, as the port sees it
abbrev pub seat_of : CellSeatValue → SeatValue
seat_of s = seat_at s.sizes s.home (calls s)

-- what a port has of its node, and what it asked for in its line of the node's history, all of which was done
pub record PortPass : Type 0 where
  pub pass : PassValue
  pub asked : List Due

-- a port that has this, and asked for that
abbrev pub port_pass : PassValue → List Due → PortPass
port_pass pass asked = record { pass = pass; asked = asked }

-- ports that have this, and asked for nothing
abbrev pub unasked : List PassValue → List PortPass
unasked passes = map (λ (pass : PassValue). port_pass pass []) passes
