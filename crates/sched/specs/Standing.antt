-- What is lent of the command that is judged at a port.
use Rattle.std.specs.Prelude.{◌≡◌, ℕ, Option, Some, None}
use Rattle.machine.specs.Memory.{header}
use Rattle.sched.specs.History.{Open}
use Rattle.sched.specs.Looking.{Node, seen_header_in, place_in, program_of, slot_of_packet, turn_of}
use Rattle.sched.specs.declared.standing.Standing.{Standing}

-- What is lent is the open command of the port. It has the program of its Take with generation and slot, accepted for
-- the maps of the node. It also has the header that the program sees, the place of the bytes, and where the program is
-- after the answers since.
pub record IsLentOf (n : Node) (port : ℕ) (o : Open) (j : Standing) : Type 0 where
  pub program : j.program.now.program ≡ program_of n o
  pub sizes : j.program.now.sizes ≡ n.sizes
  pub generation : j.generation ≡ o.generation
  pub slot : j.slot ≡ slot_of_packet n o.packet
  pub header_is : header j.front.now j.tail.now ≡ seen_header_in o.packet
  pub place : place_in n o.packet ≡ Some j.place
  pub turn : turn_of n port o ≡ Some j.turn

-- something is lent exactly if a command is open, and it is that one
abbrev pub IsLent : Node → (port : ℕ) → Option Open → Option Standing → Type 0
IsLent n port None None = Unit {0}
IsLent n port None (Some j) = ⊥
IsLent n port (Some o) None = ⊥
IsLent n port (Some o) (Some j) = IsLentOf n port o j
