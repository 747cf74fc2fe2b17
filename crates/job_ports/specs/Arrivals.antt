-- The packets that lines bring to the ports of a node.
use Rattle.std.specs.Prelude.{◌≡◌, ◌<◌, ◌≤◌, ◌==◌, ◌⊎◌, ℕ, suc, List, [], ◌∷◌, ◌++◌, length, map, filter, replicate}
use Rattle.std.specs.Prelude.{slice_index_or, slice_set, Option, Some, None}
use Rattle.spw.specs.Cargo.{Cargo}
use Rattle.job_parts.specs.declared.bad_lines.BadLine.{BadLine}
use Rattle.job_parts.specs.declared.bad_lines.BadLine.TheVariants.{NoRoom}
use Rattle.job_parts.specs.declared.faults.Fault.{Fault}
use Rattle.job_parts.specs.declared.faults.Fault.TheVariants.{NoMemory, BadLine as AtLine}
use Rattle.job_parts.specs.declared.stops.LineEnd.{LineEnd}
use Rattle.job_parts.specs.declared.stops.LineEnd.TheVariants.{Bad, NoMemory as OutOfMemory}
use Rattle.job_nodes.specs.Feeds.{IsFed, IsNotFed}

-- the packets of one port among these, in order
abbrev pub packets_at : (port : ℕ) → List (ℕ × Cargo) → List Cargo
packets_at port packets = map (λ (received : ℕ × Cargo). received.1) (filter (λ (received : ℕ × Cargo). received.0 == port) packets)

-- the packet that came of a line, if one did
abbrev pub listed_arrival : Option (ℕ × Cargo) → List (ℕ × Cargo)
listed_arrival None = []
listed_arrival (Some received) = received ∷ []

-- ports that hold these bytes of packets take the lines in turn. These packets come, each with its port, and the ports
-- hold those bytes then
abbrev pub Bring : List (List ℕ) → (before after : List (List ℕ)) → List (ℕ × Cargo) → Type 0
Bring [] before after packets = (after ≡ before) × (packets ≡ [])
Bring (line ∷ lines) before after packets =
    (received : Option (ℕ × Cargo)) × (between : List (List ℕ)) × (later : List (ℕ × Cargo))
    × IsFed line before between received × Bring lines between after later × (packets ≡ listed_arrival received ++ later)

-- this many ports, which hold nothing at first, take the lines. These packets come, at most 1,023 of a port, and the
-- ports hold those bytes then
pub record AreArrivalsTaken (lines : List (List ℕ)) (ports : ℕ) (held : List (List ℕ)) (packets : List (ℕ × Cargo)) : Type 0
  where
    pub brought : Bring lines (replicate ports []) held packets
    pub few : (port : ℕ) → length (packets_at port packets) ≤ 1023

-- each line writes a packet of a port below the number, or a piece of one, and these are the packets. No port has over
-- 1,023. What ports hold after the last line is no packet
pub record AreArrivalLines (lines : List (List ℕ)) (ports : ℕ) (packets : List (ℕ × Cargo)) : Type 0 where
  pub held : List (List ℕ)
  pub taken : AreArrivalsTaken lines ports held packets

-- the ports do not take the line, with which this is wrong
pub record IsBadHere (line : List ℕ) (held : List (List ℕ)) (fault : BadLine) : Type 0 where
  pub left : List (List ℕ)
  pub unfed : IsNotFed line held left fault

-- the line ends a packet of a port of which there are 1,023
pub record IsOneTooMany (line : List ℕ) (held : List (List ℕ)) (packets : List (ℕ × Cargo)) : Type 0 where
  pub port : ℕ
  pub packet : Cargo
  pub left : List (List ℕ)
  pub fed : IsFed line held left (Some (port, packet))
  pub full : length (packets_at port packets) ≡ 1023

-- the lines before the one of this number, counted from 1, are taken, and that one is not. This is wrong with it, which
-- is that there is no room, if it ends one packet too many
pub record BreaksAt (lines : List (List ℕ)) (ports number : ℕ) (fault : BadLine) : Type 0 where
  pub before : List (List ℕ)
  pub line : List ℕ
  pub rest : List (List ℕ)
  pub held : List (List ℕ)
  pub packets : List (ℕ × Cargo)
  pub lines_are : lines ≡ before ++ line ∷ rest
  pub place : number ≡ suc (length before)
  pub taken : AreArrivalsTaken before ports held packets
  pub breaks : IsBadHere line held fault ⊎ ((fault ≡ NoRoom) × IsOneTooMany line held packets)

-- why the lines are not taken: memory was refused, or one of them has a fault
abbrev pub AreNotTaken : List (List ℕ) → (ports : ℕ) → Fault → Type 0
AreNotTaken lines ports fault =
    (fault ≡ NoMemory) ⊎ ((number : ℕ) × (bad : BadLine) × (fault ≡ AtLine number bad) × BreaksAt lines ports number bad)

-- the packets of each port, by its number
pub record AreByPort (ports : ℕ) (packets : List (ℕ × Cargo)) (by_port : List (List Cargo)) : Type 0 where
  pub count : length by_port ≡ ports
  pub each : (port : ℕ) → port < ports → slice_index_or by_port port [] ≡ packets_at port packets

-- the lines are taken, and those are the packets of each port
pub record Arrive (lines : List (List ℕ)) (ports : ℕ) (held : List (List ℕ)) (by_port : List (List Cargo)) : Type 0
  where
    pub packets : List (ℕ × Cargo)
    pub taken : AreArrivalsTaken lines ports held packets
    pub sorted : AreByPort ports packets by_port

-- the same, whatever bytes the ports hold then
pub record ArriveAll (lines : List (List ℕ)) (ports : ℕ) (by_port : List (List Cargo)) : Type 0 where
  pub packets : List (ℕ × Cargo)
  pub lines_are : AreArrivalLines lines ports packets
  pub sorted : AreByPort ports packets by_port

-- how many packets came to a port
abbrev pub arrivals_at : (port : ℕ) → List (List Cargo) → ℕ
arrivals_at port by_port = length (slice_index_or by_port port [])

-- there is such a port, and fewer than 1,023 packets came to it
abbrev pub HasRoomToArrive : (port : ℕ) → List (List Cargo) → Type 0
HasRoomToArrive port by_port = (port < length by_port) × (arrivals_at port by_port < 1023)

-- the packet that came, if one did, comes after the others of its port, which had room for it
abbrev pub IsArrivalAdded : Option (ℕ × Cargo) → (before after : List (List Cargo)) → Type 0
IsArrivalAdded None before after = after ≡ before
IsArrivalAdded (Some received) before after =
    HasRoomToArrive received.0 before × (after ≡ slice_set before received.0 (slice_index_or before received.0 [] ++ received.1 ∷ []))

-- the line was taken, and what came of it was added
pub record TakesIn (line : List ℕ) (held left : List (List ℕ)) (before after : List (List Cargo)) : Type 0 where
  pub received : Option (ℕ × Cargo)
  pub fed : IsFed line held left received
  pub added : IsArrivalAdded received before after

-- the line ends a packet of a port that has no room for it
pub record FindsFull (line : List ℕ) (held : List (List ℕ)) (before : List (List Cargo)) : Type 0 where
  pub port : ℕ
  pub packet : Cargo
  pub left : List (List ℕ)
  pub fed : IsFed line held left (Some (port, packet))
  pub full : ¬ HasRoomToArrive port before

-- why the line was not taken in
abbrev pub IsNotTakenIn : List ℕ → (held : List (List ℕ)) → List (List Cargo) → LineEnd → Type 0
IsNotTakenIn line held before (Bad fault) = IsBadHere line held fault ⊎ ((fault ≡ NoRoom) × FindsFull line held before)
IsNotTakenIn line held before OutOfMemory = Unit {0}
