-- A command that a world begins to judge.
use Rattle.std.specs.Prelude.{◌≡◌, ℕ, Some}
use Rattle.spw.specs.Cargo.{Cargo}
use Rattle.rmap.specs.declared.places.Place.{Place}
use Rattle.bver.specs.Justified.{AcceptedValue}
use Rattle.bank.specs.Admission.{IsPlacedBy}
use Rattle.sched.specs.History.{History, taken}
use Rattle.sched.specs.Looking.{Node, published, slot_of_packet, windows_in}
use Rattle.sched.specs.Worlds.{PortValue, RunValue, WorldValue, IsFor, IsRunOfOpen, IsRunUnder, IsRunWith, IsWorldOf}

-- The run fits the world. After each history of the world it is that of the packet's command, which the port just took,
-- by the program published in its slot.
pub record IsBegun (w : WorldValue) (port : ℕ) (packet : Cargo) (r : RunValue) : Type 0 where
  pub under : IsRunUnder w.windows w.sizes r
  pub run : (n : Node) (h : History) → IsWorldOf n h w → IsRunOfOpen n port (taken packet r.generation h) r
  pub generation : (n : Node) (h : History) → IsWorldOf n h w → r.generation ≡ (published n h (slot_of_packet n packet)).1

-- what a run that began says, of every node and history
abbrev pub BeginsAs : (port : ℕ) → Cargo → Place → AcceptedValue → (generation : ℕ) → RunValue → Type 0
BeginsAs port packet place a generation r = (n : Node) (h : History) → IsPlacedBy (windows_in n) packet place
    → a.program ≡ (published n h (slot_of_packet n packet)).0 → IsFor n a → IsRunOfOpen n port (taken packet generation h) r

-- the run is that of the packet's command, which that program of that generation has begun to judge
pub record HasBegun (port : ℕ) (packet : Cargo) (place : Place) (a : AcceptedValue) (generation : ℕ) (r : RunValue) :
    Type 0 where
  pub with : IsRunWith packet place a generation r
  pub begins : BeginsAs port packet place a generation r

-- the port judges such a run from now on
pub record BeginsAt (port : ℕ) (packet : Cargo) (place : Place) (a : AcceptedValue) (generation : ℕ) (old new : PortValue)
    : Type 0 where
  pub run : RunValue
  pub begun : HasBegun port packet place a generation run
  pub written : new ≡ record old { run = Some run }
