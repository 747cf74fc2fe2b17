-- What is published before the first event.
use Rattle.std.specs.Prelude.{◌≡◌, ◌≤◌, ◌+◌, ℕ, ◌∷◌, ◌++◌, []}
use Rattle.bpf.specs.Program.{Program}
use Rattle.bver.specs.Justified.{AcceptedValue}
use Rattle.machine.specs.Sizes.{Maps}
use Rattle.sched.specs.Headline.{IsNode}
use Rattle.sched.specs.History.{Start}
use Rattle.sched.specs.Looking.{Node}
use Rattle.sched.specs.Worlds.{IsWorldOf, WorldValue}

-- the slot and the program of one that is to be published
abbrev pub slot_with_program : ℕ × AcceptedValue → ℕ × Program
slot_with_program first = (first.0, first.1.program)

-- it is for one of the four slots, and was accepted for maps of those sizes
abbrev pub IsFirstOfWorld : Maps → ℕ × AcceptedValue → Type 0
IsFirstOfWorld sizes first = (first.0 ≤ 3) × (first.1.sizes ≡ sizes)

-- the node with one program more that is published before the first event, after the others
abbrev pub with_first : Node → ℕ × Program → Node
with_first n made = record n { firsts = n.firsts ++ made ∷ [] }

-- The world of a node before any event became the world of that node with one more program published before the first
-- event.
pub record AddsFirst (first : ℕ × AcceptedValue) (old new : WorldValue) : Type 0 where
  pub world : (n : Node) → IsWorldOf n Start old → IsWorldOf (with_first n (slot_with_program first)) Start new
  pub node : (n : Node) → n.sizes ≡ old.sizes → IsNode n → IsNode (with_first n (slot_with_program first))
  pub sizes : new.sizes ≡ old.sizes
  pub count : new.count ≡ old.count + 1
