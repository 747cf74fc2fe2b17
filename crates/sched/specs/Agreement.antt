-- What looking back finds published, and what the list of publishes of a running node says.
use Rattle.std.specs.Prelude.{◌≡◌, ℕ, List, [], ◌∷◌, ◌++◌, map, Option, Some, None, option_map}
use Rattle.bpf.specs.Program.{Program}
use Rattle.bver.specs.Justified.{AcceptedValue}
use Rattle.node_programs.specs.declared.publishes.Publish.{Publish}
use Rattle.node_programs.specs.Published.{judging_program}
use Rattle.sched.specs.History.{History, Start, Then}
use Rattle.sched.specs.Looking.{Node, published, published_at}

-- the programs that were published, with one more at the end if an event published one
abbrev pub with_event_published : Option (ℕ × Program) → List (ℕ × Program) → List (ℕ × Program)
with_event_published None made = made
with_event_published (Some next) made = made ++ next ∷ []

-- All that was published, in order: each program with its slot. What was published before the first event comes first.
abbrev pub all_published : Node → History → List (ℕ × Program)
all_published n Start = n.firsts
all_published n (Then h event outcome) = with_event_published (published_at n h event outcome) (all_published n h)

-- the slot and the program of a publish
abbrev pub slot_and_program : Publish → ℕ × Program
slot_and_program p = (p.slot, p.program.program)

-- a list of publishes has the factory program first, and after it the slots and the programs that were published
abbrev pub ArePublishesOf : Node → History → List Publish → Type 0
ArePublishesOf n h [] = ⊥
ArePublishesOf n h (first ∷ publishes) =
    (first.program.program ≡ n.factory) × (map slot_and_program publishes ≡ all_published n h)

-- the program of an accepted one, with its generation
abbrev pub program_and_generation : AcceptedValue × ℕ → Program × ℕ
program_and_generation shown = (shown.0.program, shown.1)

-- by every such list, what is published in a slot is the program that judges there, with its generation
abbrev pub PublishedAgrees : Type 0
PublishedAgrees =
    (n : Node) (h : History) (publishes : List Publish) (slot : ℕ) → ArePublishesOf n h publishes
    → option_map program_and_generation (judging_program publishes slot) ≡ Some (published n h slot)
