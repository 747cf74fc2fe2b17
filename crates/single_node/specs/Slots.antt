-- What the four slots of a node show.
use Rattle.std.specs.Prelude.{◌≡◌, ◌≢◌, ◌<◌, ◌+◌, ℕ, List, [], ◌∷◌, length, map, Option, Some, slice_get, slice_index_or}
use Rattle.std.specs.Option.{option_map}
use Rattle.bver.specs.Justified.{AcceptedValue}
use Rattle.machine.specs.Sizes.{Maps}
use Rattle.node_programs.specs.declared.publishes.Publish.{Publish}
use Rattle.node_programs.specs.Published.{AreFor, judging_program, sizes_of}
use Rattle.single_node.specs.declared.places.Placed.{Placed}
use Rattle.single_node.specs.declared.publishing.Publishing.{Publishing}

-- the factory program: the first of a node's programs, with generation 0
abbrev pub first_placed : Placed
first_placed = record { place = 0; generation = 0 }

-- the factory program in each of the four slots
abbrev pub first_slots : List Placed
first_slots = first_placed ∷ first_placed ∷ first_placed ∷ first_placed ∷ []

-- what the slot of that number has
abbrev pub placed_at : List Placed → (slot : ℕ) → Placed
placed_at slots slot = slice_index_or slots slot first_placed

-- no other slot has the program of that place
abbrev pub HasNoOther : List Placed → (slot place : ℕ) → Type 0
HasNoOther slots slot place = (k : ℕ) → k < 4 → k ≢ slot → (placed_at slots k).place ≢ place

-- the program of a slot, by its place among those of the node, with its generation, if there is that place
abbrev pub shown_at : List Publishing → Placed → Option (AcceptedValue × ℕ)
shown_at programs s = option_map (λ p. (p.program, s.generation)) (slice_get programs s.place)

-- the same of each slot
abbrev pub shown_by : List Publishing → List Placed → List (Option (AcceptedValue × ℕ))
shown_by programs slots = map (shown_at programs) slots

-- Each slot shows the program that judges at it by the list of what was published. That many were published after the
-- factory program, and all were accepted for those maps.
pub record AreSlotsShown (programs : List Publish) (shown : List (AcceptedValue × ℕ)) (count : ℕ) (sizes : Maps) : Type 0
  where
    pub slots : map (λ s. Some s) shown ≡ judging_program programs 0 ∷ judging_program programs 1
        ∷ judging_program programs 2 ∷ judging_program programs 3 ∷ []
    pub counted : length programs ≡ count + 1
    pub sizes_are : sizes ≡ sizes_of programs
    pub for_sizes : AreFor (sizes_of programs) programs

-- the same by the places of the slots' programs among those of the node
pub record ArePlaced (published : List Publish) (programs : List Publishing) (slots : List Placed) (count : ℕ)
    (sizes : Maps) : Type 0 where
  pub shown : List (AcceptedValue × ℕ)
  pub placed : shown_by programs slots ≡ map (λ s. Some s) shown
  pub are : AreSlotsShown published shown count sizes
