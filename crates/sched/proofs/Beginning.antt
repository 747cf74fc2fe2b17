-- A command that is judged from now on, by what the world's calls say.
use Rattle.std.proofs.Common.{◌≡◌, ◌<◌, ℕ, List, length, get_or, Some, refl, sym, ap, subst, ◌∙◌}
use Rattle.std.specs.Prelude.{slice_get}
use Rattle.std.proofs.lemmas.Option.{slice_get_read}
use Rattle.spw.specs.Cargo.{Cargo}
use Rattle.rmap.specs.declared.places.Place.{Place}
use Rattle.rmap.specs.Command.{command_kind, command_of}
use Rattle.bver.specs.Justified.{AcceptedValue}
use Rattle.bank.specs.Admission.{IsPlacedBy}
use Rattle.node_parts.specs.Slots.{slot_of}
use Rattle.sched.specs.BeginsHistory.{BeginsAs, IsBegun}
use Rattle.sched.specs.History.{History, taken}
use Rattle.sched.specs.Looking.{Node, slot_of_packet, published}
use Rattle.sched.specs.Worlds.{RunValue, WorldValue, IsFor, IsRunOfOpen, IsRunUnder, IsRunWith, IsShownAs, IsWorld, IsWorldOf}
use Rattle.sched.proofs.Taking.{shown_there}

-- a program that was read is what its slot shows
pub read_there : (programs : List (AcceptedValue × ℕ)) (slot : ℕ) (read shown : AcceptedValue × ℕ) → slot < length programs → read ≡ get_or programs slot read → shown ≡ get_or programs slot read
    → slice_get programs slot ≡ Some shown
read_there programs slot read shown below is same =
    slice_get_read programs (length programs) slot read refl below is ∙ ap Some (is ∙ sym same)

-- the old world, opened, begins to judge a packet at a place, by what the slot of its command shows
pub record IsBegin (old w : WorldValue) (packet : Cargo) (place : Place) (slot : ℕ) (shown : AcceptedValue × ℕ) (a : AcceptedValue) (r : RunValue) : Type 0 where
  pub is : w ≡ old
  pub placed : IsPlacedBy old.windows packet place
  pub slot_is : slot ≡ slot_of (command_kind (command_of packet)) place
  pub there : slice_get w.programs slot ≡ Some shown
  pub same : a ≡ shown.0
  pub with : IsRunWith packet place a shown.1 r

-- the run fits the world
begin_under : (old w : WorldValue) (packet : Cargo) (place : Place) (slot : ℕ) (shown : AcceptedValue × ℕ) (a : AcceptedValue) (r : RunValue) → IsBegin old w packet place slot shown a r → IsWorld w
    → IsRunUnder old.windows old.sizes r
begin_under old w packet place slot shown a r begins fits = record {
  placed = rw (begins.with.packet_is, begins.with.place_is) begins.placed;
  sizes_are = rw (begins.with.program_is, begins.same) (fits.accepted slot shown begins.there ∙ ap (λ (v : WorldValue). v.sizes) begins.is);
}

-- what the slot shows is what is published there
begin_shown : (old w : WorldValue) (packet : Cargo) (place : Place) (slot : ℕ) (shown : AcceptedValue × ℕ) (a : AcceptedValue) (r : RunValue) → IsBegin old w packet place slot shown a r
    → (n : Node) (h : History) → IsWorldOf n h old → IsShownAs n (published n h (slot_of_packet n packet)) shown
begin_shown old w packet place slot shown a r begins n h world =
    shown_there n h old packet place slot shown world begins.placed begins.slot_is (subst (λ (v : WorldValue). slice_get v.programs slot ≡ Some shown) begins.is begins.there)

begin_generation : (old w : WorldValue) (packet : Cargo) (place : Place) (slot : ℕ) (shown : AcceptedValue × ℕ) (a : AcceptedValue) (r : RunValue) → IsBegin old w packet place slot shown a r
    → (n : Node) (h : History) → IsWorldOf n h old → r.generation ≡ (published n h (slot_of_packet n packet)).1
begin_generation old w packet place slot shown a r begins n h world =
    begins.with.generation_is ∙ (begin_shown old w packet place slot shown a r begins n h world).generation

-- the run is that of the command that is taken
begin_run : (old w : WorldValue) (port : ℕ) (packet : Cargo) (place : Place) (slot : ℕ) (shown : AcceptedValue × ℕ) (a : AcceptedValue) (r : RunValue) → IsBegin old w packet place slot shown a r
    → BeginsAs port packet place a shown.1 r → (n : Node) (h : History) → IsWorldOf n h old → IsRunOfOpen n port (taken packet r.generation h) r
begin_run old w port packet place slot shown a r begins run n h world =
    let here = begin_shown old w packet place slot shown a r begins n h world in
    let placed = subst (λ windows. IsPlacedBy windows packet place) world.windows_are begins.placed in
    let accepted = subst (λ (v : AcceptedValue). IsFor n v) (sym begins.same) here.accepted in
    subst (λ (generation : ℕ). IsRunOfOpen n port (taken packet generation h) r) (sym begins.with.generation_is)
    (run n h placed (ap (λ (v : AcceptedValue). v.program) begins.same ∙ here.program) accepted)

pub has_begun : (old w : WorldValue) (port : ℕ) (packet : Cargo) (place : Place) (slot : ℕ) (shown : AcceptedValue × ℕ) (a : AcceptedValue) (r : RunValue) → IsBegin old w packet place slot shown a r
    → BeginsAs port packet place a shown.1 r → IsWorld w → IsBegun old port packet r
has_begun old w port packet place slot shown a r begins run fits = record {
  under = begin_under old w packet place slot shown a r begins fits;
  run = begin_run old w port packet place slot shown a r begins run;
  generation = begin_generation old w packet place slot shown a r begins;
}
