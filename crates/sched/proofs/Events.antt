-- What an event of a port does to the world, by what the world's calls say.
use Rattle.std.proofs.Common.{◌≡◌, ◌<◌, ◌≤◌, ◌^◌, ℕ, List, [], length, get_or, true, false, Option, Some, None, is_none, refl, sym, ap, subst, ◌∙◌, arith}
use Rattle.std.specs.Prelude.{IsTrue, slice_get, slice_set, slice_index_or}
use Rattle.std.proofs.lemmas.Option.{slice_get_read}
use Rattle.spw.specs.Cargo.{Cargo}
use Rattle.rmap.specs.declared.places.Place.{Place}
use Rattle.rmap.specs.Windows.{WindowsValue}
use Rattle.machine.specs.Sizes.{Maps, IsInside, kind_of_map}
use Rattle.bank.specs.Admission.{IsPlacedBy}
use Rattle.node_parts.specs.declared.stop.Stop.{Stop}
use Rattle.node_parts.specs.Steps.{IsStopped}
use Rattle.machine.specs.declared.helpers.Helper.{Helper}
use Rattle.machine.specs.Helpers.{takes_kind}
use Rattle.sched.specs.declared.event.Event.{Event}
use Rattle.sched.specs.declared.event.Event.TheVariants.{Take}
use Rattle.sched.specs.declared.event.Outcome.{Outcome}
use Rattle.sched.specs.declared.event.Outcome.TheVariants.{Refused, Taken, Told}
use Rattle.sched.specs.Answers.{answering}
use Rattle.plain_cells.specs.Words.{answer_of_word, word_after_question, with_word, key_word_at}
use Rattle.sched.specs.BeginsHistory.{IsBegun}
use Rattle.sched.specs.History.{port_of}
use Rattle.sched.specs.Lawful.{stop_outcome}
use Rattle.sched.specs.Looking.{argument_asked, cell_asked}
use Rattle.sched.specs.Worlds.{RunValue, PortValue, WorldValue, GoesOnLawfully, IsPortIn, IsRunUnderIfAny, IsSameRunIfAny, IsWorld, turn_in}
use Rattle.sched.proofs.Outcomes.{then_lawful}
use Rattle.sched.proofs.Growth.{left_all}
use Rattle.sched.proofs.Keeping.{port_keeps, same_under_if_any, world_with_port}
use Rattle.plain_cells.proofs.Zeros.{cells_keep, cell_there}
use Rattle.sched.proofs.Taking.{take_refused, take_stopped, take_taken}
use Rattle.sched.proofs.Reporting.{IsAskedOf, IsAnsweredPort, helper_goes_on, helper_refused}

-- ---- a port that was read

-- the old world, opened, has that port at a place that the event names
pub record IsRead (old w : WorldValue) (place port : ℕ) (p : PortValue) : Type 0 where
  pub is : w ≡ old
  pub place_is : place ≡ port
  pub below_old : port < length old.ports
  pub read : p ≡ slice_index_or w.ports place p

pub read_at : {old w : WorldValue} {place port : ℕ} {p : PortValue} → w ≡ old → place ≡ port → port < length old.ports → p ≡ slice_index_or w.ports place p → IsRead old w place port p
read_at is place_is below_old read = record { is = is; place_is = place_is; below_old = below_old; read = read }

pub below : (old w : WorldValue) (place port : ℕ) (p : PortValue) → IsRead old w place port p → port < length w.ports
below old w place port p is = subst (λ (v : WorldValue). port < length v.ports) (sym is.is) is.below_old

pub there : (old w : WorldValue) (place port : ℕ) (p : PortValue) → IsRead old w place port p → slice_get w.ports port ≡ Some p
there old w place port p is =
    slice_get_read w.ports (length w.ports) port p refl (below old w place port p is) (subst (λ (k : ℕ). p ≡ get_or w.ports k p) is.place_is is.read)

some-same : (x y : PortValue) → ◌≡◌ {A = Option PortValue} (Some x) (Some y) → x ≡ y
some-same x y e = cc

-- what was read twice is the same
pub read_again : (old w : WorldValue) (place port : ℕ) (p q : PortValue) → IsRead old w place port p → IsRead old w place port q → q ≡ p
read_again old w place port p q first second =
    some-same q p (sym (there old w place port q second) ∙ there old w place port p first)

low : (w : WorldValue) (port : ℕ) → port < length w.ports → IsWorld w → port < 32
low w port inside is = omega (arith, inside, is.few_ports)

-- ---- Take

-- a packet at a port that judges a command
pub take_busy : (old w : WorldValue) (place port : ℕ) (packet : Cargo) (p : PortValue) → IsRead old w place port p → false ≡ is_none p.run → GoesOnLawfully (Take port packet) Refused old old
take_busy old w place port packet p is some =
    subst (λ (v : WorldValue). GoesOnLawfully (Take port packet) Refused v v) is.is (take_refused w port packet p (there old w place port p is) (below old w place port p is) (sym some))

-- a packet at a free port, if its header stops it
pub take_stops : (old w : WorldValue) (place port : ℕ) (packet : Cargo) (p : PortValue) (stop : Stop) (reply : List ℕ) (outcome : Outcome) → IsRead old w place port p → true ≡ is_none p.run
    → IsStopped stop packet w.windows reply → outcome ≡ stop_outcome stop reply → GoesOnLawfully (Take port packet) outcome old old
take_stops old w place port packet p stop reply outcome is none stops reported =
    subst (λ (v : WorldValue). GoesOnLawfully (Take port packet) outcome v v) is.is (take_stopped w port packet p stop reply outcome (there old w place port p is) (below old w place port p is) (sym none) stops reported)

-- a packet at a free port, read again to be written, whose command is judged from now on
pub record IsBeginAt (old w : WorldValue) (place port : ℕ) (packet : Cargo) (p q r : PortValue) (run : RunValue) : Type 0 where
  pub first : IsRead old w place port p
  pub read : IsRead old w place port q
  pub none : true ≡ is_none p.run
  pub begun : IsBegun old port packet run
  pub written : r ≡ record q { run = Some run }

pub begun_world : (old w : WorldValue) (place port : ℕ) (packet : Cargo) (p q r : PortValue) (run : RunValue) → IsBeginAt old w place port packet p q r run → IsWorld w → IsWorld (record w { ports = slice_set w.ports place r })
begun_world old w place port packet p q r run is fits =
    let begun = subst (λ (v : WorldValue). IsBegun v port packet run) (sym is.read.is) is.begun in
    let at = there old w place port q is.read in
    let made = world_with_port w port q (record q { run = Some run }) at (port_keeps w.windows w.sizes w.banks port q (record q { run = Some run }) refl begun.under (fits.ports port q at)) fits in
    subst (λ (k : ℕ). IsWorld (record w { ports = slice_set w.ports k r })) (sym is.read.place_is)
    (subst (λ (v : PortValue). IsWorld (record w { ports = slice_set w.ports port v })) (sym is.written) made)

pub begun_goes_on : (old w : WorldValue) (place port : ℕ) (packet : Cargo) (lies : Place) (p q r : PortValue) (run : RunValue) → IsBeginAt old w place port packet p q r run → IsPlacedBy w.windows packet lies
    → GoesOnLawfully (Take port packet) (Taken run.generation) old (record w { ports = slice_set w.ports place r })
begun_goes_on old w place port packet lies p q r run is placed =
    let begun = subst (λ (v : WorldValue). IsBegun v port packet run) (sym is.read.is) is.begun in
    let none = subst (λ (v : PortValue). true ≡ is_none v.run) (sym (read_again old w place port p q is.first is.read)) is.none in
    let made = take_taken w port packet lies q run (there old w place port q is.read) (below old w place port q is.read) (sym none) placed begun in
    subst (λ (v : WorldValue). GoesOnLawfully (Take port packet) (Taken run.generation) v (record w { ports = slice_set w.ports place r })) is.read.is
    (subst (λ (k : ℕ). GoesOnLawfully (Take port packet) (Taken run.generation) w (record w { ports = slice_set w.ports k r })) (sym is.read.place_is)
    (subst (λ (v : PortValue). GoesOnLawfully (Take port packet) (Taken run.generation) w (record w { ports = slice_set w.ports port v })) (sym is.written) made))

-- ---- Count, Ticket and Peak

-- what a helper asks of a world
pub record IsAsked (old w : WorldValue) (place port map key : ℕ) (helper : Helper) (p : PortValue) : Type 0 where
  pub read : IsRead old w place port p
  pub asked : Some (map, key) ≡ cell_asked helper (turn_in p.run)
  pub inside : (windows : WindowsValue) (sizes : Maps) → IsRunUnderIfAny windows sizes p.run → IsInside sizes map key
  pub kind : (windows : WindowsValue) (sizes : Maps) → IsRunUnderIfAny windows sizes p.run → IsTrue (takes_kind helper (kind_of_map sizes map))

-- the cell that is asked for is there
pub asked_there : (old w : WorldValue) (place port map key : ℕ) (helper : Helper) (p : PortValue) → IsAsked old w place port map key helper p → IsWorld w → (map < length w.words) × (key < length (slice_index_or w.words map []))
asked_there old w place port map key helper p is fits =
    cell_there w.sizes w.words map key (is.inside w.windows w.sizes (fits.ports port p (there old w place port p is.read)).run) fits.cells

-- what the port asks of the world
asked_of : (old w : WorldValue) (place port map key argument : ℕ) (helper : Helper) (p : PortValue) → IsAsked old w place port map key helper p → argument ≡ argument_asked (turn_in p.run) → IsWorld w → IsAskedOf w port map key argument helper p
asked_of old w place port map key argument helper p is number fits =
    let here = there old w place port p is.read in
    let inside = below old w place port p is.read in
    let run = (fits.ports port p here).run in
    let cell = asked_there old w place port map key helper p is fits in
    record {
      there = here;
      below = inside;
      low = low w port inside fits;
      asked = is.asked;
      argument_is = number;
      inside = is.inside w.windows w.sizes run;
      kind = is.kind w.windows w.sizes run;
      map_there = cell.0;
      key_there = cell.1;
    }

-- the port after an answer still fits
answered_fits : (w : WorldValue) (port reported : ℕ) (p q : PortValue) → slice_get w.ports port ≡ Some p → IsAnsweredPort reported p q → IsSameRunIfAny p.run q.run → IsWorld w → IsPortIn w.windows w.sizes w.banks port q
answered_fits w port reported p q read is same fits =
    let before = fits.ports port p read in
    port_keeps w.windows w.sizes w.banks port p q (ap (λ (v : PortValue). v.shares) is.rest) (same_under_if_any w.windows w.sizes p.run q.run same before.run) before

-- a port that was read, read again to be changed, got that answer
pub record IsAnsweredAt (old w : WorldValue) (place port reported : ℕ) (p q : PortValue) : Type 0 where
  pub read : IsRead old w place port p
  pub answered_as : IsAnsweredPort reported p q
  pub same : IsSameRunIfAny p.run q.run

answered_world : (old w : WorldValue) (place port reported : ℕ) (p q : PortValue) → IsAnsweredAt old w place port reported p q → IsWorld w → IsWorld (record w { ports = slice_set w.ports place q })
answered_world old w place port reported p q is fits =
    let read = there old w place port p is.read in
    subst (λ (k : ℕ). IsWorld (record w { ports = slice_set w.ports k q })) (sym is.read.place_is)
    (world_with_port w port p q read (answered_fits w port reported p q read is.answered_as is.same fits) fits)

-- the world after an answer with which the word of a cell was written
pub written_world : (old w : WorldValue) (place port reported map key next : ℕ) (p q : PortValue) → IsAnsweredAt old w place port reported p q → map < length w.words → IsWorld w → IsWorld (record w { words = with_word w.words map key next; ports = slice_set w.ports place q })
written_world old w place port reported map key next p q is map_there fits =
    let made = answered_world old w place port reported p q is fits in
    record {
      cells = cells_keep w.sizes w.words map key next map_there fits.cells;
      slots = made.slots;
      accepted = made.accepted;
      few_ports = made.few_ports;
      ports = made.ports;
    }

-- the event of a helper, if the program does not ask it
pub helper_none : (old w : WorldValue) (place port : ℕ) (helper : Helper) (p : PortValue) → IsRead old w place port p → None ≡ cell_asked helper (turn_in p.run) → GoesOnLawfully (answering helper port) Refused old old
helper_none old w place port helper p is none =
    subst (λ (v : WorldValue). GoesOnLawfully (answering helper port) Refused v v) is.is (helper_refused w port helper p (there old w place port p is) (below old w place port p is) none)

-- what the helper answers, and the word after that
pub record IsAnswered (helper : Helper) (word argument reported next : ℕ) : Type 0 where
  pub reported_is : reported ≡ answer_of_word helper word argument
  pub next_is : next ≡ word_after_question helper word argument

-- the event of a helper, if the program asks it
pub helper_answered : (old w : WorldValue) (place port map key argument reported next : ℕ) (helper : Helper) (p q : PortValue) → IsAsked old w place port map key helper p → argument ≡ argument_asked (turn_in p.run)
    → IsAnswered helper (key_word_at w.words map key) argument reported next → IsAnsweredAt old w place port reported p q → IsWorld w → reported < 2 ^ 64
    → GoesOnLawfully (answering helper port) (Told reported) old (record w { words = with_word w.words map key next; ports = slice_set w.ports place q })
helper_answered old w place port map key argument reported next helper p q asks number answered is fits small =
    let answered_as = subst (λ (x : ℕ). IsAnsweredPort x p q) answered.reported_is is.answered_as in
    let made = helper_goes_on w port map key argument helper p q (asked_of old w place port map key argument helper p asks number fits) answered_as (subst (λ (x : ℕ). x < 2 ^ 64) answered.reported_is small) in
    subst (λ (v : WorldValue). GoesOnLawfully (answering helper port) (Told reported) v (record w { words = with_word w.words map key next; ports = slice_set w.ports place q })) is.read.is
    (subst (λ (k : ℕ). GoesOnLawfully (answering helper port) (Told reported) w (record w { words = with_word w.words map key next; ports = slice_set w.ports k q })) (sym is.read.place_is)
    (subst (λ (x : ℕ). GoesOnLawfully (answering helper port) (Told x) w (record w { words = with_word w.words map key next; ports = slice_set w.ports port q })) (sym answered.reported_is)
    (subst (λ (x : ℕ). GoesOnLawfully (answering helper port) (Told (answer_of_word helper (key_word_at w.words map key) argument)) w (record w { words = with_word w.words map key x; ports = slice_set w.ports port q })) (sym answered.next_is) made)))

-- ---- nowhere

-- an event of a port that is not there is refused, and the world stays
pub nowhere : (w : WorldValue) (event : Event) → length w.ports ≤ port_of event → GoesOnLawfully event Refused w w
nowhere w event past n h world = record {
  lawful = then_lawful n h event Refused world.lawful (record { here = λ below. absurd (omega (arith, below, past, world.world.ports_are.count)); nowhere = λ _. refl }) tt;
  world = left_all n h event Refused w tt world.world;
}
