-- Take: what a packet comes to is lawful, and the world goes on.
use Rattle.std.proofs.Common.{◌≡◌, ◌<◌, ℕ, List, length, true, false, Option, Some, None, is_none, refl, sym, ap, subst, ◌∙◌}
use Rattle.std.specs.Prelude.{slice_get, slice_set}
use Rattle.spw.specs.Cargo.{Cargo}
use Rattle.rmap.specs.declared.places.Place.{Place}
use Rattle.rmap.specs.Command.{command_of, discard_of}
use Rattle.rmap.specs.Windows.{WindowsValue}
use Rattle.bver.specs.Justified.{AcceptedValue}
use Rattle.bank.specs.Admission.{IsPlacedBy}
use Rattle.node_parts.specs.declared.stop.Stop.{Stop}
use Rattle.node_parts.specs.declared.stop.Stop.TheVariants.{Discarded as NoCommand, Answered as Fault}
use Rattle.node_parts.specs.Steps.{IsStopped}
use Rattle.sched.specs.declared.event.Event.TheVariants.{Take}
use Rattle.sched.specs.declared.event.Outcome.{Outcome}
use Rattle.sched.specs.declared.event.Outcome.TheVariants.{Refused, Answered, Taken}
use Rattle.sched.specs.BeginsHistory.{IsBegun}
use Rattle.sched.specs.History.{History, Open, taken, opened}
use Rattle.sched.specs.Lawful.{header_outcome, packet_outcome, take_outcome, stop_outcome}
use Rattle.sched.specs.Looking.{Node, windows_in, slot_at, slot_of_packet, staging, published, entries}
use Rattle.sched.specs.Worlds.{RunValue, PortValue, WorldValue, GoesOnLawfully, IsJudging, IsPortOf, IsRunOfOpen, IsShownAs, IsWorldOf}
use Rattle.sched.proofs.Growth.{IsPortAfter, LeavesAll, ports_changed, left_all}
use Rattle.sched.proofs.Outcomes.{AnswersWord, then_lawful}
use Rattle.sched.proofs.Reporting.{outcome_here}

-- ---- at a busy port

busy : (n : Node) (h : History) (port : ℕ) (packet : Cargo) (last : Option Open) (run : Option RunValue) → IsJudging n port last run → is_none run ≡ false → Refused ≡ take_outcome n h packet last
busy n h port packet None None is some = absurd cc
busy n h port packet None (Some r) is some = absurd is
busy n h port packet (Some o) run is some = refl

-- a packet at a port that judges a command is refused, and the world stays
pub take_refused : (w : WorldValue) (port : ℕ) (packet : Cargo) (p : PortValue) → slice_get w.ports port ≡ Some p → port < length w.ports → is_none p.run ≡ false → GoesOnLawfully (Take port packet) Refused w w
take_refused w port packet p there below some n h world =
    let here = world.world.ports_are.each port p there in
    record {
      lawful = then_lawful n h (Take port packet) Refused world.lawful (outcome_here n h (Take port packet) Refused w.ports below world.world.ports_are.count (busy n h port packet (opened h port) p.run here.judging some)) tt;
      world = left_all n h (Take port packet) Refused w tt world.world;
    }

-- ---- at a free port

free : (n : Node) (port : ℕ) (last : Option Open) (run : Option RunValue) → IsJudging n port last run → is_none run ≡ true → last ≡ None
free n port None run is none = refl
free n port (Some o) None is none = absurd is
free n port (Some o) (Some r) is none = absurd cc

-- a packet, if its header stops it
stopped_by : (n : Node) (h : History) (packet : Cargo) (stop : Stop) (reply : List ℕ) → IsStopped stop packet (windows_in n) reply → stop_outcome stop reply ≡ packet_outcome n h packet (discard_of packet.bytes)
stopped_by n h packet (NoCommand discard) reply is = sym (ap (packet_outcome n h packet) is.0)
stopped_by n h packet (Fault status) reply is =
    ap (Answered status) is.1 ∙ sym (ap (header_outcome n h packet) is.0.stopped) ∙ sym (ap (packet_outcome n h packet) is.0.command)

stop_leaves : (stop : Stop) (reply : List ℕ) → LeavesAll (stop_outcome stop reply)
stop_leaves (NoCommand discard) reply = tt
stop_leaves (Fault status) reply = tt

stop_word : (stop : Stop) (reply : List ℕ) → AnswersWord (stop_outcome stop reply)
stop_word (NoCommand discard) reply = tt
stop_word (Fault status) reply = tt

-- what a packet comes to if its header stops it
pub take_stopped : (w : WorldValue) (port : ℕ) (packet : Cargo) (p : PortValue) (stop : Stop) (reply : List ℕ) (outcome : Outcome) → slice_get w.ports port ≡ Some p → port < length w.ports → is_none p.run ≡ true
    → IsStopped stop packet w.windows reply → outcome ≡ stop_outcome stop reply → GoesOnLawfully (Take port packet) outcome w w
take_stopped w port packet p stop reply outcome there below none stops is n h world =
    let old = world.world in
    let last = free n port (opened h port) p.run (old.ports_are.each port p there).judging none in
    let stops_here = subst (λ (windows : WindowsValue). IsStopped stop packet windows reply) old.windows_are stops in
    let reported = stopped_by n h packet stop reply stops_here ∙ sym (ap (take_outcome n h packet) last) in
    rw is (record {
      lawful = then_lawful n h (Take port packet) (stop_outcome stop reply) world.lawful (outcome_here n h (Take port packet) (stop_outcome stop reply) w.ports below old.ports_are.count reported) (stop_word stop reply);
      world = left_all n h (Take port packet) (stop_outcome stop reply) w (stop_leaves stop reply) old;
    })

-- ---- taken

-- a command that no check of its header stops is taken
taken_outcome : (n : Node) (h : History) (packet : Cargo) (place : Place) (generation : ℕ) → IsPlacedBy (windows_in n) packet place → generation ≡ (published n h (slot_of_packet n packet)).1
    → Taken generation ≡ packet_outcome n h packet (discard_of packet.bytes)
taken_outcome n h packet place generation placed is =
    ap Taken is ∙ sym (ap (header_outcome n h packet) placed.allowed) ∙ sym (ap (packet_outcome n h packet) placed.command)

-- the port judges the command from now on
taken_port : (n : Node) (h : History) (port : ℕ) (packet : Cargo) (p : PortValue) (r : RunValue) → IsRunOfOpen n port (taken packet r.generation h) r
    → IsPortOf n port (staging n h port) (opened h port) (entries n h) p → IsPortAfter n h (Take port packet) (Taken r.generation) port (record p { run = Some r })
taken_port n h port packet p r run before = record {
  staging_is = before.staging_is;
  judging = run;
  count = before.count;
  shares = before.shares;
}

-- what a command comes to if it is judged from now on
pub take_taken : (w : WorldValue) (port : ℕ) (packet : Cargo) (place : Place) (p : PortValue) (r : RunValue) → slice_get w.ports port ≡ Some p → port < length w.ports → is_none p.run ≡ true
    → IsPlacedBy w.windows packet place → IsBegun w port packet r → GoesOnLawfully (Take port packet) (Taken r.generation) w (record w { ports = slice_set w.ports port (record p { run = Some r }) })
take_taken w port packet place p r there below none placed begun n h world =
    let old = world.world in
    let here = old.ports_are.each port p there in
    let last = free n port (opened h port) p.run here.judging none in
    let placed_here = subst (λ (windows : WindowsValue). IsPlacedBy windows packet place) old.windows_are placed in
    let reported = taken_outcome n h packet place r.generation placed_here (begun.generation n h old) ∙ sym (ap (take_outcome n h packet) last) in
    record {
      lawful = then_lawful n h (Take port packet) (Taken r.generation) world.lawful (outcome_here n h (Take port packet) (Taken r.generation) w.ports below old.ports_are.count reported) tt;
      world = record {
        windows_are = old.windows_are;
        sizes_are = old.sizes_are;
        banks_are = old.banks_are;
        words_are = old.words_are;
        programs_are = old.programs_are;
        count_is = old.count_is;
        ports_are = ports_changed n h (Take port packet) (Taken r.generation) w.ports p (record p { run = Some r }) there (taken_port n h port packet p r (begun.run n h old) here) (λ other k apart. refl) old.ports_are;
      };
    }

-- ---- the program of a slot

-- the slot of a command's place is the one that looking back names
slot_placed : (n : Node) (packet : Cargo) (place : Place) → IsPlacedBy (windows_in n) packet place → slot_of_packet n packet ≡ slot_at (command_of packet) (Some place)
slot_placed n packet place placed = ap (slot_at (command_of packet)) placed.lies

-- the program that is shown in the slot of a command's place is the one that is published there
pub shown_there : (n : Node) (h : History) (w : WorldValue) (packet : Cargo) (place : Place) (slot : ℕ) (shown : AcceptedValue × ℕ) → IsWorldOf n h w → IsPlacedBy w.windows packet place
    → slot ≡ slot_at (command_of packet) (Some place) → slice_get w.programs slot ≡ Some shown → IsShownAs n (published n h (slot_of_packet n packet)) shown
shown_there n h w packet place slot shown world placed is there =
    let placed_here = subst (λ (windows : WindowsValue). IsPlacedBy windows packet place) world.windows_are placed in
    let same : slot ≡ slot_of_packet n packet = is ∙ sym (slot_placed n packet place placed_here) in
    subst (λ (s : ℕ). IsShownAs n (published n h s) shown) same (world.programs_are slot shown there)
