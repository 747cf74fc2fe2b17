-- Lines that are taken in turn, and the packets that come of them.
use Rattle.std.proofs.Common.{◌≡◌, ◌<◌, ◌≤◌, ◌+◌, ◌⊎◌, ℕ, suc, Bool, true, false, cond, List, [], ◌∷◌, ◌++◌, length, map, replicate, get_or, Option, Some, None, refl, sym, ap, subst, arith, ◌∙◌, inl, inr}
use Rattle.std.specs.Prelude.{◌==◌, filter, slice_index_or, slice_set}
use Rattle.std.proofs.lemmas.Bool.{cases_lt, eqb-false, eqb-true}
use Rattle.std.proofs.lemmas.List.{append-nil, append_assoc, get_or-replicate, get_or-set_other, get_or-set_same, length-append, length-replicate, length-set, map-append}
use Rattle.std.proofs.lemmas.List.Elements.{filter-append}
use Rattle.std.proofs.lemmas.Option.{slice_get_within}
use Rattle.spw.specs.Cargo.{Cargo}
use Rattle.job_nodes.specs.Feeds.{IsFed}
use Rattle.job_parts.specs.Stops.{StopsBy, fault_at}
use Rattle.job_parts.specs.Turns.{AreTaken as AreTakenInTurn, StopsInLines}
use Rattle.job_parts.specs.declared.bad_lines.BadLine.{BadLine}
use Rattle.job_parts.specs.declared.bad_lines.BadLine.TheVariants.{NoRoom}
use Rattle.job_parts.specs.declared.faults.Fault.{Fault}
use Rattle.job_parts.specs.declared.stops.JobStop.{JobStop}
use Rattle.job_parts.specs.declared.stops.JobStop.TheVariants.{Ended, Unwritten}
use Rattle.job_parts.specs.declared.stops.LineEnd.{LineEnd}
use Rattle.job_parts.specs.declared.stops.LineEnd.TheVariants.{Bad, NoMemory as OutOfMemory}
use Rattle.job_ports.specs.Arrivals.{AreByPort, AreNotTaken, Arrive, ArriveAll, Bring, HasRoomToArrive, IsArrivalAdded, IsBadHere, IsNotTakenIn, IsOneTooMany, TakesIn, arrivals_at, listed_arrival, packets_at}
use Rattle.job_ports.specs.Arriving.{Arrives, IsLineRefused}
use Rattle.job_ports.specs.declared.arriving.Arriving.{Arriving}

-- No line was taken yet.
pub none_yet : (ports : ℕ) → Arrive [] ports (replicate ports []) (replicate ports [])
none_yet ports = record {
  packets = [];
  taken = record { brought = (refl, refl); few = λ port. omega arith };
  sorted = record { count = length-replicate ports []; each = λ port below. get_or-replicate ports port [] [] below };
}

-- One more line.
bring_more : (lines : List (List ℕ)) (line : List ℕ) (a b c : List (List ℕ)) (packets : List (ℕ × Cargo)) (received : Option (ℕ × Cargo))
    → Bring lines a b packets → IsFed line b c received → Bring (lines ++ line ∷ []) a c (packets ++ listed_arrival received)
bring_more [] line a b c packets received all one = (
  received,
  c,
  [],
  subst (λ (held : List (List ℕ)). IsFed line held c received) all.0 one,
  (refl, refl),
  ap (λ (l : List (ℕ × Cargo)). l ++ listed_arrival received) all.1 ∙ sym (append-nil (listed_arrival received)),
)
bring_more (first ∷ lines) line a b c packets received all one = (
  all.0,
  all.1,
  all.2 ++ listed_arrival received,
  all.3,
  bring_more lines line all.1 b c all.2 received all.4 one,
  ap (λ (l : List (ℕ × Cargo)). l ++ listed_arrival received) all.5 ∙ append_assoc (listed_arrival all.0) all.2 (listed_arrival received),
)

-- The packet that came, if it is of the port.
of_port : (port : ℕ) (received : ℕ × Cargo) (test : Bool) → (received.0 == port) ≡ test → packets_at port (received ∷ []) ≡ cond test (received.1 ∷ []) []
of_port port received true is = ap (λ (b : Bool). map (λ (x : ℕ × Cargo). x.1) (cond b (received ∷ []) [])) is
of_port port received false is = ap (λ (b : Bool). map (λ (x : ℕ × Cargo). x.1) (cond b (received ∷ []) [])) is

-- The packets of a port after one more packet.
at_more : (port : ℕ) (packets : List (ℕ × Cargo)) (received : ℕ × Cargo) (test : Bool) → (received.0 == port) ≡ test
    → packets_at port (packets ++ received ∷ []) ≡ packets_at port packets ++ cond test (received.1 ∷ []) []
at_more port packets received test is =
    let mine : ℕ × Cargo → Bool = λ (x : ℕ × Cargo). x.0 == port in
    ap (map (λ (x : ℕ × Cargo). x.1)) (filter-append mine packets (received ∷ []))
    ∙ map-append (λ (x : ℕ × Cargo). x.1) (filter mine packets) (filter mine (received ∷ []))
    ∙ ap (λ (l : List Cargo). packets_at port packets ++ l) (of_port port received test is)

module _ (ports : ℕ) (packets : List (ℕ × Cargo)) (received : ℕ × Cargo) (before : List (List Cargo)) (was : AreByPort ports packets before)
    (inside : received.0 < length before) where
  sorted_at : (port : ℕ) (test : Bool) → (received.0 == port) ≡ test → port < ports
      → slice_index_or (slice_set before received.0 (slice_index_or before received.0 [] ++ received.1 ∷ [])) port [] ≡ packets_at port (packets ++ received ∷ [])
  sorted_at port true is below =
      let same : received.0 ≡ port = eqb-true received.0 port is in
      let new : List Cargo = slice_index_or before received.0 [] ++ received.1 ∷ [] in
      ap (λ (k : ℕ). get_or (slice_set before received.0 new) k []) (sym same)
      ∙ get_or-set_same before received.0 new [] inside
      ∙ ap (λ (l : List Cargo). l ++ received.1 ∷ []) (ap (λ (k : ℕ). get_or before k []) same ∙ was.each port below)
      ∙ sym (at_more port packets received true is)
  sorted_at port false is below =
      let other : port ≡ received.0 → ⊥ = λ e. eqb-false received.0 port is (sym e) in
      get_or-set_other before received.0 port (slice_index_or before received.0 [] ++ received.1 ∷ []) [] other
      ∙ was.each port below ∙ sym (at_more port packets received false is ∙ append-nil (packets_at port packets))

  few_at : ((port : ℕ) → length (packets_at port packets) ≤ 1023) → arrivals_at received.0 before < 1023
      → (port : ℕ) (test : Bool) → (received.0 == port) ≡ test → length (packets_at port (packets ++ received ∷ [])) ≤ 1023
  few_at few room port true is =
      let same : received.0 ≡ port = eqb-true received.0 port is in
      let own : slice_index_or before port [] ≡ packets_at port packets = was.each port (omega (arith, same, inside, was.count)) in
      let less : arrivals_at port before < 1023 = subst (λ (k : ℕ). arrivals_at k before < 1023) same room in
      let size = ap (λ (l : List Cargo). length l) own in
      omega (arith, less, size, ap (λ (l : List Cargo). length l) (at_more port packets received true is), length-append (packets_at port packets) (received.1 ∷ []))
  few_at few room port false is =
      let size = ap (λ (l : List Cargo). length l) (at_more port packets received false is ∙ append-nil (packets_at port packets)) in
      omega (arith, few port, size)

-- What came of a line is added.
sort_more : (ports : ℕ) (packets : List (ℕ × Cargo)) (received : Option (ℕ × Cargo)) (before after : List (List Cargo))
    → AreByPort ports packets before → IsArrivalAdded received before after → AreByPort ports (packets ++ listed_arrival received) after
sort_more ports packets None before after was is =
    subst (λ (t : List (List Cargo)). AreByPort ports (packets ++ []) t) (sym is)
    (subst (λ (l : List (ℕ × Cargo)). AreByPort ports l before) (sym (append-nil packets)) was)
sort_more ports packets (Some received) before after was is =
    subst (λ (t : List (List Cargo)). AreByPort ports (packets ++ received ∷ []) t) (sym is.1) (record {
      count = length-set before received.0 _ ∙ was.count;
      each = λ port below. sorted_at ports packets received before was is.0.0 port (received.0 == port) refl below;
    })

-- And no port has too many.
few_more : (ports : ℕ) (packets : List (ℕ × Cargo)) (received : Option (ℕ × Cargo)) (before after : List (List Cargo))
    → AreByPort ports packets before → IsArrivalAdded received before after → ((port : ℕ) → length (packets_at port packets) ≤ 1023)
    → (port : ℕ) → length (packets_at port (packets ++ listed_arrival received)) ≤ 1023
few_more ports packets None before after was is few port =
    omega (arith, few port, ap (λ (l : List (ℕ × Cargo)). length (packets_at port l)) (append-nil packets))
few_more ports packets (Some received) before after was is few port =
    few_at ports packets received before was is.0.0 few is.0.1 port (received.0 == port) refl

-- One more line is taken in.
pub arrive_more : (lines : List (List ℕ)) (line : List ℕ) (ports : ℕ) (held left : List (List ℕ)) (before after : List (List Cargo))
    → Arrive lines ports held before → TakesIn line held left before after → Arrive (lines ++ line ∷ []) ports left after
arrive_more lines line ports held left before after all one = record {
  packets = all.packets ++ listed_arrival one.received;
  taken = record {
    brought = bring_more lines line (replicate ports []) held left all.packets one.received all.taken.brought one.fed;
    few = few_more ports all.packets one.received before after all.sorted one.added all.taken.few;
  };
  sorted = sort_more ports all.packets one.received before after all.sorted one.added;
}

-- A line leaves as many ports as there were.
fed_same : (line : List ℕ) (before after : List (List ℕ)) (received : Option (ℕ × Cargo)) → IsFed line before after received → length after ≡ length before
fed_same line before after None fed = ap (λ (l : List (List ℕ)). length l) fed.4 ∙ length-set before fed.0 fed.1
fed_same line before after (Some received) fed = ap (λ (l : List (List ℕ)). length l) fed.2 ∙ length-set before received.0 []

brought_same : (lines : List (List ℕ)) (before after : List (List ℕ)) (packets : List (ℕ × Cargo)) → Bring lines before after packets → length after ≡ length before
brought_same [] before after packets all = ap (λ (l : List (List ℕ)). length l) all.0
brought_same (line ∷ lines) before after packets all =
    brought_same lines all.1 after all.2 all.4 ∙ fed_same line before all.1 all.0 all.3

-- Lines after others are taken in.
pub arrive_after : (done lines : List (List ℕ)) (ports : ℕ) (before after : Arriving) (old new : Option (List ℕ))
    → Arrive done ports before.feeds before.arrivals → AreTakenInTurn Arrives lines before after old new
    → Arrive (done ++ lines) ports after.feeds after.arrivals
arrive_after done [] ports before after old new first all =
    subst (λ (l : List (List ℕ)). Arrive l ports after.feeds after.arrivals) (sym (append-nil done))
    (subst (λ (x : Arriving). Arrive done ports x.feeds x.arrivals) (sym all.0) first)
arrive_after done (line ∷ lines) ports before after old new first all =
    subst (λ (l : List (List ℕ)). Arrive l ports after.feeds after.arrivals) (append_assoc done (line ∷ []) lines)
    (arrive_after (done ++ line ∷ []) lines ports all.0 after all.1 new
    (arrive_more done line ports before.feeds all.0.feeds before.arrivals all.0.arrivals first all.2.0) all.3)

-- Ports that held nothing.
first_arrive : (ports : ℕ) (start : Arriving) → start.feeds ≡ replicate ports [] → start.arrivals ≡ replicate ports []
    → Arrive [] ports start.feeds start.arrivals
first_arrive ports start feeds arrivals =
    subst (λ (h : List (List ℕ)). Arrive [] ports h start.arrivals) (sym feeds)
    (subst (λ (a : List (List Cargo)). Arrive [] ports (replicate ports []) a) (sym arrivals) (none_yet ports))

-- All lines are taken in.
pub all_arrive : (lines : List (List ℕ)) (ports : ℕ) (start after : Arriving) (old new : Option (List ℕ))
    → AreTakenInTurn Arrives lines start after old new → start.feeds ≡ replicate ports [] → start.arrivals ≡ replicate ports []
    → ArriveAll lines ports after.arrivals
all_arrive lines ports start after old new all feeds arrivals =
    let taken = arrive_after [] lines ports start after old new (first_arrive ports start feeds arrivals) all in record {
      packets = taken.packets;
      lines_are = record { held = after.feeds; taken = taken.taken };
      sorted = taken.sorted;
    }

-- A port that has no room has all packets that it may have.
full_port : (ports : ℕ) (packets : List (ℕ × Cargo)) (by_port : List (List Cargo)) (port : ℕ)
    → AreByPort ports packets by_port → port < ports → ((port : ℕ) → length (packets_at port packets) ≤ 1023) → ¬ HasRoomToArrive port by_port
    → length (packets_at port packets) ≡ 1023
full_port ports packets by_port port sorted below few full =
    let size = ap (λ (l : List Cargo). length l) (sorted.each port below) in
    elim (cases_lt (arrivals_at port by_port) 1023) [
      | inl less ↦ absurd (full (omega (arith, below, sorted.count), less))
      | inr enough ↦ omega (arith, enough, size, few port)
    ]

-- What is wrong with a line after lines that were taken in.
breaks : (line : List ℕ) (done : List (List ℕ)) (ports : ℕ) (held : List (List ℕ)) (by_port : List (List Cargo)) (fault : BadLine)
    (all : Arrive done ports held by_port) → IsNotTakenIn line held by_port (Bad fault)
    → IsBadHere line held fault ⊎ ((fault ≡ NoRoom) × IsOneTooMany line held all.packets)
breaks line done ports held by_port fault all (inl here) = inl here
breaks line done ports held by_port fault all (inr full) =
    let found = full.1 in
    let same = brought_same done (replicate ports []) held all.packets all.taken.brought ∙ length-replicate ports [] in
    let below : found.port < ports = omega (arith, same, slice_get_within held found.port found.fed.0.own found.fed.0.holder) in
    inr (
      full.0,
      record {
        port = found.port;
        packet = found.packet;
        left = found.left;
        fed = found.fed;
        full = full_port ports all.packets by_port found.port all.sorted below all.taken.few found.full;
      },
    )

-- A line that is not taken in is one of the lines.
not_taken : (lines : List (List ℕ)) (ports : ℕ) (start left : Arriving) (old new : Option (List ℕ)) (fault : Fault)
    → start.feeds ≡ replicate ports [] → start.arrivals ≡ replicate ports []
    → (stop : StopsInLines Arrives IsLineRefused lines start left old new fault) (end : LineEnd) → stop.end ≡ end → AreNotTaken lines ports fault
not_taken lines ports start left old new fault feeds arrivals stop OutOfMemory is =
    inl (stop.is_fault ∙ ap (λ (e : LineEnd). fault_at (suc (length stop.done)) e) is)
not_taken lines ports start left old new fault feeds arrivals stop (Bad bad) is =
    let first = first_arrive ports start feeds arrivals in
    let all = arrive_after [] stop.done ports start stop.between old stop.printed first stop.all in
    let wrong = subst (λ (e : LineEnd). IsNotTakenIn stop.line stop.between.feeds stop.between.arrivals e) is stop.bad in
    inr (
      suc (length stop.done),
      bad,
      stop.is_fault ∙ ap (λ (e : LineEnd). fault_at (suc (length stop.done)) e) is,
      record {
        before = stop.done;
        line = stop.line;
        rest = stop.rest;
        held = stop.between.feeds;
        packets = all.packets;
        lines_are = stop.lines_are;
        place = refl;
        taken = all.taken;
        breaks = breaks stop.line stop.done ports stop.between.feeds stop.between.arrivals bad all wrong;
      },
    )

pub halts : (lines : List (List ℕ)) (ports : ℕ) (start left : Arriving) (old new : Option (List ℕ)) (halt : JobStop)
    → StopsBy (StopsInLines Arrives IsLineRefused lines start left old new) halt
    → start.feeds ≡ replicate ports [] → start.arrivals ≡ replicate ports [] → StopsBy (AreNotTaken lines ports) halt
halts lines ports start left old new (Ended fault) stop feeds arrivals =
    not_taken lines ports start left old new fault feeds arrivals stop stop.end refl
halts lines ports start left old new (Unwritten refused) stop feeds arrivals = tt
