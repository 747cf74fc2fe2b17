use Rattle.std.proofs.Common.{◌≡◌, ◌≢◌, ℕ, ◌+◌, ◌-◌, ◌<◌, ◌≤◌, ◌∷◌, ◌++◌, ap, [], List, get_or, length, set, subst, sym, ◌∙◌, arith, rules}
use Rattle.std.proofs.lemmas.List.FromFn.{get_or-map-range_with_len, length-map-range_with_len, map-range_with_len_more}
use Rattle.std.proofs.lemmas.Iterator.Adapters.{YieldsList-from_vec}
use Rattle.std.proofs.lemmas.Iterator.Consumers.{YieldsList-end, YieldsList-turn}
use Rattle.std.specs.Prelude.{None, map, replicate, vec_items}
use Rattle.std.specs.List.{range_with_len}
use Rattle.std.proofs.lemmas.List.{length-replicate, length-map, map_push, get_or_read, get_or-set_other, length-append, replicate_more}
use Rattle.cells.specs.Seats.{CellSeatValue, seat}
use Rattle.node_programs.specs.Published.{sizes_of}
use Rattle.publish.specs.Reached.{Known, known}
use Rattle.annals.specs.Chains.{LineValue}
use Rattle.target.specs.Lines.{IsLineOf, fresh_lines}
use Rattle.target.proofs.Askings.{same_before, same_last}
use Rattle.target.proofs.Lining.{new_line}
use Rattle.bank.specs.Records.{ShareValue, first_share}
use Rattle.node_parts.specs.Passes.{PassValue, RunContextValue}
use Rattle.target.specs.Passes.{port_pass, unasked}
use Rattle.node_parts.specs.Nodes.{range_of}
use Rattle.publish.specs.Firsts.{programs_with}
use Rattle.target.specs.Nodes.{informed_pass}
use Rattle.target.proofs.parts.passes.Goals as goal

-- the line of a port beside its shares, of which nothing was asked
line_of_new : (port number n : ℕ) (shares : List ShareValue) (line : LineValue) → number ≡ port → shares ≡ replicate n (first_share port) → line ≡ record { port = port; asked = [] } → IsLineOf number shares line
line_of_new port number n shares line same all is =
    let long : length shares ≡ n = ap (λ (ss : List ShareValue). length ss) all ∙ length-replicate n (first_share port) in
    let first : shares ≡ replicate (length shares) (first_share port) = all ∙ ap (λ (m : ℕ). replicate m (first_share port)) (sym long) in
    subst (λ (m : ℕ). IsLineOf m shares line) (sym same) (subst (λ (l : LineValue). IsLineOf port shares l) (sym is) (new_line port shares first))

-- the shares that are taken are those of the port
taken : (by_port : List (List ShareValue)) (n ports port from : ℕ) (shares own : List ShareValue) → length by_port ≡ ports → port < ports → from ≡ port → shares ≡ own → own ≡ get_or by_port from own → ((k : ℕ) → port ≤ k → k < ports → get_or by_port k [] ≡ replicate n (first_share k)) → shares ≡ replicate n (first_share port)
taken by_port n ports port from shares own count below same is read rest =
    let within : from < length by_port = omega arith in
    is ∙ get_or_read by_port from own within read [] ∙ rw same (rest port (omega arith) below)

-- the shares of later ports are still there
later : (by_port : List (List ShareValue)) (n ports port from : ℕ) (left : List ShareValue) → from ≡ port → ((k : ℕ) → port ≤ k → k < ports → get_or by_port k [] ≡ replicate n (first_share k)) → (k : ℕ) → port + 1 ≤ k → k < ports → get_or (set by_port from left) k [] ≡ replicate n (first_share k)
later by_port n ports port from left same rest k above below =
    let other : k ≢ from = λ e. absurd (omega (arith, e, same, above)) in
    get_or-set_other by_port from k left [] other ∙ rest k (omega (arith, above)) below

-- what is taken is one of those that are left, which are all the same
last_of : {A : Type 0} (ports port : ℕ) (one taken : A) (before after : List A) → port < ports → before ≡ replicate (ports - port) one → before ≡ after ++ taken ∷ [] → (after ≡ replicate (ports - (port + 1)) one) × (taken ≡ one)
last_of ports port one taken before after below all last =
    let count : ports - port ≡ ports - (port + 1) + 1 = omega arith in
    let begins : replicate (ports - (port + 1)) one ++ one ∷ [] ≡ after ++ taken ∷ [] =
    replicate_more (ports - (port + 1)) one ∙ sym (ap (λ n. replicate n one) count) ∙ sym all ∙ last in
    (sym (same_before _ _ _ _ begins), sym (same_last _ _ _ _ begins))

-- the line of that place among those of that many ports
line_at : (ports place : ℕ) (lines : List LineValue) (line : LineValue) → lines ≡ fresh_lines ports → place < length lines → line ≡ get_or lines place line → (place < ports) × (line ≡ record { port = place; asked = [] })
line_at ports place lines line are inside read =
    let fresh : ℕ → LineValue = λ port. record { port = port; asked = [] } in
    let many : length lines ≡ ports = ap (λ (ls : List LineValue). length ls) are ∙ length-map-range_with_len fresh 0 ports in
    let below : place < ports = omega (arith, inside, many) in
    (below, read ∙ (ap (λ (ls : List LineValue). get_or ls place line) are ∙ get_or-map-range_with_len fresh 0 ports place place line below (omega arith)))

pub invariant_of-pass : goal.invariant_of-pass
invariant_of-pass g c =
    let banks = c.args.config.now.banks.now in
    let ports = c.args.config.now.ports in
    let port = length c.loop-line.yielded in
    let began = c.into_iter-line-iterator.ensures.into_iter_gives in
    let road = YieldsList-from_vec {s = c.into_iter-line-iterator.result} (vec_items c.args.lines) began.0 (began.1 ∙ c.args.lines.ok.0) in
    let turn = YieldsList-turn road c.loop-line.yielded c.loop-line.line-iterator c.loop-line.yielded_by c.next.result c.next.new.self c.in-Some.line c.in-Some.is c.next.ensures.steps in
    let here = line_at c.args.config.now.ports (length c.loop-line.yielded) (vec_items c.args.lines) c.in-Some.line c.requires.lines turn.0 turn.1 in
    let below = here.0 in
    let number : c.port-port.result ≡ length c.loop-line.yielded = c.port-port.ensures ∙ ap (λ (l : LineValue). l.port) here.1 in
    let shares : c.take.result.items ≡ replicate (length banks) (first_share port) =
    taken c.loop-line.by_port.items (length banks) ports port c.from.result c.take.result.items c.index_mut.result.now c.loop-line.invariant.count below (c.from.ensures ∙ number) c.take.ensures.shares c.index_mut.ensures.value c.loop-line.invariant.rest in
    let made = c.requires.made in
    let first = c.loop-line.invariant.parts made.0 made.1 made.2 made.3 in
    let seat = last_of ports port _ c.in-Some-Some.seat c.loop-line.seats.items _ below first.seats_are c.in-Some-Some.ensures.items in
    let reader = last_of ports port _ c.in-Some-Some.reader c.loop-line.readers.items _ below first.readers_are c.in-Some-Some.ensures'.items in (
      record {
        sizes = ap (λ (b : RunContextValue). b.seat.sizes) c.new.ensures ∙ ap (λ (s : CellSeatValue). s.sizes) seat.1 ∙ sym (ap (λ (r : Known). sizes_of r.programs) reader.1);
        port = rw (c.new.ensures) (omega (arith, c.requires.ports, below, number));
        shares = rw (shares, c.new.ensures, c.windows.ensures, length-map banks range_of) (length-replicate (length banks) (first_share port));
      },
      line_of_new port _ (length banks) _ _ (ap (λ (b : RunContextValue). b.port) c.new.ensures ∙ number) shares here.1,
    )

pub loop-line-preserved : goal.loop-line-preserved
loop-line-preserved g c =
    let banks = c.args.config.now.banks.now in
    let ports = c.args.config.now.ports in
    let port = length c.loop-line.yielded in
    let began = c.into_iter-line-iterator.ensures.into_iter_gives in
    let road = YieldsList-from_vec {s = c.into_iter-line-iterator.result} (vec_items c.args.lines) began.0 (began.1 ∙ c.args.lines.ok.0) in
    let turn = YieldsList-turn road c.loop-line.yielded c.loop-line.line-iterator c.loop-line.yielded_by c.next.result c.next.new.self c.in-Some.line c.in-Some.is c.next.ensures.steps in
    let here = line_at c.args.config.now.ports (length c.loop-line.yielded) (vec_items c.args.lines) c.in-Some.line c.requires.lines turn.0 turn.1 in
    let below = here.0 in
    let number : c.port-port.result ≡ length c.loop-line.yielded = c.port-port.ensures ∙ ap (λ (l : LineValue). l.port) here.1 in
    let shares : c.take.result.items ≡ replicate (length banks) (first_share port) =
    taken c.loop-line.by_port.items (length banks) ports port c.from.result c.take.result.items c.index_mut.result.now c.loop-line.invariant.count below (c.from.ensures ∙ number) c.take.ensures.shares c.index_mut.ensures.value c.loop-line.invariant.rest in
    let first = c.loop-line.invariant.parts in
    let next : length (c.loop-line.yielded ++ c.in-Some.line ∷ []) ≡ port + 1 = length-append c.loop-line.yielded (c.in-Some.line ∷ []) in
    record {
      count = search rules;
      parts = λ factory firsts home begins. rw next (record {
        seats_are = (last_of ports port _ c.in-Some-Some.seat c.loop-line.seats.items _ below (first factory firsts home begins).seats_are c.in-Some-Some.ensures.items).0;
        readers_are = (last_of ports port _ c.in-Some-Some.reader c.loop-line.readers.items _ below (first factory firsts home begins).readers_are c.in-Some-Some.ensures'.items).0;
      });
      passes = λ factory firsts home begins.
          let seat = last_of ports port _ c.in-Some-Some.seat c.loop-line.seats.items _ below (first factory firsts home begins).seats_are c.in-Some-Some.ensures.items in
          let reader = last_of ports port _ c.in-Some-Some.reader c.loop-line.readers.items _ below (first factory firsts home begins).readers_are c.in-Some-Some.ensures'.items in
          let more = map-range_with_len_more (informed_pass c.args.config.now factory firsts home) 0 port port (omega arith) in
          let asked = ap (λ (l : LineValue). l.asked) here.1 in
          let all = ap unasked more ∙ map_push (λ (h : PassValue). port_pass h []) (map (informed_pass c.args.config.now factory firsts home) (range_with_len 0 port)) (informed_pass c.args.config.now factory firsts home port) in
          rw next (c.in_ok-push.ensures.items ∙ rw (c.loop-line.invariant.passes factory firsts home begins, c.new.ensures, number, seat.1, c.windows.ensures, reader.1, shares, c.in_ok-new.ensures, asked) (sym all));
      rest = rw next (later c.loop-line.by_port.items (length banks) ports port c.from.result _ (c.from.ensures ∙ number) c.loop-line.invariant.rest);
    }

pub unreachable-requires : goal.unreachable-requires
unreachable-requires g c =
    let ports = c.args.config.now.ports in
    let place = length c.loop-line.yielded in
    let began = c.into_iter-line-iterator.ensures.into_iter_gives in
    let road = YieldsList-from_vec {s = c.into_iter-line-iterator.result} (vec_items c.args.lines) began.0 (began.1 ∙ c.args.lines.ok.0) in
    let turn = YieldsList-turn road c.loop-line.yielded c.loop-line.line-iterator c.loop-line.yielded_by c.next.result c.next.new.self c.in-Some.line c.in-Some.is c.next.ensures.steps in
    let here = line_at ports place (vec_items c.args.lines) c.in-Some.line c.requires.lines turn.0 turn.1 in
    let below : place < ports = here.0 in
    let number : c.port-port.result ≡ place = c.port-port.ensures ∙ ap (λ (l : LineValue). l.port) here.1 in
    let made = c.requires.made in
    let first = c.loop-line.invariant.parts made.0 made.1 made.2 made.3 in
    let seats : 0 < length c.loop-line.seats.items = omega (arith, below, ap (λ (l : List CellSeatValue). length l) first.seats_are, length-replicate (ports - place) (seat made.0.sizes made.2 [])) in
    let readers : 0 < length c.loop-line.readers.items = omega (arith, below, ap (λ (l : List Known). length l) first.readers_are, length-replicate (ports - place) (known (programs_with made.0 made.1) None)) in
    search rules

pub new-requires : goal.new-requires
new-requires g c =
    let began = c.into_iter-line-iterator.ensures.into_iter_gives in
    let road = YieldsList-from_vec {s = c.into_iter-line-iterator.result} (vec_items c.args.lines) began.0 (began.1 ∙ c.args.lines.ok.0) in
    let turn = YieldsList-turn road c.loop-line.yielded c.loop-line.line-iterator c.loop-line.yielded_by c.next.result c.next.new.self c.in-Some.line c.in-Some.is c.next.ensures.steps in
    let here = line_at c.args.config.now.ports (length c.loop-line.yielded) (vec_items c.args.lines) c.in-Some.line c.requires.lines turn.0 turn.1 in
    let number : c.port-port.result ≡ length c.loop-line.yielded = c.port-port.ensures ∙ ap (λ (l : LineValue). l.port) here.1 in
    omega (arith, c.requires.ports, here.0, number)

pub index_mut-requires : goal.index_mut-requires
index_mut-requires g c =
    let began = c.into_iter-line-iterator.ensures.into_iter_gives in
    let road = YieldsList-from_vec {s = c.into_iter-line-iterator.result} (vec_items c.args.lines) began.0 (began.1 ∙ c.args.lines.ok.0) in
    let turn = YieldsList-turn road c.loop-line.yielded c.loop-line.line-iterator c.loop-line.yielded_by c.next.result c.next.new.self c.in-Some.line c.in-Some.is c.next.ensures.steps in
    let here = line_at c.args.config.now.ports (length c.loop-line.yielded) (vec_items c.args.lines) c.in-Some.line c.requires.lines turn.0 turn.1 in
    let number : c.port-port.result ≡ length c.loop-line.yielded = c.port-port.ensures ∙ ap (λ (l : LineValue). l.port) here.1 in
    omega (arith, c.from.ensures, number, here.0, c.loop-line.invariant.count)

pub returns : goal.returns
returns g c = λ factory firsts home begins.
    let ports = c.args.config.now.ports in
    let banks = c.args.config.now.banks.now in
    let fresh : ℕ → LineValue = λ port. record { port = port; asked = [] } in
    let began = c.into_iter-line-iterator.ensures.into_iter_gives in
    let road = YieldsList-from_vec {s = c.into_iter-line-iterator.result} (vec_items c.args.lines) began.0 (began.1 ∙ c.args.lines.ok.0) in
    let end = YieldsList-end road c.loop-line.yielded c.loop-line.line-iterator c.loop-line.yielded_by c.next.result c.next.new.self c.in-None.is c.next.ensures.steps in
    let many : length c.loop-line.yielded ≡ ports = end.1 ∙ (ap (λ (ls : List LineValue). length ls) c.requires.lines ∙ length-map-range_with_len fresh 0 ports) in
    c.loop-line.invariant.passes factory firsts home begins ∙ ap (λ (n : ℕ). unasked (map (informed_pass c.args.config.now factory firsts home) (range_with_len 0 n))) many
