use Rattle.std.proofs.Common.{◌≡◌, ◌≢◌, ◌<◌, ◌≤◌, ◌+◌, ℕ, List, [], ◌∷◌, ◌++◌, length, get_or, set, refl, sym, ◌∙◌, arith, rules}
use Rattle.std.specs.Prelude.{map, replicate}
use Rattle.std.specs.List.{range_with_len}
use Rattle.std.proofs.lemmas.List.{get_or_read, get_or-set_other}
use Rattle.std.proofs.lemmas.List.FromFn.{map-range_with_len_more}
use Rattle.bank.specs.Records.{ShareValue, first_share}
use Rattle.node_parts.specs.Nodes.{ArePortShares}
use Rattle.sched.specs.Worlds.{PortValue, first_port}
use Rattle.sched.proofs.world.free_ports.Goals as goal

-- the shares that are taken are those of the port
taken : (first now : List (List ShareValue)) (banks count port : ℕ) (shares own : List ShareValue) → ArePortShares banks count first → length now ≡ length first → port < length now → shares ≡ own → own ≡ get_or now port own
    → ((k : ℕ) → port ≤ k → get_or now k [] ≡ get_or first k []) → shares ≡ replicate banks (first_share port)
taken first now banks count port shares own all same below is read rest =
    is ∙ get_or_read now port own below read [] ∙ rest port (omega arith) ∙ all.shares port (omega (arith, below, same, all.count))

-- the shares of later ports are still there
later : (first now : List (List ShareValue)) (port : ℕ) (left : List ShareValue) → ((k : ℕ) → port ≤ k → get_or now k [] ≡ get_or first k []) → (k : ℕ) → port + 1 ≤ k → get_or (set now port left) k [] ≡ get_or first k []
later first now port left rest k above =
    let other : k ≢ port = λ e. absurd (omega (arith, e, above)) in
    get_or-set_other now port k left [] other ∙ rest k (omega (arith, above))

-- the ports are one more
grown : (banks port : ℕ) (old new : List PortValue) (made : PortValue) → old ≡ map (first_port banks) (range_with_len 0 port) → made ≡ first_port banks port → new ≡ old ++ made ∷ [] → new ≡ map (first_port banks) (range_with_len 0 (port + 1))
grown banks port old new made were is pushed =
    rw (pushed, were, is) (sym (map-range_with_len_more (first_port banks) 0 port port (omega arith)))

pub loop-port-preserved : goal.loop-port-preserved
loop-port-preserved c =
    let port = c.loop-port.port in
    let first = c.args.by_port.items in
    let now = c.loop-port.by_port.items in
    record {
      count = search rules;
      ports = λ banks count all.
          let shares : c.take-shares.result.items ≡ replicate banks (first_share port) = taken first now banks count port c.take-shares.result.items c.index_mut.result.now all c.loop-port.invariant.count (omega (arith, c.loop-port-test.true, c.loop-port.invariant.count)) c.take-shares.ensures.shares c.index_mut.ensures.value c.loop-port.invariant.rest in
          let made : c.free.result ≡ first_port banks port = rw (c.free.ensures, shares, c.in_ok-new.ensures) refl in
          grown banks port c.loop-port.ports.items _ c.free.result (c.loop-port.invariant.ports banks count all) made c.in_ok-push.ensures.items;
      rest = later first now port _ c.loop-port.invariant.rest;
    }
