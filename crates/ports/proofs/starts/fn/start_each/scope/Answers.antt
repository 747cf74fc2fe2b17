use Rattle.std.specs.Prelude.{◌≡◌, ◌+◌, ◌<◌, [], ◌∷◌, ◌++◌, length, get_or, vec_items, vec_len, slice_index_or}
use Rattle.std.specs.Vec.Iter.{into_iter_items, into_iter_len}
use Rattle.std.proofs.Common.{rules, arith, below_more, sym, subst, ap, ◌∙◌}
use Rattle.std.proofs.lemmas.List.{nil_from_length, append-nil}
use Rattle.ports.specs.Serves.{AreLast, IsWorkerOf}
use Rattle.ports.proofs.Starting.{gone, next_is, rests}
use Rattle.ports.proofs.starts.fn.start_each.scope.Goals as goal

-- The worker goes to the rest.
pub loop-worker-preserved-then-not-all : goal.loop-worker-preserved-then-not-all
loop-worker-preserved-then-not-all g c =
    let was = c.loop-worker.invariant in let step = c.in-Some.ensures.steps in
    let first = into_iter_items c.into_iter-worker-iterator.result in let ahead = into_iter_items c.next.new.self in
    let pushed = c.push.ensures in let more = c.in-Ok.ensures in (
      (λ yes. search rules),
      (λ yes. search rules),
      subst (λ l. AreLast (l ++ ahead) first) (sym more.items)
          (rests first (vec_items c.loop-worker.rest) ahead c.in-Some.worker (subst (λ l. AreLast (vec_items c.loop-worker.rest ++ l) first) step.0 was.2)),
      was.3,
      was.4,
      omega (arith, was.5, step.1, more.len),
      was.6,
      omega (arith, was.7, pushed.capacity),
      omega (arith, was.8, step.1, more.len),
      (λ no. let fewer = was.9 no in omega (arith, fewer, step.1, more.len)),
    )

-- The worker is first among those ahead, so it is the one at the next place.
pub port_of-port-requires : goal.port_of-port-requires
port_of-port-requires g c =
    let was = c.loop-worker.invariant in let worker = c.in-Some.worker in let done = vec_len c.loop-worker.threads in
    let begun = c.into_iter-worker-iterator.result in let first = into_iter_items begun in let rest = c.loop-worker.rest in
    let before = c.loop-worker.worker-iterator in let ahead = into_iter_items c.next.new.self in
    let step = c.in-Some.ensures.steps in let total = was.0 c.if-not-all.false in
    let many : done + length (worker ∷ ahead) ≡ length first = omega (arith, total, before.rest.ok.0, begun.rest.ok.0, ap length step.0) in
    let none : rest.items ≡ [] = nil_from_length rest.items (sym rest.ok.0 ∙ was.1 c.if-not-all.false) in
    let here : get_or first done worker ≡ worker
    = next_is first rest.items ahead worker done worker none (subst (λ l. AreLast (rest.items ++ l) first) step.0 was.2) many in
    let low : done < into_iter_len begun = omega (arith, total, step.1) in
    record {
      inside = subst (λ n. n < length c.captures.ports.now) (sym c.len.ensures) (subst (λ n. done < n) (sym was.4.len) low);
      served = λ p. subst (λ i. IsWorkerOf c.captures.node.now (slice_index_or c.captures.ports.now i p) worker) (sym c.len.ensures)
          (subst (λ w. IsWorkerOf c.captures.node.now (slice_index_or c.captures.ports.now done p) w) here (was.4.each done p worker low));
    }

pub loop-worker-preserved-in-Ok-push-2 : goal.loop-worker-preserved-in-Ok-push-2
loop-worker-preserved-in-Ok-push-2 g c =
    let was = c.loop-worker.invariant in let worker = c.in-Some.worker in let done = vec_len c.loop-worker.threads in
    let begun = c.into_iter-worker-iterator.result in let first = into_iter_items begun in let rest = c.loop-worker.rest in
    let before = c.loop-worker.worker-iterator in let ahead = into_iter_items c.next.new.self in
    let step = c.in-Some.ensures.steps in let total = was.0 c.if-not-all.false in
    let many : done + length (worker ∷ ahead) ≡ length first = omega (arith, total, before.rest.ok.0, begun.rest.ok.0, ap length step.0) in
    let none : rest.items ≡ [] = nil_from_length rest.items (sym rest.ok.0 ∙ was.1 c.if-not-all.false) in
    let last : AreLast (rest.items ++ worker ∷ ahead) first = subst (λ l. AreLast (rest.items ++ l) first) step.0 was.2 in
    let pushed = c.push-in-Ok-spawn_with in let more = c.in-Ok-push.ensures in let places = pushed.ensures.by_index in
    let took = pushed.ensures.succeeds (omega (arith, total, was.6, step.1)) in
    let kept : c.in-Ok-spawn_with.thread.promise.0.value ≡ worker = ap (λ start. start.0.value) c.in-Ok-spawn_with.ensures.ok ∙ c.of.ensures in (
      (λ yes. omega (arith, total, step.1, more.len)),
      was.1,
      gone first rest.items ahead worker none last,
      (λ k a b below.
          below_more (λ i. (get_or (vec_items pushed.new.self) i a).promise.0.value ≡ get_or first i b) done
          (λ i low. ap (λ h. h.promise.0.value) (places.0 i a low) ∙ was.3 i a b low)
          (ap (λ h. h.promise.0.value) (places.1 a took) ∙ kept ∙ sym (next_is first rest.items ahead worker done b none last many))
          k (subst (λ n. k < n) more.len below)),
      was.4,
      omega (arith, was.5, step.1, more.len),
      omega (arith, was.6, pushed.ensures.capacity),
      was.7,
      omega (arith, was.8, step.1, more.len),
      (λ no. let fewer = was.9 no in omega (arith, fewer, step.1, more.len)),
    )

pub loop-worker-preserved : goal.loop-worker-preserved
loop-worker-preserved g c =
    let was = c.loop-worker.invariant in let step = c.in-Some.ensures.steps in
    let begun = c.into_iter-worker-iterator.result in let rest = c.loop-worker.rest in let ahead = into_iter_items c.next.new.self in
    let none : rest.items ≡ [] = nil_from_length rest.items (sym rest.ok.0 ∙ was.1 c.if-not-all.false) in (
      (λ yes. search rules),
      (λ yes. search rules),
      gone (into_iter_items begun) rest.items ahead c.in-Some.worker none (subst (λ l. AreLast (rest.items ++ l) (into_iter_items begun)) step.0 was.2),
      was.3,
      was.4,
      omega (arith, was.5, step.1),
      was.6,
      was.7,
      omega (arith, was.8, was.0 c.if-not-all.false, step.1),
      (λ _. omega (arith, was.0 c.if-not-all.false, was.1 c.if-not-all.false, step.1)),
    )

pub returns : goal.returns
returns g c =
    let was = c.loop-worker.invariant in let began = c.into_iter-worker-iterator.ensures.into_iter_gives in
    let begun = c.into_iter-worker-iterator.result in let before = c.loop-worker.worker-iterator in let rest = c.loop-worker.rest in
    let none = c.in-None.ensures.steps.0 in
    let over : rest.items ++ into_iter_items before ≡ rest.items = ap (λ l. rest.items ++ l) (nil_from_length (into_iter_items before) (sym before.rest.ok.0 ∙ none)) ∙ append-nil rest.items in
    record {
      len = λ yes. let total = was.0 yes in omega (arith, total, none, began.1);
      most = omega (arith, was.5, none, began.1);
      few = omega (arith, was.8, none, began.1);
      missing = λ no. let fewer = was.9 no in omega (arith, fewer, none, began.1);
      rest = subst (AreLast rest.items) began.0 (subst (λ l. AreLast l (into_iter_items begun)) over was.2);
      each = λ k a b below. was.3 k a b below ∙ ap (λ ws. get_or ws k b) began.0;
    }
