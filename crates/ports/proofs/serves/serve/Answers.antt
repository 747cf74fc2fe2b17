use Rattle.std.proofs.Common.{◌≡◌, ◌<◌, ◌⊎◌, ◌++◌, ◌∙◌, true, false, Some, None, ap, arith, inl, inr, sym, subst}
use Rattle.std.specs.Prelude.{length, map, slice_index_or, vec_len, IfSome, IfNone}
use Rattle.std.proofs.lemmas.Bool.{cases_Bool}
use Rattle.ports.specs.Serves.{AreServed, HaveComeBack, HaveServed, IsBack, IsOneMissing, IsShort, IsTotalOf, ShareOneHistory}
use Rattle.ports.proofs.Served.{AreBack, can_serve, have_come_back, have_served, none_served, one_is_gone, one_is_same}
use Rattle.ports.proofs.serves.serve.Goals as goal

-- The thread that was joined has the promise of the worker at its place.
pub returns-in-Some-clause-served : goal.returns-in-Some-clause-served
returns-in-Some-clause-served g c =
    let sent = g.S.Sink.sent in let failed = g.S.Sink.failed in let banks = c.args.node.now in let ports = c.args.ports.now in
    let old = c.args.workers.items in let ended = c.join_each.result.items in let started = c.start_each-started in
    let served : AreServed banks (length old) ports old
    = subst (λ n. AreServed banks n ports old) c.args.workers.ok.0 (record { len = c.requires.len; each = c.requires.each }) in
    let back : AreBack sent failed banks ports old ended started.result.rest.items
    = λ k end worker below.
    let low : k < vec_len started.result.threads = subst (λ n. k < n) (sym c.join_each.result.ok.0 ∙ c.join_each.ensures.len) below in
    let kept = (c.join_each.ensures.each k end low).1 in
    subst (λ w. IsBack sent failed w (slice_index_or ended k end).worker (slice_index_or ended k end).report)
    (ap (λ h. h.promise.0.value) kept.handle_is ∙ started.ensures.each k kept.handle worker low) kept.kept in
    let sum = subst (λ o. IfSome o (λ report. (started.result.all ≡ true) × (c.gather-workers.result.1 ≡ Some report))) c.in-Some.is c.of_all.ensures.sum in
    let reported : IsTotalOf (map (λ e. e.report) ended) c.in-Some.report
    = subst (λ o. IfSome o (IsTotalOf (map (λ e. e.report) ended))) sum.1 c.gather-workers.ensures.total in
    let long : length ended ≡ length old
    = sym c.join_each.result.ok.0 ∙ c.join_each.ensures.len ∙ started.ensures.len sum.0 ∙ c.args.workers.ok.0 in
    subst (λ new. HaveServed sent failed banks ports old new c.in-Some.report) (sym c.gather-workers.ensures.workers)
    (have_served sent failed banks ports old ended started.result.rest.items served back long c.in-Some.report reported c.loads_are_apart.ensures.entries c.loads_are_apart.ensures.listed (subst ShareOneHistory c.gather-workers.ensures.workers c.gather-workers.ensures.history))

pub returns-in-Some-clause-back : goal.returns-in-Some-clause-back
returns-in-Some-clause-back g c = λ _. (returns-in-Some-clause-served g c).served

pub returns-clause-back : goal.returns-clause-back
returns-clause-back g c =
    let sent = g.S.Sink.sent in let failed = g.S.Sink.failed in let banks = c.args.node.now in let ports = c.args.ports.now in
    let old = c.args.workers.items in let ended = c.join_each.result.items in let started = c.start_each-started in
    let served : AreServed banks (length old) ports old
    = subst (λ n. AreServed banks n ports old) c.args.workers.ok.0 (record { len = c.requires.len; each = c.requires.each }) in
    let back : AreBack sent failed banks ports old ended started.result.rest.items
    = λ k end worker below.
    let low : k < vec_len started.result.threads = subst (λ n. k < n) (sym c.join_each.result.ok.0 ∙ c.join_each.ensures.len) below in
    let kept = (c.join_each.ensures.each k end low).1 in
    subst (λ w. IsBack sent failed w (slice_index_or ended k end).worker (slice_index_or ended k end).report)
    (ap (λ h. h.promise.0.value) kept.handle_is ∙ started.ensures.each k kept.handle worker low) kept.kept in
    let is = c.with_rest.ensures ∙ ap (λ l. l ++ started.result.rest.items) c.gather-workers.ensures.workers in
    λ long. subst (AreServed banks (length old) ports) (sym is)
    (can_serve sent failed banks ports old ended started.result.rest.items served back started.ensures.rest (sym (ap length is) ∙ long))

pub returns-clause-kept : goal.returns-clause-kept
returns-clause-kept g c =
    let sent = g.S.Sink.sent in let failed = g.S.Sink.failed in let banks = c.args.node.now in let ports = c.args.ports.now in
    let old = c.args.workers.items in let ended = c.join_each.result.items in let started = c.start_each-started in
    let back : AreBack sent failed banks ports old ended started.result.rest.items
    = λ k end worker below.
    let low : k < vec_len started.result.threads = subst (λ n. k < n) (sym c.join_each.result.ok.0 ∙ c.join_each.ensures.len) below in
    let kept = (c.join_each.ensures.each k end low).1 in
    subst (λ w. IsBack sent failed w (slice_index_or ended k end).worker (slice_index_or ended k end).report)
    (ap (λ h. h.promise.0.value) kept.handle_is ∙ started.ensures.each k kept.handle worker low) kept.kept in
    let is = c.with_rest.ensures ∙ ap (λ l. l ++ started.result.rest.items) c.gather-workers.ensures.workers in
    let all : length ended ≡ vec_len started.result.threads = sym c.join_each.result.ok.0 ∙ c.join_each.ensures.len in
    subst (HaveComeBack sent failed old) (sym is)
    (have_come_back sent failed banks ports old ended started.result.rest.items back started.ensures.rest
    (omega (arith, started.ensures.most, all, started.result.rest.ok.0, c.args.workers.ok.0))
    (omega (arith, started.ensures.few, all, started.result.rest.ok.0, c.args.workers.ok.0)))

pub returns-in_default-clause-short : goal.returns-in_default-clause-short
returns-in_default-clause-short g c = none_served c.args.workers.items

pub returns-clause-short : goal.returns-clause-short
returns-clause-short g c =
    let sent = g.S.Sink.sent in let failed = g.S.Sink.failed in let banks = c.args.node.now in let ports = c.args.ports.now in
    let old = c.args.workers.items in let ended = c.join_each.result.items in let started = c.start_each-started in
    let back : AreBack sent failed banks ports old ended started.result.rest.items
    = λ k end worker below.
    let low : k < vec_len started.result.threads = subst (λ n. k < n) (sym c.join_each.result.ok.0 ∙ c.join_each.ensures.len) below in
    let kept = (c.join_each.ensures.each k end low).1 in
    subst (λ w. IsBack sent failed w (slice_index_or ended k end).worker (slice_index_or ended k end).report)
    (ap (λ h. h.promise.0.value) kept.handle_is ∙ started.ensures.each k kept.handle worker low) kept.kept in
    let is = c.with_rest.ensures ∙ ap (λ l. l ++ started.result.rest.items) c.gather-workers.ensures.workers in
    let all : length ended ≡ vec_len started.result.threads = sym c.join_each.result.ok.0 ∙ c.join_each.ensures.len in
    let why : (started.result.all ≡ false) ⊎ (c.gather-workers.result.1 ≡ None)
    = subst (λ o. IfNone o ((started.result.all ≡ false) ⊎ (c.gather-workers.result.1 ≡ None))) c.in-None.is c.of_all.ensures.none in
    let gone : started.result.all ≡ false → IsShort old _
    = λ missing. let fewer = started.ensures.missing missing in
    one_is_gone sent failed banks ports old ended started.result.rest.items (omega (arith, fewer, all, started.result.rest.ok.0, c.args.workers.ok.0)) in
    subst (IsShort old) (sym is) (elim (cases_Bool started.result.all) [
      | inl each ↦ elim why [
        | inl fewer ↦ gone fewer
        | inr none ↦ one_is_same sent failed banks ports old ended started.result.rest.items back (all ∙ started.ensures.len each ∙ c.args.workers.ok.0)
            (subst (λ o. IfNone o (IsOneMissing (map (λ e. e.report) ended))) none c.gather-workers.ensures.missing)
      ]
      | inr fewer ↦ gone fewer
    ])
