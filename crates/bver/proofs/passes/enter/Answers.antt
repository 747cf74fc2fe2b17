use Rattle.std.proofs.Common.{rules, ◌≡◌, Some, subst, ℕ}
use Rattle.bpf.specs.Program.{Program}
use Rattle.absdom.specs.State.{IsWhole}
use Rattle.bver_pass.specs.Heads.{AreHeadsAt, IsDeclared, IsWidened, IsWithinBound}
use Rattle.bver_pass.specs.Justified.{IsHead}
use Rattle.bver_pass.specs.Leading.{EntersOutside, IsHeadFault, widens}
use Rattle.bver.proofs.Keeping.{known_kept}
use Rattle.bver.proofs.Widening.{widened_above, widened_head}
use Rattle.bver.proofs.Visiting.{heads_of}
use Rattle.bver.proofs.Completing.{reported_on}
use Rattle.bver.proofs.passes.enter.Goals as goal

pub widen-requires-clause-kept : goal.widen-requires-clause-kept
widen-requires-clause-kept c =
    rw c.slot.ensures.slot (known_kept c.args.table.now c.args.visit.now.slot c.args.state.now c.stands_at_targets.ensures.entries c.requires.known)

pub widen-requires-clause-covers : goal.widen-requires-clause-covers
widen-requires-clause-covers c =
    let b = c.in-Some.body in
    let new = c.widen_head.new.state in
    let widened : IsWidened b.program b.declared c.args.lowered.now b.place c.args.state.now new = search rules in
    let within : IsWithinBound b.declared c.args.state.now = search rules in
    let old_whole : IsWhole c.args.state.now = search rules in
    let new_whole : IsWhole new = search rules in
    rw (c.slot.ensures.slot, c.requires.known)
    (widened_above c.order_of_states.ensures.reflexive b.program b.declared c.args.lowered.now b.place c.args.state.now new old_whole new_whole within widened)

pub returns-in_ok-widen_head-in-Some-clause-heads : goal.returns-in_ok-widen_head-in-Some-clause-heads
returns-in_ok-widen_head-in-Some-clause-heads c =
    let v = c.args.visit.now in
    let b = c.in-Some.body in
    let l = b.declared in
    let new = c.widen_head.new.state in
    let same : b.program ≡ v.program = search rules in
    let at : l.head ≡ v.slot = search rules in
    let declared : IsDeclared b.program l b.place = search rules in
    let widened : IsWidened b.program l c.args.lowered.now b.place c.args.state.now new = search rules in
    let new_whole : IsWhole new = search rules in
    let there : IsDeclared v.program l b.place = subst (λ (p : Program). IsDeclared p l b.place) same declared in
    let here : IsWidened v.program l c.args.lowered.now b.place c.args.state.now new = subst (λ (p : Program). IsWidened p l c.args.lowered.now b.place c.args.state.now new) same widened in
    let head : IsHead v.program l new = widened_head v.program l c.args.lowered.now b.place c.args.state.now new c.head.ensures.formed declared.limits.register new_whole here in
    subst (λ (slot : ℕ). AreHeadsAt v.program slot (Some new)) at (heads_of v.program l b.place new c.head.ensures.program there head)

pub returns-in_ok-widen_head-in-Some-clause-widened : goal.returns-in_ok-widen_head-in-Some-clause-widened
returns-in_ok-widen_head-in-Some-clause-widened c =
    let v = c.args.visit.now in
    let b = c.in-Some.body in
    let new = c.widen_head.new.state in
    let same : b.program ≡ v.program = search rules in
    let at : b.declared.head ≡ v.slot = search rules in
    let declared : IsDeclared b.program b.declared b.place = search rules in
    let widened : IsWidened b.program b.declared c.args.lowered.now b.place c.args.state.now new = search rules in
    widens b.declared b.place (subst (λ (p : Program). IsDeclared p b.declared b.place) same declared) at
    (subst (λ (p : Program). IsWidened p b.declared c.args.lowered.now b.place c.args.state.now new) same widened)

pub returns-in_err-widen_head-in-Some-clause-fault : goal.returns-in_err-widen_head-in-Some-clause-fault
returns-in_err-widen_head-in-Some-clause-fault c =
    let v = c.args.visit.now in
    let b = c.in-Some.body in
    let state = c.args.state.now in
    let same : b.program ≡ v.program = search rules in
    let at : b.declared.head ≡ v.slot = search rules in
    let declared : IsDeclared b.program b.declared b.place = search rules in
    let outside : EntersOutside v.program v.slot state = record { declared = b.declared; place = b.place; is = subst (λ (p : Program). IsDeclared p b.declared b.place) same declared; head = at; outside = c.in_err-widen_head-in-Some.ensures.outside } in
    reported_on c.from_residual.result c.in_err-widen_head-in-Some.field-0.0 (IsHeadFault v state c.widen_head.new.state) (search rules)
    (record { slot = search rules; code = search rules; outside = outside; as_it_came = search rules })
