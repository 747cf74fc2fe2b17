use Rattle.std.proofs.Common.{rules, ◌<◌, length, subst, sym}
use Rattle.bpf.specs.declared.header.TheConstants.{MAX_SLOTS}
use Rattle.bpf.specs.declared.loops.Loop.{Loop}
use Rattle.bpf.specs.Program.{IsLoop}
use Rattle.bver_form.specs.Loops.{IsEnteredAtHead}
use Rattle.bver_form.proofs.Fitting.{formed_next, item_is, loop_at, small_loop}
use Rattle.bver_form.proofs.loops.check_loops.Goals as goal

pub is_loop_formed-requires-clause-limits : goal.is_loop_formed-requires-clause-limits
is_loop_formed-requires-clause-limits c =
    let p = c.args.image.now in
    let k = c.loop-declared.declared-index in
    let is = item_is p c.loops-declared-items.result.now k c.declared-item.result c.loops-declared-items.ensures.value c.declared-item.is in
    subst (IsLoop MAX_SLOTS) (sym is) (small_loop p k c.declared-item.result c.loops-declared-items.ensures.program (search rules))

pub is_loop_formed-requires-clause-within : goal.is_loop_formed-requires-clause-within
is_loop_formed-requires-clause-within c =
    let p = c.args.image.now in
    let k = c.loop-declared.declared-index in
    let is = item_is p c.loops-declared-items.result.now k c.declared-item.result c.loops-declared-items.ensures.value c.declared-item.is in
    subst (λ (l : Loop). l.back < length p.slots) (sym is) (loop_at p k c.declared-item.result c.loops-declared-items.ensures.program (search rules)).within

pub is_loop_formed-requires-clause-entered : goal.is_loop_formed-requires-clause-entered
is_loop_formed-requires-clause-entered c =
    let p = c.args.image.now in
    let k = c.loop-declared.declared-index in
    let is = item_is p c.loops-declared-items.result.now k c.declared-item.result c.loops-declared-items.ensures.value c.declared-item.is in
    λ entered. subst (IsEnteredAtHead p) (sym is) (λ slot. c.check_entries-are_entered.ensures.0 entered slot k c.declared-item.result (search rules))

pub loop-declared-preserved : goal.loop-declared-preserved
loop-declared-preserved c =
    let p = c.args.image.now in
    let k = c.loop-declared.declared-index in
    let is = item_is p c.loops-declared-items.result.now k c.declared-item.result c.loops-declared-items.ensures.value c.declared-item.is in
    let below : k < length p.loops = search rules in
    formed_next p k c.declared-item.result is below c.loop-declared.invariant (c.is_loop_formed.ensures.0 (search rules))
