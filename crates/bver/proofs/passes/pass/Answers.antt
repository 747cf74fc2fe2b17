use Rattle.std.proofs.Common.{rules, ◌≡◌, ◌<◌, length, ◌∙◌, arith, refl}
use Rattle.std.proofs.Math.ListN.{length-set}
use Rattle.machine.specs.Step.{insn_at}
use Rattle.bver_form.specs.Lowered.{IsMore, IsSettled}
use Rattle.bver_pass.specs.Leading.{IsLeastVisitIfAny, IsVisitFaultIfAny}
use Rattle.absdom.specs.State.{IsWhole}
use Rattle.bver_pass.specs.StateTable.{knowledge_in}
use Rattle.bver_pass.specs.Visit.{IsVisit, VisitValue, visited_state}
use Rattle.bver.specs.Reported.{HasToLower, ReportsKnown}
use Rattle.bver.proofs.Completing.{Rules, complete_next, complete_none, complete_reported, reported_on}
use Rattle.bver.proofs.Passing.{passing_none, passing_plain, passing_slot, visit_at, visit_of, visited_program}
use Rattle.bver.proofs.Visiting.{judged}
use Rattle.bver.proofs.passes.pass.Goals as goal

pub visit_slot-requires-clause-plain : goal.visit_slot-requires-clause-plain
visit_slot-requires-clause-plain c =
    rw (c.new-visit.ensures.program, c.new-visit.ensures.slot)
    (passing_plain c.args.image.now c.args.maps.now c.loop-slot.table c.loop-slot.runs c.loop-slot.state c.loop-slot.regions.items (IsSettled c.args.lowered.now c.loop-slot.lowered) c.loop-slot.slot c.slots-slot-end.ensures.program c.loop-slot.invariant.0)

pub loop-slot-init : goal.loop-slot-init
loop-slot-init c =
    let whole : IsWhole c.set_to.new.self = search rules in (
      passing_none c.order_of_states.ensures.reflexive c.args.image.now c.args.maps.now c.args.table.now c.set_to.new.self c.args.regions.now.items (IsSettled c.args.lowered.now c.args.lowered.now) c.requires.entered whole,
      c.requires.table,
      omega arith,
      c.requires.regions,
      complete_none c.args.image.now c.args.lowered.now c.args.table.now c.set_to.new.self c.requires.entered.entered c.requires.least,
    )

pub loop-slot-preserved : goal.loop-slot-preserved
loop-slot-preserved c =
    let p = c.args.image.now in
    let maps = c.args.maps.now in
    let slot = c.loop-slot.slot in
    let old = c.loop-slot.table in
    let new = c.visit_slot.new.table in
    let before = c.loop-slot.lowered in
    let after = c.visit_slot.new.lowered in
    let was = c.loop-slot.runs in
    let runs = c.visit_slot.new.runs in
    let state = c.loop-slot.state in
    let left = c.visit_slot.new.state in
    let region = c.in_ok-region.region in
    let v : VisitValue = c.new-visit.result in
    let visit : IsVisit v old new was runs state left (IsSettled before after) region (insn_at v.program v.slot) = search rules in
    let laws : Rules = record { reflexive = c.order_of_states.ensures.reflexive; transitive = c.order_of_states.ensures.transitive; applies = c.apply_grows.ensures; refines = c.refine_grows.ensures; calls = c.after_call_grows.ensures; apply_leaves = c.apply_leaves.ensures.apply; call_leaves = c.apply_leaves.ensures.call; shrinks = c.refine_shrinks.ensures; entered = c.loops_are_counted.ensures.entered } in
    let least : IsLeastVisitIfAny v before after old new was runs state left (insn_at v.program v.slot) = c.in_ok-region.ensures.least in
    let more : IsMore before after = search rules in
    let earlier : IsMore c.args.lowered.now before = c.loop-slot.invariant.2 in
    let own : old.program ≡ p = c.loop-slot.invariant.1 in
    let size : length c.loop-slot.regions.items ≡ length p.slots = c.loop-slot.invariant.3 in
    let inside : slot < length c.loop-slot.regions.items = omega arith in
    let same = visit_of v p maps slot c.new-visit.ensures.program c.new-visit.ensures.maps c.new-visit.ensures.slot in
    let here = visit_at v p maps slot old new was runs state left (IsSettled before after) region same visit in
    rw c.from.ensures (
      passing_slot c.order_of_states.ensures.reflexive c.order_of_states.ensures.transitive p maps old new was runs state left c.loop-slot.regions.items region (IsSettled c.args.lowered.now before) (IsSettled before after) (IsSettled c.args.lowered.now after) slot (insn_at p slot) refl c.slots-slot-end.ensures.program own c.stands_at_targets.ensures.entries c.stands_whole.ensures (λ settled. omega (arith, settled, more, earlier)) (λ settled. omega (arith, settled, more, earlier)) inside here c.loop-slot.invariant.0,
      visited_program v old new was runs state left (IsSettled before after) region (insn_at v.program v.slot) visit ∙ own,
      omega (arith, more, earlier),
      length-set c.loop-slot.regions.items slot region ∙ size,
      complete_next laws v p maps slot c.args.lowered.now before after old new was runs state left (IsSettled before after) region same c.slots-slot-end.ensures.program c.requires.formed
          (passing_plain p maps old was state c.loop-slot.regions.items (IsSettled c.args.lowered.now before) slot c.slots-slot-end.ensures.program c.loop-slot.invariant.0)
          c.loop-slot.invariant.0.state_whole c.loop-slot.invariant.0.whole visit least c.loop-slot.invariant.4,
    )

pub returns-clause-judged : goal.returns-clause-judged
returns-clause-judged c =
    let p = c.args.image.now in
    let last : c.loop-slot.slot ≡ length p.slots = omega arith in
    let h = c.loop-slot.invariant.0 in
    λ settled.
    judged p c.args.maps.now h.known c.loop-slot.regions.items c.slots-slot-end.ensures.program c.requires.formed c.loop-slot.invariant.3 (rw last at h.visited) (rw last at (h.permitted settled))

pub returns-in_err-region-clause-reported : goal.returns-in_err-region-clause-reported
returns-in_err-region-clause-reported c =
    let p = c.args.image.now in
    let maps = c.args.maps.now in
    let slot = c.loop-slot.slot in
    let old = c.loop-slot.table in
    let was = c.loop-slot.runs in
    let state = c.loop-slot.state in
    let left = c.visit_slot.new.state in
    let refused = c.in_err-region.field-0.0 in
    let v : VisitValue = c.new-visit.result in
    let laws : Rules = record { reflexive = c.order_of_states.ensures.reflexive; transitive = c.order_of_states.ensures.transitive; applies = c.apply_grows.ensures; refines = c.refine_grows.ensures; calls = c.after_call_grows.ensures; apply_leaves = c.apply_leaves.ensures.apply; call_leaves = c.apply_leaves.ensures.call; shrinks = c.refine_shrinks.ensures; entered = c.loops_are_counted.ensures.entered } in
    let fault : IsVisitFaultIfAny v c.loop-slot.lowered (knowledge_in old) (visited_state was state old v.slot) (insn_at v.program v.slot) left refused = c.in_err-region.ensures.fault in
    let same = visit_of v p maps slot c.new-visit.ensures.program c.new-visit.ensures.maps c.new-visit.ensures.slot in
    reported_on c.from_residual.result refused (λ refused. HasToLower p c.args.lowered.now → ReportsKnown p maps left refused) (search rules)
    (complete_reported laws v p maps slot c.args.lowered.now c.loop-slot.lowered old was state left refused same c.requires.formed
    (passing_plain p maps old was state c.loop-slot.regions.items (IsSettled c.args.lowered.now c.loop-slot.lowered) slot c.slots-slot-end.ensures.program c.loop-slot.invariant.0)
    c.loop-slot.invariant.0.state_whole c.loop-slot.invariant.0.whole fault c.loop-slot.invariant.4)

pub returns-clause-lowers : goal.returns-clause-lowers
returns-clause-lowers c = λ low comes stands closed. (c.loop-slot.invariant.4.below comes stands closed (low comes stands closed)).1
