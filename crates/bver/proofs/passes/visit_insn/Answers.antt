use Rattle.std.proofs.Common.{rules, ◌≡◌, ◌+◌, Err, Some, IsTrue}
use Rattle.bpf_insn.specs.Spelling.{slots_of}
use Rattle.absdom_stack.specs.Spill.{spill_of}
use Rattle.bver_pass.specs.Justified.{IsCoveredIfAny, IsPermitted, accessed_region}
use Rattle.bver_pass.specs.Leading.{AreLoweredBack, jumping_state, IsFlowFault, IsWidenedIfAny, LeadsBelow}
use Rattle.bver_form.specs.Lowered.{IsSettled}
use Rattle.bver_pass.specs.StateTable.{knowledge_beside, knowledge_in}
use Rattle.bver_form.specs.Targets.{IsPlain}
use Rattle.bver_pass.specs.Visit.{IsExtended, IsLeastNext, IsLeastOf, visited_state}
use Rattle.bver_pass.specs.Heads.{AreHeadsAt}
use Rattle.bver.proofs.Below.{leads_fault, least_insn}
use Rattle.bver.proofs.Passing.{insn_visit}
use Rattle.bver.proofs.Slots.{has_next}
use Rattle.bver.proofs.passes.visit_insn.Goals as goal

pub flow-requires-clause-allowed : goal.flow-requires-clause-allowed
flow-requires-clause-allowed c = c.stands_formed.ensures.formed.allowed c.args.visit.now.slot c.args.insn.now c.requires.begins

pub flow-requires-clause-next : goal.flow-requires-clause-next
flow-requires-clause-next c =
    has_next c.args.visit.now c.args.insn.now c.stands_formed.ensures.program c.stands_formed.ensures.formed c.requires.begins

pub returns-clause-visit : goal.returns-clause-visit
returns-clause-visit c =
    let v = c.args.visit.now in
    let insn = c.args.insn.now in
    let old = c.args.table.now in
    let mid = c.arrive.new.table in
    let new = c.flow.new.table in
    let was = c.args.runs.now in
    let runs = c.in_ok-goes_on.goes_on in
    let before = c.args.state.now in
    let here = c.arrive.new.state in
    let left = c.flow.new.state in
    let known : visited_state was before mid v.slot ≡ Some here = search rules in
    let permitted : IsSettled c.args.lowered.now c.flow.new.lowered → IsPermitted (spill_of v.program.version) v.maps (knowledge_beside new runs (v.slot + slots_of insn) left) v.slot here insn = search rules in
    let accesses : c.accessed_region-region.result ≡ accessed_region here insn = search rules in
    let heads : AreHeadsAt v.program v.slot (visited_state was before mid v.slot) = search rules in
    let plain : IsTrue runs → IsPlain v.program (v.slot + slots_of insn) = search rules in
    let first : IsExtended v.slot old mid = search rules in
    let second : IsExtended (v.slot + 1) mid new = search rules in
    insn_visit c.order_of_states.ensures.transitive v old mid new was runs before here left (IsSettled c.args.lowered.now c.flow.new.lowered) c.accessed_region-region.result insn known permitted accesses heads plain first second

pub returns-clause-least : goal.returns-clause-least
returns-clause-least c =
    let v = c.args.visit.now in
    let insn = c.args.insn.now in
    let old = c.args.table.now in
    let mid = c.arrive.new.table in
    let was = c.args.runs.now in
    let before = c.args.state.now in
    let here = c.arrive.new.state in
    let runs = c.in_ok-goes_on.goes_on in
    let known : visited_state was before mid v.slot ≡ Some here = search rules in
    let widened : IsWidenedIfAny v.program c.args.lowered.now v.slot (visited_state was before old v.slot) (visited_state was before mid v.slot) = search rules in
    let first : IsLeastOf (λ above. IsCoveredIfAny (visited_state was before mid v.slot) (above v.slot)) old mid = search rules in
    let second : IsLeastNext (λ above. LeadsBelow (spill_of v.program.version) above v.slot here insn) mid c.flow.new.table runs (v.slot + slots_of insn) c.flow.new.state = search rules in
    let marks : AreLoweredBack v.program v.slot (knowledge_in mid) (jumping_state here insn) c.args.lowered.now c.flow.new.lowered = search rules in
    let entered : IsExtended v.slot old mid = search rules in
    let extended : IsExtended (v.slot + 1) mid c.flow.new.table = search rules in
    least_insn v c.args.lowered.now c.flow.new.lowered old mid c.flow.new.table was runs before here c.flow.new.state insn known widened first second marks entered extended

pub returns-in_err-goes_on-clause-fault : goal.returns-in_err-goes_on-clause-fault
returns-in_err-goes_on-clause-fault c =
    let v = c.args.visit.now in
    let insn = c.args.insn.now in
    let old = c.args.table.now in
    let mid = c.arrive.new.table in
    let was = c.args.runs.now in
    let before = c.args.state.now in
    let here = c.arrive.new.state in
    let known : visited_state was before mid v.slot ≡ Some here = search rules in
    let widened : IsWidenedIfAny v.program c.args.lowered.now v.slot (visited_state was before old v.slot) (visited_state was before mid v.slot) = search rules in
    let extended : IsExtended v.slot old mid = search rules in
    let refused = c.in_err-goes_on.field-0.0 in
    let fault : IsFlowFault v c.args.lowered.now (knowledge_in mid) here insn refused = search rules in
    let kept : c.flow.new.state ≡ here = search rules in
    let reported : c.from_residual-in_err-goes_on.result ≡ Err refused = search rules in
    rw (reported, kept) (leads_fault v c.args.lowered.now old mid was before here insn refused known c.stands_whole.ensures widened extended fault)
