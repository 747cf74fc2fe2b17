use Rattle.std.proofs.Common.{rules, ◌≡◌}
use Rattle.bpf_insn.specs.declared.flow.Flow.TheVariants.{GoesOn}
use Rattle.bpf_insn.specs.Flow.{flow_of}
use Rattle.absdom_stack.specs.Spill.{spill_of}
use Rattle.bver_pass.specs.StateTable.{knowledge_in}
use Rattle.bver_pass.proofs.Straight.{straight_fault, straight_least}
use Rattle.bver_pass.proofs.Reporting.{compared_fault, refuted_fault}
use Rattle.bver_pass.proofs.edges.flow.Goals as goal

pub returns-in_ok-check_map-in-LoadMap-clause-least :
    goal.returns-in_ok-check_map-in-LoadMap-clause-least
returns-in_ok-check_map-in-LoadMap-clause-least c = rw c.in-LoadMap.is (rw c.in-LoadMap.is at c.straight.ensures.least)

pub returns-in-Helper-clause-least : goal.returns-in-Helper-clause-least
returns-in-Helper-clause-least c = rw c.in-Call.is c.call.ensures.least

pub returns-in-Alu-clause-least : goal.returns-in-Alu-clause-least
returns-in-Alu-clause-least c =
    let goes : flow_of c.args.insn.now ≡ GoesOn = search rules in
    let v = c.args.visit.now in
    straight_least (spill_of v.program.version) c.straight-in-Alu.result v.slot c.args.state.now c.args.insn.now c.args.table.now c.straight-in-Alu.new.table c.straight-in-Alu.new.state goes c.straight-in-Alu.ensures.least

pub returns-in-Alu-clause-fault : goal.returns-in-Alu-clause-fault
returns-in-Alu-clause-fault c =
    let goes : flow_of c.args.insn.now ≡ GoesOn = search rules in
    let r = c.straight-in-Alu in
    straight_fault r.result c.args.visit.now c.args.lowered.now (knowledge_in c.args.table.now) c.args.state.now c.args.insn.now goes r.ensures.slot r.ensures.fault

pub returns-in-Jump-clause-fault : goal.returns-in-Jump-clause-fault
returns-in-Jump-clause-fault c =
    let r = c.compare in
    rw c.in-Jump.is (compared_fault r.result c.args.visit.now c.args.lowered.now (knowledge_in c.args.table.now) c.args.state.now c.in-Jump.comparison c.in-Jump.offset r.ensures.fault)

pub returns-in-Helper-clause-fault : goal.returns-in-Helper-clause-fault
returns-in-Helper-clause-fault c =
    let r = c.call in
    refuted_fault r.result c.args.visit.now c.args.lowered.now (knowledge_in c.args.table.now) c.args.state.now c.args.insn.now r.ensures.slot (search rules) (search rules)

pub returns-in_err-check_map-in-LoadMap-clause-fault : goal.returns-in_err-check_map-in-LoadMap-clause-fault
returns-in_err-check_map-in-LoadMap-clause-fault c =
    refuted_fault c.from_residual.result c.args.visit.now c.args.lowered.now (knowledge_in c.args.table.now) c.args.state.now c.args.insn.now (search rules) (search rules) (search rules)

pub returns-in_err-check_answer-in-Exit-clause-fault : goal.returns-in_err-check_answer-in-Exit-clause-fault
returns-in_err-check_answer-in-Exit-clause-fault c =
    refuted_fault c.from_residual-in_err-check_answer-in-Exit.result c.args.visit.now c.args.lowered.now (knowledge_in c.args.table.now) c.args.state.now c.args.insn.now (search rules) (search rules) (search rules)
