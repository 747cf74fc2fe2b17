use Rattle.std.proofs.Common.{◌≡◌, List, Some, rules, subst, sym}
use mathlib.Core.List.{IsPrefix}
use Rattle.rmap.specs.Command.{command_kind, command_of}
use Rattle.bver.specs.Justified.{IsJustified}
use Rattle.node_programs.specs.declared.publishes.Publish.{Publish}
use Rattle.node_programs.specs.Published.{judging_program}
use Rattle.node_parts.specs.Passes.{PassValue, pass_of}
use Rattle.node_parts.specs.Slots.{slot_of}
use Rattle.node_parts.specs.Steps.{IsAdmission}
use Rattle.single_node.specs.Judging.{IsLastJudgement}
use Rattle.single_node.proofs.Judging.{last_judgement}
use Rattle.single_node.proofs.port.SinglePort.judge.Goals as goal

pub returns-clause-judged : goal.returns-clause-judged
returns-clause-judged c = λ p admission.
    let b = c.self.inside.context in
    let left = c.judge.new.self in
    let known = c.self.inside.known in
    let programs = c.args.programs.now in
    let shares = c.self.inside.shares.items in
    let staging = c.self.inside.staging in
    let admitted = c.args.admitted in
    let program = c.shown-generation.result.0.now in
    let generation = c.shown-generation.result.1 in
    let at : c.slot-slot.result ≡ slot_of (command_kind (command_of admitted.packet)) admitted.place = search rules in
    let shows : judging_program programs c.slot-slot.result ≡ Some (program, generation)
    = c.shown-generation.ensures.value in
    let accepted : IsJustified program.program program.sizes = c.shown-generation.ensures.justified in
    let admitted_here : IsAdmission admitted p b.windows = subst (λ (h : PassValue). IsAdmission admitted p h.windows) (sym c.self.view_is) admission in
    let begins = subst (λ (h : PassValue). IsPrefix h.programs programs) (sym c.self.view_is) c.requires.informed.begins in
    let judged : IsLastJudgement programs c.args.cells.now.words c.judge.new.cells.words (pass_of b known shares staging) (pass_of left programs shares staging) p c.judge.result
    = last_judgement c.published_programs.ensures.last c.args.cells.now c.judge.new.cells b left known programs shares staging admitted p c.judge.result program generation c.slot-slot.result c.requires.sizes begins at shows accepted c.judge.ensures admitted_here in
    let knows : IsLastJudgement programs c.args.cells.now.words c.judge.new.cells.words (pass_of b known shares staging) (pass_of left c.list-self-inside.result shares staging) p c.judge.result
    = subst (λ (l : List Publish). IsLastJudgement programs c.args.cells.now.words c.judge.new.cells.words (pass_of b known shares staging) (pass_of left l shares staging) p c.judge.result) (sym c.list-self-inside.ensures.list) judged in
    subst (λ (h : PassValue). IsLastJudgement programs c.args.cells.now.words c.judge.new.cells.words h (pass_of left c.list-self-inside.result shares staging) p c.judge.result) c.self.view_is knows
