use Rattle.std.proofs.Common.{◌≡◌, ℕ, List, ap, sym, ◌∙◌, subst}
use Rattle.std.proofs.lemmas.Option.{none-some}
use Rattle.std.proofs.lemmas.Result.{IfOk-weaker}
use Rattle.basm_lex.specs.Lines.{operands_of}
use Rattle.basm_lex.specs.Names.{IsName}
use Rattle.basm.specs.PartialImage.{AddsItem, HasRoom, UnlessMemory}
use Rattle.basm_lex.specs.Mnemonics.{mnemonic_word}
use Rattle.basm.specs.Names.{slot_named}
use Rattle.basm.specs.Relation.{Item, texts}
use Rattle.basm.proofs.Arms.{budget_item, empty_adds, insn_item, label_item, loop_item, version_item}
use Rattle.basm.proofs.Items.{adds_label, line_insn, line_label, line_loop, line_nothing}
use Rattle.basm.proofs.partial_image.PartialImage.add_line.Goals as goal

pub returns-in-empty-clause-adds : goal.returns-in-empty-clause-adds
returns-in-empty-clause-adds c =
    line_nothing (slot_named c.args.survey.now.names) c.args.line.now c.args.self.now (sym c.in_ok-statement.ensures.word ∙ c.in-empty.is)

pub returns-in-empty-clause-exact : goal.returns-in-empty-clause-exact
returns-in-empty-clause-exact c = λ item says room.
    empty_adds (slot_named c.args.survey.now.names) c.args.self.now.slots c.args.line.now c.args.self.now item (λ found is. none-some found (c.in-None.ensures.exact found (c.in_ok-statement.ensures.word ∙ is))) (sym c.in_ok-statement.ensures.word ∙ c.in-empty.is) says

pub returns-in-text-clause-exact : goal.returns-in-text-clause-exact
returns-in-text-clause-exact c = λ item says room.
    let operands : texts c.as_slice-operands.result.now ≡ operands_of c.args.line.now = ap texts c.as_slice-operands.ensures.value ∙ c.in_ok-statement.ensures.operands in
    let Q : Item → Type 0 = λ item. HasRoom c.args.survey.now.slots item c.args.self.now → UnlessMemory c.add_budget.result (λ _. AddsItem item c.args.self.now c.add_budget.new.self) in
    budget_item (texts c.as_slice-operands.result.now) (slot_named c.args.survey.now.names) c.args.self.now.slots c.args.line.now item Q
    (λ found is. none-some found (c.in-None.ensures.exact found (c.in_ok-statement.ensures.word ∙ is))) (sym c.in_ok-statement.ensures.word ∙ c.in-text.is) operands says (λ n one room. c.add_budget.ensures.exact n one room.0 room.1) room

pub returns-in-text-2-clause-adds : goal.returns-in-text-2-clause-adds
returns-in-text-2-clause-adds c =
    let operands : texts c.as_slice-operands.result.now ≡ operands_of c.args.line.now = ap texts c.as_slice-operands.ensures.value ∙ c.in_ok-statement.ensures.operands in
    IfOk-weaker c.add_loop.result _ _ (λ x h. line_loop (texts c.as_slice-operands.result.now) (slot_named c.args.survey.now.names) c.args.line.now c.args.self.now c.add_loop.new.self h.0
    (sym c.in_ok-statement.ensures.word ∙ c.in-text-2.is) operands h.1 h.2) c.add_loop.ensures.adds

pub returns-in-text-2-clause-exact : goal.returns-in-text-2-clause-exact
returns-in-text-2-clause-exact c = λ item says room.
    let operands : texts c.as_slice-operands.result.now ≡ operands_of c.args.line.now = ap texts c.as_slice-operands.ensures.value ∙ c.in_ok-statement.ensures.operands in
    let Q : Item → Type 0 = λ item. HasRoom c.args.survey.now.slots item c.args.self.now → UnlessMemory c.add_loop.result (λ _. AddsItem item c.args.self.now c.add_loop.new.self) in
    loop_item (texts c.as_slice-operands.result.now) (slot_named c.args.survey.now.names) c.args.self.now.slots c.args.line.now item Q
    (λ found is. none-some found (c.in-None.ensures.exact found (c.in_ok-statement.ensures.word ∙ is))) (sym c.in_ok-statement.ensures.word ∙ c.in-text-2.is) operands says (λ l four room. c.add_loop.ensures.exact l four room) room

pub returns-in-text-3-clause-exact : goal.returns-in-text-3-clause-exact
returns-in-text-3-clause-exact c = λ item says room.
    let operands : texts c.as_slice-operands.result.now ≡ operands_of c.args.line.now = ap texts c.as_slice-operands.ensures.value ∙ c.in_ok-statement.ensures.operands in
    let Q : Item → Type 0 = λ item. HasRoom c.args.survey.now.slots item c.args.self.now → UnlessMemory c.add_version.result (λ _. AddsItem item c.args.self.now c.add_version.new.self) in
    version_item (texts c.as_slice-operands.result.now) (slot_named c.args.survey.now.names) c.args.self.now.slots c.args.line.now item Q
    (λ found is. none-some found (c.in-None.ensures.exact found (c.in_ok-statement.ensures.word ∙ is))) (sym c.in_ok-statement.ensures.word ∙ c.in-text-3.is) operands says (λ version one room. c.add_version.ensures.exact version one room) room

pub returns-in-Some-clause-adds : goal.returns-in-Some-clause-adds
returns-in-Some-clause-adds c =
    let operands : texts c.as_slice-operands.result.now ≡ operands_of c.args.line.now = ap texts c.as_slice-operands.ensures.value ∙ c.in_ok-statement.ensures.operands in
    IfOk-weaker c.add_insn.result _ _ (λ x h. line_insn (texts c.as_slice-operands.result.now) (slot_named c.args.survey.now.names) c.args.line.now (mnemonic_word c.in-Some.found) c.args.self.now c.add_insn.new.self h.0
    (sym c.in_ok-statement.ensures.word ∙ c.in-Some.ensures.names) operands h.1 h.2 h.3) c.add_insn.ensures.adds

pub returns-in-Some-clause-exact : goal.returns-in-Some-clause-exact
returns-in-Some-clause-exact c = λ item says room.
    let operands : texts c.as_slice-operands.result.now ≡ operands_of c.args.line.now = ap texts c.as_slice-operands.ensures.value ∙ c.in_ok-statement.ensures.operands in
    let Q : Item → Type 0 = λ item. HasRoom c.args.survey.now.slots item c.args.self.now → UnlessMemory c.add_insn.result (λ _. AddsItem item c.args.self.now c.add_insn.new.self) in
    insn_item (texts c.as_slice-operands.result.now) (slot_named c.args.survey.now.names) c.args.self.now.slots c.args.line.now item c.in-Some.found Q
    (let P : List ℕ → Type 0 = IsName in subst P c.in_ok-statement.ensures.word c.in-Some.ensures.plain) (sym c.in_ok-statement.ensures.word ∙ c.in-Some.ensures.names) operands says (λ insn writes room. c.add_insn.ensures.exact insn writes room) room

pub returns-clause-adds : goal.returns-clause-adds
returns-clause-adds c =
    let operands : texts c.as_slice-operands.result.now ≡ operands_of c.args.line.now = ap texts c.as_slice-operands.ensures.value ∙ c.in_ok-statement.ensures.operands in
    IfOk-weaker c.read_label.result _ _ (λ x h. line_label (slot_named c.args.survey.now.names) c.args.line.now c.args.self.now h.0 (h.1.0, sym c.in_ok-statement.ensures.word ∙ h.1.1, sym operands ∙ h.2)) c.read_label.ensures.reads

pub returns-clause-exact : goal.returns-clause-exact
returns-clause-exact c = λ item says room.
    let word = c.in_ok-statement.ensures.word in
    let operands : texts c.as_slice-operands.result.now ≡ operands_of c.args.line.now = ap texts c.as_slice-operands.ensures.value ∙ c.in_ok-statement.ensures.operands in
    let Q : Item → Type 0 = λ item. UnlessMemory c.read_label.result (λ _. AddsItem item c.args.self.now c.args.self.now) in
    label_item (slot_named c.args.survey.now.names) c.args.self.now.slots c.args.line.now item Q
    (λ same. c.in_default.not-empty (word ∙ same)) (λ same. c.in_default.not-text (word ∙ same)) (λ same. c.in_default.not-text-2 (word ∙ same)) (λ same. c.in_default.not-text-3 (word ∙ same))
    (λ found same. none-some found (c.in-None.ensures.exact found (word ∙ same))) says
    (λ name label. rw (c.read_label.ensures.exact name (label.0, word ∙ label.1) (operands ∙ label.2)) (adds_label name c.args.self.now))
