use Rattle.std.proofs.Common.{◌≡◌, ◌∙◌, subst, sym}
use Rattle.plain_cells.specs.Cells.{PlainCellsValue}
use Rattle.plain_cells.specs.Pairs.{pairs_after_question}
use Rattle.plain_cells.specs.Words.{IsOfCell, words_after_question}
use Rattle.plain_cells.proofs.Calls.{called_in_order}
use Rattle.plain_cells.proofs.Agreeing.{kept_words, pair_there, answered_whole, words_whole}
use Rattle.plain_cells.proofs.Zeros.{cell_there}
use Rattle.plain_cells.proofs.cells.PlainCells.answer.Goals as goal

pub ask-answer-requires : goal.ask-answer-requires
ask-answer-requires c =
    let q = c.args.asked in
    let p = c.self.inside.pairs in
    let of = subst (λ (cells : PlainCellsValue). IsOfCell cells.sizes q) (sym c.self.view_is) c.requires in
    let there = cell_there c.self.inside.sizes p.words q.map q.key of.inside c.self.invariant.0.cells in
    pair_there p q.map q.key c.self.invariant.1 there.0 there.1

pub invariant_of-self : goal.invariant_of-self
invariant_of-self c =
    let q = c.args.asked in
    let p = c.self.inside.pairs in
    let of = subst (λ (cells : PlainCellsValue). IsOfCell cells.sizes q) (sym c.self.view_is) c.requires in
    let there = cell_there c.self.inside.sizes p.words q.map q.key of.inside c.self.invariant.0.cells in
    let reported = c.ask-answer.ensures.reported ∙ answered_whole p q c.self.invariant.1 there.0 there.1 in
    let called = called_in_order c.self.inside.sizes p.words c.self.inside.log.calls q c.ask-answer.result c.self.invariant.0 of reported in
    let following : (pairs_after_question p q).words ≡ words_after_question p.words q = words_whole p q c.self.invariant.1 there.0 there.1 in
    let kept = kept_words p q c.self.invariant.1 there.0 there.1 in
    rw (c.ask-answer.ensures.following, following, c.with-self-inside.ensures) (called, kept)
