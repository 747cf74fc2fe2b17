-- Calls that were answered in order.
use Rattle.std.proofs.Common.{◌≡◌, ℕ, List, [], ◌∷◌, ◌++◌, refl, sym, ap, subst, ◌∙◌}
use Rattle.machine.specs.Runs.{call}
use Rattle.machine.specs.Sizes.{Maps}
use Rattle.machine.specs.declared.calls.Call.{Call}
use Rattle.machine.specs.declared.calls.Question.{Question}
use Rattle.plain_cells.specs.Cells.{AreInOrder, cells_of, fresh_cells}
use Rattle.plain_cells.specs.Words.{AreCallsOn, IsOfCell, CallsGoOn, answer_by_words, words_after_question, zero_words}
use Rattle.plain_cells.proofs.Zeros.{cell_there, cells_keep, zero_cells}

-- one call more
one_more : (sizes : Maps) (words between : List (List ℕ)) (before : List Call) (q : Question) (answer : ℕ) → AreCallsOn sizes words before between → IsOfCell sizes q → answer ≡ answer_by_words between q
    → AreCallsOn sizes words (before ++ call q answer ∷ []) (words_after_question between q)
one_more sizes words between [] q answer are of is = (of, is ∙ ap (λ (w : List (List ℕ)). answer_by_words w q) are, ap (λ (w : List (List ℕ)). words_after_question w q) are)
one_more sizes words between (c ∷ cs) q answer are of is = (are.0, are.1, one_more sizes (words_after_question words c.question) between cs q answer are.2 of is)

-- the later calls begin with what the earlier ones left
pub calls_go_on : CallsGoOn
calls_go_on sizes words between following [] calls before all = subst (λ (w : List (List ℕ)). AreCallsOn sizes w calls following) (sym before) all
calls_go_on sizes words between following (c ∷ cs) calls before all = calls_go_on sizes (words_after_question words c.question) between following cs calls before.2 all.2

-- cells are in order as they are made
pub fresh_in_order : (sizes : Maps) → AreInOrder (fresh_cells sizes)
fresh_in_order sizes = record { cells = zero_cells sizes; calls = refl }

-- and after a call
pub called_in_order : (sizes : Maps) (words : List (List ℕ)) (asked : List Call) (q : Question) (answer : ℕ) → AreInOrder (cells_of sizes words asked) → IsOfCell sizes q → answer ≡ answer_by_words words q
    → AreInOrder (cells_of sizes (words_after_question words q) (asked ++ call q answer ∷ []))
called_in_order sizes words asked q answer is of reported = record {
  cells = cells_keep sizes words q.map q.key _ (cell_there sizes words q.map q.key of.inside is.cells).0 is.cells;
  calls = one_more sizes (zero_words sizes) words asked q answer is.calls of reported;
}
