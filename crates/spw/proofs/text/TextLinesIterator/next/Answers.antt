use Rattle.std.proofs.Common.{arith, ◌≢◌, [], ℕ, List, length, sym, ap, ◌∙◌}
use Rattle.std.proofs.lemmas.Bool.{eqb-false}
use Rattle.spw.proofs.text.TextLinesIterator.next.Goals as goal

pub returns-clause-steps : goal.returns-clause-steps
returns-clause-steps c =
    let text = c.self.inside.rest in
    let some : text.now ≢ [] = λ e. eqb-false _ _ (sym c.is_empty.ensures ∙ c.if-is_empty.false) (ap (λ (l : List ℕ). length l) e) in
    sym c.self.view_is ∙ c.cut.ensures some

pub returns-clause-goes : goal.returns-clause-goes
returns-clause-goes c =
    let fewer = ap (λ (l : List (List ℕ)). length l) (returns-clause-steps c) in
    record { on = λ finite. (tt, tt, omega (arith, fewer)); keeps = tt; rests = λ finite. tt }
