use Rattle.std.proofs.Common.{ℕ, List, subst}
use Rattle.std.proofs.lemmas.Iterator.Consumers.{YieldsList-at, YieldsList-end, YieldsList-from_first}
use Rattle.basm_lex.specs.Lines.{pieces_of}
use Rattle.basm.specs.Labels.{IsSurvey}
use Rattle.basm.proofs.survey.Survey.of.Goals as goal

pub returns : goal.returns
returns c =
    let all = YieldsList-end (YieldsList-at c.into_iter-line-iterator.ensures.into_iter_gives
    (YieldsList-from_first (λ line. line.now) (λ lines. lines) (pieces_of c.args.text.now) c.pieces_of-line-items.ensures))
    c.loop-line.yielded _ c.loop-line.yielded_by _ _ c.in-None.is c.next.ensures.steps in
    let P : List (List ℕ) → Type 0 = λ lines. IsSurvey lines c.loop-line.survey in
    subst P all.0 c.loop-line.invariant
