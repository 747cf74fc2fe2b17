use Rattle.std.proofs.Common.{Bor, ℕ, suc, List, length, map, drop, ◌++◌, ◌∷◌, [], sym, ap₂, ◌∙◌, subst, arith}
use Rattle.std.proofs.lemmas.Iterator.Consumers.{YieldsList-at, YieldsList-from_first, YieldsList-end, YieldsList-so_far, YieldsList-turn}
use Rattle.std.proofs.lemmas.List.{length-append, length-map, map_push}
use Rattle.std.proofs.lemmas.Result.{err_from_is_err_and}
use Rattle.spw.specs.Line.{lines_of}
use Rattle.job_parts.specs.Turns.{AreTaken}
use Rattle.job_parts.proofs.InTurn.{around, stops_in, takes_more}
use Rattle.job_parts.proofs.turns.take_lines.Goals as goal

pub loop-line-preserved : goal.loop-line-preserved
loop-line-preserved g c =
    let P : List (List ℕ) → Type 0 = λ lines. AreTaken g.T.TakesLines.takes lines c.args.taker.now c.take_line.new.taker (g.W.Write.contents c.args.out.now) (g.W.Write.contents c.take_line.new.out) in
    let count = length-append c.loop-line.yielded (c.in-Some.line ∷ []) in (
      omega (arith, c.loop-line.invariant.0, count),
      subst P (sym (map_push (λ line. line.now) c.loop-line.yielded c.in-Some.line))
          (takes_more g.T.TakesLines.takes (map (λ line. line.now) c.loop-line.yielded) c.in-Some.line.now _ _ _ _ _ _ c.loop-line.invariant.1 c.in_ok-take_line.ensures.taken),
    )

pub returns-clause-taken : goal.returns-clause-taken
returns-clause-taken g c =
    let road = YieldsList-at c.into_iter-line-iterator.ensures.into_iter_gives
    (YieldsList-from_first (λ (line : Bor (List ℕ)). line.now) (λ (lines : List (List ℕ)). lines) (lines_of c.args.text.now) c.lines_of-line-items.ensures.lines) in
    let all = YieldsList-end road c.loop-line.yielded _ c.loop-line.yielded_by _ _ c.in-None.is c.next.ensures.steps in
    let P : List (List ℕ) → Type 0 = λ lines. AreTaken g.T.TakesLines.takes lines c.args.taker.now c.loop-line.taker (g.W.Write.contents c.args.out.now) (g.W.Write.contents c.loop-line.out) in
    subst P all.0 c.loop-line.invariant.1

pub returns-in_err-take_line-clause-stops : goal.returns-in_err-take_line-clause-stops
returns-in_err-take_line-clause-stops g c =
    let road = YieldsList-at c.into_iter-line-iterator.ensures.into_iter_gives
    (YieldsList-from_first (λ (line : Bor (List ℕ)). line.now) (λ (lines : List (List ℕ)). lines) (lines_of c.args.text.now) c.lines_of-line-items.ensures.lines) in
    let turn = YieldsList-turn road c.loop-line.yielded _ c.loop-line.yielded_by _ _ c.in-Some.line c.in-Some.is c.next.ensures.steps in
    let before = YieldsList-so_far road c.loop-line.yielded _ c.loop-line.yielded_by in
    let lines = lines_of c.args.text.now in
    let n = length c.loop-line.yielded in
    let are = around lines n c.in-Some.line.now turn.0 ∙ ap₂ (λ (front : List (List ℕ)) (line : List ℕ). front ++ line ∷ drop (suc n) lines) (sym before) (sym turn.1) in
    let count = length-map c.loop-line.yielded (λ (line : _). line.now) in
    let gone = err_from_is_err_and c.from_residual.result c.from_residual.ensures.1 in
    rw (gone.1, gone.2) (stops_in g.T.TakesLines.takes g.T.TakesLines.stops lines _ _ c.in-Some.line.now _ _ _ _ _ _ _ _ are (omega (arith, c.loop-line.invariant.0, count)) c.loop-line.invariant.1 c.in_err-take_line.ensures.stops)
