use Rattle.std.proofs.lemmas.Result.{err_from_is_err_and}
use Rattle.job_live.proofs.LinesInTurn.{breaks_off, goes_on}
use Rattle.job_live.proofs.live.hold.Goals as goal

pub loop-number-preserved : goal.loop-number-preserved
loop-number-preserved g c =
    goes_on _ _ _ _ _ _ _ _ _ _ _ _ _ _ c.loop-number.invariant c.in_ok-is_bad.ensures.exchanged c.in-Some.is c.either-some_bad.ensures

pub returns-in_err-is_bad-clause-stops : goal.returns-in_err-is_bad-clause-stops
returns-in_err-is_bad-clause-stops g c =
    let gone = err_from_is_err_and c.from_residual.result c.from_residual.ensures.1 in
    rw (gone.1, gone.2) (breaks_off _ _ _ _ _ _ _ _ _ _ _ _ _ _ c.loop-number.invariant c.in_err-is_bad.ensures.stops)
