use Rattle.std.proofs.Common.{rules}
use Rattle.std.proofs.lemmas.Result.{err_from_is_err_and}
use Rattle.commands.proofs.ShownLines.{breaks, one_more}
use Rattle.commands.proofs.shows.show_all.Goals as goal

pub loop-number-preserved : goal.loop-number-preserved
loop-number-preserved g c =
    one_more _ _ _ _ _ _ _ c.loop-number.invariant c.in_ok-is_given.ensures.shown (search rules)

pub returns-in_err-is_given-clause-stops : goal.returns-in_err-is_given-clause-stops
returns-in_err-is_given-clause-stops g c =
    let gone = err_from_is_err_and c.from_residual.result c.from_residual.ensures.1 in
    rw (gone.1, gone.2) (breaks _ _ _ _ _ _ _ _ _ c.loop-number.invariant c.in_err-is_given.ensures.stops)
