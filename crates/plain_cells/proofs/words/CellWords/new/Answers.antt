use Rattle.std.proofs.Common.{sym, subst}
use Rattle.plain_cells.specs.Words.{AreCells, AreZeros}
use Rattle.plain_cells.proofs.Agreeing.{ok_then}
use Rattle.plain_cells.proofs.Zeros.{zero_cells, zeros}
use Rattle.plain_cells.proofs.words.CellWords.new.Goals as goal

pub returns-clause-cells : goal.returns-clause-cells
returns-clause-cells c =
    let sizes = c.args.sizes.now in
    ok_then c.same.result (λ made is. subst (λ words. AreCells sizes words) (sym is) (zero_cells sizes)) c.same.ensures

pub returns-clause-zeros : goal.returns-clause-zeros
returns-clause-zeros c =
    let sizes = c.args.sizes.now in
    ok_then c.same.result (λ made is. subst (λ words. AreZeros words) (sym is) (zeros sizes)) c.same.ensures
