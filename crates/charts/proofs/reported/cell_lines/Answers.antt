use Rattle.std.proofs.Common.{◌≡◌, List, false, true, subst, sym}
use Rattle.std.specs.Prelude.{map}
use Rattle.std.proofs.lemmas.Result.{IfOk-weaker}
use Rattle.regions.specs.Cells.{AreCellsOf}
use Rattle.regions.specs.declared.cutting.Cell.{Cell}
use Rattle.charts.specs.Lines.{IsChart, is_reported, line_of, reported_tests}
use Rattle.charts.specs.declared.lines.ChartLine.{ChartLine}
use Rattle.charts.proofs.Celled.{chart_of, unreported_settled}
use Rattle.charts.proofs.reported.cell_lines.Goals as goal

pub cells-requires-clause-settled : goal.cells-requires-clause-settled
cells-requires-clause-settled c = unreported_settled c.args.asked.now c.args.all c.args.old.now c.args.new.now

pub returns : goal.returns
returns c =
    let asked = c.args.asked.now in
    let all = c.args.all in
    let old = c.args.old.now in
    let new = c.args.new.now in
    IfOk-weaker c.point_lines_of.result (λ lines. lines.items ≡ map line_of c.as_slice.result.now) (λ lines. IsChart asked all old new lines.items)
    (λ lines e. subst (λ (ls : List ChartLine). IsChart asked all old new ls) (sym e) (chart_of asked all old new c.as_slice.result.now
    (subst (λ (cs : List Cell). AreCellsOf (reported_tests asked old new) (λ p. is_reported asked all old new p ≡ false) (λ p. is_reported asked all old new p ≡ true) cs) (sym c.as_slice.ensures.value) c.in_ok-found.ensures)))
    c.point_lines_of.ensures
