use Rattle.std.proofs.Common.{[], List, subst}
use Rattle.regions.specs.Cells.{IsFilled}
use Rattle.regions.specs.declared.cutting.Cell.{Cell}
use Rattle.regions.proofs.Filling.{all_filled}
use Rattle.regions.proofs.cutting.cells.Goals as goal

pub returns : goal.returns
returns g c =
    let tests = g.Q.PointQuestion.tests c.args.question.now in
    let holds = g.Q.PointQuestion.holds c.args.question.now in
    let fails = g.Q.PointQuestion.fails c.args.question.now in
    all_filled tests holds fails c.whole-whole.result c.fill_from.new.cells.items c.whole-whole.ensures
    (subst (λ (cs : List Cell). IsFilled tests holds fails c.whole-whole.result cs c.fill_from.new.cells.items) c.new-cells.ensures.items c.in_ok-fill_from.ensures)
