use Rattle.std.proofs.Common.{◌-◌, List, subst}
use Rattle.std.specs.Prelude.{MatchOption}
use Rattle.charts.specs.Rests.{HasNoPointIn, IsPointIn}
use Rattle.charts.specs.declared.lines.ChartLine.{ChartLine}
use Rattle.chart_lines.proofs.After.{point_after}
use Rattle.chart_lines.proofs.witnesses.point_of.Goals as goal

pub returns : goal.returns
returns c =
    let lines = c.args.lines.now in
    let place = c.args.place in
    let within = c.args.within.now in
    let start = c.first_like-start.result in
    point_after lines start place within c.point_in-2.result c.first_like-start.ensures.few c.requires c.first_like-start.ensures.others
    (subst (λ (following : List ChartLine). MatchOption c.point_in-2.result (HasNoPointIn following (place - start) within) (IsPointIn following (place - start) within)) c.split_at.ensures.back c.point_in-2.ensures)
