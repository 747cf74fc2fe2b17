-- A line for each cell of a search.
use Rattle.std.proofs.Common.{◌≡◌, inl, inr, ◌&&◌, ◌||◌, Bool, true, false, List, [], ◌∷◌, ◌++◌, refl, ap, sym, subst, ◌∙◌}
use Rattle.std.specs.Prelude.{map, if◌then◌else◌}
use Rattle.policy_table.specs.declared.rules.Rule.{Rule}
use Rattle.regions.specs.Cells.{AreCellsOf, IsFiledAt, cells_at}
use Rattle.std.proofs.lemmas.List.Elements.{All-tail}
use Rattle.regions.specs.Questions.{AreTestedAlike, IsSettledBy}
use Rattle.regions.specs.Regions.{lies_in}
use Rattle.regions.specs.declared.cutting.Cell.{Cell}
use Rattle.regions.specs.declared.points.Point.{Point}
use Rattle.regions.specs.declared.regions.PointRegion.{PointRegion}
use Rattle.charts.specs.Lines.{IsChart, IsReportedRightly, is_left, is_reported, line_of, point_lines_of, reported_tests}
use Rattle.charts.specs.Points.{tests_of}
use Rattle.charts.specs.declared.lines.ChartLine.{ChartLine}
use Rattle.charts.proofs.RuleShapes.{first_of_both, second_of_both}
use Rattle.charts.proofs.Reporting.{path_same, reported_alike}

lines_at : (before : List ChartLine) (cells : List Cell) (p : Point) → point_lines_of before (map line_of cells) p ≡ map line_of (cells_at cells p)
lines_at before [] p = refl
lines_at before (cell ∷ cells) p =
    kept (lies_in cell.region p) (is_left before (line_of cell) p) (point_lines_of (before ++ line_of cell ∷ []) (map line_of cells) p) (cells_at cells p) (lines_at (before ++ line_of cell ∷ []) cells p)
  where
    kept : (t left : Bool) (rest : List ChartLine) (found : List Cell) → rest ≡ map line_of found
        → (if t && (true || left) then line_of cell ∷ rest else rest) ≡ map line_of (if t then cell ∷ found else found)
    kept true left rest found e = ap (λ (ls : List ChartLine). line_of cell ∷ ls) e
    kept false left rest found e = e

-- the rules settle what is reported
pub unreported_settled : (asked : PointRegion) (all : Bool) (old new : List Rule) → IsSettledBy (reported_tests asked old new) (λ p. is_reported asked all old new p ≡ false)
unreported_settled asked all old new p q _ _ same unreported = sym (reported_alike asked all old new p q same) ∙ unreported

-- the lines of the reported cells are a chart
pub chart_of : (asked : PointRegion) (all : Bool) (old new : List Rule) (cells : List Cell)
    → AreCellsOf (reported_tests asked old new) (λ p. is_reported asked all old new p ≡ false) (λ p. is_reported asked all old new p ≡ true) cells → IsChart asked all old new (map line_of cells)
chart_of asked all old new cells are p has = by_cells (are p has)
  where
    by_cells : IsFiledAt (reported_tests asked old new) (λ r. is_reported asked all old new r ≡ false) (λ r. is_reported asked all old new r ≡ true) [] cells p → IsReportedRightly (is_reported asked all old new p) old new (map line_of cells) p
    by_cells (inl h) =
        let rules = All-tail (AreTestedAlike p h.cell.point) (lies_in asked) (tests_of (old ++ new)) h.same in
        let olds = first_of_both old new p h.cell.point rules in
        let news = second_of_both old new p h.cell.point rules in
        subst (λ (t : Bool). IsReportedRightly t old new (map line_of cells) p) (sym (sym (reported_alike asked all old new p h.cell.point h.same) ∙ h.answer))
        (record {
          line = line_of h.cell;
          alone = lines_at [] cells p ∙ ap (λ (cs : List Cell). map line_of cs) h.alone;
          old_path = path_same 1 old p h.cell.point olds;
          new_path = path_same 1 new p h.cell.point news;
        })
    by_cells (inr h) =
        subst (λ (t : Bool). IsReportedRightly t old new (map line_of cells) p) (sym h.1) (lines_at [] cells p ∙ ap (λ (cs : List Cell). map line_of cs) h.0)
