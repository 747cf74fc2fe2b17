-- One place more that is reported.
use Rattle.std.proofs.Common.{◌≡◌, inl, ◌<◌, ◌+◌, ℕ, suc, List, [], true, length, subst, take, arith, false}
use Rattle.std.specs.Prelude.{get_or}
use Rattle.charts.specs.Lines.{IsComparison, IsMap, has_point}
use Rattle.charts.specs.Plain.{LinesArePlain}
use Rattle.charts.specs.declared.lines.ChartLine.{ChartLine}
use Rattle.regions.specs.declared.regions.PointRegion.{PointRegion}
use Rattle.regions.specs.declared.points.Point.{Point}
use Rattle.chart_lines.specs.AskedTables.{AskedValue}
use Rattle.chart_lines.specs.Compared.{IsDifferenceAt, PrintsLine}
use Rattle.chart_lines.specs.Mapped.{PrintsLine as MapLine, map_line_text}
use Rattle.chart_lines.specs.Rows.{AddsRow, RowValue, RowContentValue}
use Rattle.chart_lines.specs.Reporting.{PrintsFirst}
use Rattle.chart_lines.specs.Witnesses.{IsLineWitness}

-- a point of the line of a place, by the line itself
own_point : (lines : List ChartLine) (place : ℕ) (line : ChartLine) (p : Point) → ((other : ChartLine) → get_or lines place other ≡ line) → IsLineWitness lines place p → has_point (take place lines) line p ≡ true
own_point lines place line p own witness = subst (λ (l : ChartLine). has_point (take place lines) l p ≡ true) (own line) (witness.lies line)

-- a place that was reported after those before
pub reports_more : {T : Type 0} (reports : ℕ → T → T → Type 0) (place : ℕ) (first before after : T) → PrintsFirst reports place first before
    → reports place before after → PrintsFirst reports (place + 1) first after
reports_more reports place first before after reported more =
    let next : suc place ≡ place + 1 = omega arith in
    subst (λ count. PrintsFirst reports count first after) next (before, reported, more)

-- the line of a place of a map, with a point of it
pub line_mapped : LinesArePlain → (asked : PointRegion) (ports : List ℕ) (at : AskedValue) (lines : List ChartLine) → IsMap asked at.rules lines → (place : ℕ) (line : ChartLine) (p : Point) (said : RowContentValue) (before after : List RowValue)
    → place < length lines → ((other : ChartLine) → get_or lines place other ≡ line) → IsLineWitness lines place p → said ≡ map_line_text at line p → AddsRow ports said before after → MapLine ports at lines place before after
line_mapped law asked ports at lines is place line p said before after there own witness same row =
    inl (record {
      line = line;
      own = own;
      point = p;
      witness = witness;
      plain = law asked true at.rules [] lines is place line there own p witness.command (own_point lines place line p own witness);
      row = subst (λ (t : RowContentValue). AddsRow ports t before after) same row;
    })

-- the line of a place of a comparison, with a point of it
pub line_compared : LinesArePlain → (asked : PointRegion) (ports : List ℕ) (old new : AskedValue) (lines : List ChartLine) → IsComparison asked old.rules new.rules lines → (place : ℕ) (line : ChartLine) (p : Point) (said : RowContentValue) (before after : List RowValue)
    → place < length lines → ((other : ChartLine) → get_or lines place other ≡ line) → IsLineWitness lines place p → IsDifferenceAt old new line p said
    → AddsRow ports said before after → PrintsLine ports old new lines place before after
line_compared law asked ports old new lines compared place line p said before after there own witness is row =
    inl (record {
      line = line;
      own = own;
      point = p;
      witness = witness;
      plain = law asked false old.rules new.rules lines compared place line there own p witness.command (own_point lines place line p own witness);
      said = said;
      is_difference = is;
      row = row;
    })
