-- The lines of a chart: which points each has, and that each point is reported once.
use Rattle.std.specs.Prelude.{◌≡◌, ◌≤◌, ◌&&◌, ◌||◌, ◌++◌, ℕ, suc, Bool, true, false, not, if◌then◌else◌, List, [], ◌∷◌, Option, Some, None, drop, length, map, take}
use Rattle.policy_table.specs.declared.rules.Quota.{Quota}
use Rattle.policy_table.specs.declared.rules.Rule.{Rule}
use Rattle.regions.specs.ByteSets.{are_same_bytes}
use Rattle.regions.specs.Questions.{HoldsAll}
use Rattle.regions.specs.Regions.{are_same_kinds, lies_in}
use Rattle.regions.specs.declared.cutting.Cell.{Cell}
use Rattle.regions.specs.declared.points.Point.{Point}
use Rattle.regions.specs.declared.regions.PointRegion.{PointRegion}
use Rattle.charts.specs.Alike.{alike_said, held}
use Rattle.charts.specs.Points.{holds_at, tests_of}
use Rattle.charts.specs.declared.lines.ChartLine.{ChartLine}
use Rattle.charts.specs.declared.lines.NextLine.{NextLine}

-- ---- courses

-- after a rule without quota nothing is asked
abbrev pub goes_on : Option Quota → List ℕ → List ℕ
goes_on None rest = []
goes_on (Some quota) rest = rest

-- the numbers of the rules that hold at a point, up to the first without quota
abbrev pub path_from : (number : ℕ) → List Rule → Point → List ℕ
path_from number [] p = []
path_from number (rule ∷ rules) p =
    if holds_at rule p
    then number ∷ goes_on rule.quota (path_from (suc number) rules p)
    else path_from (suc number) rules p

-- the same, counted from 1
abbrev pub decision_path : List Rule → Point → List ℕ
decision_path rules p = path_from 1 rules p

-- ---- the points of a line

-- whether two regions have the same words except those of addresses
abbrev pub have_same_words : (one other : PointRegion) → Bool
have_same_words one other =
    are_same_kinds one.kinds other.kinds && (are_same_bytes one.keys other.keys
    && (are_same_bytes one.initiators other.initiators && are_same_bytes one.extended other.extended))

-- whether a point lies in none of the regions of the lines with the same words
abbrev pub is_left : List ChartLine → ChartLine → Point → Bool
is_left [] line p = true
is_left (other ∷ others) line p =
    not (have_same_words other.region line.region && lies_in other.region p) && is_left others line p

-- whether a line has a point: one of its region, and, if it has the rest, one that the lines before leave
abbrev pub has_point : (before : List ChartLine) → ChartLine → Point → Bool
has_point before line p = lies_in line.region p && (not line.rest || is_left before line p)

-- the lines in which a point lies, after those before
abbrev pub point_lines_of : (before lines : List ChartLine) → Point → List ChartLine
point_lines_of before [] p = []
point_lines_of before (line ∷ lines) p =
    if has_point before line p
    then line ∷ point_lines_of (before ++ line ∷ []) lines p
    else point_lines_of (before ++ line ∷ []) lines p

-- the first line after this many in which a point lies, and how many lines there are up to it, itself counted
pub record IsNextLine (lines : List ChartLine) (from : ℕ) (p : Point) (next : NextLine) : Type 0 where
  pub counted : next.following ≤ length lines
  pub found : point_lines_of (take from lines) (drop from lines) p ≡ next.line ∷ point_lines_of (take next.following lines) (drop next.following lines) p

-- ---- charts

-- the point lies in only one line, and the tables ask the same rules there as at the point of the line
pub record IsReportedOnce (old new : List Rule) (lines : List ChartLine) (p : Point) : Type 0 where
  pub line : ChartLine
  pub alone : point_lines_of [] lines p ≡ line ∷ []
  pub old_path : decision_path old p ≡ decision_path old line.point
  pub new_path : decision_path new p ≡ decision_path new line.point

-- if a point is reported, it lies in only one line, and else in none
abbrev pub IsReportedRightly : (reported : Bool) → (old new : List Rule) → List ChartLine → Point → Type 0
IsReportedRightly true old new lines p = IsReportedOnce old new lines p
IsReportedRightly false old new lines p = point_lines_of [] lines p ≡ []

-- a point is not reported rightly
abbrev pub IsReportedWrongly : (reported : Bool) → (old new : List Rule) → List ChartLine → Point → Type 0
IsReportedWrongly reported old new lines p = ¬ (IsReportedRightly reported old new lines p)

-- whether a point is reported, if the points of a region are asked: each of them, or those at which two tables decide
-- differently
abbrev pub is_reported : (asked : PointRegion) → (all : Bool) → (old new : List Rule) → Point → Bool
is_reported asked all old new p = lies_in asked p && (all || not (alike_said (held p old) (held p new)))

-- each point that a command has is reported rightly
abbrev pub IsChart : (asked : PointRegion) → (all : Bool) → (old new : List Rule) → List ChartLine → Type 0
IsChart asked all old new lines = HoldsAll (λ p. IsReportedRightly (is_reported asked all old new p) old new lines p)

-- each point of the region that a command has lies in only one line, with the course of the table there. Each other
-- point lies in none
abbrev pub IsMap : (asked : PointRegion) → List Rule → List ChartLine → Type 0
IsMap asked rules lines = IsChart asked true rules [] lines

-- a point of the region that a command has, at which two tables decide differently, lies in only one line, with both
-- courses there. Each other point lies in none
abbrev pub IsComparison : (asked : PointRegion) → (old new : List Rule) → List ChartLine → Type 0
IsComparison asked old new lines = IsChart asked false old new lines

-- the tests that settle whether a point is reported
abbrev pub reported_tests : (asked : PointRegion) → (old new : List Rule) → List (Point → Bool)
reported_tests asked old new = lies_in asked ∷ tests_of (old ++ new)

-- and those that settle whether it is reported rightly
abbrev pub tests_with : (asked : PointRegion) → (old new : List Rule) → List ChartLine → List (Point → Bool)
tests_with asked old new lines = reported_tests asked old new ++ map (λ line. lies_in line.region) lines

-- the line of a cell
abbrev pub line_of : Cell → ChartLine
line_of cell = record { region = cell.region; rest = false; point = cell.point }
