-- Why a point is not reported rightly.
use Rattle.std.proofs.Common.{◌≡◌, Bool, true, false, not, List, [], ◌∷◌, length, get_or, ap, sym, arith, ◌∙◌}
use Rattle.std.specs.Prelude.{MatchBool}
use Rattle.policy_table.specs.declared.rules.Rule.{Rule}
use Rattle.regions.specs.declared.points.Point.{Point}
use Rattle.charts.specs.Lines.{IsReportedRightly, IsReportedWrongly, decision_path, point_lines_of}
use Rattle.charts.specs.declared.lines.ChartLine.{ChartLine}

many : (a b : List ChartLine) → a ≡ b → length a ≡ length b
many a b e = ap (λ (ls : List ChartLine). length ls) e

-- it lies in no line
pub none_answered : (reported : Bool) (old new : List Rule) (lines : List ChartLine) (p : Point) → point_lines_of [] lines p ≡ []
    → MatchBool (not reported) (IsReportedRightly reported old new lines p) (IsReportedWrongly reported old new lines p)
none_answered true old new lines p none = λ right.
    let count = many (right.line ∷ []) [] (sym right.alone ∙ none) in
    omega (arith, count)
none_answered false old new lines p none = none

-- it lies in a line, and is none to report
pub one_wrong : (reported : Bool) (old new : List Rule) (lines : List ChartLine) (p : Point) (line : ChartLine) (rest : List ChartLine) → reported ≡ false → point_lines_of [] lines p ≡ line ∷ rest
    → IsReportedWrongly reported old new lines p
one_wrong true old new lines p line rest e one = absurd (cc)
one_wrong false old new lines p line rest e one = λ right.
    let count = many [] (line ∷ rest) (sym right ∙ one) in
    omega (arith, count)

-- it lies in two lines
pub two_wrong : (reported : Bool) (old new : List Rule) (lines : List ChartLine) (p : Point) (line other : ChartLine) (rest more : List ChartLine) → point_lines_of [] lines p ≡ line ∷ rest
    → rest ≡ other ∷ more
    → IsReportedWrongly reported old new lines p
two_wrong true old new lines p line other rest more one two = λ right.
    let count = many (right.line ∷ []) (line ∷ rest) (sym right.alone ∙ one) in
    let later = many rest (other ∷ more) two in
    omega (arith, count, later)
two_wrong false old new lines p line other rest more one two = λ right.
    let count = many [] (line ∷ rest) (sym right ∙ one) in
    omega (arith, count)

-- a table has another course at the point of its line
pub path_wrong : (old new : List Rule) (lines : List ChartLine) (p : Point) (line : ChartLine) (rest : List ChartLine) → point_lines_of [] lines p ≡ line ∷ rest
    → (decision_path old p ≡ decision_path old line.point → decision_path new p ≡ decision_path new line.point → ⊥)
    → IsReportedWrongly true old new lines p
path_wrong old new lines p line rest one differ = λ right.
    let own : right.line ≡ line = ap (λ (ls : List ChartLine). get_or ls 0 line) (sym right.alone ∙ one) in
    differ (right.old_path ∙ ap (λ (l : ChartLine). decision_path old l.point) own) (right.new_path ∙ ap (λ (l : ChartLine). decision_path new l.point) own)
