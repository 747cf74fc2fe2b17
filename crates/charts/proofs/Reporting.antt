-- The lines in which a point lies.
use Rattle.std.proofs.Common.{◌≡◌, ◌<◌, ◌+◌, ◌&&◌, ◌||◌, ℕ, suc, Bool, true, false, not, List, [], ◌∷◌, ◌++◌, length, get_or, take, drop, drop-cons, add-one, refl, ap, sym, subst, ◌∙◌}
use Rattle.std.specs.Prelude.{All, map, if◌then◌else◌}
use Rattle.std.proofs.Math.Seq.{take-suc}
use Rattle.std.proofs.lemmas.List.Elements.{All-append, All-cons, All-head, All-nil, All-tail}
use Rattle.policy_table.specs.declared.rules.Rule.{Rule}
use Rattle.regions.specs.Questions.{AreTestedAlike, IsSettledBy}
use Rattle.regions.specs.Regions.{lies_in}
use Rattle.regions.specs.declared.points.Point.{Point}
use Rattle.regions.specs.declared.regions.PointRegion.{PointRegion}
use Rattle.charts.specs.Alike.{alike_said, held}
use Rattle.charts.specs.Lines.{IsReportedRightly, decision_path, path_from, goes_on, has_point, have_same_words, is_left, is_reported, point_lines_of, tests_with, reported_tests}
use Rattle.charts.specs.Points.{holds_at, tests_of}
use Rattle.charts.specs.declared.lines.ChartLine.{ChartLine}
use Rattle.charts.proofs.Sameness.{HoldsAlike}
use Rattle.charts.proofs.RuleShapes.{first_of_both, second_of_both}

-- ---- one line after another

by_test : (t u : Bool) (line : ChartLine) (rest : List ChartLine) → t ≡ u → (if t then line ∷ rest else rest) ≡ (if u then line ∷ rest else rest)
by_test t u line rest e = ap (λ (b : Bool). if b then line ∷ rest else rest) e

unrolled : (lines : List ChartLine) (p : Point) (n : ℕ) (d : ChartLine) → n < length lines
    → point_lines_of (take n lines) (drop n lines) p
    ≡ (if has_point (take n lines) (get_or lines n d) p then get_or lines n d ∷ point_lines_of (take (n + 1) lines) (drop (n + 1) lines) p else point_lines_of (take (n + 1) lines) (drop (n + 1) lines) p)
unrolled lines p n d lt =
    ap (λ (ls : List ChartLine). point_lines_of (take n lines) ls p) (drop-cons lines n d lt)
    ∙ ap (λ (ls : List ChartLine). if has_point (take n lines) (get_or lines n d) p then get_or lines n d ∷ point_lines_of ls (drop (suc n) lines) p else point_lines_of ls (drop (suc n) lines) p) (sym (take-suc lines n d lt))
    ∙ ap (λ (k : ℕ). if has_point (take n lines) (get_or lines n d) p then get_or lines n d ∷ point_lines_of (take k lines) (drop k lines) p else point_lines_of (take k lines) (drop k lines) p) (sym (add-one n))

pub line_after : (lines : List ChartLine) (p : Point) (n : ℕ) (d : ChartLine) → n < length lines → has_point (take n lines) (get_or lines n d) p ≡ false
    → point_lines_of (take n lines) (drop n lines) p ≡ point_lines_of (take (n + 1) lines) (drop (n + 1) lines) p
line_after lines p n d lt none =
    unrolled lines p n d lt ∙ by_test (has_point (take n lines) (get_or lines n d) p) false (get_or lines n d) (point_lines_of (take (n + 1) lines) (drop (n + 1) lines) p) none

pub line_here : (lines : List ChartLine) (p : Point) (n : ℕ) (d : ChartLine) → n < length lines → has_point (take n lines) (get_or lines n d) p ≡ true
    → point_lines_of (take n lines) (drop n lines) p ≡ get_or lines n d ∷ point_lines_of (take (n + 1) lines) (drop (n + 1) lines) p
line_here lines p n d lt one =
    unrolled lines p n d lt ∙ by_test (has_point (take n lines) (get_or lines n d) p) true (get_or lines n d) (point_lines_of (take (n + 1) lines) (drop (n + 1) lines) p) one

-- ---- two points alike

-- a line's region has both points or neither
abbrev pub LieAlike : (p q : Point) → ChartLine → Type 0
LieAlike p q line = lies_in line.region p ≡ lies_in line.region q

held_same : (rules : List Rule) (p q : Point) → All (HoldsAlike p q) rules → held p rules ≡ held q rules
held_same [] p q same = refl
held_same (rule ∷ rules) p q same =
    kept (holds_at rule p) (holds_at rule q) (held p rules) (held q rules) (All-head (HoldsAlike p q) rule rules same) (held_same rules p q (All-tail (HoldsAlike p q) rule rules same))
  where
    kept : (t u : Bool) (a b : List Rule) → t ≡ u → a ≡ b → (if t then rule ∷ a else a) ≡ (if u then rule ∷ b else b)
    kept t u a b e f = rw (e, f) refl

pub path_same : (n : ℕ) (rules : List Rule) (p q : Point) → All (HoldsAlike p q) rules → path_from n rules p ≡ path_from n rules q
path_same n [] p q same = refl
path_same n (rule ∷ rules) p q same =
    kept (holds_at rule p) (holds_at rule q) (path_from (suc n) rules p) (path_from (suc n) rules q) (All-head (HoldsAlike p q) rule rules same) (path_same (suc n) rules p q (All-tail (HoldsAlike p q) rule rules same))
  where
    kept : (t u : Bool) (a b : List ℕ) → t ≡ u → a ≡ b → (if t then n ∷ goes_on rule.quota a else a) ≡ (if u then n ∷ goes_on rule.quota b else b)
    kept t u a b e f = rw (e, f) refl

left_same : (before : List ChartLine) (line : ChartLine) (p q : Point) → All (LieAlike p q) before → is_left before line p ≡ is_left before line q
left_same [] line p q same = refl
left_same (other ∷ others) line p q same =
    kept (have_same_words other.region line.region) (lies_in other.region p) (lies_in other.region q) (is_left others line p) (is_left others line q)
    (All-head (LieAlike p q) other others same) (left_same others line p q (All-tail (LieAlike p q) other others same))
  where
    kept : (w t u a b : Bool) → t ≡ u → a ≡ b → (not (w && t) && a) ≡ (not (w && u) && b)
    kept w t u a b e f = rw (e, f) refl

point_same : (before : List ChartLine) (line : ChartLine) (p q : Point) → All (LieAlike p q) before → LieAlike p q line → has_point before line p ≡ has_point before line q
point_same before line p q same one = kept (lies_in line.region p) (lies_in line.region q) (not line.rest) (is_left before line p) (is_left before line q) one (left_same before line p q same)
  where
    kept : (t u r a b : Bool) → t ≡ u → a ≡ b → (t && (r || a)) ≡ (u && (r || b))
    kept t u r a b e f = rw (e, f) refl

lines_same : (before lines : List ChartLine) (p q : Point) → All (LieAlike p q) before → All (LieAlike p q) lines → point_lines_of before lines p ≡ point_lines_of before lines q
lines_same before [] p q olds same = refl
lines_same before (line ∷ lines) p q olds same =
    let one : LieAlike p q line = All-head (LieAlike p q) line lines same in
    kept (has_point before line p) (has_point before line q) (point_lines_of (before ++ line ∷ []) lines p) (point_lines_of (before ++ line ∷ []) lines q) (point_same before line p q olds one)
    (lines_same (before ++ line ∷ []) lines p q (All-append (LieAlike p q) before (line ∷ []) olds (All-cons (LieAlike p q) line [] one (All-nil (LieAlike p q)))) (All-tail (LieAlike p q) line lines same))
  where
    kept : (t u : Bool) (a b : List ChartLine) → t ≡ u → a ≡ b → (if t then line ∷ a else a) ≡ (if u then line ∷ b else b)
    kept t u a b e f = rw (e, f) refl

-- ---- the tests of a chart

tests_before : (xs ys : List (Point → Bool)) (p q : Point) → All (AreTestedAlike p q) (xs ++ ys) → All (AreTestedAlike p q) xs
tests_before [] ys p q same = All-nil (AreTestedAlike p q)
tests_before (x ∷ xs) ys p q same =
    All-cons (AreTestedAlike p q) x xs (All-head (AreTestedAlike p q) x (xs ++ ys) same) (tests_before xs ys p q (All-tail (AreTestedAlike p q) x (xs ++ ys) same))

tests_after : (xs ys : List (Point → Bool)) (p q : Point) → All (AreTestedAlike p q) (xs ++ ys) → All (AreTestedAlike p q) ys
tests_after [] ys p q same = same
tests_after (x ∷ xs) ys p q same = tests_after xs ys p q (All-tail (AreTestedAlike p q) x (xs ++ ys) same)

lie_alike : (lines : List ChartLine) (p q : Point) → All (AreTestedAlike p q) (map (λ line. lies_in line.region) lines) → All (LieAlike p q) lines
lie_alike [] p q same = All-nil (LieAlike p q)
lie_alike (line ∷ lines) p q same =
    All-cons (LieAlike p q) line lines (All-head (AreTestedAlike p q) (lies_in line.region) (map (λ line. lies_in line.region) lines) same)
    (lie_alike lines p q (All-tail (AreTestedAlike p q) (lies_in line.region) (map (λ line. lies_in line.region) lines) same))

-- a point is reported just if another is at which the rules hold alike
pub reported_alike : (asked : PointRegion) (all : Bool) (old new : List Rule) (p q : Point) → All (AreTestedAlike p q) (reported_tests asked old new) → is_reported asked all old new q ≡ is_reported asked all old new p
reported_alike asked all old new p q same =
    let rules = All-tail (AreTestedAlike p q) (lies_in asked) (tests_of (old ++ new)) same in
    ap (λ (t : Bool). t && (all || not (alike_said (held q old) (held q new)))) (sym (All-head (AreTestedAlike p q) (lies_in asked) (tests_of (old ++ new)) same))
    ∙ ap (λ (os : List Rule). lies_in asked p && (all || not (alike_said os (held q new)))) (sym (held_same old p q (first_of_both old new p q rules)))
    ∙ ap (λ (ns : List Rule). lies_in asked p && (all || not (alike_said (held p old) ns))) (sym (held_same new p q (second_of_both old new p q rules)))

pub reported_settled : (asked : PointRegion) (all : Bool) (old new : List Rule) (lines : List ChartLine) → IsSettledBy (tests_with asked old new lines) (λ p. IsReportedRightly (is_reported asked all old new p) old new lines p)
reported_settled asked all old new lines p q _ _ same right =
    let first : All (AreTestedAlike p q) (reported_tests asked old new) = tests_before (reported_tests asked old new) (map (λ line. lies_in line.region) lines) p q same in
    let rules : All (AreTestedAlike p q) (tests_of (old ++ new)) = All-tail (AreTestedAlike p q) (lies_in asked) (tests_of (old ++ new)) first in
    let olds : All (HoldsAlike p q) old = first_of_both old new p q rules in
    let news : All (HoldsAlike p q) new = second_of_both old new p q rules in
    let there : point_lines_of [] lines p ≡ point_lines_of [] lines q =
    lines_same [] lines p q (All-nil (LieAlike p q)) (lie_alike lines p q (tests_after (reported_tests asked old new) (map (λ line. lies_in line.region) lines) p q same)) in
    let reported : is_reported asked all old new q ≡ is_reported asked all old new p = reported_alike asked all old new p q first in
    turned (is_reported asked all old new p) (path_same 1 old p q olds) (path_same 1 new p q news) there (subst (λ (t : Bool). IsReportedRightly t old new lines q) reported right)
  where
    turned : (t : Bool) → decision_path old p ≡ decision_path old q → decision_path new p ≡ decision_path new q → point_lines_of [] lines p ≡ point_lines_of [] lines q → IsReportedRightly t old new lines q → IsReportedRightly t old new lines p
    turned true o n e h = record { line = h.line; alone = e ∙ h.alone; old_path = o ∙ h.old_path; new_path = n ∙ h.new_path }
    turned false o n e h = e ∙ h
