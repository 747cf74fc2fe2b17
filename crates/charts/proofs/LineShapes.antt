-- The tests of a chart, by number.
use Rattle.std.proofs.Common.{◌≡◌, ◌≤◌, ◌<◌, ◌+◌, ◌-◌, ℕ, zero, suc, Bool, List, [], ◌∷◌, ◌++◌, Option, Some, None, length, get_or, refl, ap, sym, subst, ◌∙◌, arith}
use Rattle.std.specs.Prelude.{MatchOption, map}
use Rattle.std.proofs.Math.Seq.{get_or-append_right}
use Rattle.std.proofs.lemmas.List.{get_or_append_left}
use Rattle.policy_table.specs.declared.rules.Rule.{Rule}
use Rattle.regions.specs.Questions.{IsShapeAt}
use Rattle.regions.specs.Regions.{lies_in}
use Rattle.regions.specs.declared.points.Point.{Point}
use Rattle.regions.specs.declared.regions.PointRegion.{PointRegion}
use Rattle.charts.specs.Points.{tests_of}
use Rattle.charts.specs.declared.lines.ChartLine.{ChartLine}
use Rattle.charts.proofs.RuleShapes.{length_tests}

length_joined : {A : Type 0} (xs ys : List A) → length (xs ++ ys) ≡ length xs + length ys
length_joined [] ys = omega arith
length_joined (x ∷ xs) ys = omega (arith, length_joined xs ys)

-- a test has the same number if more tests come after it
pub widened : (xs ys : List (Point → Bool)) (number : ℕ) (region : PointRegion) → IsShapeAt xs number region → IsShapeAt (xs ++ ys) number region
widened xs ys number region at = record {
  there = omega (arith, at.there, length_joined xs ys);
  same = λ d p has. at.same d p has ∙ ap (λ (f : Point → Bool). f p) (sym (get_or_append_left xs ys d number at.there));
}

abbrev line_tests : List ChartLine → List (Point → Bool)
line_tests lines = map (λ line. lies_in line.region) lines

length_line_tests : (lines : List ChartLine) → length (line_tests lines) ≡ length lines
length_line_tests [] = refl
length_line_tests (line ∷ lines) = ap suc (length_line_tests lines)

line_test_at : (lines : List ChartLine) (n : ℕ) (d : ChartLine) (t : Point → Bool) (p : Point) → n < length lines → get_or (line_tests lines) n t p ≡ lies_in (get_or lines n d).region p
line_test_at [] n d t p lt = absurd (omega arith)
line_test_at (line ∷ lines) zero d t p lt = refl
line_test_at (line ∷ lines) (suc n) d t p lt = line_test_at lines n d t p (omega arith)

-- a test before others has the number 0
pub first_shape : (region : PointRegion) (xs : List (Point → Bool)) (number : ℕ) → number ≡ 0 → IsShapeAt (lies_in region ∷ xs) number region
first_shape region xs zero e = record { there = omega arith; same = λ d p has. refl }
first_shape region xs (suc number) e = absurd (cc)

-- and each of the others one more
pub later_shape : (x : Point → Bool) (xs : List (Point → Bool)) (number : ℕ) (found : Option PointRegion) → 0 < number
    → MatchOption found (length xs ≤ number - 1) (IsShapeAt xs (number - 1)) → MatchOption found (length (x ∷ xs) ≤ number) (IsShapeAt (x ∷ xs) number)
later_shape x xs zero found lt is = absurd (omega (arith, lt))
later_shape x xs (suc number) None lt none = omega (arith, none)
later_shape x xs (suc number) (Some region) lt at =
    let following : suc number - 1 ≡ number = omega arith in
    let own : IsShapeAt xs number region = subst (λ (n : ℕ). IsShapeAt xs n region) following at in
    record { there = omega (arith, own.there); same = own.same }

-- the lines come after the rules of both tables
pub line_shape_at : (old new : List Rule) (lines : List ChartLine) (number : ℕ) (d : ChartLine) → length (old ++ new) ≤ number → number - length old - length new < length lines
    → IsShapeAt (tests_of (old ++ new) ++ map (λ line. lies_in line.region) lines) number (get_or lines (number - length old - length new) d).region
line_shape_at old new lines number d following lt =
    let rules : length (tests_of (old ++ new)) ≡ length old + length new = length_tests (old ++ new) ∙ length_joined old new in
    let place : number - length (tests_of (old ++ new)) ≡ number - length old - length new = omega (arith, rules) in
    record {
      there = omega (arith, following, lt, rules, length_joined old new, length_joined (tests_of (old ++ new)) (line_tests lines), length_line_tests lines);
      same = λ t p has.
          sym (
          ap (λ (f : Point → Bool). f p) (get_or-append_right (tests_of (old ++ new)) (line_tests lines) number t (omega (arith, following, rules, length_joined old new)))
          ∙ ap (λ (n : ℕ). get_or (line_tests lines) n t p) place
          ∙ line_test_at lines (number - length old - length new) d t p lt
          );
    }
