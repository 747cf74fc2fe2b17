-- What a line leaves.
use Rattle.std.proofs.Common.{◌≡◌, ◌<◌, ◌+◌, ◌-◌, ◌&&◌, ◌||◌, ℕ, zero, suc, Bool, true, false, not, List, [], ◌∷◌, ◌++◌, length, get_or, take, Option, Some, None, refl, ap, sym, ◌∙◌, arith}
use Rattle.std.specs.Prelude.{All, MatchOption, map}
use Rattle.std.proofs.Math.Seq.{get_or-append_right}
use Rattle.std.proofs.lemmas.List.{get_or_append_left}
use Rattle.std.proofs.lemmas.List.Elements.{All-head, All-tail}
use Rattle.regions.specs.Points.{HasCommand}
use Rattle.regions.specs.Questions.{AreTestedAlike, HoldsOn, HoldsWhere, IsFound, IsSettledBy, IsShapeAt}
use Rattle.regions.specs.Regions.{IsBare, IsCommandIn, lies_in}
use Rattle.regions.specs.declared.points.Point.{Point}
use Rattle.regions.specs.declared.regions.PointRegion.{PointRegion}
use Rattle.charts.specs.Lines.{has_point, have_same_words, is_left}
use Rattle.charts.specs.Rests.{HasNoPointIn, IsPointIn, is_left_in, is_point_in, rest_tests}
use Rattle.charts.specs.declared.lines.ChartLine.{ChartLine}

-- ---- settled

takes_alike : (before : List ChartLine) (line : ChartLine) (region : PointRegion) (p q : Point) → All (AreTestedAlike p q) (rest_tests before line region) → is_left_in before line region p ≡ is_left_in before line region q
takes_alike before line region p q same = kept (lies_in region p) (lies_in region q) (is_left before line p) (is_left before line q) (last before same) (left before same)
  where
    kept : (t u a b : Bool) → t ≡ u → a ≡ b → (t && a) ≡ (u && b)
    kept t u a b e f = rw (e, f) refl

    one : (t u a b : Bool) → t ≡ u → a ≡ b → (not t && a) ≡ (not u && b)
    one t u a b e f = rw (e, f) refl

    last : (lines : List ChartLine) → All (AreTestedAlike p q) (rest_tests lines line region) → lies_in region p ≡ lies_in region q
    last [] h = All-head (AreTestedAlike p q) (lies_in region) [] h
    last (other ∷ others) h = last others (All-tail (AreTestedAlike p q) (λ r. have_same_words other.region line.region && lies_in other.region r) (rest_tests others line region) h)

    left : (lines : List ChartLine) → All (AreTestedAlike p q) (rest_tests lines line region) → is_left lines line p ≡ is_left lines line q
    left [] h = refl
    left (other ∷ others) h =
        one (have_same_words other.region line.region && lies_in other.region p) (have_same_words other.region line.region && lies_in other.region q) (is_left others line p) (is_left others line q)
        (All-head (AreTestedAlike p q) (λ r. have_same_words other.region line.region && lies_in other.region r) (rest_tests others line region) h)
        (left others (All-tail (AreTestedAlike p q) (λ r. have_same_words other.region line.region && lies_in other.region r) (rest_tests others line region) h))

pub rest_settled : (before : List ChartLine) (line : ChartLine) (region : PointRegion) → IsSettledBy (rest_tests before line region) (λ p. is_left_in before line region p ≡ false)
rest_settled before line region p q _ _ same none = takes_alike before line region p q same ∙ none

-- ---- shapes

abbrev taking : List ChartLine → ChartLine → List (Point → Bool)
taking before line = map (λ other p. have_same_words other.region line.region && lies_in other.region p) before

length_taking : (before : List ChartLine) (line : ChartLine) → length (taking before line) ≡ length before
length_taking [] line = refl
length_taking (other ∷ others) line = ap suc (length_taking others line)

length_joined : {A : Type 0} (xs ys : List A) → length (xs ++ ys) ≡ length xs + length ys
length_joined [] ys = omega arith
length_joined (x ∷ xs) ys = omega (arith, length_joined xs ys)

taking_at : (before : List ChartLine) (line : ChartLine) (n : ℕ) (d : ChartLine) (t : Point → Bool) (p : Point) → n < length before
    → get_or (taking before line) n t p ≡ (have_same_words (get_or before n d).region line.region && lies_in (get_or before n d).region p)
taking_at [] line n d t p lt = absurd (omega arith)
taking_at (other ∷ others) line zero d t p lt = refl
taking_at (other ∷ others) line (suc n) d t p lt = taking_at others line n d t p (omega arith)

pub taken_at : (before : List ChartLine) (line : ChartLine) (region : PointRegion) (n : ℕ) (d : ChartLine) (shape : PointRegion) → n < length before
    → ((p : Point) → lies_in shape p ≡ (have_same_words (get_or before n d).region line.region && lies_in (get_or before n d).region p)) → IsShapeAt (rest_tests before line region) n shape
taken_at before line region n d shape lt is = record {
  there = omega (arith, lt, length_joined (taking before line) (lies_in region ∷ []), length_taking before line);
  same = λ t p has. is p ∙ sym (taking_at before line n d t p lt) ∙ ap (λ (f : Point → Bool). f p) (sym (get_or_append_left (taking before line) (lies_in region ∷ []) t n (omega (arith, lt, length_taking before line))));
}

pub region_at : (before : List ChartLine) (line : ChartLine) (region : PointRegion) (n : ℕ) → n ≡ length before → IsShapeAt (rest_tests before line region) n region
region_at before line region n e = record {
  there = omega (arith, e, length_joined (taking before line) (lies_in region ∷ []), length_taking before line);
  same = λ t p has. sym (ap (λ (f : Point → Bool). f p) (get_or-append_right (taking before line) (lies_in region ∷ []) n t (omega (arith, e, length_taking before line)))
      ∙ ap (λ (k : ℕ). get_or (lies_in region ∷ []) k t p) (at_zero (n - length (taking before line)) (omega (arith, e, length_taking before line))));
}
  where
    at_zero : (k : ℕ) → k ≡ 0 → k ≡ 0
    at_zero k h = h

-- ---- the point of a line

grouped : (a r w : Bool) → ((a && r) && w) ≡ ((a && w) && r)
grouped true true true = refl
grouped true true false = refl
grouped true false true = refl
grouped true false false = refl
grouped false r w = refl

plain : (a w : Bool) → ((a && true) && w) ≡ (a && w)
plain true w = refl
plain false w = refl

has_rest : (before : List ChartLine) (line : ChartLine) (within both : PointRegion) (p : Point) → line.rest ≡ true → lies_in both p ≡ (lies_in line.region p && lies_in within p) → (has_point before line p && lies_in within p) ≡ is_left_in before line both p
has_rest before line within both p e is =
    ap (λ (r : Bool). (lies_in line.region p && (not r || is_left before line p)) && lies_in within p) e
    ∙ grouped (lies_in line.region p) (is_left before line p) (lies_in within p) ∙ ap (λ (t : Bool). t && is_left before line p) (sym is)

has_all : (before : List ChartLine) (line : ChartLine) (within both : PointRegion) (p : Point) → line.rest ≡ false → lies_in both p ≡ (lies_in line.region p && lies_in within p) → (has_point before line p && lies_in within p) ≡ lies_in both p
has_all before line within both p e is =
    ap (λ (r : Bool). (lies_in line.region p && (not r || is_left before line p)) && lies_in within p) e ∙ plain (lies_in line.region p) (lies_in within p) ∙ sym is

same_line : (lines : List ChartLine) (n : ℕ) (d e : ChartLine) → n < length lines → get_or lines n d ≡ get_or lines n e
same_line [] n d e lt = absurd (omega arith)
same_line (line ∷ lines) zero d e lt = refl
same_line (line ∷ lines) (suc n) d e lt = same_line lines n d e (omega arith)

module _ (lines : List ChartLine) (place : ℕ) (within both : PointRegion) (own : ChartLine) (there : place < length lines)
    (is : (p : Point) → HasCommand p → lies_in both p ≡ (lies_in (get_or lines place own).region p && lies_in within p)) where
  at : (d : ChartLine) (p : Point) → is_point_in lines place within d p ≡ (has_point (take place lines) (get_or lines place own) p && lies_in within p)
  at d p = ap (λ (line : ChartLine). has_point (take place lines) line p && lies_in within p) (same_line lines place d own there)

  -- a point of a line that does not have the rest
  pub plain_point : (o : Option Point) → (get_or lines place own).rest ≡ false → MatchOption o (IsBare both) (IsCommandIn both) → MatchOption o (HasNoPointIn lines place within) (IsPointIn lines place within)
  plain_point None e bare = λ d p has. at d p ∙ has_all (take place lines) (get_or lines place own) within both p e (is p has) ∙ bare p has
  plain_point (Some p) e in_ = record { command = in_.0; lies = λ d. at d p ∙ has_all (take place lines) (get_or lines place own) within both p e (is p in_.0) ∙ in_.1 }

  -- a point of one that has it
  pub rest_point : (o : Option Point) → (get_or lines place own).rest ≡ true
      → MatchOption o (HoldsOn (λ p. is_left_in (take place lines) (get_or lines place own) both p ≡ false) both) (IsFound (λ p. is_left_in (take place lines) (get_or lines place own) both p ≡ true))
      → MatchOption o (HasNoPointIn lines place within) (IsPointIn lines place within)
  rest_point None e none = λ d p has. at d p ∙ has_rest (take place lines) (get_or lines place own) within both p e (is p has) ∙ by_lies p has (lies_in both p) refl
    where
      by_lies : (p : Point) → HasCommand p → (t : Bool) → lies_in both p ≡ t → is_left_in (take place lines) (get_or lines place own) both p ≡ false
      by_lies p has true f = none p has f
      by_lies p has false f = ap (λ (t : Bool). t && is_left (take place lines) (get_or lines place own) p) f
  rest_point (Some p) e found = record { command = found.command; lies = λ d. at d p ∙ has_rest (take place lines) (get_or lines place own) within both p e (is p found.command) ∙ found.answer }

-- ---- a point that a line before has is not left

no_more : (t : Bool) → (t && false) ≡ false
no_more true = refl
no_more false = refl

taken_gone : (before : List ChartLine) (line : ChartLine) (n : ℕ) (d : ChartLine) (p : Point) → n < length before
    → (have_same_words (get_or before n d).region line.region && lies_in (get_or before n d).region p) ≡ true → is_left before line p ≡ false
taken_gone [] line n d p there takes = absurd (omega arith)
taken_gone (other ∷ others) line zero d p there takes = ap (λ (t : Bool). not t && is_left others line p) takes
taken_gone (other ∷ others) line (suc n) d p there takes =
    ap (λ (t : Bool). not (have_same_words other.region line.region && lies_in other.region p) && t) (taken_gone others line n d p (omega arith) takes)
    ∙ no_more (not (have_same_words other.region line.region && lies_in other.region p))

first_line : (before : List ChartLine) (n : ℕ) → n < length before → ChartLine
first_line [] n there = absurd (omega arith)
first_line (line ∷ lines) n there = line

pub rest_passed : (before : List ChartLine) (line : ChartLine) (region : PointRegion) (n : ℕ) → n < length before → HoldsWhere (rest_tests before line region) (λ p. is_left_in before line region p ≡ false) n
rest_passed before line region n there t p has within passes =
    let d = first_line before n there in
    let at = ap (λ (f : Point → Bool). f p) (get_or_append_left (taking before line) (lies_in region ∷ []) t n (omega (arith, there, length_taking before line))) in
    ap (λ (b : Bool). lies_in region p && b) (taken_gone before line n d p there (sym (taking_at before line n d t p there) ∙ sym at ∙ passes))
    ∙ no_more (lies_in region p)
