-- The pieces of a chart, joined.
use Rattle.std.proofs.Common.{◌≡◌, ◌≤◌, ◌<◌, ◌+◌, ◌&&◌, ◌||◌, ℕ, Bool, true, false, not, List, [], ◌∷◌, ◌++◌, Option, Some, None, length, get_or, take, refl, ap, sym, subst, ◌∙◌}
use Rattle.std.specs.Prelude.{MatchBool, MatchOption, if◌then◌else◌, is_none}
use Rattle.std.proofs.lemmas.List.{append_assoc, take_all}
use Rattle.std.proofs.lemmas.List.Elements.{All-append, All-head, All-more, All-tail, All-weaker}
use Rattle.policy_table.specs.declared.rules.Rule.{Rule}
use Rattle.regions.specs.Points.{HasCommand}
use Rattle.regions.specs.Questions.{HoldsOn}
use Rattle.regions.specs.Regions.{AreCut, LiesWithin, lies_in, meets}
use Rattle.regions.specs.declared.points.Point.{Point}
use Rattle.regions.specs.declared.regions.PointRegion.{PointRegion}
use Rattle.regions.specs.declared.sides.Side.{Side}
use Rattle.charts.specs.Alike.{alike_said, held}
use Rattle.charts.specs.Lines.{IsReportedRightly, has_point, have_same_words, is_left, is_reported, point_lines_of}
use Rattle.charts.specs.Pieces.{IsPiece, LieWithin}
use Rattle.charts.specs.declared.lines.ChartLine.{ChartLine}

-- ---- one line more lies within

pub one_within : (lines : List ChartLine) (place : ℕ) (d : ChartLine) (asked : PointRegion) → place < length lines → LiesWithin (get_or lines place d).region asked
    → LieWithin asked (take place lines) → LieWithin asked (take (place + 1) lines)
one_within lines place d asked there own known = All-more (λ (line : ChartLine). LiesWithin line.region asked) lines place d there known own

pub all_within : (lines : List ChartLine) (place : ℕ) (asked : PointRegion) → length lines ≤ place → LieWithin asked (take place lines) → LieWithin asked lines
all_within lines place asked end known = subst (λ (ls : List ChartLine). LieWithin asked ls) (take_all place lines end) known

-- ---- lines of which none has words with a point

abbrev NoneHas : List ChartLine → Point → Type 0
NoneHas [] p = Unit {0}
NoneHas (line ∷ lines) p = (lies_in line.region p ≡ false) × NoneHas lines p

apart : (t u : Bool) → (t ≡ true → u ≡ true) → u ≡ false → t ≡ false
apart true u f e = absurd (cc (f refl, e))
apart false u f e = refl

none_has : (asked : PointRegion) (lines : List ChartLine) (p : Point) → LieWithin asked lines → HasCommand p → lies_in asked p ≡ false → NoneHas lines p
none_has asked [] p within has out = tt
none_has asked (line ∷ lines) p within has out = (
  apart (lies_in line.region p) (lies_in asked p) (All-head (λ (l : ChartLine). LiesWithin l.region asked) line lines within p has) out,
  none_has asked lines p (All-tail (λ (l : ChartLine). LiesWithin l.region asked) line lines within) has out,
)

-- a point lies in none of them
none_lines : (before lines : List ChartLine) (p : Point) → NoneHas lines p → point_lines_of before lines p ≡ []
none_lines before [] p none = refl
none_lines before (line ∷ lines) p none =
    step (lies_in line.region p) (not line.rest || is_left before line p) (point_lines_of (before ++ line ∷ []) lines p) none.0 (none_lines (before ++ line ∷ []) lines p none.1)
  where
    step : (t r : Bool) (rest : List ChartLine) → t ≡ false → rest ≡ [] → (if t && r then line ∷ rest else rest) ≡ []
    step true r rest e f = absurd (cc)
    step false r rest e f = f

-- before others, such lines take nothing away
left_after : (front before : List ChartLine) (line : ChartLine) (p : Point) → NoneHas front p → is_left (front ++ before) line p ≡ is_left before line p
left_after [] before line p none = refl
left_after (other ∷ others) before line p none =
    one (have_same_words other.region line.region) (lies_in other.region p) (is_left (others ++ before) line p) none.0 ∙ left_after others before line p none.1
  where
    one : (s t u : Bool) → t ≡ false → (not (s && t) && u) ≡ u
    one true t u e = rw e refl
    one false t u e = refl

lines_after : (front before lines : List ChartLine) (p : Point) → NoneHas front p → point_lines_of (front ++ before) lines p ≡ point_lines_of before lines p
lines_after front before [] p none = refl
lines_after front before (line ∷ lines) p none =
    step (is_left (front ++ before) line p) (is_left before line p) (point_lines_of ((front ++ before) ++ line ∷ []) lines p) (point_lines_of (before ++ line ∷ []) lines p) (left_after front before line p none)
    (ap (λ (ls : List ChartLine). point_lines_of ls lines p) (append_assoc front before (line ∷ [])) ∙ lines_after front (before ++ line ∷ []) lines p none)
  where
    step : (l m : Bool) (rest others : List ChartLine) → l ≡ m → rest ≡ others
        → (if lies_in line.region p && (not line.rest || l) then line ∷ rest else rest) ≡ (if lies_in line.region p && (not line.rest || m) then line ∷ others else others)
    step l m rest others e f = rw (e, f) refl

-- the lines of a point of two lists
lines_joined : (before ones others : List ChartLine) (p : Point) → point_lines_of before (ones ++ others) p ≡ point_lines_of before ones p ++ point_lines_of (before ++ ones) others p
lines_joined before [] others p = ap (λ (ls : List ChartLine). point_lines_of ls others p) (sym (append_nil before))
  where
    append_nil : (xs : List ChartLine) → xs ++ [] ≡ xs
    append_nil [] = refl
    append_nil (x ∷ xs) = ap (λ (ls : List ChartLine). x ∷ ls) (append_nil xs)
lines_joined before (line ∷ ones) others p =
    step (has_point before line p) (point_lines_of (before ++ line ∷ []) (ones ++ others) p) (point_lines_of (before ++ line ∷ []) ones p) (point_lines_of (before ++ line ∷ ones) others p)
    (lines_joined (before ++ line ∷ []) ones others p ∙ ap (λ (ls : List ChartLine). point_lines_of (before ++ line ∷ []) ones p ++ point_lines_of ls others p) (append_assoc before (line ∷ []) ones))
  where
    step : (t : Bool) (whole own rest : List ChartLine) → whole ≡ own ++ rest → (if t then line ∷ whole else whole) ≡ (if t then line ∷ own else own) ++ rest
    step true whole own rest e = ap (λ (ls : List ChartLine). line ∷ ls) e
    step false whole own rest e = e

-- ---- what is reported of a point

reported_is_same : (reported is : Bool) (old new : List Rule) (lines others : List ChartLine) (p : Point) → reported ≡ is → point_lines_of [] others p ≡ point_lines_of [] lines p
    → IsReportedRightly reported old new lines p → IsReportedRightly is old new others p
reported_is_same true true old new lines others p e same h = record { line = h.line; alone = same ∙ h.alone; old_path = h.old_path; new_path = h.new_path }
reported_is_same false false old new lines others p e same h = same ∙ h
reported_is_same true false old new lines others p e same h = absurd (cc (e))
reported_is_same false true old new lines others p e same h = absurd (cc (e))

nothing_reported : (reported : Bool) (old new : List Rule) (lines : List ChartLine) (p : Point) → reported ≡ false → point_lines_of [] lines p ≡ [] → IsReportedRightly reported old new lines p
nothing_reported true old new lines p e none = absurd (cc (e))
nothing_reported false old new lines p e none = none

append_nil : (xs : List ChartLine) → xs ++ [] ≡ xs
append_nil [] = refl
append_nil (x ∷ xs) = ap (λ (ls : List ChartLine). x ∷ ls) (append_nil xs)

-- ---- one piece

pub piece_by : (o : Option Point) (asked : PointRegion) (all : Bool) (old new : List Rule) (lines : List ChartLine) (Q : Point → Type 0) → LieWithin asked lines
    → MatchOption o (HoldsOn (λ p. IsReportedRightly (is_reported asked all old new p) old new lines p) asked) Q → MatchBool (is_none o) (IsPiece asked all old new lines) (Unit {0})
piece_by None asked all old new lines Q within holds = record { within = within; chart = λ p has. by_lies p has (lies_in asked p) refl }
  where
    by_lies : (p : Point) → HasCommand p → (t : Bool) → lies_in asked p ≡ t → IsReportedRightly (is_reported asked all old new p) old new lines p
    by_lies p has true e = holds p has e
    by_lies p has false e =
        nothing_reported (is_reported asked all old new p) old new lines p (ap (λ (t : Bool). t && (all || not (alike_said (held p old) (held p new)))) e)
        (none_lines [] lines p (none_has asked lines p within has e))
piece_by (Some p) asked all old new lines Q within holds = tt

-- ---- two pieces

module _ (asked shape : PointRegion) (side : Side) (inside outside : PointRegion) (all : Bool) (old new : List Rule) (ones others : List ChartLine) (cut : AreCut asked shape side inside outside)
    (one : IsPiece inside all old new ones) (other : IsPiece outside all old new others) where
  both : (t u : Bool) → (t && u) ≡ true → t ≡ true
  both true u e = refl
  both false u e = absurd (cc)

  wider : (part : PointRegion) (test : Point → Bool) → ((p : Point) → HasCommand p → lies_in part p ≡ (lies_in asked p && test p)) → (lines : List ChartLine) → LieWithin part lines → LieWithin asked lines
  wider part test is lines within = All-weaker (λ (l : ChartLine). LiesWithin l.region part) (λ (l : ChartLine). LiesWithin l.region asked) (λ l h p has lies. both (lies_in asked p) (test p) (sym (is p has) ∙ h p has lies)) lines within

  reported_by : (p : Point) (t u : Bool) → t ≡ u → (t && (all || not (alike_said (held p old) (held p new)))) ≡ (u && (all || not (alike_said (held p old) (held p new))))
  reported_by p t u e = rw e refl

  -- a point of the first piece
  in_one : (p : Point) → HasCommand p → lies_in asked p ≡ true → meets side shape p ≡ true → IsReportedRightly (is_reported asked all old new p) old new (ones ++ others) p
  in_one p has lies met =
      let in_ : lies_in inside p ≡ true = cut.met p has ∙ rw (lies, met) refl in
      let out : lies_in outside p ≡ false = cut.unmet p has ∙ rw (lies, met) refl in
      let none : point_lines_of ones others p ≡ [] = none_lines ones others p (none_has outside others p other.within has out) in
      reported_is_same (is_reported inside all old new p) (is_reported asked all old new p) old new ones (ones ++ others) p (reported_by p (lies_in inside p) (lies_in asked p) (in_ ∙ sym lies))
      (lines_joined [] ones others p ∙ ap (λ (ls : List ChartLine). point_lines_of [] ones p ++ ls) none ∙ append_nil (point_lines_of [] ones p)) (one.chart p has)

  -- a point that is not of it
  in_other : (p : Point) → HasCommand p → lies_in inside p ≡ false → lies_in outside p ≡ lies_in asked p → IsReportedRightly (is_reported asked all old new p) old new (ones ++ others) p
  in_other p has out same =
      let none : NoneHas ones p = none_has inside ones p one.within has out in
      reported_is_same (is_reported outside all old new p) (is_reported asked all old new p) old new others (ones ++ others) p (reported_by p (lies_in outside p) (lies_in asked p) same)
      (lines_joined [] ones others p ∙ ap (λ (ls : List ChartLine). ls ++ point_lines_of ones others p) (none_lines [] ones p none)
      ∙ ap (λ (ls : List ChartLine). point_lines_of ls others p) (sym (append_nil ones)) ∙ lines_after ones [] others p none) (other.chart p has)

  by_side : (p : Point) → HasCommand p → (t u : Bool) → lies_in asked p ≡ t → meets side shape p ≡ u → IsReportedRightly (is_reported asked all old new p) old new (ones ++ others) p
  by_side p has true true lies met = in_one p has lies met
  by_side p has true false lies met = in_other p has (cut.met p has ∙ rw (lies, met) refl) (cut.unmet p has ∙ rw (lies, met) refl)
  by_side p has false u lies met = in_other p has (cut.met p has ∙ rw lies refl) (cut.unmet p has ∙ rw lies refl)

  pub joined : IsPiece asked all old new (ones ++ others)
  joined = record {
    within = All-append (λ (l : ChartLine). LiesWithin l.region asked) ones others
        (wider inside (λ p. meets side shape p) cut.met ones one.within) (wider outside (λ p. not (meets side shape p)) cut.unmet others other.within);
    chart = λ p has. by_side p has (lies_in asked p) (meets side shape p) refl refl;
  }

-- what is known of the rest of the lines on the way
pub record IsJoined (asked : PointRegion) (all : Bool) (old new : List Rule) (lines : List ChartLine) (rest : PointRegion) (following : List ChartLine) : Type 0 where
  pub few : length following ≤ length lines
  pub back : IsPiece rest all old new following → IsPiece asked all old new lines

-- if the answer of the rest is yes, it is the answer of all
pub rest_by : (t : Bool) (asked : PointRegion) (all : Bool) (old new : List Rule) (lines : List ChartLine) (rest : PointRegion) (following : List ChartLine) → IsJoined asked all old new lines rest following
    → MatchBool t (IsPiece rest all old new following) (Unit {0}) → MatchBool t (IsPiece asked all old new lines) (Unit {0})
rest_by true asked all old new lines rest following way h = way.back h
rest_by false asked all old new lines rest following way h = tt
