-- The lines of a chart, as they are read.
use Rattle.std.proofs.Common.{◌≡◌, ◌≤◌, ◌<◌, ◌+◌, ◌^◌, ◌&&◌, ◌||◌, ℕ, zero, suc, Bool, true, false, not, List, [], ◌∷◌, ◌++◌, Option, Some, None, length, get_or, take, drop, add-one, refl, ap, sym, subst, ◌∙◌, arith}
use Rattle.std.specs.Prelude.{if◌then◌else◌, nat_le, nat_lt}
use Rattle.std.proofs.lemmas.Bool.Decides.{nat_tests}
use Rattle.std.proofs.lemmas.List.{append_assoc}
use Rattle.policy_table.specs.declared.rules.Rule.{Rule}
use Rattle.regions.specs.Points.{HasCommand}
use Rattle.regions.specs.Regions.{lies_in, meets, meets_last}
use Rattle.regions.specs.declared.points.Point.{Point}
use Rattle.regions.specs.declared.regions.PointRegion.{PointRegion}
use Rattle.regions.specs.declared.sides.Side.TheVariants as side
use Rattle.regions.specs.declared.stretches.Stretch.{Stretch}
use Rattle.charts.specs.Lines.{IsChart, IsReportedOnce, IsReportedRightly, has_point, have_same_words, is_left, is_reported, point_lines_of}
use Rattle.charts.specs.Plain.{ChartsAreRead, HasAddress, LinesArePlain, first_with}
use Rattle.charts.specs.declared.lines.ChartLine.{ChartLine}
use Rattle.charts.proofs.Reporting.{line_after, line_here}

first_of_both : (s t : Bool) → (s && t) ≡ true → s ≡ true
first_of_both true t e = refl
first_of_both false t e = absurd (cc)

second_of_both : (s t : Bool) → (s && t) ≡ true → t ≡ true
second_of_both true t e = e
second_of_both false t e = absurd (cc)

-- ---- the first line whose words have a point

abbrev first_of : List ChartLine → Option ChartLine
first_of [] = None
first_of (line ∷ lines) = Some line

-- no line has words with the point
abbrev NoneHas : List ChartLine → Point → Type 0
NoneHas [] p = Unit {0}
NoneHas (line ∷ lines) p = (lies_in line.region p ≡ false) × NoneHas lines p

left_by_none : (before : List ChartLine) (line : ChartLine) (p : Point) → NoneHas before p → is_left before line p ≡ true
left_by_none [] line p none = refl
left_by_none (other ∷ others) line p none =
    one (have_same_words other.region line.region) (lies_in other.region p) (is_left others line p) none.0 (left_by_none others line p none.1)
  where
    one : (s t u : Bool) → t ≡ false → u ≡ true → (not (s && t) && u) ≡ true
    one true t u e f = rw (e, f) refl
    one false t u e f = f

more_none : (before : List ChartLine) (line : ChartLine) (p : Point) → NoneHas before p → lies_in line.region p ≡ false → NoneHas (before ++ line ∷ []) p
more_none [] line p none e = (e, none)
more_none (other ∷ others) line p none e = (none.0, more_none others line p none.1 e)

first_line : (before lines : List ChartLine) (p : Point) → NoneHas before p → first_of (point_lines_of before lines p) ≡ first_with lines p
first_line before [] p none = refl
first_line before (line ∷ lines) p none =
    step (lies_in line.region p) line.rest (is_left before line p) (point_lines_of (before ++ line ∷ []) lines p) (first_with lines p) (left_by_none before line p none)
    (λ e. first_line (before ++ line ∷ []) lines p (more_none before line p none e))
  where
    step : (t r l : Bool) (rest : List ChartLine) (others : Option ChartLine) → l ≡ true → (t ≡ false → first_of rest ≡ others)
        → first_of (if t && (not r || l) then line ∷ rest else rest) ≡ (if t then Some line else others)
    step true true true rest others e f = refl
    step true true false rest others e f = absurd (cc)
    step true false l rest others e f = refl
    step false r l rest others e f = f refl

rightly : (reported : Bool) (old new : List Rule) (lines : List ChartLine) (p : Point) (is : Bool) → reported ≡ is → IsReportedRightly reported old new lines p → IsReportedRightly is old new lines p
rightly reported old new lines p is e h = subst (λ (t : Bool). IsReportedRightly t old new lines p) e h

pub charts_are_read : ChartsAreRead
charts_are_read = record {
  reported = λ asked all old new lines chart p has e.
      let once : IsReportedOnce old new lines p = rightly (is_reported asked all old new p) old new lines p true e (chart p has) in
      (once.line, sym (first_line [] lines p tt) ∙ ap first_of once.alone, once.old_path, once.new_path);
  unreported = λ asked all old new lines chart p has e.
      let none : point_lines_of [] lines p ≡ [] = rightly (is_reported asked all old new p) old new lines p false e (chart p has) in
      sym (first_line [] lines p tt) ∙ ap first_of none;
}

-- ---- a line that has a point of a command

-- the lines before that of a place, among those in which a point lies
abbrev Split : List ChartLine → Point → (n : ℕ) → Type 0
Split lines p n = (front : List ChartLine) × (point_lines_of [] lines p ≡ front ++ point_lines_of (take n lines) (drop n lines) p)

split_more : (lines : List ChartLine) (p : Point) (d : ChartLine) (n : ℕ) → n < length lines → Split lines p n → (t : Bool) → has_point (take n lines) (get_or lines n d) p ≡ t → Split lines p (n + 1)
split_more lines p d n lt before true e =
    let own = get_or lines n d in
    let others = point_lines_of (take (n + 1) lines) (drop (n + 1) lines) p in
    (before.0 ++ own ∷ [], before.1 ∙ ap (λ (l : List ChartLine). before.0 ++ l) (line_here lines p n d lt e) ∙ sym (append_assoc before.0 (own ∷ []) others))
split_more lines p d n lt before false e = (before.0, before.1 ∙ ap (λ (l : List ChartLine). before.0 ++ l) (line_after lines p n d lt e))

split_at : (lines : List ChartLine) (p : Point) (d : ChartLine) (n : ℕ) → n ≤ length lines → Split lines p n
split_at lines p d zero le = ([], refl)
split_at lines p d (suc n) le =
    subst (λ (k : ℕ). Split lines p k) (add-one n)
    (split_more lines p d n (omega (arith, le)) (split_at lines p d n (omega (arith, le))) (has_point (take n lines) (get_or lines n d) p) refl)

alone_is : (front : List ChartLine) (own line : ChartLine) (rest : List ChartLine) → front ++ own ∷ rest ≡ line ∷ [] → own ≡ line
alone_is [] own line rest e = cc
alone_is (first ∷ []) own line rest e = absurd (cc)
alone_is (first ∷ next ∷ others) own line rest e = absurd (cc)

none_is : (front : List ChartLine) (own : ChartLine) (rest : List ChartLine) → front ++ own ∷ rest ≡ [] → ⊥
none_is [] own rest e = absurd (cc)
none_is (first ∷ others) own rest e = absurd (cc)

-- the line of a place that has a point of a chart is the one in which the point lies
alone : (asked : PointRegion) (all : Bool) (old new : List Rule) (lines : List ChartLine) → IsChart asked all old new lines → (place : ℕ) (line : ChartLine) → place < length lines → ((d : ChartLine) → get_or lines place d ≡ line)
    → (p : Point) → HasCommand p → has_point (take place lines) line p ≡ true → point_lines_of [] lines p ≡ line ∷ []
alone asked all old new lines chart place line lt own p has e = by_reported (is_reported asked all old new p) (chart p has)
  where
    split : (front : List ChartLine) × (point_lines_of [] lines p ≡ front ++ point_lines_of (take place lines) (drop place lines) p)
    split = split_at lines p line place (omega (arith, lt))

    rest : List ChartLine
    rest = point_lines_of (take (place + 1) lines) (drop (place + 1) lines) p

    has_own : has_point (take place lines) (get_or lines place line) p ≡ true
    has_own = ap (λ (l : ChartLine). has_point (take place lines) l p) (own line) ∙ e

    here : point_lines_of [] lines p ≡ split.0 ++ line ∷ rest
    here = split.1 ∙ ap (λ (l : List ChartLine). split.0 ++ l) (line_here lines p place line lt has_own ∙ ap (λ (l : ChartLine). l ∷ rest) (own line))

    by_reported : (t : Bool) → IsReportedRightly t old new lines p → point_lines_of [] lines p ≡ line ∷ []
    by_reported true once = once.alone ∙ ap (λ (l : ChartLine). l ∷ []) (sym (alone_is split.0 line once.line rest (sym here ∙ once.alone)))
    by_reported false none = absurd (none_is split.0 line rest (sym here ∙ none))

address_on : (stretch : Stretch) (address : ℕ) → address < 2 ^ 32 → nat_le stretch.start address ≡ true → nat_lt address stretch.end ≡ true → HasAddress stretch
address_on stretch address fits from_ before =
    let le : stretch.start ≤ address = grind (arith, nat_tests) in
    let lt : address < stretch.end = grind (arith, nat_tests) in
    omega (arith, le, lt, fits)

-- if a point of a command lies in the region, both stretches have an address
first_has : (region : PointRegion) (p : Point) → HasCommand p → meets_last 4 region p ≡ true → HasAddress region.first
first_has region p has e =
    address_on region.first p.first (omega (arith, has.span.order, has.span.fits)) (first_of_both (meets side.FirstFrom region p) (meets_last 3 region p) e)
    (first_of_both (meets side.FirstBefore region p) (meets_last 2 region p) (second_of_both (meets side.FirstFrom region p) (meets_last 3 region p) e))

last_has : (region : PointRegion) (p : Point) → HasCommand p → meets_last 2 region p ≡ true → HasAddress region.last
last_has region p has e =
    address_on region.last p.last has.span.fits (first_of_both (meets side.LastFrom region p) (meets_last 1 region p) e)
    (first_of_both (meets side.LastBefore region p) true (second_of_both (meets side.LastFrom region p) (meets_last 1 region p) e))

addresses : (region : PointRegion) (p : Point) → lies_in region p ≡ true → meets_last 4 region p ≡ true
addresses region p e =
    let keys = second_of_both (meets side.Kind region p) (meets_last 7 region p) e in
    let initiators = second_of_both (meets side.Key region p) (meets_last 6 region p) keys in
    let extended = second_of_both (meets side.Initiator region p) (meets_last 5 region p) initiators in
    second_of_both (meets side.Extended region p) (meets_last 4 region p) extended

lasts : (region : PointRegion) (p : Point) → meets_last 4 region p ≡ true → meets_last 2 region p ≡ true
lasts region p e =
    second_of_both (meets side.FirstBefore region p) (meets_last 2 region p) (second_of_both (meets side.FirstFrom region p) (meets_last 3 region p) e)

pub lines_are_plain : LinesArePlain
lines_are_plain asked all old new lines chart place line lt own p has e =
    let lies = first_of_both (lies_in line.region p) (not line.rest || is_left (take place lines) line p) e in
    let four = addresses line.region p lies in
    record {
      first = first_has line.region p has four;
      last = last_has line.region p has (lasts line.region p four);
      alone = alone asked all old new lines chart place line lt own p has e;
    }
