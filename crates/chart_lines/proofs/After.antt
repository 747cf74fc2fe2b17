-- A line after lines with other words.
use Rattle.std.proofs.Common.{◌≡◌, ◌≤◌, ◌<◌, ◌+◌, ◌-◌, ◌&&◌, ◌||◌, ◌∙◌, ℕ, zero, suc, Bool, false, not, List, [], ◌∷◌, length, get_or, take, drop, Option, Some, None, refl, ap, sym, arith}
use Rattle.std.specs.Prelude.{All, MatchOption}
use Rattle.std.proofs.lemmas.List.Elements.{All-head, All-more, All-nil, All-tail}
use Rattle.regions.specs.Regions.{lies_in}
use Rattle.regions.specs.declared.points.Point.{Point}
use Rattle.regions.specs.declared.regions.PointRegion.{PointRegion}
use Rattle.charts.specs.Lines.{have_same_words, is_left}
use Rattle.charts.specs.Rests.{HasNoPointIn, IsPointIn, is_point_in}
use Rattle.charts.specs.declared.lines.ChartLine.{ChartLine}
use Rattle.chart_lines.specs.Witnesses.{AreOthers}

same_line : (lines : List ChartLine) (n : ℕ) (d e : ChartLine) → n < length lines → get_or lines n d ≡ get_or lines n e
same_line [] n d e there = absurd (omega arith)
same_line (line ∷ lines) zero d e there = refl
same_line (line ∷ lines) (suc n) d e there = same_line lines n d e (omega arith)

-- one line more has other words
pub other_more : (lines : List ChartLine) (place number : ℕ) (d e : ChartLine) → place < length lines → number < place → have_same_words (get_or lines number d).region (get_or lines place e).region ≡ false
    → AreOthers lines place number → AreOthers lines place (number + 1)
other_more lines place number d e there before apart others f =
    All-more (λ (other : ChartLine). have_same_words other.region (get_or lines place f).region ≡ false) lines number d (omega (arith, there, before)) (others f)
    (ap (λ (line : ChartLine). have_same_words (get_or lines number d).region line.region) (same_line lines place f e there) ∙ apart)

pub no_others : (lines : List ChartLine) (place : ℕ) → AreOthers lines place 0
no_others lines place d = All-nil (λ (other : ChartLine). have_same_words other.region (get_or lines place d).region ≡ false)

-- a line with other words takes nothing
not_taken : (other line : ChartLine) (before : List ChartLine) (p : Point) → have_same_words other.region line.region ≡ false → is_left (other ∷ before) line p ≡ is_left before line p
not_taken other line before p apart = ap (λ (t : Bool). not (t && lies_in other.region p) && is_left before line p) apart

at : (lines : List ChartLine) (n m : ℕ) (within : PointRegion) (d : ChartLine) (p : Point) → n ≡ m → is_point_in lines n within d p ≡ is_point_in lines m within d p
at lines n m within d p same = ap (λ (k : ℕ). is_point_in lines k within d p) same

shifted : (lines : List ChartLine) (start place : ℕ) (within : PointRegion) (d : ChartLine) (p : Point) → start ≤ place → place < length lines
    → All (λ (other : ChartLine). have_same_words other.region (get_or lines place d).region ≡ false) (take start lines)
    → is_point_in (drop start lines) (place - start) within d p ≡ is_point_in lines place within d p
shifted lines zero place within d p few there others = at lines (place - 0) place within d p (omega arith)
shifted [] (suc start) place within d p few there others = absurd (omega arith)
shifted (line ∷ lines) (suc start) zero within d p few there others = absurd (omega (arith, few))
shifted (line ∷ lines) (suc start) (suc place) within d p few there others =
    let own : ChartLine = get_or lines place d in
    at (drop start lines) (suc place - suc start) (place - start) within d p (omega (arith, few))
    ∙ shifted lines start place within d p (omega (arith, few)) (omega arith) (All-tail (λ (other : ChartLine). have_same_words other.region own.region ≡ false) line (take start lines) others)
    ∙ ap (λ (t : Bool). (lies_in own.region p && (not own.rest || t)) && lies_in within p)
    (sym (not_taken line own (take place lines) p (All-head (λ (other : ChartLine). have_same_words other.region own.region ≡ false) line (take start lines) others)))

pub point_after : (lines : List ChartLine) (start place : ℕ) (within : PointRegion) (found : Option Point) → start ≤ place → place < length lines → AreOthers lines place start
    → MatchOption found (HasNoPointIn (drop start lines) (place - start) within) (IsPointIn (drop start lines) (place - start) within)
    → MatchOption found (HasNoPointIn lines place within) (IsPointIn lines place within)
point_after lines start place within None few there others none = λ d p has. sym (shifted lines start place within d p few there (others d)) ∙ none d p has
point_after lines start place within (Some p) few there others is = record { command = is.command; lies = λ d. sym (shifted lines start place within d p few there (others d)) ∙ is.lies d }
