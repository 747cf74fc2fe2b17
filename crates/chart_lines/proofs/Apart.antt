-- Each row of one chart says something else.
use Rattle.std.proofs.Common.{◌≡◌, ◌≢◌, ◌≤◌, ◌<◌, ◌&&◌, ◌||◌, ◌==◌, ◌∙◌, inl, inr, ℕ, zero, suc, Bool, true, false, not, List, [], ◌∷◌, ◌++◌, length, get_or, take, drop, refl, ap, sym, subst, arith}
use Rattle.std.specs.Prelude.{All, slice_set, if◌then◌else◌}
use Rattle.std.proofs.lemmas.Bool.Decides.{nat_tests}
use Rattle.std.proofs.lemmas.List.{append_assoc, drop-append-le, map-append}
use Rattle.std.proofs.lemmas.List.Elements.{All-append, All-cons, All-head, All-nil, All-tail, All-weaker}
use Rattle.regions.specs.Regions.{are_same_kinds, is_same, lies_in}
use Rattle.regions.specs.ByteSets.{are_same_bytes}
use Rattle.regions.specs.declared.byte_sets.ByteSet.{ByteSet}
use Rattle.regions.specs.declared.points.Point.{Point}
use Rattle.regions.specs.declared.regions.PointRegion.{PointRegion}
use Rattle.charts.specs.Lines.{IsComparison, IsMap, has_point, have_same_words, is_left, point_lines_of}
use Rattle.charts.specs.Plain.{LinesArePlain}
use Rattle.charts.specs.declared.lines.ChartLine.{ChartLine}
use Rattle.chart_lines.specs.AskedTables.{AskedValue}
use Rattle.chart_lines.specs.Begun.{AreBegun, HasReported, IsOf, SayOther, said_by}
use Rattle.chart_lines.specs.Compared.{IsDifferenceAt, PrintsLine as DifferenceLine}
use Rattle.chart_lines.specs.Mapped.{PrintsLine as MapLine, map_line_text}
use Rattle.chart_lines.specs.Rows.{AddsRow, RowValue, RowContentValue, row_of}
use Rattle.chart_lines.specs.Reporting.{PrintsFirst}
use Rattle.chart_lines.specs.Witnesses.{IsLineWitness}

-- ---- a line that has a point, and one before

same_self : (t : Bool) → is_same t t ≡ true
same_self true = refl
same_self false = refl

equal_self : (n : ℕ) → (n == n) ≡ true
equal_self n = grind (arith, nat_tests)

same_words : (r : PointRegion) → ((one other : ChartLine) → one.region ≡ r → other.region ≡ r → have_same_words one.region other.region ≡ true)
same_words r one other e f = ap (λ (q : PointRegion). have_same_words q other.region) e ∙ ap (λ (q : PointRegion). have_same_words r q) f ∙ own
  where
    kinds : are_same_kinds r.kinds r.kinds ≡ true
    kinds = rw (same_self r.kinds.read, same_self r.kinds.write, same_self r.kinds.rmw) refl

    bytes : (set : ByteSet) → are_same_bytes set set ≡ true
    bytes set = rw (equal_self set.low, equal_self set.high) refl

    own : have_same_words r r ≡ true
    own = rw (kinds, bytes r.keys, bytes r.initiators, bytes r.extended) refl

no_more : (t : Bool) → (t && false) ≡ false
no_more true = refl
no_more false = refl

-- the rest does not have what an earlier line with the same words has
taken_gone : (before : List ChartLine) (line : ChartLine) (n : ℕ) (d : ChartLine) (p : Point) → n < length before
    → (have_same_words (get_or before n d).region line.region && lies_in (get_or before n d).region p) ≡ true → is_left before line p ≡ false
taken_gone [] line n d p there takes = absurd (omega arith)
taken_gone (other ∷ others) line zero d p there takes = ap (λ (t : Bool). not t && is_left others line p) takes
taken_gone (other ∷ others) line (suc n) d p there takes =
    ap (λ (t : Bool). not (have_same_words other.region line.region && lies_in other.region p) && t) (taken_gone others line n d p (omega arith) takes)
    ∙ no_more (not (have_same_words other.region line.region && lies_in other.region p))

append_nil : (xs : List ChartLine) → xs ++ [] ≡ xs
append_nil [] = refl
append_nil (x ∷ xs) = ap (λ (ls : List ChartLine). x ∷ ls) (append_nil xs)

at_first : (before lines : List ChartLine) (line : ChartLine) (n : ℕ) (own : ChartLine) (p : Point) → has_point (before ++ line ∷ take n lines) own p ≡ true → has_point ((before ++ line ∷ []) ++ take n lines) own p ≡ true
at_first before lines line n own p h = ap (λ (ls : List ChartLine). has_point ls own p) (append_assoc before (line ∷ []) (take n lines)) ∙ h

-- a point that a line has is reported
one_there : (before lines : List ChartLine) (n : ℕ) (d : ChartLine) (p : Point) → n < length lines → has_point (before ++ take n lines) (get_or lines n d) p ≡ true → 1 ≤ length (point_lines_of before lines p)
one_there before [] n d p there h = absurd (omega arith)
one_there before (line ∷ lines) zero d p there h =
    step (has_point before line p) (point_lines_of (before ++ line ∷ []) lines p) (ap (λ (ls : List ChartLine). has_point ls line p) (sym (append_nil before)) ∙ h)
  where
    step : (t : Bool) (rest : List ChartLine) → t ≡ true → 1 ≤ length (if t then line ∷ rest else rest)
    step true rest e = omega arith
    step false rest e = absurd (cc (e))
one_there before (line ∷ lines) (suc n) d p there h =
    step (has_point before line p) (point_lines_of (before ++ line ∷ []) lines p) (one_there (before ++ line ∷ []) lines n d p (omega arith) (at_first before lines line n (get_or lines n d) p h))
  where
    step : (t : Bool) (rest : List ChartLine) → 1 ≤ length rest → 1 ≤ length (if t then line ∷ rest else rest)
    step true rest more = omega arith
    step false rest more = more

-- and one that two have is reported twice
two_there : (before lines : List ChartLine) (n m : ℕ) (d : ChartLine) (p : Point) → n < m → m < length lines → has_point (before ++ take n lines) (get_or lines n d) p ≡ true
    → has_point (before ++ take m lines) (get_or lines m d) p ≡ true → 2 ≤ length (point_lines_of before lines p)
two_there before [] n m d p lt there h k = absurd (omega arith)
two_there before (line ∷ lines) n zero d p lt there h k = absurd (omega (arith, lt))
two_there before (line ∷ lines) zero (suc m) d p lt there h k =
    step (has_point before line p) (point_lines_of (before ++ line ∷ []) lines p) (ap (λ (ls : List ChartLine). has_point ls line p) (sym (append_nil before)) ∙ h)
    (one_there (before ++ line ∷ []) lines m d p (omega arith) (at_first before lines line m (get_or lines m d) p k))
  where
    step : (t : Bool) (rest : List ChartLine) → t ≡ true → 1 ≤ length rest → 2 ≤ length (if t then line ∷ rest else rest)
    step true rest e more = omega (arith, more)
    step false rest e more = absurd (cc (e))
two_there before (line ∷ lines) (suc n) (suc m) d p lt there h k =
    step (has_point before line p) (point_lines_of (before ++ line ∷ []) lines p)
    (two_there (before ++ line ∷ []) lines n m d p (omega (arith, lt)) (omega arith) (at_first before lines line n (get_or lines n d) p h) (at_first before lines line m (get_or lines m d) p k))
  where
    step : (t : Bool) (rest : List ChartLine) → 2 ≤ length rest → 2 ≤ length (if t then line ∷ rest else rest)
    step true rest more = omega (arith, more)
    step false rest more = more

at_take : (lines : List ChartLine) (n m : ℕ) (d : ChartLine) → n < m → m < length lines → get_or (take m lines) n d ≡ get_or lines n d
at_take [] n m d lt there = absurd (omega arith)
at_take (line ∷ lines) n zero d lt there = absurd (omega (arith, lt))
at_take (line ∷ lines) zero (suc m) d lt there = refl
at_take (line ∷ lines) (suc n) (suc m) d lt there = at_take lines n m d (omega (arith, lt)) (omega arith)

length_take : (lines : List ChartLine) (m : ℕ) → m < length lines → length (take m lines) ≡ m
length_take [] m there = absurd (omega arith)
length_take (line ∷ lines) zero there = refl
length_take (line ∷ lines) (suc m) there = ap suc (length_take lines m (omega arith))

both_true : (a b : Bool) → a ≡ true → b ≡ true → (a && b) ≡ true
both_true true b e f = f
both_true false b e f = absurd (cc (e))

parts : (a b : Bool) → (a && b) ≡ true → (a ≡ true) × (b ≡ true)
parts true b e = (refl, e)
parts false b e = absurd (cc (e))

module _ (lines : List ChartLine) (n m : ℕ) (line : ChartLine) (p : Point) (lt : n < m) (there : m < length lines) (own : (d : ChartLine) → get_or lines m d ≡ line) (has : has_point (take m lines) line p ≡ true)
    (alone : point_lines_of [] lines p ≡ line ∷ []) (region : (d : ChartLine) → (get_or lines n d).region ≡ line.region) (rest : (d : ChartLine) → (get_or lines n d).rest ≡ line.rest) where
  lies : lies_in line.region p ≡ true
  lies = (parts (lies_in line.region p) (not line.rest || is_left (take m lines) line p) has).0

  lies_early : lies_in (get_or lines n line).region p ≡ true
  lies_early = ap (λ (r : PointRegion). lies_in r p) (region line) ∙ lies

  by_rest : (t : Bool) → line.rest ≡ t → ⊥
  by_rest true e =
      let left : is_left (take m lines) line p ≡ true = ap (λ (t : Bool). not t || is_left (take m lines) line p) (sym e) ∙ (parts (lies_in line.region p) (not line.rest || is_left (take m lines) line p) has).1 in
      let early : get_or (take m lines) n line ≡ get_or lines n line = at_take lines n m line lt there in
      let takes : (have_same_words (get_or (take m lines) n line).region line.region && lies_in (get_or (take m lines) n line).region p) ≡ true =
      ap (λ (l : ChartLine). have_same_words l.region line.region && lies_in l.region p) early
      ∙ both_true (have_same_words (get_or lines n line).region line.region) (lies_in (get_or lines n line).region p) (same_words line.region (get_or lines n line) line (region line) refl) lies_early in
      absurd (cc (left, taken_gone (take m lines) line n line p (omega (arith, lt, length_take lines m there)) takes))
  by_rest false e =
      let early : has_point (take n lines) (get_or lines n line) p ≡ true =
      both_true (lies_in (get_or lines n line).region p) (not (get_or lines n line).rest || is_left (take n lines) (get_or lines n line) p) lies_early (ap (λ (t : Bool). not t || is_left (take n lines) (get_or lines n line) p) (rest line ∙ e)) in
      let late : has_point (take m lines) (get_or lines m line) p ≡ true = ap (λ (l : ChartLine). has_point (take m lines) l p) (own line) ∙ has in
      let two : 2 ≤ length (point_lines_of [] lines p) = two_there [] lines n m line p lt there early late in
      let one : length (point_lines_of [] lines p) ≡ 1 = ap (λ (ls : List ChartLine). length ls) alone in
      absurd (omega (arith, two, one))

  pub other_words : ⊥
  other_words = by_rest line.rest refl

-- ---- what rows say of a chart

of_more : (chart : List ChartLine) (count : ℕ) (said : RowContentValue) → IsOf chart count said → IsOf chart (suc count) said
of_more chart count said is = record { place = is.place; before = omega (arith, is.before); region = is.region; rest = is.rest }

said_set : (rows : List RowValue) (place : ℕ) (d : RowValue) (ports : List ℕ) (said : RowContentValue) → (get_or rows place d).reported ≡ said → said_by (slice_set rows place (row_of ports said)) ≡ said_by rows
said_set [] place d ports said same = refl
said_set (row ∷ rows) zero d ports said same = ap (λ (t : RowContentValue). t ∷ said_by rows) (sym same)
said_set (row ∷ rows) (suc place) d ports said same = ap (λ (ts : List RowContentValue). row.reported ∷ ts) (said_set rows place d ports said same)

length_said : (rows : List RowValue) → length (said_by rows) ≡ length rows
length_said [] = refl
length_said (row ∷ rows) = ap suc (length_said rows)

same_length : (rows others : List RowValue) → said_by rows ≡ said_by others → length rows ≡ length others
same_length rows others same = sym (length_said rows) ∙ ap (λ (ts : List RowContentValue). length ts) same ∙ length_said others

-- one row more, of the next line
begun_more : (chart : List ChartLine) (count from : ℕ) (ports : List ℕ) (said : RowContentValue) (before after : List RowValue) → AreBegun chart count from before → IsOf chart (suc count) said
    → AddsRow ports said before after → AreBegun chart (suc count) from after
begun_more chart count from ports said before after begun own (inl joins) =
    let row : RowValue = row_of ports said in
    let same : said_by after ≡ said_by before = ap (λ (rows : List RowValue). said_by rows) (joins.is row) ∙ said_set before joins.place row ((get_or before joins.place row).ports ++ ports) said (joins.same row) in
    record {
      longer = omega (arith, begun.longer, same_length after before same);
      lines = subst (λ (ts : List RowContentValue). All (IsOf chart (suc count)) (drop from ts)) (sym same) (All-weaker (IsOf chart count) (IsOf chart (suc count)) (of_more chart count) (drop from (said_by before)) begun.lines);
    }
begun_more chart count from ports said before after begun own (inr adds) =
    let row : List RowValue = row_of ports said ∷ [] in
    let same : said_by after ≡ said_by before ++ said ∷ [] = ap (λ (rows : List RowValue). said_by rows) adds.1 ∙ map-append (λ (r : RowValue). r.reported) before row in
    let within : from ≤ length (said_by before) = omega (arith, begun.longer, length_said before) in
    record {
      longer = omega (arith, begun.longer, length_said before, length_said after, ap (λ (ts : List RowContentValue). length ts) same, length_more (said_by before) said);
      lines = subst (λ (ts : List RowContentValue). All (IsOf chart (suc count)) ts) (sym (ap (λ (ts : List RowContentValue). drop from ts) same ∙ drop-append-le from (said_by before) (said ∷ []) within))
          (All-append (IsOf chart (suc count)) (drop from (said_by before)) (said ∷ []) (All-weaker (IsOf chart count) (IsOf chart (suc count)) (of_more chart count) (drop from (said_by before)) begun.lines)
          (All-cons (IsOf chart (suc count)) said [] own (All-nil (IsOf chart (suc count)))));
    }
  where
    length_more : (ts : List RowContentValue) (t : RowContentValue) → length (ts ++ t ∷ []) ≡ suc (length ts)
    length_more [] t = refl
    length_more (u ∷ ts) t = ap suc (length_more ts t)

begun_same : (chart : List ChartLine) (count from : ℕ) (before after : List RowValue) → AreBegun chart count from before → after ≡ before → AreBegun chart (suc count) from after
begun_same chart count from before after begun same = record {
  longer = omega (arith, begun.longer, ap (λ (rows : List RowValue). length rows) same);
  lines = subst (λ (rows : List RowValue). All (IsOf chart (suc count)) (drop from (said_by rows))) (sym same) (All-weaker (IsOf chart count) (IsOf chart (suc count)) (of_more chart count) (drop from (said_by before)) begun.lines);
}

begun_none : (chart : List ChartLine) (from : ℕ) (rows : List RowValue) → from ≡ length rows → AreBegun chart 0 from rows
begun_none chart from rows counted = record {
  longer = omega (arith, counted);
  lines = subst (λ (ts : List RowContentValue). All (IsOf chart 0) ts) (sym (all_dropped from (said_by rows) (omega (arith, counted, length_said rows)))) (All-nil (IsOf chart 0));
}
  where
    all_dropped : (n : ℕ) (ts : List RowContentValue) → n ≡ length ts → drop n ts ≡ []
    all_dropped zero [] e = refl
    all_dropped (suc n) [] e = absurd (omega (arith, e))
    all_dropped zero (t ∷ ts) e = absurd (omega (arith, e))
    all_dropped (suc n) (t ∷ ts) e = all_dropped n ts (omega (arith, e))

begun_mapped : (ports : List ℕ) (at : AskedValue) (chart : List ChartLine) (count from : ℕ) (first rows : List RowValue) → from ≡ length first → PrintsFirst (MapLine ports at chart) count first rows → AreBegun chart count from rows
begun_mapped ports at chart zero from first rows counted same = begun_none chart from rows (counted ∙ ap (λ (rs : List RowValue). length rs) (sym same))
begun_mapped ports at chart (suc count) from first rows counted (middle, reported, inl line) =
    begun_more chart count from ports _ middle rows (begun_mapped ports at chart count from first middle counted reported)
    (record { place = count; before = omega arith; region = λ d. ap (λ (l : ChartLine). l.region) (line.own d); rest = λ d. ap (λ (l : ChartLine). l.rest) (line.own d) }) line.row
begun_mapped ports at chart (suc count) from first rows counted (middle, reported, inr none) =
    begun_same chart count from middle rows (begun_mapped ports at chart count from first middle counted reported) none.1

begun_compared : (ports : List ℕ) (old new : AskedValue) (chart : List ChartLine) (count from : ℕ) (first rows : List RowValue) → from ≡ length first → PrintsFirst (DifferenceLine ports old new chart) count first rows → AreBegun chart count from rows
begun_compared ports old new chart zero from first rows counted same = begun_none chart from rows (counted ∙ ap (λ (rs : List RowValue). length rs) (sym same))
begun_compared ports old new chart (suc count) from first rows counted (middle, reported, inl line) =
    begun_more chart count from ports line.said middle rows (begun_compared ports old new chart count from first middle counted reported)
    (record {
      place = count;
      before = omega arith;
      region = λ d. ap (λ (l : ChartLine). l.region) (line.own d) ∙ sym (ap (λ (t : RowContentValue). t.region) line.is_difference.is);
      rest = λ d. ap (λ (l : ChartLine). l.rest) (line.own d) ∙ sym (ap (λ (t : RowContentValue). t.rest) line.is_difference.is);
    }) line.row
begun_compared ports old new chart (suc count) from first rows counted (middle, reported, inr none) =
    begun_same chart count from middle rows (begun_compared ports old new chart count from first middle counted reported) none.1

-- ---- no row of the chart says the next line

others_by : (chart : List ChartLine) (place : ℕ) (line : ChartLine) (p : Point) (said : RowContentValue) (rows : List RowValue) (from : ℕ) → place < length chart → ((d : ChartLine) → get_or chart place d ≡ line)
    → has_point (take place chart) line p ≡ true → point_lines_of [] chart p ≡ line ∷ [] → said.region ≡ line.region → said.rest ≡ line.rest → AreBegun chart place from rows → SayOther said from rows
others_by chart place line p said rows from there own has alone region rest begun = record { within = begun.longer; other = each from rows begun.lines }
  where
    apart : (reported : RowContentValue) → IsOf chart place reported → reported ≢ said
    apart reported is same =
        other_words chart is.place place line p is.before there own has alone
        (λ d. is.region d ∙ ap (λ (t : RowContentValue). t.region) same ∙ region) (λ d. is.rest d ∙ ap (λ (t : RowContentValue). t.rest) same ∙ rest)

    each_all : (rows : List RowValue) → All (IsOf chart place) (said_by rows) → All (λ (row : RowValue). row.reported ≢ said) rows
    each_all [] h = All-nil (λ (row : RowValue). row.reported ≢ said)
    each_all (row ∷ rows) h =
        All-cons (λ (row : RowValue). row.reported ≢ said) row rows (apart row.reported (All-head (IsOf chart place) row.reported (said_by rows) h)) (each_all rows (All-tail (IsOf chart place) row.reported (said_by rows) h))

    each : (from : ℕ) (rows : List RowValue) → All (IsOf chart place) (drop from (said_by rows)) → All (λ (row : RowValue). row.reported ≢ said) (drop from rows)
    each zero rows h = each_all rows h
    each (suc from) [] h = All-nil (λ (row : RowValue). row.reported ≢ said)
    each (suc from) (row ∷ rows) h = each from rows h

own_point : (lines : List ChartLine) (place : ℕ) (line : ChartLine) (p : Point) → ((other : ChartLine) → get_or lines place other ≡ line) → IsLineWitness lines place p → has_point (take place lines) line p ≡ true
own_point lines place line p own witness = subst (λ (l : ChartLine). has_point (take place lines) l p ≡ true) (own line) (witness.lies line)

-- of a map
pub others_mapped : LinesArePlain → (asked : PointRegion) (ports : List ℕ) (at : AskedValue) (lines : List ChartLine) → IsMap asked at.rules lines → (place : ℕ) (line : ChartLine) (p : Point) (said : RowContentValue) (rows : List RowValue) (from : ℕ)
    → place < length lines → ((other : ChartLine) → get_or lines place other ≡ line) → IsLineWitness lines place p → said ≡ map_line_text at line p → HasReported (MapLine ports at lines) place from rows → SayOther said from rows
others_mapped law asked ports at lines is place line p said rows from there own witness same reported =
    let has = own_point lines place line p own witness in
    let plain = law asked true at.rules [] lines is place line there own p witness.command has in
    others_by lines place line p said rows from there own has plain.alone (ap (λ (t : RowContentValue). t.region) same) (ap (λ (t : RowContentValue). t.rest) same)
    (begun_mapped ports at lines place from reported.first rows reported.counted reported.reported)

-- of a comparison
pub others_compared : LinesArePlain → (asked : PointRegion) (ports : List ℕ) (old new : AskedValue) (lines : List ChartLine) → IsComparison asked old.rules new.rules lines → (place : ℕ) (line : ChartLine) (p : Point) (said : RowContentValue) (rows : List RowValue) (from : ℕ)
    → place < length lines → ((other : ChartLine) → get_or lines place other ≡ line) → IsLineWitness lines place p → IsDifferenceAt old new line p said → HasReported (DifferenceLine ports old new lines) place from rows → SayOther said from rows
others_compared law asked ports old new lines compared place line p said rows from there own witness is reported =
    let has = own_point lines place line p own witness in
    let plain = law asked false old.rules new.rules lines compared place line there own p witness.command has in
    others_by lines place line p said rows from there own has plain.alone (ap (λ (t : RowContentValue). t.region) is.is) (ap (λ (t : RowContentValue). t.rest) is.is)
    (begun_compared ports old new lines place from reported.first rows reported.counted reported.reported)
