-- A region that is cut by the sides of a shape.
use Rattle.std.proofs.Common.{◌≡◌, ◌<◌, ◌≤◌, ◌+◌, ◌-◌, ◌⊎◌, inl, inr, ◌&&◌, ℕ, zero, suc, Bool, true, false, not, List, length, get_or, refl, sym, subst, ◌∙◌, arith}
use Rattle.std.specs.Prelude.{MatchOption, Option, Some, None, is_some}
use Rattle.std.proofs.lemmas.Bool.{cases_lt}
use Rattle.regions.specs.Points.{HasCommand}
use Rattle.regions.specs.Questions.{HoldsOn, HoldsWhere, IsCutBy, IsCutTo, IsSettledBy, IsShapeAt, IsUnderWay, IsUnmixed}
use Rattle.regions.specs.Regions.{AreApart, AreCut, IsBare, IsCommandIn, LiesWithin, lies_in, meets, meets_last, side_of}
use Rattle.regions.specs.declared.points.Point.{Point}
use Rattle.regions.specs.declared.regions.PointRegion.{PointRegion}
use Rattle.regions.specs.declared.sides.Side.{Side}
use Rattle.regions.proofs.Lying.{false_of, parts}

-- how much of a number's work is left: with no side left its shape is still to be found
abbrev pub rank : ℕ → ℕ
rank zero = 9
rank (suc left) = suc left

pub none_there : (holds : Point → Type 0) (region : PointRegion) → IsBare region → HoldsOn holds region
none_there holds region bare p has lies = absurd (cc (lies, bare p has))

-- the points of a part are points of the region
pub part_of : (region part : PointRegion) (test : Point → Bool) → ((p : Point) → HasCommand p → lies_in part p ≡ (lies_in region p && test p)) → (p : Point) → IsCommandIn part p → IsCommandIn region p × (test p ≡ true)
part_of region part test is p in_part =
    let both = parts (lies_in region p) (test p) (sym (is p in_part.0) ∙ in_part.1) in
    ((in_part.0, both.0), both.1)

-- what is cut stays so in a part
pub still_cut : (tests : List (Point → Bool)) (number : ℕ) (region part : PointRegion) → ((p : Point) → IsCommandIn part p → IsCommandIn region p) → IsCutBy tests number region → IsCutBy tests number part
still_cut tests number region part of cut k d before there p q in_p in_q = cut k d before there p q (of p in_p) (of q in_q)

-- one more is cut if its test has one outcome
pub one_more : (tests : List (Point → Bool)) (number : ℕ) (part : PointRegion) → IsCutBy tests number part → ((d : Point → Bool) → IsUnmixed part (get_or tests number d)) → IsCutBy tests (number + 1) part
one_more tests number part cut unmixed k d before there = by_place (cases_lt k number)
  where
    by_place : (k < number) ⊎ (number ≤ k) → IsUnmixed part (get_or tests k d)
    by_place (inl lt) = cut k d lt there
    by_place (inr ge) = at k (omega arith)
      where
        at : (j : ℕ) → j ≡ number → IsUnmixed part (get_or tests j d)
        at j e = rw e (unmixed d)

constant : (t u b : Bool) → t ≡ b → u ≡ b → t ≡ u
constant t u b e f = e ∙ sym f

and_true : (a b : Bool) → a ≡ true → (a && b) ≡ b
and_true true b e = refl
and_true false b e = absurd (cc)

and_false : (a b : Bool) → a ≡ false → (a && b) ≡ false
and_false true b e = absurd (cc)
and_false false b e = refl

negated : (t : Bool) → not t ≡ true → t ≡ false
negated true e = absurd (cc)
negated false e = refl

module _ (tests : List (Point → Bool)) (number : ℕ) (region shape : PointRegion) (left : ℕ) (inside outside : PointRegion) (to : IsCutTo tests number shape (suc left) region)
    (cut : AreCut region shape (side_of (suc left)) inside outside) where
  of_inside : (p : Point) → IsCommandIn inside p → IsCommandIn region p × (meets (side_of (suc left)) shape p ≡ true)
  of_inside = part_of region inside (meets (side_of (suc left)) shape) cut.met

  of_outside : (p : Point) → IsCommandIn outside p → IsCommandIn region p × (not (meets (side_of (suc left)) shape p) ≡ true)
  of_outside = part_of region outside (λ p. not (meets (side_of (suc left)) shape p)) cut.unmet

  -- no point outside passes the test
  pub failed_outside : (d : Point → Bool) → IsUnmixed outside (get_or tests number d)
  failed_outside d p q in_p in_q = constant (get_or tests number d p) (get_or tests number d q) false (failed p in_p) (failed q in_q)
    where
      failed : (r : Point) → IsCommandIn outside r → get_or tests number d r ≡ false
      failed r in_r =
          let at = of_outside r in_r in
          to.same d r at.0 ∙ and_false (meets (side_of (suc left)) shape r) (meets_last left shape r) (negated (meets (side_of (suc left)) shape r) at.1)

  -- inside one side fewer is left
  pub met_inside : IsCutTo tests number shape left inside
  met_inside = record {
    there = to.there;
    same = λ d p in_p.
        let at = of_inside p in_p in
        to.same d p at.0 ∙ and_true (meets (side_of (suc left)) shape p) (meets_last left shape p) at.1;
  }

  pub outside_cut : IsCutBy tests number region → IsCutBy tests (number + 1) outside
  outside_cut before = one_more tests number outside (still_cut tests number region outside (λ p in_p. (of_outside p in_p).0) before) failed_outside

  pub inside_cut : IsCutBy tests number region → IsCutBy tests number inside
  inside_cut before = still_cut tests number region inside (λ p in_p. (of_inside p in_p).0) before

-- with no side left the test has one outcome
pub last_inside : (tests : List (Point → Bool)) (number : ℕ) (shape inside : PointRegion) → IsCutTo tests number shape 0 inside → IsCutBy tests number inside → IsCutBy tests (number + 1) inside
last_inside tests number shape inside to cut =
    one_more tests number inside cut (λ d p q in_p in_q. constant (get_or tests number d p) (get_or tests number d q) true (to.same d p in_p) (to.same d q in_q))

pub begun : (tests : List (Point → Bool)) (number : ℕ) (shape region : PointRegion) → IsShapeAt tests number shape → IsUnderWay tests number shape 8 region
begun tests number shape region at some = record { there = at.there; same = λ d p in_p. sym (at.same d p in_p.0) }

-- if all tests have one outcome in the region, one point answers for all
pub answered : (tests : List (Point → Bool)) (number : ℕ) (region : PointRegion) (holds : Point → Type 0) (q : Point) → IsSettledBy tests holds → IsCutBy tests number region → length tests ≤ number → IsCommandIn region q → holds q → HoldsOn holds region
answered tests number region holds q settled cut all in_q answer p has lies =
    settled p q has in_q.0 (λ k d there. cut k d (omega arith) there p q (has, lies) in_q) answer

pub weaker_of : (o : Option Point) (P R : Type 0) (Q : Point → Type 0) → (P → R) → MatchOption o P Q → MatchOption o R Q
weaker_of None P R Q f h = f h
weaker_of (Some p) P R Q f h = h

pub none_of : (o : Option Point) (P : Type 0) (Q : Point → Type 0) → o ≡ None → MatchOption o P Q → P
none_of None P Q none h = h
none_of (Some p) P Q none h = absurd (cc)

pub nothing_cut : (tests : List (Point → Bool)) (region : PointRegion) → IsCutBy tests 0 region
nothing_cut tests region k d before there = absurd (omega arith)

-- what is known of both parts after a cut
pub record IsStep (tests : List (Point → Bool)) (number : ℕ) (region shape : PointRegion) (left : ℕ) (inside outside : PointRegion) : Type 0 where
  pub there : number < length tests
  pub out_cut : IsCutBy tests (number + 1) outside
  pub in_cut : IsCutBy tests number inside
  pub in_to : IsCutTo tests number shape (left - 1) inside

pub step : (tests : List (Point → Bool)) (number : ℕ) (region shape : PointRegion) (left : ℕ) (side : Side) (inside outside : PointRegion) → 0 < left → side ≡ side_of left → IsUnderWay tests number shape left region
    → AreCut region shape side inside outside → IsCutBy tests number region → IsStep tests number region shape left inside outside
step tests number region shape zero side inside outside some own under_way cut before = absurd (omega (arith, some))
step tests number region shape (suc left) side inside outside some own under_way cut before =
    let to : IsCutTo tests number shape (suc left) region = under_way some in
    let parts_are : AreCut region shape (side_of (suc left)) inside outside = subst (λ (s : Side). AreCut region shape s inside outside) own cut in
    record {
      there = to.there;
      out_cut = outside_cut tests number region shape left inside outside to parts_are before;
      in_cut = inside_cut tests number region shape left inside outside to parts_are before;
      in_to = subst (λ (n : ℕ). IsCutTo tests number shape n inside) (omega arith) (met_inside tests number region shape left inside outside to parts_are);
    }

-- what holds on both parts holds on the region
pub on_both : (region shape : PointRegion) (side : Side) (inside outside : PointRegion) (holds : Point → Type 0) → AreCut region shape side inside outside → HoldsOn holds outside → HoldsOn holds inside → HoldsOn holds region
on_both region shape side inside outside holds cut out in_ p has lies = by_test (meets side shape p) refl
  where
    by_test : (t : Bool) → meets side shape p ≡ t → holds p
    by_test true e = in_ p has (cut.met p has ∙ rw (lies, e) refl)
    by_test false e = out p has (cut.unmet p has ∙ rw (lies, e) refl)

pub rank_zero : (left : ℕ) → left ≡ 0 → rank left ≡ 9
rank_zero zero e = refl
rank_zero (suc left) e = absurd (omega arith)

pub rank_some : (left : ℕ) → 0 < left → rank left ≡ left
rank_some zero h = absurd (omega arith)
rank_some (suc left) h = refl

-- if a region and a shape are apart, the test of the shape has one outcome in the region
pub apart_cut : (tests : List (Point → Bool)) (number : ℕ) (region shape : PointRegion) → IsShapeAt tests number shape → AreApart region shape → IsCutBy tests number region → IsCutBy tests (number + 1) region
apart_cut tests number region shape at apart cut =
    one_more tests number region cut (λ d p q in_p in_q. constant (get_or tests number d p) (get_or tests number d q) false (failed d p in_p) (failed d q in_q))
  where
    failed : (d : Point → Bool) (r : Point) → IsCommandIn region r → get_or tests number d r ≡ false
    failed d r in_r = sym (at.same d r in_r.0) ∙ false_of (lies_in shape r) (apart r in_r.0 in_r.1)

-- if a region lies within a shape, the test of the shape has one outcome in the region
pub within_cut : (tests : List (Point → Bool)) (number : ℕ) (region shape : PointRegion) → IsShapeAt tests number shape → LiesWithin region shape → IsCutBy tests number region → IsCutBy tests (number + 1) region
within_cut tests number region shape at within cut =
    one_more tests number region cut (λ d p q in_p in_q. constant (get_or tests number d p) (get_or tests number d q) true (passed d p in_p) (passed d q in_q))
  where
    passed : (d : Point → Bool) (r : Point) → IsCommandIn region r → get_or tests number d r ≡ true
    passed d r in_r = sym (at.same d r in_r.0) ∙ within r in_r.0 in_r.1

-- if a region lies within a shape at whose points it holds, it holds on the region
pub passed_within : (tests : List (Point → Bool)) (number : ℕ) (region shape : PointRegion) (holds : Point → Type 0) → IsShapeAt tests number shape → LiesWithin region shape → HoldsWhere tests holds number → HoldsOn holds region
passed_within tests number region shape holds at within passes p has lies = passes (λ _. true) p has at.there (sym (at.same (λ _. true) p has) ∙ within p has lies)

-- with no side left too
pub passed_inside : (tests : List (Point → Bool)) (number : ℕ) (shape inside : PointRegion) (holds : Point → Type 0) → IsCutTo tests number shape 0 inside → HoldsWhere tests holds number → HoldsOn holds inside
passed_inside tests number shape inside holds to passes p has lies = passes (λ _. true) p has to.there (to.same (λ _. true) p (has, lies))

-- what is known by itself of a part that a search of a region has reached
pub record IsOnWay (tests : List (Point → Bool)) (holds : Point → Type 0) (region : PointRegion) (number : ℕ) (part : PointRegion) (at : ℕ) (shape : PointRegion) (sides : ℕ) : Type 0 where
  pub sides_left : sides ≤ 8
  pub further : number ≤ at
  pub cut : IsCutBy tests at part
  pub under_way : IsUnderWay tests at shape sides part
  pub back : HoldsOn holds part → HoldsOn holds region

pub bare_of : (o : Option Point) (P : Type 0) (Q : Point → Type 0) → is_some o ≡ false → MatchOption o P Q → P
bare_of None P Q none h = h
bare_of (Some p) P Q none h = absurd (cc)
