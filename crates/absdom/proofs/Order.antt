-- The order of kinds, and of states.
use Rattle.std.proofs.Common.{◌≡◌, ℕ, ◌*◌, Option, Some, None, ℤ, ◌≤ℤ◌, Bool, true, false, refl, sym, ◌∙◌, ap, subst, arith}
use Rattle.std.proofs.lemmas.Int.{ints}
use Rattle.machine.specs.declared.regions.Region.{Region}
use Rattle.machine.specs.declared.regions.Region.TheVariants.{Front, Tail, Stack}
use Rattle.machine.specs.declared.values.Value.{Value}
use Rattle.machine.specs.declared.values.Value.TheVariants.{Unset as Nothing, Num as Number, Ptr as Pointer, Map as MapOf}
use Rattle.absdom.specs.declared.kinds.AbsKind.{AbsKind}
use Rattle.absdom.specs.declared.kinds.AbsKind.TheVariants.{Unset, Num, Ptr, Map}
use Rattle.absdom.specs.Kinds.{same_region, IsKindBelow}
use Rattle.machine.specs.Memory.{little_endian}
use Rattle.absdom_num.specs.declared.ranges.Range.{Range}
use Rattle.absdom_num.specs.Ranges.{IsWithin}
use Rattle.absdom.specs.State.{kind_at, range_at}
use Rattle.absdom_stack.specs.Marks.{mark_at}
use Rattle.absdom.specs.Fits.{FitsKind, IsReadIn}
use Rattle.absdom.specs.Laws.{BelowFits, BelowIsReflexive, BelowIsTransitive, BelowIsAntisymmetric}
use Rattle.absdom_stack.proofs.MarkSteps.{still_marked}

pub region_from_test : (r s : Region) → same_region r s ≡ true → r ≡ s
region_from_test Front Front e = refl
region_from_test Front Tail e = cc
region_from_test Front Stack e = cc
region_from_test Tail Front e = cc
region_from_test Tail Tail e = refl
region_from_test Tail Stack e = cc
region_from_test Stack Front e = cc
region_from_test Stack Tail e = cc
region_from_test Stack Stack e = refl

pub same_region-refl : (r : Region) → same_region r r ≡ true
same_region-refl Front = refl
same_region-refl Tail = refl
same_region-refl Stack = refl

pub same_region-trans : (r s t : Region) → same_region r s ≡ true → same_region s t ≡ true → same_region r t ≡ true
same_region-trans r s t e f =
    let g : r ≡ t = region_from_test r s e ∙ region_from_test s t f in
    let P : Region → Type 0 = λ x. same_region r x ≡ true in subst P g (same_region-refl r)

pub kind_below-refl : (k : AbsKind) → IsKindBelow k k
kind_below-refl Unset = tt
kind_below-refl (Num a) = record { above = omega arith; below = omega arith }
kind_below-refl (Ptr r o) = (same_region-refl r, record { above = omega (arith, ints); below = omega (arith, ints) })
kind_below-refl (Map i) = refl

pub kind_below-trans : (p q k : AbsKind) → IsKindBelow p q → IsKindBelow q k → IsKindBelow p k
kind_below-trans Unset Unset k g h = h
kind_below-trans Unset (Num b) k g h = absurd g
kind_below-trans Unset (Ptr s o) k g h = absurd g
kind_below-trans Unset (Map j) k g h = absurd g
kind_below-trans (Num a) q Unset g h = tt
kind_below-trans (Num a) Unset (Num c) g h = absurd h
kind_below-trans (Num a) Unset (Ptr t o) g h = absurd h
kind_below-trans (Num a) Unset (Map l) g h = absurd h
kind_below-trans (Num a) (Num b) (Num c) g h = record { above = omega (arith, g, h); below = omega (arith, g, h) }
kind_below-trans (Num a) (Num b) (Ptr t o) g h = absurd h
kind_below-trans (Num a) (Num b) (Map l) g h = absurd h
kind_below-trans (Num a) (Ptr s o) (Num c) g h = absurd g
kind_below-trans (Num a) (Ptr s o) (Ptr t o') g h = absurd g
kind_below-trans (Num a) (Ptr s o) (Map l) g h = absurd g
kind_below-trans (Num a) (Map j) (Num c) g h = absurd g
kind_below-trans (Num a) (Map j) (Ptr t o) g h = absurd g
kind_below-trans (Num a) (Map j) (Map l) g h = absurd g
kind_below-trans (Ptr r a) q Unset g h = tt
kind_below-trans (Ptr r a) Unset (Num c) g h = absurd h
kind_below-trans (Ptr r a) Unset (Ptr t c) g h = absurd h
kind_below-trans (Ptr r a) Unset (Map l) g h = absurd h
kind_below-trans (Ptr r a) (Num b) (Num c) g h = absurd g
kind_below-trans (Ptr r a) (Num b) (Ptr t c) g h = absurd g
kind_below-trans (Ptr r a) (Num b) (Map l) g h = absurd g
kind_below-trans (Ptr r a) (Ptr s b) (Num c) g h = absurd h
kind_below-trans (Ptr r a) (Ptr s b) (Ptr t c) g h =
    (same_region-trans r s t g.0 h.0, record { above = omega (arith, ints, g.1, h.1); below = omega (arith, ints, g.1, h.1) })
kind_below-trans (Ptr r a) (Ptr s b) (Map l) g h = absurd h
kind_below-trans (Ptr r a) (Map j) (Num c) g h = absurd g
kind_below-trans (Ptr r a) (Map j) (Ptr t c) g h = absurd g
kind_below-trans (Ptr r a) (Map j) (Map l) g h = absurd g
kind_below-trans (Map i) q Unset g h = tt
kind_below-trans (Map i) Unset (Num c) g h = absurd h
kind_below-trans (Map i) Unset (Ptr t c) g h = absurd h
kind_below-trans (Map i) Unset (Map l) g h = absurd h
kind_below-trans (Map i) (Num b) (Num c) g h = absurd g
kind_below-trans (Map i) (Num b) (Ptr t c) g h = absurd g
kind_below-trans (Map i) (Num b) (Map l) g h = absurd g
kind_below-trans (Map i) (Ptr s b) (Num c) g h = absurd g
kind_below-trans (Map i) (Ptr s b) (Ptr t c) g h = absurd g
kind_below-trans (Map i) (Ptr s b) (Map l) g h = absurd g
kind_below-trans (Map i) (Map j) (Num c) g h = absurd h
kind_below-trans (Map i) (Map j) (Ptr t c) g h = absurd h
kind_below-trans (Map i) (Map j) (Map l) g h = g ∙ h

-- what fits a kind fits every kind above it
pub fits_above : (v : Value) (p q : AbsKind) → IsKindBelow p q → FitsKind v p → FitsKind v q
fits_above v p Unset h f = tt
fits_above v Unset (Num b) h f = absurd h
fits_above v Unset (Ptr s b) h f = absurd h
fits_above v Unset (Map j) h f = absurd h
fits_above v (Ptr r a) (Num b) h f = absurd h
fits_above v (Map i) (Num b) h f = absurd h
fits_above v (Num a) (Ptr s b) h f = absurd h
fits_above v (Map i) (Ptr s b) h f = absurd h
fits_above v (Num a) (Map j) h f = absurd h
fits_above v (Ptr r a) (Map j) h f = absurd h
fits_above Nothing (Num a) (Num b) h f = absurd f
fits_above (Number n) (Num a) (Num b) h f = record { above = omega (arith, h, f); below = omega (arith, h, f); word = f.word }
fits_above (Pointer t z) (Num a) (Num b) h f = absurd f
fits_above (MapOf i) (Num a) (Num b) h f = absurd f
fits_above Nothing (Ptr r a) (Ptr s b) h f = absurd f
fits_above (Number n) (Ptr r a) (Ptr s b) h f = absurd f
fits_above (Pointer t z) (Ptr r a) (Ptr s b) h f =
    (f.0 ∙ region_from_test r s h.0, record { above = omega (arith, ints, h.1, f.1); below = omega (arith, ints, h.1, f.1) })
fits_above (MapOf i) (Ptr r a) (Ptr s b) h f = absurd f
fits_above Nothing (Map i) (Map j) h f = absurd f
fits_above (Number n) (Map i) (Map j) h f = absurd f
fits_above (Pointer t z) (Map i) (Map j) h f = absurd f
fits_above (MapOf l) (Map i) (Map j) h f = f ∙ h

read_above : (o : Option ℕ) (p q : Range) → IsWithin p q → IsReadIn o p → IsReadIn o q
read_above None p q h f = absurd f
read_above (Some n) p q h f = record { above = omega (arith, h, f); below = omega (arith, h, f); word = f.word }

pub below_fits : BelowFits
below_fits s a b h f =
    record {
      registers = λ k. fits_above (s.registers k) (kind_at a k) (kind_at b k) (h.kinds k) (f.registers k);
      bytes = λ place m. f.bytes place (h.marks place m);
      words = λ place m.
          read_above (little_endian s.stack 8 (8 * place)) (range_at a place) (range_at b place) (h.ranges place)
          (f.words place (still_marked b.marks a.marks (8 * place) 8 h.marks m));
    }

pub below_is_reflexive : BelowIsReflexive
below_is_reflexive a =
    record { kinds = λ k. kind_below-refl (kind_at a k); marks = λ place m. m; ranges = λ k. record { above = omega arith; below = omega arith } }

pub below_is_transitive : BelowIsTransitive
below_is_transitive a b c g h =
    record {
      kinds = λ k. kind_below-trans (kind_at a k) (kind_at b k) (kind_at c k) (g.kinds k) (h.kinds k);
      marks = λ place m. g.marks place (h.marks place m);
      ranges = λ k. record { above = omega (arith, g.ranges k, h.ranges k); below = omega (arith, g.ranges k, h.ranges k) };
    }

-- two offsets that are in order both ways are one
int_antisym : (a b : ℤ) → a ≤ℤ b → b ≤ℤ a → a ≡ b
int_antisym a b g h = omega (arith, ints)

pair_same : (A : Type 0) (a b : A × A) → a.0 ≡ b.0 → a.1 ≡ b.1 → a ≡ b
pair_same A a b e f = ap (λ (x : A). (x, a.1)) e ∙ ap (λ (y : A). (b.0, y)) f

kind_antisym : (p q : AbsKind) → IsKindBelow p q → IsKindBelow q p → p ≡ q
kind_antisym Unset Unset g h = refl
kind_antisym Unset (Num b) g h = absurd g
kind_antisym Unset (Ptr s b) g h = absurd g
kind_antisym Unset (Map j) g h = absurd g
kind_antisym (Num a) Unset g h = absurd h
kind_antisym (Num a) (Num b) g h =
    ap Num (pair_same ℕ a b (omega (arith, g, h)) (omega (arith, g, h)))
kind_antisym (Num a) (Ptr s b) g h = absurd g
kind_antisym (Num a) (Map j) g h = absurd g
kind_antisym (Ptr r a) Unset g h = absurd h
kind_antisym (Ptr r a) (Num b) g h = absurd g
kind_antisym (Ptr r a) (Ptr s b) g h =
    let e : r ≡ s = region_from_test r s g.0 in
    let f : a ≡ b = pair_same ℤ a b (int_antisym a.0 b.0 h.1.above g.1.above) (int_antisym a.1 b.1 g.1.below h.1.below) in
    cc
kind_antisym (Ptr r a) (Map j) g h = absurd g
kind_antisym (Map i) Unset g h = absurd h
kind_antisym (Map i) (Num b) g h = absurd g
kind_antisym (Map i) (Ptr s b) g h = absurd g
kind_antisym (Map i) (Map j) g h = ap Map g

mark_antisym : (x y : Bool) → (y ≡ true → x ≡ true) → (x ≡ true → y ≡ true) → x ≡ y
mark_antisym true y g h = sym (h refl)
mark_antisym false true g h = g refl
mark_antisym false false g h = refl

pub below_is_antisymmetric : BelowIsAntisymmetric
below_is_antisymmetric a b g h =
    record {
      kinds = λ k. kind_antisym (kind_at a k) (kind_at b k) (g.kinds k) (h.kinds k);
      marks = λ p. mark_antisym (mark_at a.marks p) (mark_at b.marks p) (g.marks p) (h.marks p);
      ranges = λ k. pair_same ℕ (range_at a k) (range_at b k) (omega (arith, g.ranges k, h.ranges k)) (omega (arith, g.ranges k, h.ranges k));
    }
