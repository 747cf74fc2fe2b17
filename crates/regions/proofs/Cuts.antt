-- One condition of a region made narrower.
use Rattle.std.proofs.Common.{◌≡◌, ◌&&◌, ℕ, max, min, Bool, true, false, not, refl, sym, ap, subst, ◌∙◌, arith}
use Rattle.std.specs.Prelude.{nat_le, nat_lt}
use Rattle.std.proofs.lemmas.Bool.Decides.{nat_tests}
use Rattle.regions.specs.ByteSets.{has_byte}
use Rattle.regions.specs.Regions.{is_one_of, lies_in, meets, meets_last}
use Rattle.regions.specs.declared.byte_sets.ByteSet.{ByteSet}
use Rattle.regions.specs.declared.points.Point.{Point}
use Rattle.regions.specs.declared.regions.Kinds.{Kinds}
use Rattle.regions.specs.declared.regions.PointRegion.{PointRegion}
use Rattle.regions.specs.declared.sides.Side.{Side}
use Rattle.regions.specs.declared.stretches.Stretch.{Stretch}

turned : (a y r : Bool) → ((a && y) && r) ≡ ((a && r) && y)
turned false y r = refl
turned true true true = refl
turned true true false = refl
turned true false true = refl
turned true false false = refl

pub at_kind : (a b r y : Bool) → b ≡ (a && y) → (b && r) ≡ ((a && r) && y)
at_kind a b r y e = ap (λ t. t && r) e ∙ turned a y r

pull : (k r s y : Bool) → s ≡ (r && y) → (k && s) ≡ ((k && r) && y)
pull true r s y e = e
pull false r s y e = refl

pub at_key : (k a b r y : Bool) → b ≡ (a && y) → (k && (b && r)) ≡ ((k && (a && r)) && y)
at_key k a b r y e = pull k (a && r) (b && r) y (at_kind a b r y e)

pub at_initiator : (k l a b r y : Bool) → b ≡ (a && y) → (k && (l && (b && r))) ≡ ((k && (l && (a && r))) && y)
at_initiator k l a b r y e = pull k (l && (a && r)) (l && (b && r)) y (at_key l a b r y e)

pub at_extended : (k l m a b r y : Bool) → b ≡ (a && y) → (k && (l && (m && (b && r)))) ≡ ((k && (l && (m && (a && r)))) && y)
at_extended k l m a b r y e = pull k (l && (m && (a && r))) (l && (m && (b && r))) y (at_initiator l m a b r y e)

pub at_first_from : (k l m n a b r y : Bool) → b ≡ (a && y) → (k && (l && (m && (n && (b && r))))) ≡ ((k && (l && (m && (n && (a && r))))) && y)
at_first_from k l m n a b r y e = pull k (l && (m && (n && (a && r)))) (l && (m && (n && (b && r)))) y (at_extended l m n a b r y e)

pub at_first_before : (k l m n f a b r y : Bool) → b ≡ (a && y) → (k && (l && (m && (n && (f && (b && r)))))) ≡ ((k && (l && (m && (n && (f && (a && r)))))) && y)
at_first_before k l m n f a b r y e = pull k (l && (m && (n && (f && (a && r))))) (l && (m && (n && (f && (b && r))))) y (at_first_from l m n f a b r y e)

pub at_last_from : (k l m n f g a b r y : Bool) → b ≡ (a && y) → (k && (l && (m && (n && (f && (g && (b && r))))))) ≡ ((k && (l && (m && (n && (f && (g && (a && r))))))) && y)
at_last_from k l m n f g a b r y e = pull k (l && (m && (n && (f && (g && (a && r)))))) (l && (m && (n && (f && (g && (b && r)))))) y (at_first_before l m n f g a b r y e)

pub at_last_before : (k l m n f g i a b y : Bool) → b ≡ (a && y) → (k && (l && (m && (n && (f && (g && (i && (b && true)))))))) ≡ ((k && (l && (m && (n && (f && (g && (i && (a && true)))))))) && y)
at_last_before k l m n f g i a b y e = pull k (l && (m && (n && (f && (g && (i && (a && true))))))) (l && (m && (n && (f && (g && (i && (b && true))))))) y (at_last_from l m n f g i a b true y e)

-- ---- regions with another set in one field

module _ (region : PointRegion) (p : Point) (y : Bool) where
  pub kinds_in : (kinds : Kinds) → is_one_of kinds p.kind ≡ (is_one_of region.kinds p.kind && y)
      → lies_in (record { kinds = kinds; keys = region.keys; initiators = region.initiators; extended = region.extended; first = region.first; last = region.last }) p ≡ (lies_in region p && y)
  kinds_in kinds e = at_kind (is_one_of region.kinds p.kind) (is_one_of kinds p.kind) (meets_last 7 region p) y e

  pub keys_in : (keys : ByteSet) → has_byte keys p.key ≡ (has_byte region.keys p.key && y)
      → lies_in (record { kinds = region.kinds; keys = keys; initiators = region.initiators; extended = region.extended; first = region.first; last = region.last }) p ≡ (lies_in region p && y)
  keys_in keys e = at_key (is_one_of region.kinds p.kind) (has_byte region.keys p.key) (has_byte keys p.key) (meets_last 6 region p) y e

  pub initiators_in : (initiators : ByteSet) → has_byte initiators p.initiator ≡ (has_byte region.initiators p.initiator && y)
      → lies_in (record { kinds = region.kinds; keys = region.keys; initiators = initiators; extended = region.extended; first = region.first; last = region.last }) p ≡ (lies_in region p && y)
  initiators_in initiators e =
      at_initiator (is_one_of region.kinds p.kind) (has_byte region.keys p.key) (has_byte region.initiators p.initiator) (has_byte initiators p.initiator) (meets_last 5 region p) y e

  pub extended_in : (extended : ByteSet) → has_byte extended p.extended ≡ (has_byte region.extended p.extended && y)
      → lies_in (record { kinds = region.kinds; keys = region.keys; initiators = region.initiators; extended = extended; first = region.first; last = region.last }) p ≡ (lies_in region p && y)
  extended_in extended e =
      at_extended (is_one_of region.kinds p.kind) (has_byte region.keys p.key) (has_byte region.initiators p.initiator) (has_byte region.extended p.extended) (has_byte extended p.extended)
      (meets_last 4 region p) y e

  -- the conditions of the bytes, and what is left
  abbrev after_bytes : Bool → Bool
  after_bytes t = is_one_of region.kinds p.kind && (has_byte region.keys p.key && (has_byte region.initiators p.initiator && (has_byte region.extended p.extended && t)))

  pub first_start : (first : Stretch) → first.end ≡ region.first.end → nat_le first.start p.first ≡ (nat_le region.first.start p.first && y)
      → lies_in (record { kinds = region.kinds; keys = region.keys; initiators = region.initiators; extended = region.extended; first = first; last = region.last }) p ≡ (lies_in region p && y)
  first_start first end e =
      ap (λ (n : ℕ). after_bytes (nat_le first.start p.first && (nat_lt p.first n && meets_last 2 region p))) end
      ∙ at_first_from (is_one_of region.kinds p.kind) (has_byte region.keys p.key) (has_byte region.initiators p.initiator) (has_byte region.extended p.extended)
      (nat_le region.first.start p.first) (nat_le first.start p.first) (meets_last 3 region p) y e

  pub first_end : (first : Stretch) → first.start ≡ region.first.start → nat_lt p.first first.end ≡ (nat_lt p.first region.first.end && y)
      → lies_in (record { kinds = region.kinds; keys = region.keys; initiators = region.initiators; extended = region.extended; first = first; last = region.last }) p ≡ (lies_in region p && y)
  first_end first start e =
      ap (λ (n : ℕ). after_bytes (nat_le n p.first && (nat_lt p.first first.end && meets_last 2 region p))) start
      ∙ at_first_before (is_one_of region.kinds p.kind) (has_byte region.keys p.key) (has_byte region.initiators p.initiator) (has_byte region.extended p.extended)
      (nat_le region.first.start p.first) (nat_lt p.first region.first.end) (nat_lt p.first first.end) (meets_last 2 region p) y e

  pub last_start : (last : Stretch) → last.end ≡ region.last.end → nat_le last.start p.last ≡ (nat_le region.last.start p.last && y)
      → lies_in (record { kinds = region.kinds; keys = region.keys; initiators = region.initiators; extended = region.extended; first = region.first; last = last }) p ≡ (lies_in region p && y)
  last_start last end e =
      ap (λ (n : ℕ). after_bytes (nat_le region.first.start p.first && (nat_lt p.first region.first.end && (nat_le last.start p.last && (nat_lt p.last n && true))))) end
      ∙ at_last_from (is_one_of region.kinds p.kind) (has_byte region.keys p.key) (has_byte region.initiators p.initiator) (has_byte region.extended p.extended)
      (nat_le region.first.start p.first) (nat_lt p.first region.first.end) (nat_le region.last.start p.last) (nat_le last.start p.last) (meets_last 1 region p) y e

  pub last_end : (last : Stretch) → last.start ≡ region.last.start → nat_lt p.last last.end ≡ (nat_lt p.last region.last.end && y)
      → lies_in (record { kinds = region.kinds; keys = region.keys; initiators = region.initiators; extended = region.extended; first = region.first; last = last }) p ≡ (lies_in region p && y)
  last_end last start e =
      ap (λ (n : ℕ). after_bytes (nat_le region.first.start p.first && (nat_lt p.first region.first.end && (nat_le n p.last && (nat_lt p.last last.end && true))))) start
      ∙ at_last_before (is_one_of region.kinds p.kind) (has_byte region.keys p.key) (has_byte region.initiators p.initiator) (has_byte region.extended p.extended)
      (nat_le region.first.start p.first) (nat_lt p.first region.first.end) (nat_le region.last.start p.last) (nat_lt p.last region.last.end) (nat_lt p.last last.end) y e

pub by_side : (region shape : PointRegion) (p : Point) (side own : Side) (t : Bool) → side ≡ own → t ≡ (lies_in region p && meets own shape p) → t ≡ (lies_in region p && meets side shape p)
by_side region shape p side own t e h = subst (λ (s : Side). t ≡ (lies_in region p && meets s shape p)) (sym e) h

pub by_other_side : (region shape : PointRegion) (p : Point) (side own : Side) (t : Bool) → side ≡ own → t ≡ (lies_in region p && not (meets own shape p)) → t ≡ (lies_in region p && not (meets side shape p))
by_other_side region shape p side own t e h = subst (λ (s : Side). t ≡ (lies_in region p && not (meets s shape p))) (sym e) h

-- ---- stretches

pub from_both : (a b m x : ℕ) → m ≡ max a b → nat_le m x ≡ (nat_le a x && nat_le b x)
from_both a b m x e = grind (arith, nat_tests)

pub below_both : (a b m x : ℕ) → m ≡ min a b → nat_lt x m ≡ (nat_lt x a && nat_lt x b)
below_both a b m x e = grind (arith, nat_tests)

pub not_from : (a b m x : ℕ) → m ≡ min a b → nat_lt x m ≡ (nat_lt x a && not (nat_le b x))
not_from a b m x e = grind (arith, nat_tests)

pub not_below : (a b m x : ℕ) → m ≡ max a b → nat_le m x ≡ (nat_le a x && not (nat_lt x b))
not_below a b m x e = grind (arith, nat_tests)
