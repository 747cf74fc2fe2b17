-- The conditions of a region, one by one.
use Rattle.std.proofs.Common.{◌≡◌, ◌≤◌, ◌<◌, ◌&&◌, ℕ, suc, Bool, true, false, refl, ap, sym, subst, ◌∙◌, arith}
use Rattle.std.specs.Prelude.{nat_le, nat_lt}
use Rattle.std.proofs.lemmas.Bool.Decides.{nat_tests}
use Rattle.regions.specs.ByteSets.{has_byte}
use Rattle.regions.specs.Points.{HasCommand, lies_on}
use Rattle.regions.specs.Regions.{IsBare, is_one_of, lies_in, meets, meets_last, side_of}
use Rattle.regions.specs.declared.points.Point.{Point}
use Rattle.regions.specs.declared.regions.PointRegion.{PointRegion}
use Rattle.regions.specs.declared.sides.Side.{Side}
use Rattle.regions.specs.declared.stretches.Stretch.{Stretch}

pub parts : (s t : Bool) → (s && t) ≡ true → (s ≡ true) × (t ≡ true)
parts true t e = (refl, e)
parts false t e = absurd (cc)

pub joined : (s t : Bool) → s ≡ true → t ≡ true → (s && t) ≡ true
joined true t e f = f
joined false t e f = absurd (cc)

pub false_of : (t : Bool) → (t ≡ true → ⊥) → t ≡ false
false_of true h = absurd (h refl)
false_of false h = refl

-- the point meets each condition
pub record Lies (region : PointRegion) (p : Point) : Type 0 where
  pub kind : is_one_of region.kinds p.kind ≡ true
  pub key : has_byte region.keys p.key ≡ true
  pub initiator : has_byte region.initiators p.initiator ≡ true
  pub extended : has_byte region.extended p.extended ≡ true
  pub first : lies_on region.first p.first ≡ true
  pub last : lies_on region.last p.last ≡ true

pub lies : (region : PointRegion) (p : Point) → lies_in region p ≡ true → Lies region p
lies region p e =
    let k = parts (is_one_of region.kinds p.kind) _ e in
    let l = parts (has_byte region.keys p.key) _ k.1 in
    let m = parts (has_byte region.initiators p.initiator) _ l.1 in
    let n = parts (has_byte region.extended p.extended) _ m.1 in
    let f = parts (nat_le region.first.start p.first) _ n.1 in
    let g = parts (nat_lt p.first region.first.end) _ f.1 in
    let i = parts (nat_le region.last.start p.last) _ g.1 in
    let j = parts (nat_lt p.last region.last.end) true i.1 in
    record {
      kind = k.0;
      key = l.0;
      initiator = m.0;
      extended = n.0;
      first = joined (nat_le region.first.start p.first) (nat_lt p.first region.first.end) f.0 g.0;
      last = joined (nat_le region.last.start p.last) (nat_lt p.last region.last.end) i.0 j.0;
    }

pub lies_back : (region : PointRegion) (p : Point) → Lies region p → lies_in region p ≡ true
lies_back region p l =
    let f = parts (nat_le region.first.start p.first) (nat_lt p.first region.first.end) l.first in
    let g = parts (nat_le region.last.start p.last) (nat_lt p.last region.last.end) l.last in
    joined (is_one_of region.kinds p.kind) _ l.kind
    (joined (has_byte region.keys p.key) _ l.key
    (joined (has_byte region.initiators p.initiator) _ l.initiator
    (joined (has_byte region.extended p.extended) _ l.extended
    (joined (nat_le region.first.start p.first) _ f.0
    (joined (nat_lt p.first region.first.end) _ f.1
    (joined (nat_le region.last.start p.last) _ g.0
    (joined (nat_lt p.last region.last.end) true g.1 refl)))))))

pub bare_by : (region : PointRegion) → ((p : Point) → HasCommand p → Lies region p → ⊥) → IsBare region
bare_by region h p has = false_of (lies_in region p) (λ e. h p has (lies region p e))

-- an address on a stretch
pub on : (stretch : Stretch) (address : ℕ) → lies_on stretch address ≡ true → (stretch.start ≤ address) × (address < stretch.end)
on stretch address e =
    let both = parts (nat_le stretch.start address) (nat_lt address stretch.end) e in
    (from stretch.start address both.0, below address stretch.end both.1)
  where
    from : (a b : ℕ) → nat_le a b ≡ true → a ≤ b
    from a b t = grind (arith, nat_tests)

    below : (a b : ℕ) → nat_lt a b ≡ true → a < b
    below a b t = grind (arith, nat_tests)

pub on_back : (stretch : Stretch) (address : ℕ) → stretch.start ≤ address → address < stretch.end → lies_on stretch address ≡ true
on_back stretch address le lt = joined (nat_le stretch.start address) (nat_lt address stretch.end) (from stretch.start address le) (below address stretch.end lt)
  where
    from : (a b : ℕ) → a ≤ b → nat_le a b ≡ true
    from a b t = grind (arith, nat_tests)

    below : (a b : ℕ) → a < b → nat_lt a b ≡ true
    below a b t = grind (arith, nat_tests)

-- a condition beside those of a region, and then `n` more, are one more than `n`
pub met_more : (region inside result shape : PointRegion) (p : Point) (n left : ℕ) (side : Side) → left ≡ suc n → side ≡ side_of left → lies_in inside p ≡ (lies_in region p && meets side shape p)
    → lies_in result p ≡ (lies_in inside p && meets_last n shape p) → lies_in result p ≡ (lies_in region p && meets_last left shape p)
met_more region inside result shape p n left side one own e f =
    subst (λ (k : ℕ). lies_in result p ≡ (lies_in region p && meets_last k shape p)) (sym one)
    (f ∙ ap (λ (t : Bool). t && meets_last n shape p) e ∙ grouped (lies_in region p) (meets side shape p) (meets_last n shape p)
    ∙ ap (λ (s : Side). lies_in region p && (meets s shape p && meets_last n shape p)) (own ∙ ap side_of one))
  where
    grouped : (a b c : Bool) → ((a && b) && c) ≡ (a && (b && c))
    grouped true b c = refl
    grouped false b c = refl
