-- Regions whose points all lie in another, as each of their fields shows.
use Rattle.std.proofs.Common.{◌≡◌, ◌≤◌, ◌<◌, ℕ, Bool, true, false, ◌&&◌, ◌||◌, not, sym, ◌∙◌, refl, arith}
use Rattle.std.specs.Prelude.{MatchBool, MatchOption, Option, Some, None, is_none}
use Rattle.rmap.specs.declared.kind.Kind.{Kind}
use Rattle.rmap.specs.declared.kind.Kind.TheVariants as kind
use Rattle.regions.specs.ByteSets.{HasEachByte, IsLeastByte, has_byte}
use Rattle.regions.specs.Points.{HasCommand, HasEachAddress, lies_on}
use Rattle.regions.specs.Regions.{HasEachKind, LiesWithin, is_one_of, lies_in}
use Rattle.regions.specs.declared.byte_sets.ByteSet.{ByteSet}
use Rattle.regions.specs.declared.points.Point.{Point}
use Rattle.regions.specs.declared.regions.Kinds.{Kinds}
use Rattle.regions.specs.declared.regions.PointRegion.{PointRegion}
use Rattle.regions.specs.declared.stretches.Stretch.{Stretch}
use Rattle.regions.proofs.Lying.{lies, lies_back, on, on_back}

of_rest : (s t : Bool) → (s && not t) ≡ false → s ≡ true → t ≡ true
of_rest true true e h = refl
of_rest true false e h = absurd (cc)
of_rest false t e h = absurd (cc)

-- no byte is left of those that are not in the other set
pub each_byte : (one other rest : ByteSet) (o : Option ℕ) → ((byte : ℕ) → byte < 256 → has_byte rest byte ≡ (has_byte one byte && not (has_byte other byte)))
    → MatchOption o ((byte : ℕ) → byte < 256 → has_byte rest byte ≡ false) (IsLeastByte rest) → MatchBool (is_none o) (HasEachByte one other) (Unit {0})
each_byte one other rest None same none = λ byte fits has. of_rest (has_byte one byte) (has_byte other byte) (sym (same byte fits) ∙ none byte fits) has
each_byte one other rest (Some byte) same least = tt

-- the other stretch begins before and ends after
pub each_address : (one other : Stretch) → other.start ≤ one.start → one.end ≤ other.end → HasEachAddress one other
each_address one other start end address there =
    let at = on one address there in
    on_back other address (omega (arith, start, at.0)) (omega (arith, end, at.1))

-- each kind that is there is in the other set
pub each_kind : (one other : Kinds) → (one.read ≡ true → other.read ≡ true) → (one.write ≡ true → other.write ≡ true) → (one.rmw ≡ true → other.rmw ≡ true) → HasEachKind one other
each_kind one other read write rmw kind.Read has = read has
each_kind one other read write rmw kind.Write has = write has
each_kind one other read write rmw kind.Rmw has = rmw has
each_kind one other read write rmw kind.Unused has = absurd (cc)

-- each field shows it
pub within : (one other : PointRegion) (t : Bool) → HasEachAddress one.first other.first → HasEachAddress one.last other.last → HasEachByte one.keys other.keys → HasEachByte one.initiators other.initiators
    → HasEachByte one.extended other.extended → MatchBool t (HasEachKind one.kinds other.kinds) (Unit {0}) → MatchBool t (LiesWithin one other) (Unit {0})
within one other false first last keys initiators extended kinds = tt
within one other true first last keys initiators extended kinds = λ p has e.
    let own = lies one p e in
    lies_back other p (record {
      kind = kinds p.kind own.kind;
      key = keys p.key has.key own.key;
      initiator = initiators p.initiator has.initiator own.initiator;
      extended = extended p.extended has.extended own.extended;
      first = first p.first own.first;
      last = last p.last own.last;
    })
