-- Regions that have no point of a command together, as one of their fields shows.
use Rattle.std.proofs.Common.{◌≡◌, Bool, true, false, ◌&&◌, sym, ◌∙◌}
use Rattle.std.specs.Prelude.{MatchBool, not, MatchOption, Option, Some, None, is_some}
use Rattle.regions.specs.ByteSets.{HaveNoByte}
use Rattle.regions.specs.Points.{HasCommand, HaveNoAddress}
use Rattle.regions.specs.Regions.{AreApart, IsBare, IsCommandIn, lies_in}
use Rattle.regions.specs.declared.points.Point.{Point}
use Rattle.regions.specs.declared.regions.PointRegion.{PointRegion}
use Rattle.regions.proofs.Lying.{joined, lies}

pub by_keys : (one other : PointRegion) → HaveNoByte one.keys other.keys → AreApart one other
by_keys one other none p has e f = none p.key has.key (lies one p e).key (lies other p f).key

pub by_initiators : (one other : PointRegion) → HaveNoByte one.initiators other.initiators → AreApart one other
by_initiators one other none p has e f = none p.initiator has.initiator (lies one p e).initiator (lies other p f).initiator

pub by_extended : (one other : PointRegion) → HaveNoByte one.extended other.extended → AreApart one other
by_extended one other none p has e f = none p.extended has.extended (lies one p e).extended (lies other p f).extended

pub by_first : (one other : PointRegion) → HaveNoAddress one.first other.first → AreApart one other
by_first one other none p has e f = none p.first (lies one p e).first (lies other p f).first

pub by_last : (one other : PointRegion) → HaveNoAddress one.last other.last → AreApart one other
by_last one other none p has e f = none p.last (lies one p e).last (lies other p f).last

-- the last test is negated
pub by_last_test : (one other : PointRegion) (t : Bool) → MatchBool t (Unit {0}) (HaveNoAddress one.last other.last) → MatchBool (not t) (AreApart one other) (Unit {0})
by_last_test one other true h = tt
by_last_test one other false h = by_last one other h

-- if a region of the points of both is bare
pub by_both : (one other both : PointRegion) (o : Option Point) → ((p : Point) → HasCommand p → lies_in both p ≡ (lies_in one p && lies_in other p)) → MatchOption o (IsBare both) (IsCommandIn both)
    → MatchBool (is_some o) (Unit {0}) (AreApart one other)
by_both one other both None is bare = λ p has e f. absurd (cc (sym (bare p has) ∙ is p has ∙ joined (lies_in one p) (lies_in other p) e f))
by_both one other both (Some q) is found = tt
