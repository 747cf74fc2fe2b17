use Rattle.std.proofs.Common.{not}
use Rattle.std.specs.Prelude.{nat_le, nat_lt}
use Rattle.regions.specs.ByteSets.{has_byte}
use Rattle.regions.specs.Regions.{is_one_of}
use Rattle.regions.specs.declared.sides.Side.TheVariants as side
use Rattle.regions.proofs.Cuts.{by_other_side, extended_in, first_end, first_start, initiators_in, keys_in, kinds_in, last_end, last_start, not_below, not_from}
use Rattle.regions.proofs.regions.PointRegion.outside.Goals as goal

pub returns-in-Kind : goal.returns-in-Kind
returns-in-Kind c = λ p has. by_other_side c.args.self c.args.shape.now p c.args.side side.Kind _ c.in-Kind.is
    (kinds_in c.args.self p (not (is_one_of c.args.shape.now.kinds p.kind)) c.without-left.result (c.without-left.ensures p.kind))

pub returns-in-Key : goal.returns-in-Key
returns-in-Key c = λ p has. by_other_side c.args.self c.args.shape.now p c.args.side side.Key _ c.in-Key.is
    (keys_in c.args.self p (not (has_byte c.args.shape.now.keys p.key)) c.without-left-in-Key.result (c.without-left-in-Key.ensures p.key has.key))

pub returns-in-Initiator : goal.returns-in-Initiator
returns-in-Initiator c = λ p has. by_other_side c.args.self c.args.shape.now p c.args.side side.Initiator _ c.in-Initiator.is
    (initiators_in c.args.self p (not (has_byte c.args.shape.now.initiators p.initiator)) c.without-left-in-Initiator.result (c.without-left-in-Initiator.ensures p.initiator has.initiator))

pub returns-in-Extended : goal.returns-in-Extended
returns-in-Extended c = λ p has. by_other_side c.args.self c.args.shape.now p c.args.side side.Extended _ c.in-Extended.is
    (extended_in c.args.self p (not (has_byte c.args.shape.now.extended p.extended)) c.without-left-in-Extended.result (c.without-left-in-Extended.ensures p.extended has.extended))

pub returns-in-FirstFrom : goal.returns-in-FirstFrom
returns-in-FirstFrom c = λ p has. by_other_side c.args.self c.args.shape.now p c.args.side side.FirstFrom _ c.in-FirstFrom.is
    (first_end c.args.self p (not (nat_le c.args.shape.now.first.start p.first)) c.below-left.result c.below-left.ensures.start
    (not_from c.args.self.first.end c.args.shape.now.first.start c.below-left.result.end p.first c.below-left.ensures.end))

pub returns-in-FirstBefore : goal.returns-in-FirstBefore
returns-in-FirstBefore c = λ p has. by_other_side c.args.self c.args.shape.now p c.args.side side.FirstBefore _ c.in-FirstBefore.is
    (first_start c.args.self p (not (nat_lt p.first c.args.shape.now.first.end)) c.from-left.result c.from-left.ensures.end
    (not_below c.args.self.first.start c.args.shape.now.first.end c.from-left.result.start p.first c.from-left.ensures.start))

pub returns-in-LastFrom : goal.returns-in-LastFrom
returns-in-LastFrom c = λ p has. by_other_side c.args.self c.args.shape.now p c.args.side side.LastFrom _ c.in-LastFrom.is
    (last_end c.args.self p (not (nat_le c.args.shape.now.last.start p.last)) c.below-left-in-LastFrom.result c.below-left-in-LastFrom.ensures.start
    (not_from c.args.self.last.end c.args.shape.now.last.start c.below-left-in-LastFrom.result.end p.last c.below-left-in-LastFrom.ensures.end))

pub returns-in-LastBefore : goal.returns-in-LastBefore
returns-in-LastBefore c = λ p has. by_other_side c.args.self c.args.shape.now p c.args.side side.LastBefore _ c.in-LastBefore.is
    (last_start c.args.self p (not (nat_lt p.last c.args.shape.now.last.end)) c.from-left-in-LastBefore.result c.from-left-in-LastBefore.ensures.end
    (not_below c.args.self.last.start c.args.shape.now.last.end c.from-left-in-LastBefore.result.start p.last c.from-left-in-LastBefore.ensures.start))
