use Rattle.charts.proofs.RuleShapes.{region_by}
use Rattle.charts.proofs.Witnesses.{is_used_kind}
use Rattle.std.proofs.Common.{◌-◌}
use Rattle.charts.proofs.shapes.region_of.Goals as goal

pub returns : goal.returns
returns c = λ p has.
    region_by c.args.rule.now p c.kinds_of-kinds.result c.bytes_of-keys.result c.bytes_of-initiators.result c.bytes_of-extended.result c.from.result c.from-2.result c.from.ensures c.from-2.ensures has
    (c.kinds_of-kinds.ensures p.kind (is_used_kind p.kind (p.last - p.first) has.span.distance)) (c.bytes_of-keys.ensures p.key has.key) (c.bytes_of-initiators.ensures p.initiator has.initiator)
    (c.bytes_of-extended.ensures p.extended has.extended)
