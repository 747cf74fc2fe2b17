use Rattle.std.proofs.Common.{◌≡◌, arith, rules, subst}
use Rattle.job_charts.specs.Missed.{MissesPlaces}
use Rattle.job_charts.proofs.Meeting.{met_at, missed_more}
use Rattle.job_charts.proofs.missed.meets_place.Goals as goal

pub returns-then-is_stopped_by : goal.returns-then-is_stopped_by
returns-then-is_stopped_by c =
    met_at c.args.rules.now c.args.places c.loop-number.number c.is_stopped_by.result (omega (arith, c.loop-number-test.true)) (search rules) c.is_stopped_by.ensures

pub loop-number-preserved : goal.loop-number-preserved
loop-number-preserved c =
    missed_more c.args.rules.now c.args.places c.loop-number.number c.is_stopped_by.result (search rules) c.is_stopped_by.ensures c.loop-number.invariant

pub returns : goal.returns
returns c =
    let all : c.loop-number.number ≡ c.args.places = omega (arith, c.loop-number.auto.number-end, c.loop-number-test.false) in
    subst (λ count. MissesPlaces c.args.rules.now c.args.places count) all c.loop-number.invariant
