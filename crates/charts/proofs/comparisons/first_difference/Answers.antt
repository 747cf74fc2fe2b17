use Rattle.std.proofs.Common.{◌≡◌, arith, true}
use Rattle.charts.specs.Alike.{DifferWithinLimits}
use Rattle.charts.specs.Points.{DecideAlike}
use Rattle.charts.specs.Same.{AreSame, IsDifferenceIn}
use Rattle.regions.specs.Questions.{HoldsAll, IsFound}
use Rattle.regions.specs.Regions.{lies_in}
use Rattle.charts.proofs.RuleShapes.{settled, turned_of}
use Rattle.charts.proofs.Whole.{whole}
use Rattle.charts.proofs.comparisons.first_difference.Goals as goal

pub search-requires-clause-settled : goal.search-requires-clause-settled
search-requires-clause-settled c = settled c.args.asked.now c.args.old.now c.args.new.now

pub returns : goal.returns
returns c =
    let asked = c.args.asked.now in
    let old = c.args.old.now in
    let new = c.args.new.now in
    turned_of c.search.result (HoldsAll (λ p. lies_in asked p ≡ true → DecideAlike old new p)) (AreSame asked old new)
    (IsFound (λ p. (lies_in asked p ≡ true) × DifferWithinLimits old new p)) (IsDifferenceIn asked old new) (whole asked old new)
    (λ p found. record {
      lies = found.answer.0;
      is = record { command = found.command; differ = found.answer.1 (record { limits = c.requires.old_limits; few = omega arith }) (record { limits = c.requires.new_limits; few = omega arith }) };
    }) c.search.ensures
