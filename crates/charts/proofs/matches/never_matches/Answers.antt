use Rattle.std.proofs.Common.{Bool, arith, subst}
use Rattle.std.specs.Prelude.{MatchBool}
use Rattle.charts.specs.Deciders.{DecidesWithinLimits, Matches, NeverDecides, NeverMatches}
use Rattle.regions.specs.Questions.{HoldsOn, IsFound}
use Rattle.charts.proofs.Deciding.{never_settled, none_by, turned_twice}
use Rattle.charts.proofs.Stopping.{deciding_inside, weaker_none}
use Rattle.charts.proofs.matches.never_matches.Goals as goal

pub search_in-requires-clause-settled : goal.search_in-requires-clause-settled
search_in-requires-clause-settled c = never_settled c.args.rules.now c.args.place

pub returns : goal.returns
returns c =
    let rules = c.args.rules.now in
    let place = c.args.place in
    let region = c.region_at-region.result in
    let searched = weaker_none c.search_in.result (HoldsOn (NeverDecides rules place) region) (NeverMatches rules place) (IsFound (DecidesWithinLimits rules place)) (deciding_inside rules place region c.region_at-region.ensures) c.search_in.ensures in
    subst (λ (t : Bool). MatchBool t (NeverMatches rules place) (Matches rules place)) (turned_twice _ _ c.is_none.ensures)
    (none_by c.search_in.result (NeverMatches rules place) (Matches rules place) (IsFound (DecidesWithinLimits rules place)) searched
    (λ p found. record { point = p; found = record { command = found.command; answer = found.answer (record { limits = c.requires.limits; few = omega arith }) } }))
