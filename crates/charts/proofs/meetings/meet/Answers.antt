use Rattle.std.proofs.Common.{◌≡◌, Bool, false, subst, sym, true}
use Rattle.std.specs.Prelude.{MatchBool}
use Rattle.regions.specs.Questions.{HoldsOn, IsFound}
use Rattle.charts.specs.Meetings.{Meet, NeverMeet, meet_at}
use Rattle.charts.proofs.Meeting.{meeting_settled, some_by}
use Rattle.charts.proofs.Stopping.{meeting_inside, weaker_none}
use Rattle.charts.proofs.meetings.meet.Goals as goal

pub search_in-requires-clause-settled : goal.search_in-requires-clause-settled
search_in-requires-clause-settled c = meeting_settled c.args.asked c.args.ends c.args.place c.args.rules.now

pub returns : goal.returns
returns c =
    let rules = c.args.rules.now in
    let asked = c.args.asked in
    let ends = c.args.ends in
    let place = c.args.place in
    let region = c.both-region.result in
    let none : HoldsOn (λ p. meet_at asked ends place rules p ≡ false) region → NeverMeet asked ends place rules =
    meeting_inside asked ends place rules c.region_at.result c.region_at-2.result region c.region_at.ensures c.region_at-2.ensures c.both-region.ensures in
    let searched = weaker_none c.search_in.result (HoldsOn (λ p. meet_at asked ends place rules p ≡ false) region) (NeverMeet asked ends place rules) (IsFound (λ p. meet_at asked ends place rules p ≡ true)) none c.search_in.ensures in
    subst (λ (t : Bool). MatchBool t (Meet asked ends place rules) (NeverMeet asked ends place rules)) (sym c.is_some.ensures)
    (some_by c.search_in.result (NeverMeet asked ends place rules) (Meet asked ends place rules) (IsFound (λ p. meet_at asked ends place rules p ≡ true)) searched
    (λ p found. record { point = p; found = found }))
