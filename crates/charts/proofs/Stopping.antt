-- Rules without quota, and the points of the rule of a place. If a rule without quota holds, none after it is asked.
use Rattle.std.proofs.Common.{◌≡◌, ◌<◌, ◌≤◌, ◌&&◌, ◌||◌, ℕ, zero, suc, Bool, true, false, not, List, [], ◌∷◌, ◌++◌, length, get_or, Option, Some, None, refl, ap, sym, ◌∙◌, arith}
use Rattle.std.specs.Prelude.{MatchBool, MatchOption}
use Rattle.policy_table.specs.declared.rules.Quota.{Quota}
use Rattle.policy_table.specs.declared.rules.Rule.{Rule}
use Rattle.regions.specs.Points.{HasCommand}
use Rattle.regions.specs.Questions.{HoldsAll, HoldsOn, HoldsWhere}
use Rattle.regions.specs.Regions.{lies_in}
use Rattle.regions.specs.declared.points.Point.{Point}
use Rattle.regions.specs.declared.regions.PointRegion.{PointRegion}
use Rattle.charts.specs.Alike.{held}
use Rattle.charts.specs.Deciders.{NeverDecides, StopsBefore, lets_pass, may_decide}
use Rattle.charts.specs.Meetings.{rule_holds_of, is_asked_at, meet_at}
use Rattle.charts.specs.Points.{holds_at, tests_of}
use Rattle.charts.proofs.Deciding.{never_by_test}
use Rattle.charts.proofs.RuleShapes.{tests_at}

no_more : (t : Bool) → (t && false) ≡ false
no_more true = refl
no_more false = refl

stopped_at : (t : Bool) (quota : Option Quota) (rest : Bool) → t ≡ true → quota ≡ None → ((not t || lets_pass quota) && rest) ≡ false
stopped_at t quota rest holds free = rw (holds, free) refl

-- ---- if a rule without quota holds, no rule after it decides, and none is asked

stops_deciding : (passed : List Rule) (number place : ℕ) (rules : List Rule) (d : Rule) (p : Point) → number < place → number < length rules
    → (get_or rules number d).quota ≡ None → holds_at (get_or rules number d) p ≡ true → may_decide passed place rules p ≡ false
stops_deciding passed number place [] d p before there free holds = absurd (omega arith)
stops_deciding passed number zero (rule ∷ rules) d p before there free holds = absurd (omega (arith, before))
stops_deciding passed zero (suc place) (rule ∷ rules) d p before there free holds =
    stopped_at (holds_at rule p) rule.quota (may_decide (passed ++ held p (rule ∷ [])) place rules p) holds free
stops_deciding passed (suc number) (suc place) (rule ∷ rules) d p before there free holds =
    ap (λ (t : Bool). (not (holds_at rule p) || lets_pass rule.quota) && t) (stops_deciding (passed ++ held p (rule ∷ [])) number place rules d p (omega (arith, before)) (omega arith) free holds)
    ∙ no_more (not (holds_at rule p) || lets_pass rule.quota)

stops_asking : (number place : ℕ) (ends : Bool) (rules : List Rule) (d : Rule) (p : Point) → number < place → number < length rules
    → (get_or rules number d).quota ≡ None → holds_at (get_or rules number d) p ≡ true → is_asked_at place ends rules p ≡ false
stops_asking number place ends [] d p before there free holds = absurd (omega arith)
stops_asking number zero ends (rule ∷ rules) d p before there free holds = absurd (omega (arith, before))
stops_asking zero (suc place) ends (rule ∷ rules) d p before there free holds =
    stopped_at (holds_at rule p) rule.quota (is_asked_at place ends rules p) holds free
stops_asking (suc number) (suc place) ends (rule ∷ rules) d p before there free holds =
    ap (λ (t : Bool). (not (holds_at rule p) || lets_pass rule.quota) && t) (stops_asking number place ends rules d p (omega (arith, before)) (omega arith) free holds)
    ∙ no_more (not (holds_at rule p) || lets_pass rule.quota)

some_rule : (rules : List Rule) (number : ℕ) → number < length rules → Rule
some_rule [] number there = absurd (omega arith)
some_rule (rule ∷ rules) number there = rule

never : (rules : List Rule) (place : ℕ) (p : Point) → may_decide [] place rules p ≡ false → NeverDecides rules place p
never rules place p none = never_by_test false rules place p (sym none)

pub deciding_passed : (t : Bool) (rules : List Rule) (number place : ℕ) → MatchBool t (StopsBefore rules number place) (Unit {0})
    → MatchBool t (HoldsWhere (tests_of rules) (NeverDecides rules place) number) (Unit {0})
deciding_passed false rules number place h = h
deciding_passed true rules number place stops = λ t p has there passes.
    let d = some_rule rules number stops.there in
    never rules place p (stops_deciding [] number place rules d p stops.before stops.there (stops.free d) (sym (tests_at rules number d t p stops.there) ∙ passes))

pub meeting_passed : (t : Bool) (asked : ℕ) (ends : Bool) (place : ℕ) (rules : List Rule) (number : ℕ) → MatchBool t (StopsBefore rules number asked) (Unit {0})
    → MatchBool t (HoldsWhere (tests_of rules) (λ p. meet_at asked ends place rules p ≡ false) number) (Unit {0})
meeting_passed false asked ends place rules number h = h
meeting_passed true asked ends place rules number stops = λ t p has there passes.
    let d = some_rule rules number stops.there in
    ap (λ (b : Bool). b && rule_holds_of place rules p) (stops_asking number asked ends rules d p stops.before stops.there (stops.free d) (sym (tests_at rules number d t p stops.there) ∙ passes))

-- ---- the points of the rule of a place

pub held_at : (rules : List Rule) (place : ℕ) (d : Rule) (p : Point) → place < length rules → rule_holds_of place rules p ≡ holds_at (get_or rules place d) p
held_at [] place d p there = absurd (omega arith)
held_at (rule ∷ rules) zero d p there = refl
held_at (rule ∷ rules) (suc place) d p there = held_at rules place d p (omega arith)

pub none_held : (rules : List Rule) (place : ℕ) (p : Point) → length rules ≤ place → rule_holds_of place rules p ≡ false
none_held [] zero p following = refl
none_held [] (suc place) p following = refl
none_held (rule ∷ rules) zero p following = absurd (omega (arith, following))
none_held (rule ∷ rules) (suc place) p following = none_held rules place p (omega (arith, following))

not_deciding : (passed : List Rule) (place : ℕ) (rules : List Rule) (p : Point) → rule_holds_of place rules p ≡ false → may_decide passed place rules p ≡ false
not_deciding passed zero [] p none = refl
not_deciding passed (suc place) [] p none = refl
not_deciding passed zero (rule ∷ rules) p none = rw none refl
not_deciding passed (suc place) (rule ∷ rules) p none =
    ap (λ (t : Bool). (not (holds_at rule p) || lets_pass rule.quota) && t) (not_deciding (passed ++ held p (rule ∷ [])) place rules p none)
    ∙ no_more (not (holds_at rule p) || lets_pass rule.quota)

not_asked : (place : ℕ) (ends : Bool) (rules : List Rule) (p : Point) → rule_holds_of place rules p ≡ false → is_asked_at place ends rules p ≡ false
not_asked zero ends [] p none = refl
not_asked (suc place) ends [] p none = refl
not_asked zero ends (rule ∷ rules) p none = rw none refl
not_asked (suc place) ends (rule ∷ rules) p none =
    ap (λ (t : Bool). (not (holds_at rule p) || lets_pass rule.quota) && t) (not_asked place ends rules p none)
    ∙ no_more (not (holds_at rule p) || lets_pass rule.quota)

-- what holds on a region, and holds outside of it, holds at all points
pub everywhere : (holds : Point → Type 0) (region : PointRegion) → ((p : Point) → HasCommand p → lies_in region p ≡ false → holds p) → HoldsOn holds region → HoldsAll holds
everywhere holds region outside inside p has = by_lies (lies_in region p) refl
  where
    by_lies : (t : Bool) → lies_in region p ≡ t → holds p
    by_lies true lies = inside p has lies
    by_lies false lies = outside p has lies

pub deciding_inside : (rules : List Rule) (place : ℕ) (region : PointRegion) → ((p : Point) → HasCommand p → lies_in region p ≡ false → rule_holds_of place rules p ≡ false)
    → HoldsOn (NeverDecides rules place) region → HoldsAll (NeverDecides rules place)
deciding_inside rules place region outside inside =
    everywhere (NeverDecides rules place) region (λ p has lies. never rules place p (not_deciding [] place rules p (outside p has lies))) inside

pub meeting_inside : (asked : ℕ) (ends : Bool) (place : ℕ) (rules : List Rule) (one other both : PointRegion)
    → ((p : Point) → HasCommand p → lies_in one p ≡ false → rule_holds_of asked rules p ≡ false) → ((p : Point) → HasCommand p → lies_in other p ≡ false → rule_holds_of place rules p ≡ false)
    → ((p : Point) → HasCommand p → lies_in both p ≡ (lies_in one p && lies_in other p))
    → HoldsOn (λ p. meet_at asked ends place rules p ≡ false) both → HoldsAll (λ p. meet_at asked ends place rules p ≡ false)
meeting_inside asked ends place rules one other both out_one out_other is inside =
    everywhere (λ p. meet_at asked ends place rules p ≡ false) both (λ p has lies. apart p has (lies_in one p) (lies_in other p) refl refl (sym (is p has) ∙ lies)) inside
  where
    apart : (p : Point) → HasCommand p → (t u : Bool) → lies_in one p ≡ t → lies_in other p ≡ u → (t && u) ≡ false → meet_at asked ends place rules p ≡ false
    apart p has false u e f h = ap (λ (b : Bool). b && rule_holds_of place rules p) (not_asked asked ends rules p (out_one p has e))
    apart p has true false e f h = ap (λ (b : Bool). is_asked_at asked ends rules p && b) (out_other p has f) ∙ no_more (is_asked_at asked ends rules p)
    apart p has true true e f h = absurd (cc (h))

pub weaker_none : (o : Option Point) (P R : Type 0) (Q : Point → Type 0) → (P → R) → MatchOption o P Q → MatchOption o R Q
weaker_none None P R Q f h = f h
weaker_none (Some p) P R Q f h = h
