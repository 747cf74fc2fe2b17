-- By which rule a table decides at a point.
use Rattle.std.specs.Prelude.{◌≡◌, ◌<◌, get_or, length, ◌&&◌, ◌||◌, ◌++◌, ℕ, zero, suc, Bool, false, true, not, nat_lt, if◌then◌else◌, List, [], ◌∷◌, Option, Some, None}
use Rattle.policy_table.specs.Meaning.{AreAnswerWords}
use Rattle.policy_table.specs.declared.rules.Quota.{Quota}
use Rattle.policy_table.specs.declared.rules.Rule.{Rule}
use Rattle.regions.specs.Questions.{HoldsAll, IsFound}
use Rattle.regions.specs.declared.points.Point.{Point}
use Rattle.charts.specs.Alike.{AreLimited, held}
use Rattle.charts.specs.Points.{decision_at, holds_at}
use Rattle.charts.specs.Tickets.{AreTickets, least_from}

-- a rule that holds decides, unless it draws a ticket that is not below its limit
abbrev pub by_quota : Option Quota → (place : ℕ) → (reported : ℕ → ℕ) → (rest : Option ℕ) → Option ℕ
by_quota None place reported rest = Some place
by_quota (Some quota) place reported rest = if nat_lt (reported 0) quota.limit then Some place else rest

-- the place of the rule that decides, if the first has this one; `told` are the answers in order
abbrev pub decider_from : (place : ℕ) → List Rule → Point → (reported : ℕ → ℕ) → Option ℕ
decider_from place [] p reported = None
decider_from place (rule ∷ rules) p reported =
    if holds_at rule p
    then by_quota rule.quota place reported (decider_from (suc place) rules p (λ k. reported (suc k)))
    else decider_from (suc place) rules p reported

-- for some tickets the rule of that place, from 0 on, decides at the point
pub record Decides (rules : List Rule) (place : ℕ) (p : Point) : Type 0 where
  pub reported : ℕ → ℕ
  pub words : AreAnswerWords reported
  pub tickets : AreTickets (decision_at rules p reported).0
  pub decider : decider_from 0 rules p reported ≡ Some place

-- it decides for no tickets
abbrev pub NeverDecides : List Rule → (place : ℕ) → Point → Type 0
NeverDecides rules place p =
    (reported : ℕ → ℕ) → AreTickets (decision_at rules p reported).0 → ¬ (decider_from 0 rules p reported ≡ Some place)

-- whether a rule that holds may let the rules after it decide
abbrev pub lets_pass : Option Quota → Bool
lets_pass None = false
lets_pass (Some quota) = true

-- whether a rule that holds may decide, after rules that hold and did not match: they leave some ticket of its cell
-- below its limit
abbrev pub has_room_to_decide : Option Quota → (passed : List Rule) → Bool
has_room_to_decide None passed = true
has_room_to_decide (Some quota) passed = nat_lt (least_from 0 passed quota.map quota.cell) quota.limit

-- whether the rule this many places on may decide, after rules that hold and did not match
abbrev pub may_decide : (passed : List Rule) → (places : ℕ) → List Rule → Point → Bool
may_decide passed places [] p = false
may_decide passed zero (rule ∷ rules) p = holds_at rule p && has_room_to_decide rule.quota passed
may_decide passed (suc places) (rule ∷ rules) p =
    (not (holds_at rule p) || lets_pass rule.quota) && may_decide (passed ++ held p (rule ∷ [])) places rules p

-- no command has a point at which the rule of that place decides, whatever the tickets are
abbrev pub NeverMatches : List Rule → (place : ℕ) → Type 0
NeverMatches rules place = HoldsAll (NeverDecides rules place)

-- at some point of a command it decides, for some tickets
pub record Matches (rules : List Rule) (place : ℕ) : Type 0 where
  pub point : Point
  pub found : IsFound (Decides rules place) point

-- if the limits are such as a table has, it decides at the point
abbrev pub DecidesWithinLimits : List Rule → (place : ℕ) → Point → Type 0
DecidesWithinLimits rules place p = AreLimited rules → Decides rules place p

-- the rule of a number is before a place and has no quota
pub record StopsBefore (rules : List Rule) (number place : ℕ) : Type 0 where
  pub before : number < place
  pub there : number < length rules
  pub free : (d : Rule) → (get_or rules number d).quota ≡ None
