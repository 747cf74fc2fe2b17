-- The part of a header that a policy table looks at, and where two tables decide alike.
use Rattle.std.specs.Prelude.{◌≡◌, ◌<◌, ◌&&◌, ℕ, suc, Bool, nat_le, if◌then◌else◌, List, [], ◌∷◌, ◌++◌, get_or, length, map}
use Rattle.machine.specs.declared.calls.Call.{Call}
use Rattle.machine.specs.Memory.{Header}
use Rattle.rmap.specs.declared.verdict.Verdict.TheVariants.{NotAuthorised}
use Rattle.rmap.specs.Verdict.{verdict_number}
use Rattle.rmap.specs.Command.{address_of, command_kind, extended_of, initiator_of, key_of}
use Rattle.policy_table.specs.Meaning.{AreAnswerWords, agrees, fields_of, agrees_with_kind, last_address_of, ruled}
use Rattle.policy_table.specs.declared.rules.Rule.{Rule}
use Rattle.charts.specs.Tickets.{AreTickets, AreTicketsOfOne}
use Rattle.regions.specs.Points.{HasCommand}
use Rattle.regions.specs.declared.points.Point.{Point}

-- the part of a header that a rule looks at
abbrev pub header_point_of : Header → Point
header_point_of h = record {
  kind = command_kind (fields_of h);
  key = key_of (fields_of h);
  initiator = initiator_of (fields_of h);
  extended = extended_of (fields_of h);
  first = address_of (fields_of h);
  last = last_address_of (fields_of h);
}

-- whether the conditions of a rule hold at a point
abbrev pub holds_at : Rule → Point → Bool
holds_at rule p =
    agrees_with_kind rule.kind p.kind && agrees rule.key p.key && agrees rule.initiator p.initiator
    && agrees rule.extended p.extended && (nat_le rule.low p.first && nat_le p.last rule.high)

-- the same test for each rule
abbrev pub tests_of : List Rule → List (Point → Bool)
tests_of rules = map (λ rule. holds_at rule) rules

-- the decision of a table at a point: that of each header there
abbrev pub decision_at : List Rule → Point → (reported : ℕ → ℕ) → List Call × ℕ
decision_at [] p reported = ([], verdict_number NotAuthorised)
decision_at (rule ∷ rules) p reported =
    if holds_at rule p
    then ruled rule.quota (verdict_number rule.verdict) reported (decision_at rules p (λ k. reported (suc k)))
    else decision_at rules p reported

-- two tables decide alike at a point: whatever tickets one of them gets, they make the same draws and give the same
-- verdict
abbrev pub DecideAlike : (old new : List Rule) → Point → Type 0
DecideAlike old new p =
    (reported : ℕ → ℕ) → AreTicketsOfOne (decision_at old p reported).0 (decision_at new p reported).0
    → decision_at old p reported ≡ decision_at new p reported

-- they do not, for some tickets
pub record Differ (old new : List Rule) (p : Point) : Type 0 where
  pub reported : ℕ → ℕ
  pub words : AreAnswerWords reported
  pub old_tickets : AreTickets (decision_at old p reported).0
  pub new_tickets : AreTickets (decision_at new p reported).0
  pub differ : ¬ (decision_at old p reported ≡ decision_at new p reported)

-- some command has the point, and there two tables decide differently
pub record IsDifference (old new : List Rule) (p : Point) : Type 0 where
  pub command : HasCommand p
  pub differ : Differ old new p

-- the rule of that number of two tables, one after the other
pub record IsRuleAt (old new : List Rule) (number : ℕ) (rule : Rule) : Type 0 where
  pub there : number < length (old ++ new)
  pub own : (d : Rule) → get_or (old ++ new) number d ≡ rule
