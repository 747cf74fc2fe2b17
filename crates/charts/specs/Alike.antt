-- Whether two courses of rules with quotas are the same, whatever the tickets are.
use Rattle.std.specs.Prelude.{◌≡◌, ◌≤◌, ◌<◌, ◌==◌, ◌&&◌, ◌||◌, ◌++◌, ◌^◌, ℕ, suc, Bool, true, false, max, nat_le, List, [], ◌∷◌, All, drop, length, take, Option, Some, None}
use Rattle.std.specs.List.{filter}
use Rattle.machine.specs.declared.calls.Call.{Call}
use Rattle.rmap.specs.Verdict.{verdict_number}
use Rattle.rmap.specs.declared.verdict.Verdict.TheVariants.{NotAuthorised}
use Rattle.policy_table.specs.Limits.{IsLimited}
use Rattle.policy_table.specs.Meaning.{AreAnswerWords, ruled}
use Rattle.charts.specs.Points.{Differ, decision_at, holds_at}
use Rattle.charts.specs.Tickets.{AreTickets, AreTicketsOfOne, is_of, least_of}
use Rattle.regions.specs.declared.points.Point.{Point}
use Rattle.policy_table.specs.declared.rules.Quota.{Quota}
use Rattle.policy_table.specs.declared.rules.Rule.{Rule}
use Rattle.charts.specs.declared.decisions.NextRule.{NextRule}

-- the rules that hold at a point, in order
abbrev pub held : Point → List Rule → List Rule
held p rules = filter (λ rule. holds_at rule p) rules

-- the decision of rules that hold
abbrev pub said : List Rule → (reported : ℕ → ℕ) → List Call × ℕ
said [] reported = ([], verdict_number NotAuthorised)
said (rule ∷ rules) reported = ruled rule.quota (verdict_number rule.verdict) reported (said rules (λ k. reported (suc k)))

-- the number of the verdict that a rule gives without a draw
abbrev pub stop_of : Option Quota → (code : ℕ) → Option ℕ
stop_of None code = Some code
stop_of (Some quota) code = None

-- the number of the verdict that rules that hold give without a draw
abbrev pub stop : List Rule → Option ℕ
stop [] = Some (verdict_number NotAuthorised)
stop (rule ∷ rules) = stop_of rule.quota (verdict_number rule.verdict)

-- whether they give this one without a draw
abbrev pub stops_with : Option ℕ → (code : ℕ) → Bool
stops_with None code = false
stops_with (Some own) code = own == code

-- whether two draws with their verdicts are the same step, if the ticket is not below the least. They must be of one
-- cell, and have the same verdict if both may match. If one may match without the other, the rules after the other must
-- end with the verdict of the one, without a draw
abbrev pub same_steps : (least : ℕ) (q : Quota) (v : ℕ) (p : Quota) (w : ℕ) (after_q after_p : Option ℕ) → Bool
same_steps least q v p w after_q after_p =
    is_of q p.map p.cell && ((nat_le q.limit least || (nat_le p.limit least || v == w))
    && ((nat_le q.limit (max least p.limit) || stops_with after_p v) && (nat_le p.limit (max least q.limit) || stops_with after_q w)))

-- whether a draw with its verdict is the same step as another rule, of this quota and verdict, and what follows is alike
abbrev pub after_both : (least : ℕ) (q : Quota) (v : ℕ) (following : Option ℕ) (rest : Bool) → Option Quota → (w : ℕ) → (after_other : Option ℕ) → Bool
after_both least q v following rest None w after_other = false
after_both least q v following rest (Some p) w after_other = same_steps least q v p w following after_other && rest

-- whether a rule that holds, of this quota and verdict, and what comes after it decide as other rules do
abbrev pub after_first : (least : (map cell : ℕ) → ℕ) → Option Quota → (v : ℕ) → (following : Option ℕ) → (rest : (other : Rule) → List Rule → Bool) → List Rule → Bool
after_first least None v following rest others = stops_with (stop others) v
after_first least (Some q) v following rest [] = false
after_first least (Some q) v following rest (other ∷ others) =
    after_both (least q.map q.cell) q v following (rest other others) other.quota (verdict_number other.verdict) (stop others)

-- whether two lists of rules that hold decide alike, after rules that hold, drew of the same cells and did not match
abbrev pub alike_after : (olds news : List Rule) → (old new : List Rule) → Bool
alike_after olds news [] others = stops_with (stop others) (verdict_number NotAuthorised)
alike_after olds news (rule ∷ rules) others =
    after_first (least_of olds news) rule.quota (verdict_number rule.verdict) (stop rules)
    (λ other more. alike_after (olds ++ rule ∷ []) (news ++ other ∷ []) rules more) others

-- whether two lists of rules that hold decide alike
abbrev pub alike_said : (old new : List Rule) → Bool
alike_said old new = alike_after [] [] old new

-- the limits of a rule's quota are such as a table has
abbrev pub HasLimit : Rule → Type 0
HasLimit rule = IsLimited rule.quota

-- the limits of rules are such as a table has, and the rules are no more than a list of the code has
pub record AreLimited (rules : List Rule) : Type 0 where
  pub limits : All HasLimit rules
  pub few : length rules < 2 ^ 62

-- they differ for some tickets
pub record DifferSaid (old new : List Rule) : Type 0 where
  pub reported : ℕ → ℕ
  pub words : AreAnswerWords reported
  pub old_tickets : AreTickets (said old reported).0
  pub new_tickets : AreTickets (said new reported).0
  pub differ : ¬ (said old reported ≡ said new reported)

-- they make the same draws and give the same verdict, whatever the tickets are
abbrev pub AreSaidAlike : (old new : List Rule) → Type 0
AreSaidAlike old new =
    (reported : ℕ → ℕ) → AreTicketsOfOne (said old reported).0 (said new reported).0 → said old reported ≡ said new reported

-- the test is exact: if it holds, the draws and the verdict are the same whatever the tickets are, and else not
abbrev pub AlikeIsExact : Type 0
AlikeIsExact =
    (old new : List Rule) → AreLimited old → AreLimited new
    → (alike_said old new ≡ true → AreSaidAlike old new) × (alike_said old new ≡ false → DifferSaid old new)

-- the decision of a table at a point is that of its rules that hold there
abbrev pub HeldDecide : Type 0
HeldDecide = (rules : List Rule) (p : Point) (reported : ℕ → ℕ) → decision_at rules p reported ≡ said (held p rules) reported

-- the first rule after this many that holds at a point, and how many rules there are up to it, itself counted
pub record IsNextRule (p : Point) (rules : List Rule) (from : ℕ) (next : NextRule) : Type 0 where
  pub counted : next.following ≤ length rules
  pub later : from < next.following
  pub first : held p (drop from rules) ≡ next.rule ∷ held p (drop next.following rules)
  pub passed : held p (take next.following rules) ≡ held p (take from rules) ++ next.rule ∷ []

-- if the limits are such as a table has, they decide differently at the point
abbrev pub DifferWithinLimits : (old new : List Rule) → Point → Type 0
DifferWithinLimits old new p = AreLimited old → AreLimited new → Differ old new p
