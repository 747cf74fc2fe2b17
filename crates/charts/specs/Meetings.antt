-- Where rules of a table meet.
use Rattle.std.specs.Prelude.{◌≡◌, ◌&&◌, ◌||◌, ℕ, zero, suc, Bool, false, true, not, List, [], ◌∷◌}
use Rattle.policy_table.specs.declared.rules.Rule.{Rule}
use Rattle.regions.specs.Questions.{HoldsAll, IsFound}
use Rattle.regions.specs.declared.points.Point.{Point}
use Rattle.charts.specs.Deciders.{lets_pass}
use Rattle.charts.specs.Points.{holds_at}

-- whether the rule this many places on is asked: it holds, and none without quota before it does. If it must end the
-- course, it has no quota itself
abbrev pub is_asked_at : (places : ℕ) → (ends : Bool) → List Rule → Point → Bool
is_asked_at places ends [] p = false
is_asked_at zero ends (rule ∷ rules) p = holds_at rule p && (not ends || not (lets_pass rule.quota))
is_asked_at (suc places) ends (rule ∷ rules) p = (not (holds_at rule p) || lets_pass rule.quota) && is_asked_at places ends rules p

-- whether the rule this many places on holds
abbrev pub rule_holds_of : (places : ℕ) → List Rule → Point → Bool
rule_holds_of places [] p = false
rule_holds_of zero (rule ∷ rules) p = holds_at rule p
rule_holds_of (suc places) (rule ∷ rules) p = rule_holds_of places rules p

-- whether one rule is asked at a point at which another holds
abbrev pub meet_at : (asked : ℕ) → (ends : Bool) → (place : ℕ) → List Rule → Point → Bool
meet_at asked ends place rules p = is_asked_at asked ends rules p && rule_holds_of place rules p

-- so it is at some point that a command has
pub record Meet (asked : ℕ) (ends : Bool) (place : ℕ) (rules : List Rule) : Type 0 where
  pub point : Point
  pub found : IsFound (λ p. meet_at asked ends place rules p ≡ true) point

-- so it is at no such point
abbrev pub NeverMeet : (asked : ℕ) → (ends : Bool) → (place : ℕ) → List Rule → Type 0
NeverMeet asked ends place rules = HoldsAll (λ p. meet_at asked ends place rules p ≡ false)
