-- Where rules of a table meet.
use Rattle.std.proofs.Common.{◌≡◌, ◌<◌, ◌+◌, ◌-◌, ◌&&◌, ◌||◌, ℕ, zero, suc, Bool, false, not, List, [], ◌∷◌, length, drop, Option, Some, None, refl, ap, ◌∙◌, arith}
use Rattle.std.specs.Prelude.{All, MatchBool, MatchOption, is_some}
use Rattle.std.proofs.lemmas.List.Elements.{All-head, All-tail}
use Rattle.policy_table.specs.declared.rules.Rule.{Rule}
use Rattle.regions.specs.Questions.{IsSettledBy}
use Rattle.regions.specs.declared.points.Point.{Point}
use Rattle.charts.specs.Deciders.{lets_pass}
use Rattle.charts.specs.Meetings.{rule_holds_of, is_asked_at, meet_at}
use Rattle.charts.specs.Points.{holds_at, tests_of}
use Rattle.charts.proofs.RuleShapes.{alike_of}
use Rattle.charts.proofs.Sameness.{HoldsAlike}

asked_same : (places : ℕ) (ends : Bool) (rules : List Rule) (p q : Point) → All (HoldsAlike p q) rules → is_asked_at places ends rules p ≡ is_asked_at places ends rules q
asked_same zero ends [] p q same = refl
asked_same (suc places) ends [] p q same = refl
asked_same zero ends (rule ∷ rules) p q same = ap (λ (t : Bool). t && (not ends || not (lets_pass rule.quota))) (All-head (HoldsAlike p q) rule rules same)
asked_same (suc places) ends (rule ∷ rules) p q same =
    kept (holds_at rule p) (holds_at rule q) (is_asked_at places ends rules p) (is_asked_at places ends rules q) (All-head (HoldsAlike p q) rule rules same) (asked_same places ends rules p q (All-tail (HoldsAlike p q) rule rules same))
  where
    kept : (t u a b : Bool) → t ≡ u → a ≡ b → ((not t || lets_pass rule.quota) && a) ≡ ((not u || lets_pass rule.quota) && b)
    kept t u a b e f = rw (e, f) refl

holds_same : (places : ℕ) (rules : List Rule) (p q : Point) → All (HoldsAlike p q) rules → rule_holds_of places rules p ≡ rule_holds_of places rules q
holds_same zero [] p q same = refl
holds_same (suc places) [] p q same = refl
holds_same zero (rule ∷ rules) p q same = All-head (HoldsAlike p q) rule rules same
holds_same (suc places) (rule ∷ rules) p q same = holds_same places rules p q (All-tail (HoldsAlike p q) rule rules same)

pub meeting_settled : (asked : ℕ) (ends : Bool) (place : ℕ) (rules : List Rule) → IsSettledBy (tests_of rules) (λ p. meet_at asked ends place rules p ≡ false)
meeting_settled asked ends place rules p q _ _ same never =
    let alike = alike_of rules p q same in
    kept (is_asked_at asked ends rules p) (is_asked_at asked ends rules q) (rule_holds_of place rules p) (rule_holds_of place rules q) (asked_same asked ends rules p q alike) (holds_same place rules p q alike) ∙ never
  where
    kept : (t u a b : Bool) → t ≡ u → a ≡ b → (t && a) ≡ (u && b)
    kept t u a b e f = rw (e, f) refl

pub some_by : (o : Option Point) (P R : Type 0) (Q : Point → Type 0) → MatchOption o P Q → ((p : Point) → Q p → R) → MatchBool (is_some o) R P
some_by None P R Q h f = h
some_by (Some p) P R Q h f = f p h

-- the rule of a place, one rule on
pub holds_more : (rules : List Rule) (p : Point) (n i : ℕ) → i < length rules → 0 < n → rule_holds_of (n - 1) (drop (i + 1) rules) p ≡ rule_holds_of n (drop i rules) p
holds_more [] p n i lt some = absurd (omega arith)
holds_more (rule ∷ rules) p zero zero lt some = absurd (omega (arith, some))
holds_more (rule ∷ rules) p (suc n) zero lt some = ap (λ (k : ℕ). rule_holds_of k rules p) (omega arith)
holds_more (rule ∷ rules) p n (suc i) lt some = ap (λ (k : ℕ). rule_holds_of (n - 1) (drop k (rule ∷ rules)) p) (next i) ∙ holds_more rules p n i (omega arith) some
  where
    next : (i : ℕ) → suc i + 1 ≡ suc (i + 1)
    next i = omega arith
