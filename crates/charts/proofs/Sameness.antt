-- If rules hold alike, tables decide alike.
use Rattle.std.proofs.Common.{◌≡◌, inl, inr, ℕ, suc, Bool, List, [], ◌∷◌, refl, ap, sym, ◌∙◌, subst}
use Rattle.std.specs.Prelude.{All, if◌then◌else◌}
use Rattle.std.proofs.lemmas.List.Elements.{All-head, All-tail}
use Rattle.machine.specs.declared.calls.Call.{Call}
use Rattle.rmap.specs.Verdict.{verdict_number}
use Rattle.policy_table.specs.Meaning.{ruled}
use Rattle.charts.specs.Points.{DecideAlike, decision_at, holds_at}
use Rattle.charts.specs.Tickets.{AreTickets, AreTicketsOfOne}
use Rattle.regions.specs.declared.points.Point.{Point}
use Rattle.policy_table.specs.declared.rules.Rule.{Rule}

-- ---- rules that hold alike

chosen : (t u : Bool) (a b c d : List Call × ℕ) → t ≡ u → a ≡ c → b ≡ d → (if t then a else b) ≡ (if u then c else d)
chosen t u a b c d e h k = rw (e, h, k) refl

-- the rule holds alike at both points
abbrev pub HoldsAlike : (p q : Point) → Rule → Type 0
HoldsAlike p q rule = holds_at rule p ≡ holds_at rule q

pub same_decision : (rules : List Rule) (p q : Point) → All (HoldsAlike p q) rules → (reported : ℕ → ℕ) → decision_at rules p reported ≡ decision_at rules q reported
same_decision [] p q same reported = refl
same_decision (rule ∷ rules) p q same reported =
    let rest : All (HoldsAlike p q) rules = All-tail (HoldsAlike p q) rule rules same in
    chosen (holds_at rule p) (holds_at rule q) _ _ _ _ (All-head (HoldsAlike p q) rule rules same)
    (ap (λ (d : List Call × ℕ). ruled rule.quota (verdict_number rule.verdict) reported d) (same_decision rules p q rest (λ k. reported (suc k))))
    (same_decision rules p q rest reported)

pub alike_there : (old new : List Rule) (p q : Point) → All (HoldsAlike p q) old → All (HoldsAlike p q) new → DecideAlike old new q → DecideAlike old new p
alike_there old new p q olds news alike reported one =
    same_decision old p q olds reported ∙ alike reported (by_one one) ∙ sym (same_decision new p q news reported)
  where
    by_one : AreTicketsOfOne (decision_at old p reported).0 (decision_at new p reported).0 → AreTicketsOfOne (decision_at old q reported).0 (decision_at new q reported).0
    by_one (inl h) = inl (subst (λ (d : List Call × ℕ). AreTickets d.0) (same_decision old p q olds reported) h)
    by_one (inr h) = inr (subst (λ (d : List Call × ℕ). AreTickets d.0) (same_decision new p q news reported) h)
