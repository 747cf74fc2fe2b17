-- From all points to all headers.
use Rattle.std.proofs.Common.{◌≡◌, inl, inr, subst, ◌<◌, ℕ, suc, true, List, [], ◌∷◌, length, get_or, refl, ap, sym, ◌∙◌, arith}
use Rattle.std.specs.Prelude.{All, if◌then◌else◌}
use Rattle.machine.specs.declared.calls.Call.{Call}
use Rattle.machine.specs.Memory.{Header}
use Rattle.rmap.specs.Verdict.{verdict_number}
use Rattle.charts.specs.Same.{AreSame, MayBeJudged}
use Rattle.policy_table.specs.Meaning.{decision, holds, ruled}
use Rattle.charts.specs.Points.{DecideAlike, decision_at, header_point_of}
use Rattle.charts.specs.Tickets.{AreTickets, AreTicketsOfOne}
use Rattle.regions.specs.Points.{HasCommand}
use Rattle.regions.specs.Regions.{lies_in}
use Rattle.regions.specs.declared.regions.PointRegion.{PointRegion}
use Rattle.regions.specs.Questions.{HoldsAll}
use Rattle.policy_table.specs.declared.rules.Rule.{Rule}

pub at_point : (rules : List Rule) (h : Header) (reported : ℕ → ℕ) → decision rules h reported ≡ decision_at rules (header_point_of h) reported
at_point [] h reported = refl
at_point (rule ∷ rules) h reported =
    rw (at_point rules h reported) (ap (λ (d : List Call × ℕ). if holds rule h then ruled rule.quota (verdict_number rule.verdict) reported d else decision_at rules (header_point_of h) reported) (at_point rules h (λ k. reported (suc k))))

byte_at : (xs : List ℕ) (n k : ℕ) → length xs ≡ n → All (λ b. b < 256) xs → k < n → get_or xs k 0 < 256
byte_at xs n k len bytes lt = bytes k 0 (omega arith)

pub whole : (asked : PointRegion) (old new : List Rule) → HoldsAll (λ p. lies_in asked p ≡ true → DecideAlike old new p) → AreSame asked old new
whole asked old new alike h may lies reported one =
    at_point old h reported ∙ alike (header_point_of h) (has_command h may) lies reported (by_one one) ∙ sym (at_point new h reported)
  where
    by_one : AreTicketsOfOne (decision old h reported).0 (decision new h reported).0 → AreTicketsOfOne (decision_at old (header_point_of h) reported).0 (decision_at new (header_point_of h) reported).0
    by_one (inl k) = inl (subst (λ (d : List Call × ℕ). AreTickets d.0) (at_point old h reported) k)
    by_one (inr k) = inr (subst (λ (d : List Call × ℕ). AreTickets d.0) (at_point new h reported) k)

    has_command : (h : Header) → MayBeJudged h → HasCommand (header_point_of h)
    has_command h may = record {
      key = byte_at h.front 4 3 may.header.front may.header.front_bytes (omega arith);
      initiator = byte_at h.tail 12 0 may.header.tail may.header.tail_bytes (omega arith);
      extended = byte_at h.tail 12 3 may.header.tail may.header.tail_bytes (omega arith);
      span = may.span;
    }
