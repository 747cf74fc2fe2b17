-- One place more that is reported.
use Rattle.std.proofs.Common.{◌≡◌, ◌+◌, ℕ, suc, subst, arith}
use Rattle.chart_lines.specs.Reporting.{PrintsFirst}

-- a place that was reported after those before
pub reports_more : {T : Type 0} (reports : ℕ → T → T → Type 0) (place : ℕ) (first before after : T) → PrintsFirst reports place first before
    → reports place before after → PrintsFirst reports (place + 1) first after
reports_more reports place first before after reported more =
    let next : suc place ≡ place + 1 = omega arith in
    subst (λ count. PrintsFirst reports count first after) next (before, reported, more)
