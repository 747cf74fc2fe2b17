-- Sums of reports.
use Rattle.std.proofs.Common.{◌≡◌, ℕ, List, [], ◌∷◌, ◌++◌, ◌+◌, refl, sym, ap, ◌∙◌, ◌⊎◌, subst, arith, inl, inr, Option, Some, None}
use Rattle.std.specs.Prelude.{map, IfSome, IfNone}
use Rattle.std.specs.List.{sum_by}
use Rattle.std.proofs.lemmas.List.{map_push}
use Rattle.std.proofs.lemmas.List.Sums.{sum_by-append}
use Rattle.ports.specs.declared.worker.Report.{Report}
use Rattle.ports.specs.Sinks.{cut}
use Rattle.ports.specs.Worked.{report_sum}
use Rattle.ports.specs.Serves.{total_of, IsOneMissing, IsSumOf, IsTotalOf}

pub none : IsTotalOf [] (record { discarded = 0; lost = 0 })
none = record { reports = []; all = refl; added = refl }

-- a count that was cut, and one more
counts : (f : Report → ℕ) (reports : List Report) (r : Report) → cut (cut (sum_by f reports) + f r) ≡ cut (sum_by f (reports ++ r ∷ []))
counts f reports r = omega (arith, sum_by-append f reports (r ∷ []))

added_more : (reports : List Report) (r : Report) → report_sum (total_of reports) r ≡ total_of (reports ++ r ∷ [])
added_more reports r =
    ap (λ n. record { discarded = n; lost = cut (cut (sum_by (λ (x : Report). x.lost) reports) + r.lost) }) (counts (λ x. x.discarded) reports r)
    ∙ ap (λ n. record { discarded = cut (sum_by (λ (x : Report). x.discarded) (reports ++ r ∷ [])); lost = n }) (counts (λ x. x.lost) reports r)

sums : (reported : List (Option Report)) (old new : Option Report) (sum : Report) → IfSome old (IsTotalOf reported) → IsSumOf old new sum → IsTotalOf (reported ++ new ∷ []) sum
sums reported old new sum was is =
    let before : IsTotalOf reported is.first = subst (λ o. IfSome o (IsTotalOf reported)) is.a_is was in
    record {
      reports = before.reports ++ is.second ∷ [];
      all = ap (λ l. l ++ new ∷ []) before.all ∙ ap (λ o. map Some before.reports ++ o ∷ []) is.b_is ∙ sym (map_push Some before.reports is.second);
      added = is.added ∙ ap (λ r. report_sum r is.second) before.added ∙ added_more before.reports is.second;
    }

-- One more report.
pub one_more : (reported : List (Option Report)) (report old new : Option Report) → IfSome old (IsTotalOf reported) → IfSome new (IsSumOf old report) → IfSome new (IsTotalOf (reported ++ report ∷ []))
one_more reported report old None was is = is
one_more reported report old (Some sum) was is = sums reported old report sum was is

missing_before : (reported more : List (Option Report)) → IsOneMissing reported → IsOneMissing (reported ++ more)
missing_before [] more is = absurd is
missing_before (None ∷ reported) more is = tt
missing_before (Some report ∷ reported) more is = missing_before reported more is

missing_at_end : (reported : List (Option Report)) → IsOneMissing (reported ++ None ∷ [])
missing_at_end [] = tt
missing_at_end (None ∷ reported) = tt
missing_at_end (Some report ∷ reported) = missing_at_end reported

-- One more report, if the sum is missing.
pub one_missing : (reported : List (Option Report)) (report old new : Option Report) → IfNone old (IsOneMissing reported) → IfNone new ((old ≡ None) ⊎ (report ≡ None)) → IfNone new (IsOneMissing (reported ++ report ∷ []))
one_missing reported report old (Some sum) was is = tt
one_missing reported report old None was (inl none) = missing_before reported (report ∷ []) (subst (λ o. IfNone o (IsOneMissing reported)) none was)
one_missing reported report old None was (inr none) = subst (λ o. IsOneMissing (reported ++ o ∷ [])) (sym none) (missing_at_end reported)
