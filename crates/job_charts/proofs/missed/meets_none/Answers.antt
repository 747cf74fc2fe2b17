use Rattle.std.proofs.Common.{◌≡◌, ◌∙◌, ◌++◌, ◌∷◌, [], ap, length, rules}
use Rattle.job_charts.proofs.Meeting.{none_met}
use Rattle.job_charts.proofs.missed.meets_none.Goals as goal

pub returns : goal.returns
returns c =
    let size : c.len.result ≡ length c.in_ok-places.places.items = search rules in
    none_met c.args.windows.now c.args.own.now c.in_ok-places.places.items c.as_slice-2.result.now c.len.result c.meets_place.result c.in_ok-places.ensures
    (c.as_slice-2.ensures.value ∙ c.in_ok-rules.ensures ∙ ap (λ own. own ++ c.args.own.now ∷ []) c.as_slice.ensures.value) size c.meets_place.ensures
