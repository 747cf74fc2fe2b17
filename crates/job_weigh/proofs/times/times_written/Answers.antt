use Rattle.std.proofs.Common.{map, inl, inr, ap, ◌∙◌}
use Rattle.std.proofs.lemmas.Result.{IfErr-weaker, IfOk-weaker, err_from_is_err_and}
use Rattle.job_weigh.proofs.TimeLists.{are_times, as_many, time_list}
use Rattle.job_weigh.proofs.times.times_written.Goals as goal

pub returns-in_err-times-clause-err : goal.returns-in_err-times-clause-err
returns-in_err-times-clause-err c =
    let are = ap (map (λ part. part.now)) c.as_slice.ensures.value ∙ c.in_ok-parts.ensures in
    let gone = err_from_is_err_and c.from_residual-in_err-times.result c.from_residual-in_err-times.ensures.1 in
    rw (gone.1, gone.2) (elim c.in_err-times.ensures.err [
      | inl none ↦ inl none
      | inr bad ↦ inr (bad.0, λ list. bad.1 (are_times c.args.unit (λ part. part.now) c.as_slice.result.now c.args.text.now are list))
    ])

pub returns-clause-ok : goal.returns-clause-ok
returns-clause-ok c =
    let are = ap (map (λ part. part.now)) c.as_slice.ensures.value ∙ c.in_ok-parts.ensures in
    let times = c.in_ok-times.ensures.ok in
    let items = c.as_slice-2.ensures.value ∙ times.1 in
    IfOk-weaker c.by_class.result _ _ (λ found h.
    let list = time_list c.args.unit (λ part. part.now) c.as_slice.result.now c.args.text.now c.as_slice-2.result.now are times.0 items h.0 in
    (list.0, h.1 ∙ list.1)) c.by_class.ensures.ok

pub returns-clause-err : goal.returns-clause-err
returns-clause-err c =
    let are = ap (map (λ part. part.now)) c.as_slice.ensures.value ∙ c.in_ok-parts.ensures in
    let items = c.as_slice-2.ensures.value ∙ c.in_ok-times.ensures.ok.1 in
    IfErr-weaker c.by_class.result _ _ (λ fault h.
    inr (h.0, λ list. h.1 (as_many c.args.unit (λ part. part.now) c.as_slice.result.now c.args.text.now c.as_slice-2.result.now are items ∙ list.0))) c.by_class.ensures.err
