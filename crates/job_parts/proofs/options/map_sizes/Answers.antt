use Rattle.std.proofs.Common.{◌≡◌, true, false, map, inl, inr, refl, sym, ap, subst, ◌∙◌}
use Rattle.std.proofs.lemmas.Result.{err_from_is_err_and}
use Rattle.machine.specs.Sizes.{AreSizes, listed_maps}
use Rattle.job_parts.proofs.MapLists.{are_maps, map_list, maps_of}
use Rattle.job_parts.proofs.options.map_sizes.Goals as goal

pub returns-in_err-maps-clause-err : goal.returns-in_err-maps-clause-err
returns-in_err-maps-clause-err c =
    let are = ap (map (λ part. part.now)) c.as_slice.ensures.value ∙ c.in_ok-parts.ensures in
    let gone = err_from_is_err_and c.from_residual-in_err-maps.result c.from_residual-in_err-maps.ensures.1 in
    rw (gone.1, gone.2) (elim c.in_err-maps.ensures.err [
      | inl none ↦ inl none
      | inr bad ↦ inr (bad.0, λ list. bad.1 (are_maps (λ part. part.now) c.as_slice.result.now c.args.text.now are list))
    ])

pub returns-in-Ok-clause-ok : goal.returns-in-Ok-clause-ok
returns-in-Ok-clause-ok c =
    let are = ap (map (λ part. part.now)) c.as_slice.ensures.value ∙ c.in_ok-parts.ensures in
    let maps = c.in_ok-maps.ensures.ok in
    let list = map_list (λ part. part.now) c.as_slice.result.now c.args.text.now c.as_slice-2.result.now are maps.0
    (c.as_slice-2.ensures.value ∙ maps.1) (c.in-Ok.ensures.allowed.0 refl) in
    (list.0, c.in-Ok.ensures.sizes ∙ list.1)

pub returns-clause-err : goal.returns-clause-err
returns-clause-err c =
    let are = ap (map (λ part. part.now)) c.as_slice.ensures.value ∙ c.in_ok-parts.ensures in
    let maps = c.in_ok-maps.ensures.ok in
    let written = ap listed_maps (c.as_slice-2.ensures.value ∙ maps.1 ∙ maps_of (λ part. part.now) c.as_slice.result.now c.args.text.now are) in
    inr (refl, λ list. let reported : false ≡ true = c.in-Err.ensures.allowed.1 (subst AreSizes (sym written) list.1) in cc)
