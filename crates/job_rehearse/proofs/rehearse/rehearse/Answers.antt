use Rattle.std.proofs.Common.{◌∙◌, inl, inr, rules}
use Rattle.std.proofs.lemmas.Result.{err_from_is_err_and}
use Rattle.job_rehearse.proofs.Returning.{loaded_unreported, loads_new, stops_back, stops_there, tries_back}
use Rattle.job_rehearse.proofs.Stopping.{stops_more}
use Rattle.job_rehearse.proofs.rehearse.rehearse.Goals as goal

pub returns-in_err-load-clause-stops : goal.returns-in_err-load-clause-stops
returns-in_err-load-clause-stops g c =
    let gone = err_from_is_err_and c.from_residual-in_err-load.result c.from_residual-in_err-load.ensures.1 in
    rw (gone.1, gone.2)
    (stops_more _ _ (λ fault stop. inr (inl (stops_there c.args.place.now c.args.words.now.slots.items c.as_slice.result.now c.args.named c.args.policies _ _ _ _ fault c.as_slice.ensures.value c.loader-loader.ensures c.in_ok-rehearsing.ensures (rw (c.as_slice-slots.ensures.value) at stop)))) c.in_err-load.field-0.0 c.in_err-load.ensures.stops)

pub returns-in_err-load-2-clause-stops : goal.returns-in_err-load-2-clause-stops
returns-in_err-load-2-clause-stops g c =
    let loaded = loaded_unreported (λ line. line.now) c.there_line.result c.in_ok-load.field-0 c.in_default.not-Some c.there_line.ensures in
    let there = loads_new c.args.place.now c.args.words.now.slots.items c.as_slice.result.now c.args.named c.args.policies c.in_ok-load.field-0 _ _ _ _ _ _ c.as_slice.ensures.value loaded c.loader-loader.ensures c.in_ok-rehearsing.ensures (rw (c.as_slice-slots.ensures.value) at c.in_ok-load.ensures.loads) in
    let gone = err_from_is_err_and c.from_residual-in_err-load-2.result c.from_residual-in_err-load-2.ensures.1 in
    rw (gone.1, gone.2)
    (stops_more _ _ (λ fault stop. inr (inr (stops_back c.args.place.now c.args.words.now.slots.items c.as_slice-2.result.now c.args.named c.args.policies _ _ _ _ _ fault c.as_slice-2.ensures.value c.loader-loader.ensures there (rw (c.as_slice-slots.ensures.value) at stop)))) c.in_err-load-2.field-0.0 c.in_err-load-2.ensures.stops)

pub returns-clause-done : goal.returns-clause-done
returns-clause-done g c =
    let loaded = loaded_unreported (λ line. line.now) c.there_line.result c.in_ok-load.field-0 c.in_default.not-Some c.there_line.ensures in
    let there = loads_new c.args.place.now c.args.words.now.slots.items c.as_slice.result.now c.args.named c.args.policies c.in_ok-load.field-0 _ _ _ _ _ _ c.as_slice.ensures.value loaded c.loader-loader.ensures c.in_ok-rehearsing.ensures (rw (c.as_slice-slots.ensures.value) at c.in_ok-load.ensures.loads) in
    inr (tries_back c.args.place.now c.args.words.now.slots.items c.as_slice-2.result.now c.args.named c.args.policies _ c.in_ok-load-2.field-0 _ _ _ _ _ _ c.back_line-status.result.0.now _ c.back_line-status.result.1 c.as_slice-2.ensures.value c.loader-loader.ensures there (rw (c.as_slice-slots.ensures.value) at c.in_ok-load-2.ensures.loads) c.back_line-status.ensures (c.as_str-2.ensures.value ∙ c.in_ok-who.ensures) (search rules))
