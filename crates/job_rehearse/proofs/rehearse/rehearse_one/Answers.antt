use Rattle.std.proofs.Common.{◌∙◌, inl, inr, sym}
use Rattle.std.proofs.lemmas.Result.{IfErr-weaker, IfOk-weaker}
use Rattle.job_rehearse.proofs.Stopping.{stops_more}
use Rattle.job_rehearse.proofs.rehearse.rehearse_one.Goals as goal

pub returns-clause-done : goal.returns-clause-done
returns-clause-done g c =
    IfOk-weaker c.rehearse_at.result _ _
    (λ status does. inl (record { place = c.in_ok-place.place; between = c.place_in.new.files; placed = c.in_ok-place.ensures.place; port = sym c.has_port.ensures ∙ c.if-not-has_port.false; does = does }))
    c.rehearse_at.ensures.done

pub returns-clause-stops : goal.returns-clause-stops
returns-clause-stops g c =
    IfErr-weaker c.rehearse_at.result _ _
    (λ halt stops. stops_more _ _ (λ fault undone. inr (record { place = c.in_ok-place.place; between = c.place_in.new.files; placed = c.in_ok-place.ensures.place; undone = undone })) halt stops)
    c.rehearse_at.ensures.stops
