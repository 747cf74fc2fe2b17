use Rattle.std.proofs.Common.{◌∙◌, ℕ, List, inl, inr, ap}
use Rattle.std.proofs.lemmas.Result.{IfErr-weaker, on_ok_weaker}
use Rattle.job_packets.specs.Loads.{with_loads}
use Rattle.job_rehearse.proofs.Stopping.{stops_more}
use Rattle.job_rehearse.proofs.loads.take_load.Goals as goal

pub returns-clause-taken : goal.returns-clause-taken
returns-clause-taken g c =
    let h = c.header_of-header.result in
    let lines = c.as_str.ensures.value ∙ c.in_ok-add_loads.ensures
    ∙ ap (λ (front : List ℕ). with_loads front h h.transaction c.args.load.slots.now c.args.load.image.now) c.new-text.ensures.bytes in
    on_ok_weaker c.take_lines.result
    (λ all. record { text = _; are_lines = record { header = h; is_header = c.header_of-header.ensures.given; lines = lines }; all = all })
    c.take_lines.ensures.taken

pub returns-clause-stops : goal.returns-clause-stops
returns-clause-stops g c =
    let h = c.header_of-header.result in
    let lines = c.as_str.ensures.value ∙ c.in_ok-add_loads.ensures
    ∙ ap (λ (front : List ℕ). with_loads front h h.transaction c.args.load.slots.now c.args.load.image.now) c.new-text.ensures.bytes in
    IfErr-weaker c.take_lines.result _ _
    (λ halt stops. stops_more _ _ (λ fault stop. inr (inl (record { text = _; are_lines = record { header = h; is_header = c.header_of-header.ensures.given; lines = lines }; stop = stop }))) halt stops)
    c.take_lines.ensures.stops
