use Rattle.std.proofs.Common.{◌∙◌, ℕ, ap}
use Rattle.std.proofs.lemmas.Result.{IfOk-weaker}
use Rattle.job_charts.specs.Packets.{body_for}
use Rattle.job_charts.proofs.PacketBytes.{bytes_are}
use Rattle.job_charts.proofs.packets.bytes_at.Goals as goal

pub returns : goal.returns
returns c =
    let p = c.args.point.now in
    let own = c.as_slice.ensures.value ∙ c.in_ok-body.ensures ∙ ap (λ (count : ℕ). body_for p.kind count) c.data_count_at.ensures in
    IfOk-weaker c.write_command.result _ _ (λ made is. bytes_are c.args.target p c.fields_at-fields.result _ _ is c.fields_at-fields.ensures.same own) c.write_command.ensures.bytes
