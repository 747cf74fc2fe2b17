use Rattle.std.proofs.Common.{ap, ap₂, codes, ◌≡◌, ◌∙◌}
use Rattle.std.proofs.lemmas.Result.{IfOk-weaker}
use Rattle.clap.specs.Simple.{app_of, app_of_fields, new_app, with_rule}
use Rattle.job_packets.specs.PacketJob.{with_order_options, with_order_words}
use Rattle.job_packets.specs.PacketOptions.{with_field_options}
use Rattle.job_packets.proofs.packet.packet_command.Goals as goal

pub returns-clause-shape : goal.returns-clause-shape
returns-clause-shape c =
    let named : app_of c.about-named.result ≡ new_app (codes "packet") = ap app_of_fields c.about-named.ensures ∙ c.new.ensures.app in
    let worded = c.in_ok-order_words.ensures.shape ∙ ap with_order_words named in
    let ordered = c.in_ok-ordered.ensures.shape c.option-port.ensures.local ∙ ap₂ with_rule worded c.option-port.ensures.rule in
    let chosen = c.in_ok-chosen.ensures.shape ∙ ap with_order_options ordered in
    IfOk-weaker c.field_arguments.result _ _ (λ m h. h ∙ ap with_field_options chosen) c.field_arguments.ensures.shape
