use Rattle.std.proofs.Common.{ap, ap₂, ◌∙◌}
use Rattle.std.proofs.lemmas.Result.{IfOk-weaker}
use Rattle.clap.specs.Simple.{app_of, with_rule}
use Rattle.std.proofs.lemmas.Bool.{or_from}
use Rattle.job_packets.proofs.packet.order_options.Goals as goal

pub returns-clause-shape : goal.returns-clause-shape
returns-clause-shape c =
    let step0 = c.in_ok-arg.ensures.shape c.option-slot.ensures.local ∙ ap (with_rule (app_of c.args.command)) c.option-slot.ensures.rule in
    let step1 = c.in_ok-arg-2.ensures.shape c.flag-verify.ensures.local ∙ ap₂ with_rule step0 c.flag-verify.ensures.rule in
    let step2 = c.in_ok-arg-3.ensures.shape c.flag-no_reply.ensures.local ∙ ap₂ with_rule step1 c.flag-no_reply.ensures.rule in
    let step3 = c.in_ok-arg-4.ensures.shape c.flag-no_increment.ensures.local ∙ ap₂ with_rule step2 c.flag-no_increment.ensures.rule in
    IfOk-weaker c.arg-5.result _ _ (λ m h. h.shape c.flag-last.ensures.local ∙ ap₂ with_rule step3 c.flag-last.ensures.rule) c.arg-5.ensures

pub returns-clause-local : goal.returns-clause-local
returns-clause-local c =
    let step0 = c.in_ok-arg.ensures.globals ∙ or_from _ _ c.requires c.option-slot.ensures.local in
    let step1 = c.in_ok-arg-2.ensures.globals ∙ or_from _ _ step0 c.flag-verify.ensures.local in
    let step2 = c.in_ok-arg-3.ensures.globals ∙ or_from _ _ step1 c.flag-no_reply.ensures.local in
    let step3 = c.in_ok-arg-4.ensures.globals ∙ or_from _ _ step2 c.flag-no_increment.ensures.local in
    IfOk-weaker c.arg-5.result _ _ (λ m h. h.globals ∙ or_from _ _ step3 c.flag-last.ensures.local) c.arg-5.ensures
