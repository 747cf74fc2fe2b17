use Rattle.std.proofs.Common.{ap, ap₂, ◌∙◌}
use Rattle.std.proofs.lemmas.Result.{IfOk-weaker}
use Rattle.clap.specs.Simple.{app_of, with_rule}
use Rattle.std.proofs.lemmas.Bool.{or_from}
use Rattle.job_charts.proofs.asking.asking_arguments.Goals as goal

pub returns-clause-shape : goal.returns-clause-shape
returns-clause-shape c =
    let step0 = c.in_ok-arg.ensures.shape c.option-kind.ensures.local ∙ ap (with_rule (app_of c.args.command)) c.option-kind.ensures.rule in
    let step1 = c.in_ok-arg-2.ensures.shape c.option-key.ensures.local ∙ ap₂ with_rule step0 c.option-key.ensures.rule in
    let step2 = c.in_ok-arg-3.ensures.shape c.option-initiator.ensures.local ∙ ap₂ with_rule step1 c.option-initiator.ensures.rule in
    let step3 = c.in_ok-arg-4.ensures.shape c.option-extended.ensures.local ∙ ap₂ with_rule step2 c.option-extended.ensures.rule in
    let step4 = c.in_ok-arg-5.ensures.shape c.option-address.ensures.local ∙ ap₂ with_rule step3 c.option-address.ensures.rule in
    IfOk-weaker c.arg-6.result _ _ (λ m h. h.shape c.option-port.ensures.local ∙ ap₂ with_rule step4 c.option-port.ensures.rule) c.arg-6.ensures

pub returns-clause-local : goal.returns-clause-local
returns-clause-local c =
    let step0 = c.in_ok-arg.ensures.globals ∙ or_from _ _ c.requires c.option-kind.ensures.local in
    let step1 = c.in_ok-arg-2.ensures.globals ∙ or_from _ _ step0 c.option-key.ensures.local in
    let step2 = c.in_ok-arg-3.ensures.globals ∙ or_from _ _ step1 c.option-initiator.ensures.local in
    let step3 = c.in_ok-arg-4.ensures.globals ∙ or_from _ _ step2 c.option-extended.ensures.local in
    let step4 = c.in_ok-arg-5.ensures.globals ∙ or_from _ _ step3 c.option-address.ensures.local in
    IfOk-weaker c.arg-6.result _ _ (λ m h. h.globals ∙ or_from _ _ step4 c.option-port.ensures.local) c.arg-6.ensures
