use Rattle.std.proofs.Common.{ap, ap₂, ◌∙◌}
use Rattle.std.proofs.lemmas.Result.{IfOk-weaker}
use Rattle.clap.specs.Simple.{app_of, with_rule}
use Rattle.job_parts.proofs.options.node_arguments.Goals as goal

pub returns-clause-shape : goal.returns-clause-shape
returns-clause-shape c =
    let image = c.in_ok-arg.ensures.shape c.option-image.ensures.local ∙ ap (with_rule (app_of c.args.command)) c.option-image.ensures.rule in
    let maps = c.in_ok-arg-2.ensures.shape c.maps_option-maps.ensures.local ∙ ap₂ with_rule image c.maps_option-maps.ensures.rule in
    IfOk-weaker c.arg-3.result _ _ (λ m h. h.shape c.option-ports.ensures.local ∙ ap₂ with_rule maps c.option-ports.ensures.rule) c.arg-3.ensures
