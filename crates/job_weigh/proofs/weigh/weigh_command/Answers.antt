use Rattle.std.proofs.Common.{ap₂, ◌∙◌}
use Rattle.std.proofs.lemmas.Result.{IfOk-weaker}
use Rattle.clap.specs.Simple.{with_rule}
use Rattle.job_weigh.proofs.weigh.weigh_command.Goals as goal

pub returns-clause-shape : goal.returns-clause-shape
returns-clause-shape c =
    let first = c.in_ok-arg.ensures.shape c.maps_option-maps.ensures.local ∙ ap₂ with_rule c.in_ok-image_command.ensures.shape c.maps_option-maps.ensures.rule in
    IfOk-weaker c.arg-2.result _ _ (λ m h. h.shape c.option-times.ensures.local ∙ ap₂ with_rule first c.option-times.ensures.rule) c.arg-2.ensures
