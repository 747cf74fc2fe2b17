use Rattle.std.proofs.Common.{ap₂, ◌∙◌}
use Rattle.std.proofs.lemmas.Result.{IfOk-weaker}
use Rattle.clap.specs.Simple.{with_rule}
use Rattle.job_config.proofs.sources.source_arguments.Goals as goal

pub returns-clause-shape : goal.returns-clause-shape
returns-clause-shape c =
    IfOk-weaker c.arg.result _ _
    (λ m h. h.shape c.node_option-node.ensures.local ∙ ap₂ with_rule c.in_ok-node_arguments.ensures.shape c.node_option-node.ensures.rule)
    c.arg.ensures
