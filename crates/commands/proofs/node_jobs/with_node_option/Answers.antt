use Rattle.std.proofs.Common.{ap, ◌∙◌}
use Rattle.std.proofs.lemmas.Result.{IfOk-weaker}
use Rattle.clap.specs.Simple.{app_of, with_rule}
use Rattle.commands.proofs.node_jobs.with_node_option.Goals as goal

pub returns-clause-shape : goal.returns-clause-shape
returns-clause-shape c =
    IfOk-weaker c.arg.result _ _
    (λ m h. h.shape c.node_option-node.ensures.local ∙ ap (with_rule (app_of c.args.command)) c.node_option-node.ensures.rule)
    c.arg.ensures
