use Rattle.std.proofs.Common.{ap, ap₂, ◌≡◌, ◌∙◌}
use Rattle.std.proofs.lemmas.Result.{IfOk-weaker}
use Rattle.clap.specs.Simple.{app_of, app_of_fields, new_app, with_rule}
use Rattle.job_config.specs.Sources.{with_source_options}
use Rattle.job_config.proofs.node_lines.node_lines_command.Goals as goal

pub returns-clause-shape : goal.returns-clause-shape
returns-clause-shape c =
    let named : app_of c.about.result ≡ new_app c.args.name.now = ap app_of_fields c.about.ensures ∙ c.new.ensures.app in
    let lines = c.in_ok-command.ensures.shape c.file-lines.ensures.local ∙ ap₂ with_rule named c.file-lines.ensures.rule in
    IfOk-weaker c.source_arguments.result _ _ (λ m h. h ∙ ap with_source_options lines) c.source_arguments.ensures.shape
