use Rattle.std.proofs.Common.{ap, ap₂, codes, ◌≡◌, ◌∙◌}
use Rattle.std.proofs.lemmas.Result.{IfOk-weaker}
use Rattle.clap.specs.Simple.{app_of, app_of_fields, new_app, with_rule}
use Rattle.job_node_file.proofs.node_file.node_file_command.Goals as goal

pub returns-clause-shape : goal.returns-clause-shape
returns-clause-shape c =
    let named : app_of c.about.result ≡ new_app (codes "node") = ap app_of_fields c.about.ensures ∙ c.new.ensures.app in
    let first = c.in_ok-arg.ensures.shape c.file-node.ensures.local ∙ ap₂ with_rule named c.file-node.ensures.rule in
    let second = c.in_ok-arg-2.ensures.shape c.flag-header.ensures.local ∙ ap₂ with_rule first c.flag-header.ensures.rule in
    IfOk-weaker c.arg-3.result _ _ (λ m h. h.shape c.option-table.ensures.local ∙ ap₂ with_rule second c.option-table.ensures.rule) c.arg-3.ensures
