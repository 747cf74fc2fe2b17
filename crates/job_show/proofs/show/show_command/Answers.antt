use Rattle.std.proofs.Common.{ap, ap₂, codes, ◌≡◌, ◌∙◌}
use Rattle.std.proofs.lemmas.Result.{IfOk-weaker}
use Rattle.clap.specs.Simple.{app_of, app_of_fields, new_app, with_rule}
use Rattle.job_show.proofs.show.show_command.Goals as goal

pub returns-clause-shape : goal.returns-clause-shape
returns-clause-shape c =
    let named : app_of c.about.result ≡ new_app (codes "show") = ap app_of_fields c.about.ensures ∙ c.new.ensures.app in
    let first = c.in_ok-arg.ensures.shape c.file-lines.ensures.local ∙ ap₂ with_rule named c.file-lines.ensures.rule in
    IfOk-weaker c.arg-2.result _ _ (λ m h. h.shape c.flag-raw.ensures.local ∙ ap₂ with_rule first c.flag-raw.ensures.rule) c.arg-2.ensures
