use Rattle.std.proofs.Common.{ap, ap₂, codes, ◌≡◌, ◌∙◌}
use Rattle.std.proofs.lemmas.Result.{IfOk-weaker}
use Rattle.clap.specs.Simple.{app_of, app_of_fields, new_app, with_rule}
use Rattle.job_charts.specs.ChartScope.{with_asking}
use Rattle.job_charts.proofs.map.map_command.Goals as goal

pub returns-clause-shape : goal.returns-clause-shape
returns-clause-shape c =
    let named : app_of c.about.result ≡ new_app (codes "map") = ap app_of_fields c.about.ensures ∙ c.new.ensures.app in
    let first = c.in_ok-arg.ensures.shape c.file-table.ensures.local ∙ ap₂ with_rule named c.file-table.ensures.rule in
    let second = c.in_ok-arg-2.ensures.shape c.maps_option-maps.ensures.local ∙ ap₂ with_rule first c.maps_option-maps.ensures.rule in
    let third = c.in_ok-arg-3.ensures.shape c.flag-markdown.ensures.local ∙ ap₂ with_rule second c.flag-markdown.ensures.rule in
    let fourth = c.in_ok-arg-4.ensures.shape c.flag-quiet.ensures.local ∙ ap₂ with_rule third c.flag-quiet.ensures.rule in
    let fifth = c.in_ok-command.ensures.shape c.option-lines.ensures.local ∙ ap₂ with_rule fourth c.option-lines.ensures.rule in
    IfOk-weaker c.asking_arguments.result _ _ (λ m h. h ∙ ap with_asking fifth) c.asking_arguments.ensures.shape
