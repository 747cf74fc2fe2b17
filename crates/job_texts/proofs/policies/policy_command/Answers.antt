use Rattle.std.proofs.Common.{ap, ap₂, codes, false, ◌≡◌, ◌∙◌}
use Rattle.std.proofs.lemmas.Result.{IfOk-weaker}
use Rattle.std.proofs.lemmas.Bool.{or_from}
use Rattle.clap.specs.Simple.{app_of, app_of_fields, new_app, with_rule}
use Rattle.clap.specs.declared.builder.command.Command.TheViews.{out-Command}
use Rattle.job_texts.proofs.policies.policy_command.Goals as goal

pub returns-clause-shape : goal.returns-clause-shape
returns-clause-shape c =
    let named : app_of c.about.result ≡ new_app (codes "policy") = ap app_of_fields c.about.ensures ∙ c.new.ensures.app in
    let first = c.in_ok-arg.ensures.shape c.file-table.ensures.local ∙ ap₂ with_rule named c.file-table.ensures.rule in
    let second = c.in_ok-arg-2.ensures.shape c.file-image.ensures.local ∙ ap₂ with_rule first c.file-image.ensures.rule in
    let third = c.in_ok-arg-3.ensures.shape c.maps_option-maps.ensures.local ∙ ap₂ with_rule second c.maps_option-maps.ensures.rule in
    let fourth = c.in_ok-arg-4.ensures.shape c.flag-last.ensures.local ∙ ap₂ with_rule third c.flag-last.ensures.rule in
    IfOk-weaker c.arg-5.result _ _ (λ m h. h.shape c.flag-quiet.ensures.local ∙ ap₂ with_rule fourth c.flag-quiet.ensures.rule) c.arg-5.ensures

pub returns-clause-local : goal.returns-clause-local
returns-clause-local c =
    let named : (out-Command c.about.result).has_globals ≡ false = rw (c.about.ensures) (c.new.ensures.local) in
    let first = c.in_ok-arg.ensures.globals ∙ or_from _ _ named c.file-table.ensures.local in
    let second = c.in_ok-arg-2.ensures.globals ∙ or_from _ _ first c.file-image.ensures.local in
    let third = c.in_ok-arg-3.ensures.globals ∙ or_from _ _ second c.maps_option-maps.ensures.local in
    let fourth = c.in_ok-arg-4.ensures.globals ∙ or_from _ _ third c.flag-last.ensures.local in
    IfOk-weaker c.arg-5.result _ _ (λ m h. h.globals ∙ or_from _ _ fourth c.flag-quiet.ensures.local) c.arg-5.ensures
