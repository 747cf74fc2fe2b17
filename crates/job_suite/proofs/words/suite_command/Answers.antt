use Rattle.std.proofs.Common.{ap, ap₂, codes, false, ◌≡◌, ◌∙◌}
use Rattle.std.proofs.lemmas.Bool.{or_from}
use Rattle.std.proofs.lemmas.Result.{IfOk-weaker}
use Rattle.clap.specs.Simple.{app_of, app_of_fields, new_app, with_rule}
use Rattle.clap.specs.declared.builder.command.Command.TheViews.{out-Command}
use Rattle.job_suite.proofs.words.suite_command.Goals as goal

pub returns-clause-shape : goal.returns-clause-shape
returns-clause-shape c =
    let named : app_of c.about.result ≡ new_app (codes "suite") = ap app_of_fields c.about.ensures ∙ c.new.ensures.app in
    let first = c.in_ok-arg.ensures.shape c.node_option.ensures.local ∙ ap₂ with_rule named c.node_option.ensures.rule in
    let second = c.in_ok-arg-2.ensures.shape c.option-seed.ensures.local ∙ ap₂ with_rule first c.option-seed.ensures.rule in
    let third = c.in_ok-arg-3.ensures.shape c.option-rows.ensures.local ∙ ap₂ with_rule second c.option-rows.ensures.rule in
    let fourth = c.in_ok-arg-4.ensures.shape c.option-without.ensures.local ∙ ap₂ with_rule third c.option-without.ensures.rule in
    let fifth = c.in_ok-arg-5.ensures.shape c.option-table.ensures.local ∙ ap₂ with_rule fourth c.option-table.ensures.rule in
    let sixth = c.in_ok-arg-6.ensures.shape c.option-within.ensures.local ∙ ap₂ with_rule fifth c.option-within.ensures.rule in
    let seventh = c.in_ok-arg-7.ensures.shape c.flag-loads.ensures.local ∙ ap₂ with_rule sixth c.flag-loads.ensures.rule in
    IfOk-weaker c.arg-8.result _ _ (λ m h. h.shape c.flag-index.ensures.local ∙ ap₂ with_rule seventh c.flag-index.ensures.rule) c.arg-8.ensures

pub returns-clause-local : goal.returns-clause-local
returns-clause-local c =
    let named : (out-Command c.about.result).has_globals ≡ false = rw (c.about.ensures) (c.new.ensures.local) in
    let first = c.in_ok-arg.ensures.globals ∙ or_from _ _ named c.node_option.ensures.local in
    let second = c.in_ok-arg-2.ensures.globals ∙ or_from _ _ first c.option-seed.ensures.local in
    let third = c.in_ok-arg-3.ensures.globals ∙ or_from _ _ second c.option-rows.ensures.local in
    let fourth = c.in_ok-arg-4.ensures.globals ∙ or_from _ _ third c.option-without.ensures.local in
    let fifth = c.in_ok-arg-5.ensures.globals ∙ or_from _ _ fourth c.option-table.ensures.local in
    let sixth = c.in_ok-arg-6.ensures.globals ∙ or_from _ _ fifth c.option-within.ensures.local in
    let seventh = c.in_ok-arg-7.ensures.globals ∙ or_from _ _ sixth c.flag-loads.ensures.local in
    IfOk-weaker c.arg-8.result _ _ (λ m h. h.globals ∙ or_from _ _ seventh c.flag-index.ensures.local) c.arg-8.ensures
