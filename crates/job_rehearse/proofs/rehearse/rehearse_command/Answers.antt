use Rattle.std.proofs.Common.{ap, ap₂, codes, false, ◌≡◌, ◌∙◌}
use Rattle.std.proofs.lemmas.Bool.{or_from}
use Rattle.std.proofs.lemmas.Result.{IfOk-weaker}
use Rattle.clap.specs.Simple.{app_of, app_of_fields, new_app, with_rule}
use Rattle.clap.specs.declared.builder.command.Command.TheViews.{out-Command}
use Rattle.job_rehearse.proofs.rehearse.rehearse_command.Goals as goal

pub returns-clause-shape : goal.returns-clause-shape
returns-clause-shape c =
    let named : app_of c.about.result ≡ new_app (codes "rehearse") = ap app_of_fields c.about.ensures ∙ c.new.ensures.app in
    let first = c.in_ok-arg.ensures.shape c.file-old.ensures.local ∙ ap₂ with_rule named c.file-old.ensures.rule in
    let second = c.in_ok-arg-2.ensures.shape c.file-new.ensures.local ∙ ap₂ with_rule first c.file-new.ensures.rule in
    let third = c.in_ok-arg-3.ensures.shape c.maps_option-maps.ensures.local ∙ ap₂ with_rule second c.maps_option-maps.ensures.rule in
    let fourth = c.in_ok-arg-4.ensures.shape c.option-slot.ensures.local ∙ ap₂ with_rule third c.option-slot.ensures.rule in
    let fifth = c.in_ok-arg-5.ensures.shape c.option-port.ensures.local ∙ ap₂ with_rule fourth c.option-port.ensures.rule in
    let sixth = c.in_ok-arg-6.ensures.shape c.option-initiator.ensures.local ∙ ap₂ with_rule fifth c.option-initiator.ensures.rule in
    let seventh = c.in_ok-arg-7.ensures.shape c.option-key.ensures.local ∙ ap₂ with_rule sixth c.option-key.ensures.rule in
    let eighth = c.in_ok-arg-8.ensures.shape c.flag-any.ensures.local ∙ ap₂ with_rule seventh c.flag-any.ensures.rule in
    IfOk-weaker c.arg-9.result _ _ (λ m h. h.shape c.node_option.ensures.local ∙ ap₂ with_rule eighth c.node_option.ensures.rule) c.arg-9.ensures

pub returns-clause-local : goal.returns-clause-local
returns-clause-local c =
    let named : (out-Command c.about.result).has_globals ≡ false = rw (c.about.ensures) (c.new.ensures.local) in
    let first = c.in_ok-arg.ensures.globals ∙ or_from _ _ named c.file-old.ensures.local in
    let second = c.in_ok-arg-2.ensures.globals ∙ or_from _ _ first c.file-new.ensures.local in
    let third = c.in_ok-arg-3.ensures.globals ∙ or_from _ _ second c.maps_option-maps.ensures.local in
    let fourth = c.in_ok-arg-4.ensures.globals ∙ or_from _ _ third c.option-slot.ensures.local in
    let fifth = c.in_ok-arg-5.ensures.globals ∙ or_from _ _ fourth c.option-port.ensures.local in
    let sixth = c.in_ok-arg-6.ensures.globals ∙ or_from _ _ fifth c.option-initiator.ensures.local in
    let seventh = c.in_ok-arg-7.ensures.globals ∙ or_from _ _ sixth c.option-key.ensures.local in
    let eighth = c.in_ok-arg-8.ensures.globals ∙ or_from _ _ seventh c.flag-any.ensures.local in
    IfOk-weaker c.arg-9.result _ _ (λ m h. h.globals ∙ or_from _ _ eighth c.node_option.ensures.local) c.arg-9.ensures
