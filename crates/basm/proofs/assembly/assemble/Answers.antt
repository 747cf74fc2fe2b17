use Rattle.std.proofs.Common.{sym, ◌∙◌, arith}
use Rattle.std.proofs.lemmas.Bool.{true≢false}
use Rattle.std.proofs.lemmas.Option.{none-some}
use Rattle.std.proofs.lemmas.Result.{IfOk-weaker, err_from_is_err_and}
use Rattle.basm.proofs.Lookups.{none_from_others}
use Rattle.basm.proofs.Rooms.{image_of}
use Rattle.basm.proofs.Texts.{surveys_text, text_is}
use Rattle.basm.proofs.assembly.assemble.Goals as goal

pub returns-clause-text : goal.returns-clause-text
returns-clause-text c =
    IfOk-weaker c.into_image.result _ _ (λ p image. text_is (λ found. (c.mnemonic_laws.ensures.named found, c.mnemonic_laws.ensures.plain found)) c.args.text.now c.in_ok-survey.survey c.in_ok-parts.parts p c.in_ok-survey.ensures (none_from_others _ c.in_default.not-Some) c.in_ok-parts.ensures.parts image) c.into_image.ensures.image

pub returns-then-survey-eq0-clause-exact : goal.returns-then-survey-eq0-clause-exact
returns-then-survey-eq0-clause-exact c = λ p t.
    let surveys = surveys_text (λ found. (c.mnemonic_laws.ensures.named found, c.mnemonic_laws.ensures.plain found)) t c.in_ok-survey.survey c.in_ok-survey.ensures in
    let slots = surveys.slots in let some = t.program.slots in let none = c.if-survey-eq0.true in
    absurd (omega arith)

pub returns-then-not-survey-clause-exact : goal.returns-then-not-survey-clause-exact
returns-then-not-survey-clause-exact c = λ p t.
    let surveys = surveys_text (λ found. (c.mnemonic_laws.ensures.named found, c.mnemonic_laws.ensures.plain found)) t c.in_ok-survey.survey c.in_ok-survey.ensures in
    absurd (true≢false (sym surveys.budget ∙ c.if-not-survey.true))

pub returns-in_err-parts-clause-exact : goal.returns-in_err-parts-clause-exact
returns-in_err-parts-clause-exact c = λ p t.
    let surveys = surveys_text (λ found. (c.mnemonic_laws.ensures.named found, c.mnemonic_laws.ensures.plain found)) t c.in_ok-survey.survey c.in_ok-survey.ensures in
    let fault = c.in_err-parts.ensures.exact p t surveys in
    let gone = err_from_is_err_and c.from_residual-in_err-parts.result c.from_residual-in_err-parts.ensures.1 in
    rw (gone.1, gone.2) fault

pub returns-in-Some-clause-exact : goal.returns-in-Some-clause-exact
returns-in-Some-clause-exact c = λ p t.
    let surveys = surveys_text (λ found. (c.mnemonic_laws.ensures.named found, c.mnemonic_laws.ensures.plain found)) t c.in_ok-survey.survey c.in_ok-survey.ensures in
    absurd (none-some _ (sym surveys.repeated ∙ c.in-Some.is))

pub returns-clause-exact : goal.returns-clause-exact
returns-clause-exact c = λ p t.
    let surveys = surveys_text (λ found. (c.mnemonic_laws.ensures.named found, c.mnemonic_laws.ensures.plain found)) t c.in_ok-survey.survey c.in_ok-survey.ensures in
    c.into_image.ensures.exact p (image_of t c.in_ok-parts.parts (c.in_ok-parts.ensures.exact p t surveys))
