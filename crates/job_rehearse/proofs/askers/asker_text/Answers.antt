use Rattle.std.proofs.Common.{◌∙◌, ap₂}
use Rattle.std.proofs.lemmas.Result.{IfOk-weaker}
use Rattle.job_rehearse.specs.Askers.{asker_words}
use Rattle.job_rehearse.proofs.askers.asker_text.Goals as goal

pub returns : goal.returns
returns c =
    IfOk-weaker c.asker_words.result _ _
    (λ text is. is ∙ ap₂ asker_words (c.as_str.ensures.value ∙ c.in_ok-initiator.ensures) (c.as_str-2.ensures.value ∙ c.in_ok-key.ensures))
    c.asker_words.ensures
