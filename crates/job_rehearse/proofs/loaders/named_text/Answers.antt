use Rattle.std.proofs.Common.{◌∙◌, ap₂}
use Rattle.std.proofs.lemmas.Result.{IfOk-weaker}
use Rattle.job_rehearse.specs.Loaders.{named_words}
use Rattle.job_rehearse.proofs.loaders.named_text.Goals as goal

pub returns : goal.returns
returns c =
    IfOk-weaker c.named_words.result _ _
    (λ text is. is ∙ ap₂ (named_words c.args.loader.port) (c.as_str.ensures.value ∙ c.in_ok-initiator.ensures) (c.as_str-2.ensures.value ∙ c.in_ok-key.ensures))
    c.named_words.ensures
