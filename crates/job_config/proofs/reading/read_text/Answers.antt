use Rattle.std.proofs.Common.{string_bytes}
use Rattle.job_config.proofs.Chains.{asked_text}
use Rattle.job_config.proofs.reading.read_text.Goals as goal

pub returns-clause-read : goal.returns-clause-read
returns-clause-read g c =
    asked_text g.F.Files.reads c.text_in.result (λ text. string_bytes text) _ _ _ c.text_in.ensures.gave
