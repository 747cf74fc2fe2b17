use Rattle.std.proofs.Common.{ℕ, List, ◌++◌, ap, ◌∙◌}
use Rattle.hex.specs.Hex.{encode_upper}
use Rattle.job_parts.proofs.HexText.{text_of_front}
use Rattle.job_parts.proofs.pending.push_few.Goals as goal

pub returns : goal.returns
returns c =
    c.push_text.ensures ∙ ap (λ (t : List ℕ). c.args.text.now.items ++ t)
    (text_of_front c.args.bytes.now _ c.block_digits-digits.result (c.block_digits-digits.ensures ∙ ap encode_upper c.put_front.ensures))
