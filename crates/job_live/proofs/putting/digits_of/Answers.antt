use Rattle.std.proofs.Common.{ℕ, [], ◌∷◌, sym, ap₂, ◌∙◌}
use Rattle.std.specs.Prelude.{slice_index}
use Rattle.hex.specs.Hex.{upper_digits}
use Rattle.job_parts.proofs.HexText.{one_byte}
use Rattle.job_live.proofs.putting.digits_of.Goals as goal

pub returns : goal.returns
returns c =
    ap₂ (λ (high low : ℕ). slice_index upper_digits high ∷ slice_index upper_digits low ∷ []) c.from.ensures c.from-2.ensures
    ∙ sym (one_byte c.args.byte)
