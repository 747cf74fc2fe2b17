-- The line of a reply that has bytes.
use Rattle.std.proofs.Common.{◌≡◌, ℕ, false, List, [], ◌∷◌, ◌++◌, length, codes, sym, ap, ◌∙◌, append_assoc}
use Rattle.std.specs.Prelude.{◌==◌, decimal}
use Rattle.hex.specs.Hex.{encode_upper}
use Rattle.job_parts.specs.Replies.{reply_line}

pub line_is : (port : ℕ) (reply front : List ℕ) → (length reply == 0) ≡ false → front ≡ decimal port ++ 32 ∷ []
    → front ++ encode_upper reply ++ 32 ∷ 69 ∷ 79 ∷ 80 ∷ 10 ∷ [] ≡ reply_line port reply
line_is port [] front some is = cc some
line_is port (byte ∷ bytes) front some is =
    let digits = encode_upper (byte ∷ bytes) in
    let last : List ℕ = 32 ∷ 69 ∷ 79 ∷ 80 ∷ 10 ∷ [] in
    ap (λ (f : List ℕ). f ++ digits ++ last) is ∙ sym (append_assoc ((decimal port ++ 32 ∷ []) ++ digits) (codes " EOP") (10 ∷ []))
