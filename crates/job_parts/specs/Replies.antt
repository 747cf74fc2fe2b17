-- The lines of replies.
use Rattle.std.specs.Prelude.{ℕ, List, [], ◌∷◌, ◌++◌, codes, decimal}
use Rattle.hex.specs.Hex.{encode_upper}

-- the line of a packet with this reply, which is empty if none is due
abbrev pub reply_line : ℕ → List ℕ → List ℕ
reply_line port [] = decimal port ++ codes " -" ++ 10 ∷ []
reply_line port (byte ∷ bytes) =
    decimal port ++ codes " " ++ encode_upper (byte ∷ bytes) ++ codes " EOP" ++ 10 ∷ []

-- the text of a reply: its bytes in hexadecimal digits, or - if none is due and it has no bytes
abbrev pub reply_text : List ℕ → List ℕ
reply_text [] = codes "-"
reply_text (byte ∷ bytes) = encode_upper (byte ∷ bytes)
