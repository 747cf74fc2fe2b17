-- The lines that a reader gives.
use Rattle.std.specs.Prelude.{◌≡◌, ◌≢◌, ◌⊎◌, ◌+◌, ℕ, List, [], ◌∷◌, ◌++◌, Option, Some, None, All, map, take, length, nat_lt, nat_le, if◌then◌else◌}
use Rattle.std.specs.Io.KnownBytes.{Consumes, IsAtEnd}
use Rattle.job_live.specs.declared.answering.TheConstants.{MAX_LINE}

-- what is given of a byte: itself, if it is an ASCII character, and else `?`
abbrev pub given_byte : ℕ → ℕ
given_byte byte = if nat_lt byte 128 then byte else 63

-- what is given of a line of these bytes; if it is too long, one byte more than the longest has
abbrev pub given_text : List ℕ → List ℕ
given_text bytes = take (MAX_LINE + 1) (map given_byte bytes)

-- a text with one more byte of the line after it, if it is not longer than the longest line
abbrev pub text_with : List ℕ → ℕ → List ℕ
text_with text byte = if nat_le (length text) MAX_LINE then text ++ given_byte byte ∷ [] else text

-- a byte was read of what a reader had left, or none was left
abbrev pub ReadsByte : (before : Option (List ℕ)) → Option ℕ → (after : Option (List ℕ)) → Type 0
ReadsByte before None after = Consumes before after [] × IsAtEnd after
ReadsByte before (Some byte) after = Consumes before after (byte ∷ [])

-- a line was read of what a reader had left, with the line feed after it, or up to the end, and this text was given of
-- it
pub record GivesLine (before : Option (List ℕ)) (text : List ℕ) (after : Option (List ℕ)) : Type 0 where
  pub bytes : List ℕ
  pub is_line : All (λ byte. byte ≢ 10) bytes
  pub read : Consumes before after (bytes ++ 10 ∷ []) ⊎ ((bytes ≢ []) × Consumes before after bytes × IsAtEnd after)
  pub gives : text ≡ given_text bytes

-- the next line was read, or nothing was left
abbrev pub ReadsLine : (before : Option (List ℕ)) → Option (List ℕ) → (after : Option (List ℕ)) → Type 0
ReadsLine before None after = Consumes before after [] × IsAtEnd after
ReadsLine before (Some text) after = GivesLine before text after

-- some bytes of the next line were read, maybe none, and no line was given of them
pub record LosesLine (before after : Option (List ℕ)) : Type 0 where
  pub bytes : List ℕ
  pub is_line : All (λ byte. byte ≢ 10) bytes
  pub read : Consumes before after bytes
