-- The command that is made of fields.
use Rattle.std.proofs.Common.{◌≡◌, ℕ, ◌++◌, ◌∷◌, [], List, ap, ◌∙◌, append_assoc}
use Rattle.rcrc.specs.Crc.{crc_of}
use Rattle.initiator.specs.declared.write.CommandFields.{CommandFields}
use Rattle.rmap.specs.Command.{bytes_of}
use Rattle.initiator.specs.Writing.{command_with, front_with, header_with, tail_with}

-- the header, its CRC and the body are the bytes of the command
pub made_bytes : (f : CommandFields) (body made : List ℕ) → made ≡ (header_with f ++ crc_of (header_with f) ∷ []) ++ body → made ≡ bytes_of (command_with f body)
made_bytes f body made e =
    e ∙ ap (λ (l : List ℕ). l ++ body) (append_assoc (front_with f ++ f.reply_address.now) (tail_with f) (crc_of (header_with f) ∷ []))
