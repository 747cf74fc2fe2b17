-- The bytes of the command of a point.
use Rattle.std.proofs.Common.{◌≡◌, ◌∙◌, ℕ, List, ap}
use Rattle.rmap.specs.Command.{bytes_of}
use Rattle.initiator.specs.Writing.{command_with}
use Rattle.initiator.specs.declared.write.CommandFields.{CommandFields}
use Rattle.regions.specs.declared.points.Point.{Point}
use Rattle.job_charts.specs.Packets.{body_for, command_at, data_count_at, fields_at}

-- the bytes that are made of the fields of the point, with its body, are those of its command
pub bytes_are : (target : ℕ) (p : Point) (f : CommandFields) (body bytes : List ℕ) → bytes ≡ bytes_of (command_with f body)
    → ((b : List ℕ) → command_with f b ≡ command_with (fields_at target p) b) → body ≡ body_for p.kind (data_count_at p) → bytes ≡ bytes_of (command_at target p)
bytes_are target p f body bytes are same own =
    are ∙ ap bytes_of (same body ∙ ap (λ (b : List ℕ). command_with (fields_at target p) b) own)
