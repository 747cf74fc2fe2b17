-- The path before a packet.
use Rattle.std.specs.Prelude.{ℕ, nat_lt, if◌then◌else◌, List, [], ◌∷◌}

-- bytes without the path address bytes before them, which are below 32 (ECSS-E-ST-50-12C, addresses)
abbrev pub without_path : List ℕ → List ℕ
without_path [] = []
without_path (byte ∷ bytes) = if nat_lt byte 32 then without_path bytes else byte ∷ bytes
