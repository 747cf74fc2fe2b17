-- What a handle of a reader holds.
use Rattle.std.specs.Prelude.{ℕ}

-- what is in `live` of a handle that holds a reader: another number than in the handle of a node
abbrev pub reader_mark : ℕ
reader_mark = 938
