-- A sheet of a folder.
use Rattle.std.specs.Prelude.{ℕ, List, string_bytes}
use Rattle.folders.specs.declared.folder.Sheet.{Sheet}

-- the name and the bytes
abbrev pub sheet_pair_of : Sheet → List ℕ × List ℕ
sheet_pair_of sheet = (string_bytes sheet.name, sheet.bytes.items)
