-- Files that are kept in memory.
use Rattle.std.specs.Prelude.{◌≡◌, ◌≢◌, ℕ, List, [], ◌∷◌, Option, Some, None, Bool, true, false, if◌then◌else◌, map}
use Rattle.std.specs.Str.{bytes_eq}
use Rattle.folders.specs.declared.folder.Sheet.{Sheet}
use Rattle.folders.specs.Sheets.{sheet_pair_of}

-- the names and bytes that were written, the newest first
abbrev pub FolderValue : Type 0
FolderValue = List (List ℕ × List ℕ)

-- the names and bytes of the sheets
abbrev pub sheets_value : List Sheet → FolderValue
sheets_value sheets = map sheet_pair_of sheets

-- the bytes of the file of this name, or none if there is no such file
abbrev pub content_of : FolderValue → List ℕ → Option (List ℕ)
content_of [] name = None
content_of (sheet ∷ sheets) name = if bytes_eq sheet.0 name then Some sheet.1 else content_of sheets name

-- a read changes nothing, and gives the bytes that are there, or none, since memory can be refused
abbrev pub FolderReads : (before : FolderValue) → List ℕ → Option (List ℕ) → (after : FolderValue) → Type 0
FolderReads before name None after = after ≡ before
FolderReads before name (Some bytes) after = (after ≡ before) × (content_of before name ≡ Some bytes)

-- the file of this name comes before all others and has these bytes, and every other is as it was
pub record Sets (before : FolderValue) (name bytes : List ℕ) (after : FolderValue) : Type 0 where
  pub newest : after ≡ (name, bytes) ∷ before
  pub own : content_of after name ≡ Some bytes
  pub others : (other : List ℕ) → other ≢ name → content_of after other ≡ content_of before other

-- a write that is taken sets only that file; else nothing changes
abbrev pub FolderWrites : (before : FolderValue) → (name bytes : List ℕ) → Bool → (after : FolderValue) → Type 0
FolderWrites before name bytes true after = Sets before name bytes after
FolderWrites before name bytes false after = after ≡ before
