-- What standard input has, by what was found.
use Rattle.std.proofs.Common.{◌≡◌, ℕ, List, [], None, Some, ap, sym}
use Rattle.std.specs.Prelude.{codes}
use Rattle.folders.specs.Folders.{FolderValue, content_of}
use Rattle.doing.specs.Desks.{found_or_none, input_of}

-- the file `-`
pub input_found : (folder : FolderValue) (bytes : List ℕ) → content_of folder (codes "-") ≡ Some bytes
    → bytes ≡ input_of folder
input_found folder bytes is = sym (ap found_or_none is)

-- there is none
pub input_is_empty : (folder : FolderValue) → content_of folder (codes "-") ≡ None → [] ≡ input_of folder
input_is_empty folder is = sym (ap found_or_none is)
