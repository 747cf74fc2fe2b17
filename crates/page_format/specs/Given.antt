-- What a host hands over.
use Rattle.std.specs.Prelude.{◌≡◌, ◌++◌, ◌<◌, ◌^◌, ℕ, List, length, reverse}
use Rattle.folders.specs.Folders.{FolderValue}
use Rattle.page_format.specs.Pieces.{AreFiles, AreTextWords, files_bytes, number_bytes, words_bytes}

-- the bytes are these words and this folder: the number of words, the words, and then to the end the files, the newest last
pub record IsHostGiven (words : List (List ℕ)) (folder : FolderValue) (bytes : List ℕ) : Type 0 where
  pub counted : length words < 2 ^ 32
  pub words_are : AreTextWords words
  pub files_are : AreFiles (reverse folder)
  pub is : bytes ≡ number_bytes (length words) ++ (words_bytes words ++ files_bytes (reverse folder))

-- the bytes are no words and no folder
pub record IsNotGiven (bytes : List ℕ) : Type 0 where
  pub none : (words : List (List ℕ)) (folder : FolderValue) → IsHostGiven words folder bytes → ⊥

-- no bytes are other words or another folder
abbrev pub IsGivenOnce : Type 0
IsGivenOnce = (bytes : List ℕ) (words others : List (List ℕ)) (folder another : FolderValue) → IsHostGiven words folder bytes
    → IsHostGiven others another bytes
    → (words ≡ others) × (folder ≡ another)
