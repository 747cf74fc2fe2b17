-- What bytes begin with.
use Rattle.std.specs.Prelude.{◌≡◌, ◌++◌, ◌<◌, ◌^◌, ℕ, List, length, reverse}
use Rattle.folders.specs.Folders.{FolderValue}
use Rattle.page_format.specs.Pieces.{AreFiles, AreTextWords, IsShortPiece, IsWordPiece, files_bytes, number_bytes, piece_bytes, words_bytes}

-- they begin with this number
pub record BeginsNumber (number : ℕ) (rest bytes : List ℕ) : Type 0 where
  pub fits : number < 2 ^ 32
  pub is : bytes ≡ number_bytes number ++ rest

-- they begin with this piece
pub record BeginsPiece (piece rest bytes : List ℕ) : Type 0 where
  pub short : IsShortPiece piece
  pub is : bytes ≡ piece_bytes piece ++ rest

-- they begin with no piece
pub record BeginsNoPiece (bytes : List ℕ) : Type 0 where
  pub none : (piece rest : List ℕ) → BeginsPiece piece rest bytes → ⊥

-- they begin with this word
pub record BeginsWord (word rest bytes : List ℕ) : Type 0 where
  pub word_is : IsWordPiece word
  pub is : bytes ≡ piece_bytes word ++ rest

-- they begin with no word
pub record BeginsNoWord (bytes : List ℕ) : Type 0 where
  pub none : (word rest : List ℕ) → BeginsWord word rest bytes → ⊥

-- they begin with these words, which are this many
pub record BeginsWords (count : ℕ) (words : List (List ℕ)) (rest bytes : List ℕ) : Type 0 where
  pub counted : length words ≡ count
  pub words_are : AreTextWords words
  pub is : bytes ≡ words_bytes words ++ rest

-- they do not begin with this many words
pub record BeginsNoWords (count : ℕ) (bytes : List ℕ) : Type 0 where
  pub none : (words : List (List ℕ)) (rest : List ℕ) → BeginsWords count words rest bytes → ⊥

-- they begin with a file of this name and these bytes
pub record BeginsFile (name content rest bytes : List ℕ) : Type 0 where
  pub name_is : IsWordPiece name
  pub short : IsShortPiece content
  pub is : bytes ≡ piece_bytes name ++ (piece_bytes content ++ rest)

-- they begin with no file
pub record BeginsNoFile (bytes : List ℕ) : Type 0 where
  pub none : (name content rest : List ℕ) → BeginsFile name content rest bytes → ⊥

-- they are the files of this folder, the newest last
pub record IsFolderOf (folder : FolderValue) (bytes : List ℕ) : Type 0 where
  pub files_are : AreFiles (reverse folder)
  pub is : bytes ≡ files_bytes (reverse folder)

-- they are no folder
pub record IsNoFolder (bytes : List ℕ) : Type 0 where
  pub none : (folder : FolderValue) → IsFolderOf folder bytes → ⊥
