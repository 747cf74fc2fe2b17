-- Files as a job sees them: what its reads gave, and what its writes took.
use Rattle.std.specs.Prelude.{◌≡◌, ℕ, List, Option, Some, IfSome, Bool}
use Rattle.std.specs.Str.{IsUtf8}
use Rattle.bpf.specs.Program.{Program, IsProgram, image_bytes}

-- between two states of files: what a read of a name gave, its bytes or none
abbrev pub ReadsFile : Type 0 → Type 1
ReadsFile S = S → List ℕ → Option (List ℕ) → S → Type 0

-- between two states of files: what a write of a name was given, and whether it was taken
abbrev pub WritesFile : Type 0 → Type 1
WritesFile S = S → List ℕ → List ℕ → Bool → S → Type 0

module _ {S : Type 0} (reads : ReadsFile S) where
  -- the file was read, and gave no bytes or none that are UTF-8
  pub record HoldsNoText (before : S) (name : List ℕ) (after : S) : Type 0 where
    pub given : Option (List ℕ)
    pub read : reads before name given after
    pub no_text : IfSome given (λ bytes. ¬ (IsUtf8 bytes))

  -- the file was read, and gave the bytes that spell the program
  pub record HoldsImage (before : S) (name : List ℕ) (p : Program) (after : S) : Type 0 where
    pub bytes : List ℕ
    pub read : reads before name (Some bytes) after
    pub spelled : bytes ≡ image_bytes p
    pub limits : IsProgram p
