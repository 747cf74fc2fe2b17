-- What a file is if it is no image, and the line that says so.
use Rattle.std.specs.Prelude.{◌≡◌, ◌≢◌, ◌⊎◌, ℕ, List, [], Option, codes}
use Rattle.std.specs.Io.KnownBytes.{Appends}
use Rattle.std.specs.Str.{IsUtf8}
use Rattle.bpf.specs.Program.{Program}
use Rattle.basm.specs.Relation.{IsText}
use Rattle.policy_table.specs.Policies.{PolicyValue, WritesPolicy}
use Rattle.spw.specs.Line.{lines_of}

-- the bytes are the text of a program
pub record AreProgramText (bytes : List ℕ) : Type 0 where
  pub utf8 : IsUtf8 bytes
  pub program : Program
  pub text : IsText bytes program

-- the bytes are a table of a policy, of version 1 or 2, that has a rule
pub record ArePolicyTable (bytes : List ℕ) : Type 0 where
  pub utf8 : IsUtf8 bytes
  pub policy : PolicyValue
  pub table : WritesPolicy (lines_of bytes) policy
  pub some : policy.rules ≢ []

-- the line that says what the bytes are, or no line
abbrev pub IsFormLine : (bytes line : List ℕ) → Type 0
IsFormLine bytes line =
    (line ≡ []) ⊎ ((AreProgramText bytes × (line ≡ codes "this is the text of a program\n"))
    ⊎ (ArePolicyTable bytes × (line ≡ codes "this is a table of a policy\n")))

-- such a line was printed, or nothing
pub record PrintsForm (bytes : List ℕ) (old new : Option (List ℕ)) : Type 0 where
  pub line : List ℕ
  pub form : IsFormLine bytes line
  pub printed : Appends old new line
