-- What the job `show` reads and prints. What it prints of a line has no clause.
use Rattle.std.specs.Prelude.{◌≡◌, ◌⊎◌, ℕ, List, Option, Some}
use Rattle.std.specs.Io.KnownBytes.{Appends}
use Rattle.std.specs.Str.{IsUtf8}
use Rattle.spw.specs.Line.{lines_of, words_of}
use Rattle.spw.specs.declared.faults.LineFault.{LineFault}
use Rattle.job_parts.specs.Files.{ReadsFile}
use Rattle.job_parts.specs.Reading.{TextUnread}
use Rattle.job_parts.specs.Turns.{AreTaken, SeesEnd, StopsInLines}
use Rattle.job_parts.specs.declared.bad_lines.BadLine.TheVariants.{Line}
use Rattle.job_parts.specs.declared.faults.Fault.{Fault}
use Rattle.job_parts.specs.declared.stops.LineEnd.TheVariants.{Bad}
use Rattle.job_show.specs.ShownLines.{EndsLine, IsLineFault}
use Rattle.job_show.specs.declared.show.Showing.{Showing}

-- a line was printed of the line
pub record ShowsLine (line : List ℕ) (before after : Showing) (old new : Option (List ℕ)) : Type 0 where
  pub text : List ℕ
  pub is_line : EndsLine text
  pub printed : Appends old new text

-- the line has that fault, or memory was refused to it, and nothing was printed of it
abbrev pub IsUnshown : List ℕ → SeesEnd Showing
IsUnshown line before after old new end =
    (fault : LineFault) × (end ≡ Bad (Line fault)) × IsLineFault line (words_of line) fault × (new ≡ old)

module _ {S : Type 0} (reads : ReadsFile S) where
  -- the file was read and is UTF-8, and a line was printed of each of its lines in turn
  pub record ShowsFile (before : S) (name : List ℕ) (after : S) (old new : Option (List ℕ)) : Type 0 where
    pub text : List ℕ
    pub read : reads before name (Some text) after
    pub utf8 : IsUtf8 text
    pub first : Showing
    pub last : Showing
    pub all : AreTaken ShowsLine (lines_of text) first last old new

  -- the file was read and is UTF-8, a line was printed of each line up to one, and that one is bad
  pub record StopsShowing (before : S) (name : List ℕ) (after : S) (old new : Option (List ℕ)) (fault : Fault) : Type 0
    where
      pub text : List ℕ
      pub read : reads before name (Some text) after
      pub utf8 : IsUtf8 text
      pub first : Showing
      pub last : Showing
      pub stop : StopsInLines ShowsLine IsUnshown (lines_of text) first last old new fault

  -- the file cannot be read or is not UTF-8, and nothing was printed; or a line is bad, after some that were shown
  abbrev pub IsNotShown : (before : S) (name : List ℕ) (after : S) → (old new : Option (List ℕ)) → Fault → Type 0
  IsNotShown before name after old new fault =
      (TextUnread reads before name after fault × (new ≡ old)) ⊎ StopsShowing before name after old new fault
