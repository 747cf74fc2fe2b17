-- What the job `dis` reads and prints.
use Rattle.std.specs.Prelude.{◌≡◌, ◌⊎◌, ℕ, List, Option, codes, string_bytes}
use Rattle.std.specs.Io.KnownBytes.{Appends}
use Rattle.bpf.specs.Program.{Program}
use Rattle.job_parts.specs.Files.{ReadsFile, HoldsImage}
use Rattle.job_parts.specs.Reading.{IsNoImage}
use Rattle.job_parts.specs.declared.faults.Fault.{Fault}
use Rattle.job_parts.specs.declared.faults.Fault.TheVariants.{NoMemory}
use Rattle.job_texts.specs.Listed.{listing}
use Rattle.job_texts.specs.Needed.{PrintsMaps}
use Rattle.job_texts.specs.declared.dis.DisWords.{DisWords}

module _ {S : Type 0} (reads : ReadsFile S) where
  -- the text of the image in the file was printed, with or without slots, and after it, as a comment, the maps that the
  -- program needs
  pub record Disassembles (before : S) (words : DisWords) (after : S) (old new : Option (List ℕ)) : Type 0 where
    pub program : Program
    pub image : HoldsImage reads before (string_bytes words.image) program after
    pub reported : Option (List ℕ)
    pub text : Appends old reported (listing words.slots program)
    pub maps : PrintsMaps (codes "; ") program reported new

  -- the file gives no image, or memory was refused after it was read
  abbrev pub IsNotPrinted : (before : S) (name : List ℕ) (after : S) → Fault → Type 0
  IsNotPrinted before name after fault =
      IsNoImage reads before name after fault
      ⊎ ((fault ≡ NoMemory) × (p : Program) × HoldsImage reads before name p after)
