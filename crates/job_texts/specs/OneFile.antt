-- The file that an image is written to, beside the one that is read.
use Rattle.std.specs.Prelude.{◌≡◌, ℕ, List, true}
use Rattle.std.specs.Borrow.{Bor}
use Rattle.std.specs.Str.{bytes_eq}
use Rattle.job_parts.specs.declared.faults.Fault.{Fault}
use Rattle.job_parts.specs.declared.faults.Fault.TheVariants.{CannotWrite}

-- the file that is read and the one that an image would be written to have one name, so it cannot be written
pub record IsOneFile (name image : List ℕ) (fault : Fault) : Type 0 where
  pub file : Bor (List ℕ)
  pub named : file.now ≡ image
  pub is_fault : fault ≡ CannotWrite file
  pub one : bytes_eq name image ≡ true
