-- The names of the files that a work reads.
use Rattle.std.specs.Prelude.{ℕ, List, Option, Some, None, string_bytes}
use Rattle.job_config.specs.declared.sources.NodeSource.{NodeSource}
use Rattle.job_config.specs.declared.sources.NodeSource.TheVariants.{File, Words}
use Rattle.job_parts.specs.Options.{image_name}
use Rattle.job_rehearse.specs.declared.places.PlaceWords.{PlaceWords}
use Rattle.job_rehearse.specs.declared.places.PlaceWords.TheVariants.{Maps, File as Own}

-- the names of the files that a work reads, as its words have them: at most three
pub record NamesValue : Type 0 where
  pub first : Option (List ℕ)
  pub second : Option (List ℕ)
  pub third : Option (List ℕ)

-- no file
abbrev pub no_names : NamesValue
no_names = record { first = None; second = None; third = None }

-- one file
abbrev pub one_name : List ℕ → NamesValue
one_name first = record { first = Some first; second = None; third = None }

-- one file, and a second one if there is one
abbrev pub two_names : List ℕ → Option (List ℕ) → NamesValue
two_names first second = record { first = Some first; second = second; third = None }

-- the name of the file that a node comes from: its own, or that of the image that judges
abbrev pub source_name : NodeSource → Option (List ℕ)
source_name (File name) = Some (string_bytes name)
source_name (Words words) = image_name words

-- the name of the file of the node at which loads are rehearsed
abbrev pub place_name : PlaceWords → Option (List ℕ)
place_name (Maps sizes) = None
place_name (Own name) = Some (string_bytes name)
