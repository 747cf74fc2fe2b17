-- The files that banks begin with, by their names in a node's file.
use Rattle.std.specs.Prelude.{◌≡◌, ℕ, List, [], ◌∷◌, ◌++◌, Option, None, Some, Result, Ok, Err}
use Rattle.toml.specs.Data.{Data, Items, no_items, item, Members, as_str, as_table, get_member}
use Rattle.toml.specs.Parse.{parse_document}
use Rattle.job_config.specs.Configured.{list_at}
use Rattle.job_config.specs.Names.{IsBeside}
use Rattle.job_config.specs.Places.{name_word}
use Rattle.job_config.specs.declared.faults.ConfigFault.{ConfigFault}
use Rattle.job_config.specs.declared.places.TableKind.TheVariants.{Bank}
use Rattle.job_config.specs.declared.places.NameKey.TheVariants.{Contents}

-- the text that a value is, if there is one
abbrev pub text_of : Option Data → Option (List ℕ)
text_of None = None
text_of (Some value) = as_str value

-- the name of the file that the bank of a table begins with, if it has one
abbrev pub name_of_contents : Option Members → Option (List ℕ)
name_of_contents None = None
name_of_contents (Some table) = text_of (get_member (name_word Contents) table)

-- the same of the value that a bank is
abbrev pub contents_name : Data → Option (List ℕ)
contents_name bank = name_of_contents (as_table bank)

module _ (file : List ℕ) where
  -- the path of the file of that name was added, if there is one
  abbrev pub IsPathAdded : (name : Option (List ℕ)) → (old new : List (List ℕ)) → Type 0
  IsPathAdded None old new = new ≡ old
  IsPathAdded (Some name) old new = (path : List ℕ) × IsBeside file name path × (new ≡ old ++ path ∷ [])

  -- the path of the file of that name, if there is one, and then those that are left
  abbrev pub ArePathsWith : (name : Option (List ℕ)) → (AreLeft : List (List ℕ) → Type 0) → List (List ℕ) → Type 0
  ArePathsWith None AreLeft paths = AreLeft paths
  ArePathsWith (Some name) AreLeft [] = ⊥
  ArePathsWith (Some name) AreLeft (path ∷ paths) = IsBeside file name path × AreLeft paths

  -- the paths of the files that these banks begin with, in their order
  abbrev pub ArePathsIn : Items → List (List ℕ) → Type 0
  ArePathsIn no_items paths = paths ≡ []
  ArePathsIn (item bank items) paths = ArePathsWith (contents_name bank) (ArePathsIn items) paths

  -- the same of the banks of a list, if it is one
  abbrev pub ArePathsOf : Result (Option Items) ConfigFault → List (List ℕ) → Type 0
  ArePathsOf (Ok None) paths = paths ≡ []
  ArePathsOf (Ok (Some items)) paths = ArePathsIn items paths
  ArePathsOf (Err fault) paths = paths ≡ []

  -- the same of a table, if there is one
  abbrev pub ArePathsAt : Option Members → List (List ℕ) → Type 0
  ArePathsAt None paths = paths ≡ []
  ArePathsAt (Some table) paths = ArePathsOf (list_at table Bank) paths

  -- the paths of the files that the banks of a node's file of this name begin with, by its text
  abbrev pub AreContentsPaths : (text : List ℕ) → List (List ℕ) → Type 0
  AreContentsPaths text paths = ArePathsAt (parse_document text) paths
