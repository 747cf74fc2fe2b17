-- The names of files in a node's file.
use Rattle.std.specs.Prelude.{◌≡◌, ◌++◌, ◌==◌, ℕ, List, codes, slice_index, Bool, true, false, Option, None, Some, Result, Ok, Err}
use Rattle.std.specs.Str.Pattern.{RFindsChar, SplitsAroundMatch}
use Rattle.toml.specs.Data.{Data, Members, as_str, get_member}
use Rattle.job_config.specs.declared.faults.ConfigFault.{ConfigFault}
use Rattle.job_config.specs.declared.faults.ConfigFault.TheVariants.{NoName}
use Rattle.job_config.specs.declared.places.NameKey.{NameKey}
use Rattle.job_config.specs.declared.places.TablePlace.{TablePlace}
use Rattle.job_config.specs.Places.{name_word}

-- the name that a value is
abbrev pub name_of_value : TablePlace → NameKey → Option (List ℕ) → Result (Option (List ℕ)) ConfigFault
name_of_value place key None = Err (NoName place key)
name_of_value place key (Some name) = Ok (Some name)

-- the name at a key, if something is there
abbrev pub name_from : TablePlace → NameKey → Option Data → Result (Option (List ℕ)) ConfigFault
name_from place key None = Ok None
name_from place key (Some value) = name_of_value place key (as_str value)

-- the name that a key of a table holds, if the table has the key
abbrev pub name_at : Members → TablePlace → NameKey → Result (Option (List ℕ)) ConfigFault
name_at table place key = name_from place key (get_member (name_word key) table)

-- the folder of a file: all before the last slash of its name, if it has one
abbrev pub IsFolder : (file : List ℕ) → Option (List ℕ) → Type 0
IsFolder file None = RFindsChar 47 file None
IsFolder file (Some folder) = (rest : List ℕ) × SplitsAroundMatch (RFindsChar 47) file folder rest

-- the path of a name in a folder; without a folder in the one that the program runs in
abbrev pub path_in : Option (List ℕ) → (name : List ℕ) → List ℕ
path_in None name = codes "./" ++ name
path_in (Some folder) name = folder ++ (codes "/" ++ name)

-- the path of a name: that name, if it begins with a slash, and else in the folder of the file
abbrev pub IsPath : (rooted : Bool) → (file name path : List ℕ) → Type 0
IsPath true file name path = path ≡ name
IsPath false file name path = (folder : Option (List ℕ)) × IsFolder file folder × (path ≡ path_in folder name)

-- the path of the file of that name beside that file
abbrev pub IsBeside : (file name path : List ℕ) → Type 0
IsBeside file name path = IsPath (slice_index name 0 == 47) file name path
