-- The numbers that a table holds.
use Rattle.std.specs.Prelude.{ℕ, ℤ, pos, negsuc, ◌&&◌, nat_le, if◌then◌else◌, Option, None, Some, Result, Ok, Err}
use Rattle.toml.specs.Data.{Data, Members, as_integer, get_member}
use Rattle.job_config.specs.declared.faults.ConfigFault.{ConfigFault}
use Rattle.job_config.specs.declared.faults.ConfigFault.TheVariants.{BadNumber}
use Rattle.job_config.specs.declared.faults.FoundWord.{FoundWord}
use Rattle.job_config.specs.declared.faults.FoundWord.TheVariants.{Missing, Number, Other}
use Rattle.job_config.specs.declared.places.NumberKey.{NumberKey}
use Rattle.job_config.specs.declared.places.TablePlace.{TablePlace}
use Rattle.job_config.specs.Places.{number_word}

-- what a value is, in the place of a number
abbrev pub found_of : Option ℤ → FoundWord
found_of None = Other
found_of (Some number) = Number number

-- what was found in the place of a number
abbrev pub found_in : Option Data → FoundWord
found_in None = Missing
found_in (Some value) = found_of (as_integer value)

-- the number that was found, if it is one from `least` to `most`
abbrev pub within : (least most : ℕ) → FoundWord → Option ℕ
within least most Missing = None
within least most (Number (pos number)) = if nat_le least number && nat_le number most then Some number else None
within least most (Number (negsuc number)) = None
within least most Other = None

-- the number that a key holds within its limits, or the fault of the key
abbrev pub wanted : TablePlace → NumberKey → FoundWord → (least most : ℕ) → Option ℕ → Result ℕ ConfigFault
wanted place key found least most (Some number) = Ok number
wanted place key found least most None = Err (BadNumber place key found least most)

-- the number from `least` to `most` that was found at a key, or the fault of the key
abbrev pub number_of_key : TablePlace → NumberKey → (least most : ℕ) → FoundWord → Result ℕ ConfigFault
number_of_key place key least most found = wanted place key found least most (within least most found)

-- what a key of a table holds
abbrev pub found_at : Members → NumberKey → FoundWord
found_at table key = found_in (get_member (number_word key) table)

-- the number from `least` to `most` that a key of a table holds
abbrev pub number_at_key : Members → TablePlace → NumberKey → (least most : ℕ) → Result ℕ ConfigFault
number_at_key table place key least most = number_of_key place key least most (found_at table key)

-- the number that was found at a key, or `other` if nothing is there
abbrev pub number_unless : TablePlace → NumberKey → (least most other : ℕ) → FoundWord → Result ℕ ConfigFault
number_unless place key least most other Missing = Ok other
number_unless place key least most other (Number number) = number_of_key place key least most (Number number)
number_unless place key least most other Other = number_of_key place key least most Other

-- the number from `least` to `most` that a key of a table holds, or `other` if the table does not have the key
abbrev pub number_or : Members → TablePlace → NumberKey → (least most other : ℕ) → Result ℕ ConfigFault
number_or table place key least most other = number_unless place key least most other (found_at table key)
