-- The arguments of a command line, and the files that they name.
use Rattle.std.specs.Prelude.{◌≡◌, ℕ, Bool, List, Option, Some, None, true, false, codes, option_map, String, string_bytes}
use Rattle.std.specs.Str.{bytes_eq}
use Rattle.std.specs.Borrow.{Bor}
use Rattle.clap.specs.Walk.{Row, Rule, Text, first_of}
use Rattle.clap.specs.Simple.{App, new_app, new_rule, with_rule}
use Rattle.clap.specs.declared.builder.action.ArgAction.TheVariants.{SetTrue}
use Rattle.job_parts.specs.declared.usage.UsageFault.{UsageFault}
use Rattle.job_parts.specs.declared.usage.UsageFault.TheVariants.{Parse, BadOption, Memory}

-- a file that must be given
abbrev pub file_rule : Text → Rule
file_rule id = record (new_rule id) { value_names = 1; required = true }

-- a word that may be left out
abbrev pub optional_rule : Text → Rule
optional_rule id = record (new_rule id) { value_names = 1 }

-- an option that may be left out, with one value: --NAME VALUE
abbrev pub option_rule : Text → Rule
option_rule name = record (new_rule name) { long = Some name; value_names = 1 }

-- a flag: `--NAME`
abbrev pub flag_rule : Text → Rule
flag_rule name = record (new_rule name) { long = Some name; action = Some SetTrue }

-- the value of a flag that was given
abbrev pub is_true : Option (List ℕ) → Bool
is_true None = false
is_true (Some text) = bytes_eq text (codes "true")

-- the flag of this name was given
abbrev pub is_flag_set : Text → List Row → Bool
is_flag_set name rows = is_true (first_of name rows)

-- a subcommand of this name with the file of an image: NAME FILE
abbrev pub image_app : Text → App
image_app name = with_rule (new_app name) (file_rule (codes "image"))

-- the matches have this name for the file
abbrev pub HasName : {A : Type 0} → (file : Text) → List Row → String A → Type 0
HasName file rows name = first_of file rows ≡ Some (string_bytes name)

-- the name that is lent, or none
abbrev pub name_in : Option (Bor (List ℕ)) → Option (List ℕ)
name_in name = option_map (λ lent. lent.now) name

-- matches without a file that must be given, or memory was refused
abbrev pub Lacks : (file : Text) → List Row → UsageFault → Type 0
Lacks file rows Memory = Unit {0}
Lacks file rows BadOption = first_of file rows ≡ None
Lacks file rows (Parse text) = ⊥
