-- The files that a job reads, and the one that it writes.
use Rattle.std.specs.Prelude.{◌≡◌, ℕ, List, Option, option_map, string_bytes}
use Rattle.job_parts.specs.Arguments.{name_in}
use Rattle.job_parts.specs.declared.inputs.Content.{Content}
use Rattle.job_parts.specs.declared.inputs.Content.TheVariants.{Image}
use Rattle.job_parts.specs.declared.inputs.InputFile.{InputFile}
use Rattle.job_parts.specs.declared.inputs.Inputs.{Inputs}
use Rattle.job_parts.specs.declared.options.NodeWords.{NodeWords}

-- a file that a job reads: its name, and what it must be
pub record InputValue : Type 0 where
  pub name : List ℕ
  pub content : Content

-- the file of this name, which must be that
abbrev pub input : List ℕ → Content → InputValue
input name content = record { name = name; content = content }

-- what a file of the inputs is
abbrev pub input_value : InputFile → InputValue
input_value file = input file.name.now file.content

-- the file of the image that judges, if one is named
abbrev pub image_of : NodeWords → Option InputValue
image_of words = option_map (λ name. input (string_bytes name) Image) words.image

-- the job reads the one, and then the other, and writes the file of that name
abbrev pub AreInputs : (first second : Option InputValue) → (output : Option (List ℕ)) → Inputs → Type 0
AreInputs first second output inputs =
    (option_map input_value inputs.first ≡ first)
    × (option_map input_value inputs.second ≡ second)
    × (name_in inputs.output ≡ output)
