-- What is printed, and the line of the fault that ends a job.
use Rattle.std.specs.Prelude.{ℕ, List, [], ◌∷◌, ◌++◌, codes, decimal, Option}
use Rattle.std.specs.Io.KnownBytes.{Appends}
use Rattle.std.specs.List.{flat_map}
use Rattle.std.specs.Str.Lines.{lines}
use Rattle.basm.specs.Codes.{asm_code}
use Rattle.bpf.specs.Fault.{image_fault_code, image_fault_slot}
use Rattle.bver_form.specs.Codes.{refusal_code}
use Rattle.policy_table.specs.Codes.{policy_fault_code}
use Rattle.job_parts.specs.BadLines.{bad_line_number}
use Rattle.job_parts.specs.NodeCodes.{node_code}
use Rattle.job_parts.specs.declared.faults.Fault.{Fault}
use Rattle.job_parts.specs.declared.faults.Fault.TheVariants.{CannotRead, CannotWrite, NoMemory, Damaged, BadText, BadTable}
use Rattle.job_parts.specs.declared.faults.Fault.TheVariants.{BadImage, Refused, BadNode, BadLine}

-- the line was printed, after what the writer holds, if that is known
abbrev pub Prints : {W : Type 0} → (contents : W → Option (List ℕ)) → (old new : W) → List ℕ → Type 0
Prints contents old new line = Appends (contents old) (contents new) line

-- more was printed, after what the writer holds, if that is known
abbrev pub PrintsMore : (old new : Option (List ℕ)) → Type 0
PrintsMore old new = (more : List ℕ) × Appends old new more

-- a line, four columns further right
abbrev pub indented_line : List ℕ → List ℕ
indented_line line = codes "    " ++ line ++ 10 ∷ []

-- each line of a text, four columns further right
abbrev pub indented : List ℕ → List ℕ
indented text = flat_map indented_line (lines text)

-- a reason was printed: the lines of some text, four columns further right
abbrev pub GivesReason : (old new : Option (List ℕ)) → Type 0
GivesReason old new = (reason : List ℕ) × Appends old new (indented reason)

-- the text of what ends a job
abbrev pub fault_text : Fault → List ℕ
fault_text (CannotRead name) = codes "cannot read " ++ name.now
fault_text (CannotWrite name) = codes "cannot write " ++ name.now
fault_text NoMemory = codes "no memory"
fault_text Damaged = codes "damaged"
fault_text (BadText fault) =
    codes "asm fault " ++ decimal (asm_code fault.code) ++ codes " line " ++ decimal fault.line
fault_text (BadTable fault) = codes "policy fault " ++ decimal (policy_fault_code fault)
fault_text (BadImage fault) =
    codes "image fault " ++ decimal (image_fault_code fault) ++ codes " slot " ++ decimal (image_fault_slot fault)
fault_text (Refused refused) =
    codes "refused V" ++ decimal (refusal_code refused.code) ++ codes " slot " ++ decimal refused.slot
fault_text (BadNode code place) = codes "node fault " ++ decimal (node_code code)
fault_text (BadLine number fault) =
    codes "line " ++ decimal number ++ codes " fault " ++ decimal (bad_line_number fault)

-- the line of what ends a job
abbrev pub job_fault_line : Fault → List ℕ
job_fault_line fault = fault_text fault ++ 10 ∷ []
