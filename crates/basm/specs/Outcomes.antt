-- How assembling may end.
use Rattle.std.specs.Prelude.{◌≡◌, ℕ, Result, MatchResult}
use Rattle.bpf.specs.declared.fault.ImageFault.{ImageFault}
use Rattle.bpf.specs.declared.fault.ImageFault.TheVariants as image
use Rattle.bpf.specs.Program.{Program}
use Rattle.basm.specs.declared.faults.AsmCode.{AsmCode}
use Rattle.basm.specs.declared.faults.AsmCode.TheVariants.{BadWord, BadOperand, BadNumber, BadLabel, Reach, TooMany}
use Rattle.basm.specs.declared.faults.AsmCode.TheVariants.{BadBudget, BadLoop, Memory, BadVersion}
use Rattle.basm.specs.declared.faults.AsmFault.{AsmFault}

-- ---- the statement

-- a fault of the whole text
abbrev pub text_fault : AsmCode → AsmFault
text_fault code = record { line = 0; code = code }

-- refused memory, which is the fault of no line
abbrev pub out_of_memory : AsmFault
out_of_memory = text_fault Memory

-- the image, unless memory was refused
abbrev pub Makes : Program → Result Program AsmFault → Type 0
Makes p result = MatchResult result (λ made. made ≡ p) (λ fault. fault ≡ out_of_memory)

-- ---- what else contracts and proofs say

-- a fault of a line
abbrev pub line_fault : ℕ → AsmCode → AsmFault
line_fault line BadWord = record { line = line; code = BadWord }
line_fault line BadOperand = record { line = line; code = BadOperand }
line_fault line BadNumber = record { line = line; code = BadNumber }
line_fault line BadLabel = record { line = line; code = BadLabel }
line_fault line Reach = record { line = line; code = Reach }
line_fault line TooMany = record { line = line; code = TooMany }
line_fault line BadBudget = record { line = line; code = BadBudget }
line_fault line BadLoop = record { line = line; code = BadLoop }
line_fault line Memory = out_of_memory
line_fault line BadVersion = record { line = line; code = BadVersion }

-- the assembler's fault for a fault of the image's parts
abbrev pub image_code : ImageFault → AsmCode
image_code image.Magic = TooMany
image_code image.Version = BadVersion
image_code image.Length = TooMany
image_code image.Count = TooMany
image_code image.Budget = BadBudget
image_code image.Loop = BadLoop
image_code (image.Insn slot fault) = TooMany
image_code image.Memory = Memory
