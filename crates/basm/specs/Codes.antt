-- The numbers of the assembler's faults.
use Rattle.std.specs.Prelude.{ℕ, nat_lt, if◌then◌else◌, ◌==◌, Option, Some, None}
use Rattle.basm_lex.specs.declared.numbers.NumberFault.{NumberFault}
use Rattle.basm_lex.specs.declared.numbers.NumberFault.TheVariants.{Form, Range}
use Rattle.basm.specs.declared.faults.AsmCode.{AsmCode}
use Rattle.basm.specs.declared.faults.AsmCode.TheVariants.{BadWord, BadOperand, BadNumber, BadLabel, Reach, TooMany}
use Rattle.basm.specs.declared.faults.AsmCode.TheVariants.{BadBudget, BadLoop, Memory, BadVersion}

-- the number of a fault
abbrev pub asm_code : AsmCode → ℕ
asm_code BadWord = 1
asm_code BadOperand = 2
asm_code BadNumber = 3
asm_code BadLabel = 4
asm_code Reach = 5
asm_code TooMany = 6
asm_code BadBudget = 7
asm_code BadLoop = 8
asm_code Memory = 9
asm_code BadVersion = 10

-- the fault of a number, if it is the number of one
abbrev pub asm_of_code : ℕ → Option AsmCode
asm_of_code code =
    if code == 1 then Some BadWord
    else (if code == 2 then Some BadOperand
    else (if code == 3 then Some BadNumber
    else (if code == 4 then Some BadLabel
    else (if code == 5 then Some Reach
    else (if code == 6 then Some TooMany
    else (if code == 7 then Some BadBudget
    else (if code == 8 then Some BadLoop
    else (if code == 9 then Some Memory
    else (if code == 10 then Some BadVersion
    else None)))))))))

-- the fault of a word that is not the number it should be
abbrev pub number_code : NumberFault → AsmCode
number_code Form = BadOperand
number_code Range = BadNumber

-- the one of two faults that has the lower number
abbrev pub lower_code : AsmCode → AsmCode → AsmCode
lower_code code other = if nat_lt (asm_code other) (asm_code code) then other else code
