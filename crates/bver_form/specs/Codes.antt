-- The numbers of the refusals, and which of them are for a program's form.
use Rattle.std.specs.Prelude.{ℕ, ◌==◌, if◌then◌else◌, Option, Some, None}
use Rattle.bver_form.specs.declared.refusal.Refusal.{Refusal}
use Rattle.bver_form.specs.declared.refusal.Refusal.TheVariants.{Target, BackJump, LoopShape, LoopEntry, Unset}
use Rattle.bver_form.specs.declared.refusal.Refusal.TheVariants.{KindMismatch, OutOfRegion, UnsetStack, HeaderWrite}
use Rattle.bver_form.specs.declared.refusal.Refusal.TheVariants.{FrameWrite, PointerRange, MapKey, Helper, FallOff}
use Rattle.bver_form.specs.declared.refusal.Refusal.TheVariants.{Budget, Unsupported, Memory, MapKind}

-- ---- the statement

-- the number of a refusal, 1 to 18
abbrev pub refusal_code : Refusal → ℕ
refusal_code Target = 1
refusal_code BackJump = 2
refusal_code LoopShape = 3
refusal_code LoopEntry = 4
refusal_code Unset = 5
refusal_code KindMismatch = 6
refusal_code OutOfRegion = 7
refusal_code UnsetStack = 8
refusal_code HeaderWrite = 9
refusal_code FrameWrite = 10
refusal_code PointerRange = 11
refusal_code MapKey = 12
refusal_code Helper = 13
refusal_code FallOff = 14
refusal_code Budget = 15
refusal_code Unsupported = 16
refusal_code Memory = 17
refusal_code MapKind = 18

-- ---- what else contracts and proofs say

-- the refusal of a number, if it is the number of one
abbrev pub refusal_of_code : ℕ → Option Refusal
refusal_of_code code =
    if code == 1 then Some Target
    else (if code == 2 then Some BackJump
    else (if code == 3 then Some LoopShape
    else (if code == 4 then Some LoopEntry
    else (if code == 5 then Some Unset
    else (if code == 6 then Some KindMismatch
    else (if code == 7 then Some OutOfRegion
    else (if code == 8 then Some UnsetStack
    else (if code == 9 then Some HeaderWrite
    else (if code == 10 then Some FrameWrite
    else (if code == 11 then Some PointerRange
    else (if code == 12 then Some MapKey
    else (if code == 13 then Some Helper
    else (if code == 14 then Some FallOff
    else (if code == 15 then Some Budget
    else (if code == 16 then Some Unsupported
    else (if code == 17 then Some Memory
    else (if code == 18 then Some MapKind
    else None)))))))))))))))))

-- the refusals for the form of a program. The others are for its values, and for refused memory
abbrev pub IsFormCode : Refusal → Type 0
IsFormCode Target = Unit {0}
IsFormCode BackJump = Unit {0}
IsFormCode LoopShape = Unit {0}
IsFormCode LoopEntry = ⊥
IsFormCode Unset = ⊥
IsFormCode KindMismatch = ⊥
IsFormCode OutOfRegion = ⊥
IsFormCode UnsetStack = ⊥
IsFormCode HeaderWrite = ⊥
IsFormCode FrameWrite = Unit {0}
IsFormCode PointerRange = ⊥
IsFormCode MapKey = ⊥
IsFormCode Helper = Unit {0}
IsFormCode FallOff = Unit {0}
IsFormCode Budget = Unit {0}
IsFormCode Unsupported = Unit {0}
IsFormCode Memory = ⊥
IsFormCode MapKind = ⊥
