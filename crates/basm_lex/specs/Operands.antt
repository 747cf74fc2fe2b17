-- What words write: registers and memory operands.
use Rattle.std.specs.Prelude.{◌≡◌, ◌≤◌, ℕ, ℤ, List, [], ◌∷◌, ◌++◌, codes, FitsSigned}
use Rattle.std.specs.Int.{w16}
use Rattle.bpf_parts.specs.declared.memory.MemoryOperand.{MemoryOperand}
use Rattle.bpf_parts.specs.Text.{register_text}
use Rattle.basm_lex.specs.Numbers.{WritesDistance}

-- ---- the statement

-- a register by its name
abbrev pub WritesRegister : List ℕ → ℕ → Type 0
WritesRegister word number = (number ≤ 10) × (word ≡ register_text number)

-- a register and a distance in brackets
pub record WritesMemoryOperand (word : List ℕ) (place : MemoryOperand) : Type 0 where
  pub distance : List ℕ
  pub is_base : place.base ≤ 10
  pub word_is : word ≡ codes "[" ++ register_text place.base ++ distance ++ codes "]"
  pub writes : WritesDistance distance place.offset
  pub fits : FitsSigned w16 place.offset

-- ---- what else contracts and proofs say

-- no register has that name
abbrev pub IsNoRegister : List ℕ → Type 0
IsNoRegister word = (number : ℕ) → ¬ WritesRegister word number

-- a distance of 16 bits
abbrev pub WritesOffset : List ℕ → ℤ → Type 0
WritesOffset word offset = WritesDistance word offset × FitsSigned w16 offset

-- a word in brackets
abbrev pub IsBracketed : (word inner : List ℕ) → Type 0
IsBracketed word inner = word ≡ 91 ∷ (inner ++ 93 ∷ [])

-- a word that is not in brackets
abbrev pub IsUnbracketed : List ℕ → Type 0
IsUnbracketed word = (inner : List ℕ) → ¬ IsBracketed word inner
