-- Sums of the operations of a program, and which program has one.
use Rattle.std.specs.Prelude.{◌≡◌, ◌≢◌, ◌<◌, ◌⊎◌, ℕ, ◌+◌, ◌*◌, ◌^◌, List, ◌∷◌, ◌++◌, fold, map}
use Rattle.std.specs.Int.{w16, cast_unsigned}
use Rattle.bver.specs.Justified.{AcceptedValue}
use Rattle.bver_op.specs.declared.op.Op.{Op}
use Rattle.bver_op.specs.Op.{operation_of}
use Rattle.bver_op.specs.Operations.{operations_of}
use Rattle.scrub.specs.Numbers.{accessed_number, code_number}
use Rattle.sums.specs.Sums.{after_word}

-- the first word of an operation: its code, its registers, the region that is accessed, its offset and its target, from
-- the lowest byte up
abbrev pub packed : (code dst src accessed offset target : ℕ) → ℕ
packed code dst src accessed offset target =
    ((((target * 65536 + offset) * 256 + accessed) * 256 + src) * 256 + dst) * 256 + code

-- The same of an operation. Its second word is its constant.
abbrev pub head_sum_of : Op → ℕ
head_sum_of o =
    packed (code_number o.code) o.dst o.src (accessed_number o.accessed) (cast_unsigned w16 o.offset) o.target

-- the sum after one more operation: after its two words
abbrev pub after_op : (sum : ℕ) → Op → ℕ
after_op sum o = after_word (after_word sum (head_sum_of o)) o.constant

-- the sum of a list of operations
abbrev pub sum_of : List Op → ℕ
sum_of operations = fold after_op 0 operations

-- one of the two words of an operation is another, and the other one is the same
abbrev pub DifferInOneWord : (a b : Op) → Type 0
DifferInOneWord a b =
    ((head_sum_of a ≢ head_sum_of b) × (a.constant ≡ b.constant)) ⊎ ((head_sum_of a ≡ head_sum_of b) × (a.constant ≢ b.constant))

-- the words of an operation are words
abbrev pub AreOperationWords : Op → Type 0
AreOperationWords o = (head_sum_of o < 2 ^ 64) × (o.constant < 2 ^ 64)

-- Two lists of operations that differ in one word of one of them have different sums. So one changed bit is seen, too.
abbrev pub OneChangeIsSeen : Type 0
OneChangeIsSeen = (before after : List Op) (a b : Op) → AreOperationWords a → AreOperationWords b → DifferInOneWord a b
    → sum_of (before ++ a ∷ after) ≢ sum_of (before ++ b ∷ after)

-- A list of operations that has the meaning of those of the program has that sum. Which list it is, no value of the
-- program says: it is what its memory has.
pub record IsSummed (a : AcceptedValue) (sum : ℕ) : Type 0 where
  pub operations : List Op
  pub listed : map operation_of operations ≡ operations_of a.program a.regions
  pub sum_is : sum ≡ sum_of operations
