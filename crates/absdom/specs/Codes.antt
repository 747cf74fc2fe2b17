-- The numbers of the refusals.
use Rattle.std.specs.Prelude.{ℕ}
use Rattle.absdom.specs.declared.cause.Cause.{Cause}
use Rattle.absdom.specs.declared.cause.Cause.TheVariants.{UnsetOperand, KindMismatch, OutOfRegion, UnsetStack}
use Rattle.absdom.specs.declared.cause.Cause.TheVariants.{HeaderWrite, PointerRange}

-- the number of a refusal, as the verifier gives it
abbrev pub cause_code : Cause → ℕ
cause_code UnsetOperand = 5
cause_code KindMismatch = 6
cause_code OutOfRegion = 7
cause_code UnsetStack = 8
cause_code HeaderWrite = 9
cause_code PointerRange = 11
