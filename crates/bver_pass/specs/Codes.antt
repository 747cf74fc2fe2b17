-- The refusals for what an instruction may do wrong.
use Rattle.absdom.specs.declared.cause.Cause.{Cause}
use Rattle.absdom.specs.declared.cause.Cause.TheVariants as causes
use Rattle.bver_form.specs.declared.refusal.Refusal.{Refusal}
use Rattle.bver_form.specs.declared.refusal.Refusal.TheVariants.{Unset, KindMismatch, OutOfRegion, UnsetStack}
use Rattle.bver_form.specs.declared.refusal.Refusal.TheVariants.{HeaderWrite, PointerRange}

-- the refusal for the cause by which a state refuses an instruction
abbrev pub refusal_of : Cause → Refusal
refusal_of causes.UnsetOperand = Unset
refusal_of causes.KindMismatch = KindMismatch
refusal_of causes.OutOfRegion = OutOfRegion
refusal_of causes.UnsetStack = UnsetStack
refusal_of causes.HeaderWrite = HeaderWrite
refusal_of causes.PointerRange = PointerRange
