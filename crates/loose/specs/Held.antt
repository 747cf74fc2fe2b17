-- What a handle owns that C keeps.
use Rattle.std.specs.Prelude.{ℕ, Option, None, Some}
use mir.Syntax.{Ty}
use base.Fml.{Fml, fsep, feq}
use denote.RattleType.{RattleType}
use denote.RawPtr.{Ptr}
use Rattle.std_alloc.specs.Box.Ownership.{box_owns}
use Rattle.std.specs.contracts.impls.GlobalAllocator.TheImpl.{ghosts}

-- the right to free a block of the heap, of which there is one
abbrev pub may_free : Ty → Ptr → Fml
may_free = ghosts.dealloc_token (record { memory = record { seal = tt } })

-- nothing and a 0 in `live`, or the handle's mark and the block of the value
abbrev pub held_handle : (mark : ℕ) (R : RattleType) → Ptr → (live : ℕ) → Option R.Denot → Fml
held_handle mark R p live None = feq ℕ live 0
held_handle mark R p live (Some x) = fsep (feq ℕ live mark) (box_owns may_free R p x)
