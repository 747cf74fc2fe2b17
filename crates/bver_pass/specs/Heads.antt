-- What the verifier makes of what is known at the head of a loop, so that it holds in every pass.
use Rattle.std.specs.Prelude.{◌≡◌, ◌≢◌, ◌≤◌, ◌<◌, ◌⊎◌, ℕ, Bool, true, false, if◌then◌else◌, List, length}
use Rattle.std.specs.Prelude.{slice_index_or, All, Option, Some, None, IsTrue, IfSome}
use Rattle.bpf.specs.declared.header.TheConstants.{MAX_SLOTS}
use Rattle.bpf.specs.declared.loops.Loop.{Loop}
use Rattle.bpf.specs.Program.{Program, IsLoop}
use Rattle.bpf_parts.specs.declared.operation.Width.TheVariants.{Bits64}
use Rattle.absdom_num.specs.Tables.{whole_range}
use Rattle.absdom.specs.declared.kinds.AbsKind.{AbsKind}
use Rattle.absdom.specs.declared.kinds.AbsKind.TheVariants.{Unset, Num, Ptr, Map}
use Rattle.absdom.specs.Kinds.{IsKindBelow}
use Rattle.absdom.specs.State.{StateValue, kind_at}
use Rattle.absdom_stack.specs.StackWords.{AreAllWhole}
use Rattle.bver_form.specs.declared.refusal.Refusal.{Refusal}
use Rattle.bver_form.specs.declared.refusal.Refusal.TheVariants.{LoopEntry}
use Rattle.bver_form.specs.declared.refusal.Refused.{Refused}
use Rattle.bver_form.specs.Lowered.{IsMore, IsSettled, is_lowered}
use Rattle.bver_pass.specs.Justified.{HasStore, IsHead, IsWrittenIn}

-- a loop that a program declares, and its place among those
pub record BodyValue : Type 0 where
  pub program : Program
  pub declared : Loop
  pub place : ℕ

-- the loop is declared at that place
pub record IsDeclared (p : Program) (l : Loop) (place : ℕ) : Type 0 where
  pub inside : place < length p.loops
  pub is : (d : Loop) → slice_index_or p.loops place d ≡ l
  pub few : place < 8
  pub limits : IsLoop MAX_SLOTS l

-- of a number that the loop writes, any number is kept, or nothing if it was lowered; of any other kind nothing is
-- kept
abbrev pub opened_kind : (lowered : Bool) → AbsKind → AbsKind
opened_kind lowered Unset = Unset
opened_kind lowered (Num range) = if lowered then Unset else Num (whole_range Bits64)
opened_kind lowered (Ptr region offsets) = Unset
opened_kind lowered (Map index) = Unset

-- How a register is widened at the head of the loop at that place. Its counter becomes 1 to the bound, one that the
-- loop writes is opened, and any other is kept.
pub data IsWidenedKind (p : Program) (l : Loop) (lowered : List Bool) (place register : ℕ) (before after : AbsKind) :
    Type 0 where
  counts : register ≡ l.register → after ≡ Num (1, l.bound) → IsWidenedKind p l lowered place register before after
  opens : register ≢ l.register → IsWrittenIn p l register → after
      ≡ opened_kind (is_lowered lowered place register) before → IsWidenedKind p l lowered place register before after
  keeps : register ≢ l.register → (IsWrittenIn p l register → ⊥) → after ≡ before
      → IsWidenedKind p l lowered place register before after

-- How the ranges of the stack's words are widened at the head of a loop. If the loop stores, nothing is known of any
-- word, and else they are kept.
pub data AreWidenedRanges (p : Program) (l : Loop) (before after : StateValue) : Type 0 where
  forgets : HasStore p l → AreAllWhole after.ranges → AreWidenedRanges p l before after
  retains : (HasStore p l → ⊥) → after.ranges ≡ before.ranges → AreWidenedRanges p l before after

-- what is known is widened: r0 to r9 are, and so are the ranges of words; r10 and the bytes of the stack are kept
pub record IsWidened (p : Program) (l : Loop) (lowered : List Bool) (place : ℕ) (before after : StateValue) : Type 0
  where
    pub registers : (register : ℕ) → register ≤ 9
        → IsWidenedKind p l lowered place register (kind_at before register) (kind_at after register)
    pub frame : kind_at after 10 ≡ kind_at before 10
    pub marks : after.marks ≡ before.marks
    pub ranges : AreWidenedRanges p l before after

-- a run comes to the head with a counter from 1 to the bound
abbrev pub IsWithinBound : Loop → StateValue → Type 0
IsWithinBound l a = IsKindBelow (kind_at a l.register) (Num (1, l.bound))

-- a run may come to the head otherwise
pub record IsEntryFault (l : Loop) (a : StateValue) (refusal : Refusal) : Type 0 where
  pub code : refusal ≡ LoopEntry
  pub outside : IsWithinBound l a → ⊥

-- the registers that were lowered for the loop hold nothing at its head
abbrev pub AreUnset : Program → Loop → (lowered : List Bool) (place : ℕ) → StateValue → Type 0
AreUnset p l lowered place a =
    (register : ℕ) → register ≤ 9 → register ≢ l.register → IsWrittenIn p l register
    → IsTrue (is_lowered lowered place register) → kind_at a register ≡ Unset

-- what was lowered holds nothing at the heads, if the table has a state there
abbrev pub HasLowered : Program → (lowered : List Bool) → (table : ℕ → Option StateValue) → Type 0
HasLowered p lowered table =
    (l : Loop) (place : ℕ) → IsDeclared p l place → IfSome (table l.head) (AreUnset p l lowered place)

-- the kind is that of a number
abbrev pub is_number : AbsKind → Bool
is_number Unset = false
is_number (Num range) = true
is_number (Ptr region offsets) = false
is_number (Map index) = false

-- a number is known of the register
abbrev pub is_number_at : Option StateValue → (register : ℕ) → Bool
is_number_at None register = false
is_number_at (Some a) register = is_number (kind_at a register)

-- an edge back to the head lowers the register there: the loop writes it, and it is a number only at the head
pub record Falls (b : BodyValue) (head : Option StateValue) (edge : StateValue) (register : ℕ) : Type 0 where
  pub head_number : IsTrue (is_number_at head register)
  pub edge_number : is_number (kind_at edge register) ≡ false
  pub written : IsWrittenIn b.program b.declared register

-- the marks after an edge back: it lowered those of these registers that fall; no other mark changes, and if their
-- count stays, none does
pub record AreLowered (b : BodyValue) (head : Option StateValue) (edge : StateValue) (among : ℕ → Type 0)
    (old new : List Bool) : Type 0 where
  pub fallen : (register : ℕ) → among register → Falls b head edge register → IsTrue (is_lowered new b.place register)
  pub only : (place register : ℕ) → register ≤ 9 → (is_lowered new place register ≡ is_lowered old place register)
      ⊎ ((place ≡ b.place) × among register × Falls b head edge register)
  pub more : IsMore old new
  pub settled : IsSettled old new → new ≡ old

-- an edge back to the head is refused there, since it neither lowers a register nor is covered
pub record IsClosingFault (l : Loop) (refused : Refused) : Type 0 where
  pub code : refused.code ≡ LoopEntry
  pub slot : refused.slot ≡ l.head

-- at the head of each loop that has it at the slot, what is known holds in every pass
abbrev pub AreHeadsAt : Program → (slot : ℕ) → Option StateValue → Type 0
AreHeadsAt p slot known = All (λ l. l.head ≡ slot → IfSome known (IsHead p l)) p.loops
