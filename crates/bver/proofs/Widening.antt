-- What is known at the head of a loop is widened, register by register.
use Rattle.std.proofs.Common.{◌≡◌, ◌≢◌, ℕ, ◌+◌, ◌<◌, ◌≤◌, Bool, true, false, List, [], ◌∷◌, Option, None, Some, inl, inr, eqb, refl, sym, subst, ◌∙◌, arith}
use Rattle.std.specs.Prelude.{IfSome}
use Rattle.std.proofs.lemmas.Bool.{cases_lt, false≢true}
use Rattle.std.proofs.lemmas.Bool.Decides.{nat_tests}
use Rattle.std.proofs.lemmas.List.{get_or_past}
use Rattle.bpf.specs.declared.loops.Loop.{Loop}
use Rattle.bpf.specs.Program.{Program, insn_at}
use Rattle.bpf_insn.specs.declared.flow.Flow.{Flow}
use Rattle.bpf_insn.specs.declared.flow.Flow.TheVariants.{GoesOn, Branches, Jumps, Calls, Ends, Unsupported}
use Rattle.bpf_insn.specs.declared.insn.Insn.{Insn}
use Rattle.bpf_insn.specs.Flow.{flow_of, written_register, is_register_named, is_clobbered}
use Rattle.absdom_num.specs.Tables.{whole_range}
use Rattle.absdom.specs.declared.kinds.AbsKind.{AbsKind}
use Rattle.absdom.specs.declared.kinds.AbsKind.TheVariants.{Unset, Num, Ptr, Map}
use Rattle.absdom.specs.Kinds.{IsKindBelow}
use Rattle.absdom.specs.State.{StateValue, IsStateBelow, kind_at}
use Rattle.absdom.specs.State.{IsWhole, IsProper}
use Rattle.absdom.specs.Laws.{BelowIsReflexive}
use Rattle.absdom_stack.specs.StackWords.{AreAllWhole, AreRangesWithin}
use Rattle.bver_form.specs.Form.{IsFormed}
use Rattle.bver_pass.specs.Justified.{HasStore, IsHead, IsOpen, IsStoreAt, IsWrittenBy, IsWrittenIn}
use Rattle.bver_pass.specs.Heads.{AreWidenedRanges, IsWidened, IsWidenedKind, IsWithinBound, counts, opens, keeps, opened_kind, retains, forgets}
use Rattle.bver_form.specs.Lowered.{is_lowered}
use Rattle.bver_pass.proofs.Loops.{inside_of}

-- a loop none of whose slots writes the register
pub unwritten : (p : Program) (l : Loop) (register : ℕ) → ((k : ℕ) → l.head ≤ k → k < l.back + 1 → IsWrittenBy (insn_at p k) register → ⊥) → IsWrittenIn p l register → ⊥
unwritten p l register none h =
    let within = inside_of l h.slot h.inside in
    none h.slot within.0 (omega (arith, within.1)) h.writes

-- a loop none of whose slots stores
pub unstored : (p : Program) (l : Loop) → ((k : ℕ) → l.head ≤ k → k < l.back + 1 → IsStoreAt (insn_at p k) → ⊥) → HasStore p l → ⊥
unstored p l none h =
    let within = inside_of l h.slot h.inside in
    none h.slot within.0 (omega (arith, within.1)) h.stores

-- each kind is below itself, since each state is
pub kind_below-refl : BelowIsReflexive → (k : AbsKind) → IsKindBelow k k
kind_below-refl reflexive k = (reflexive (record { kinds = k ∷ []; marks = []; ranges = [] })).kinds 0

-- ---- what is widened holds for every pass, and covers what was known

open_kind : (lowered : Bool) (kind : AbsKind) → IsOpen (opened_kind lowered kind)
open_kind lowered Unset = tt
open_kind true (Num range) = tt
open_kind false (Num range) = refl
open_kind lowered (Ptr region offsets) = tt
open_kind lowered (Map index) = tt

opened_above : (lowered : Bool) (kind : AbsKind) → IsProper kind → IsKindBelow kind (opened_kind lowered kind)
opened_above lowered Unset proper = tt
opened_above true (Num range) proper = tt
opened_above false (Num range) proper = record { above = omega arith; below = omega (arith, proper.words) }
opened_above lowered (Ptr region offsets) proper = tt
opened_above lowered (Map index) proper = tt

counter_is : (p : Program) (l : Loop) (lowered : List Bool) (place register : ℕ) (before after : AbsKind) → register ≡ l.register → IsWidenedKind p l lowered place register before after → after ≡ Num (1, l.bound)
counter_is p l lowered place register before after same (counts at is) = is
counter_is p l lowered place register before after same (opens other written is) = absurd (other same)
counter_is p l lowered place register before after same (keeps other written is) = absurd (other same)

other_is : (p : Program) (l : Loop) (lowered : List Bool) (place register : ℕ) (before after : AbsKind) → register ≢ l.register → IsWrittenIn p l register → IsWidenedKind p l lowered place register before after → IsOpen after
other_is p l lowered place register before after other written (counts at is) = absurd (other at)
other_is p l lowered place register before after other written (opens o w is) = rw is (open_kind (is_lowered lowered place register) before)
other_is p l lowered place register before after other written (keeps o w is) = absurd (w written)

kind_is : BelowIsReflexive → (p : Program) (l : Loop) (lowered : List Bool) (place register : ℕ) (before after : AbsKind) → IsProper before → (register ≡ l.register → IsKindBelow before (Num (1, l.bound))) → IsWidenedKind p l lowered place register before after → IsKindBelow before after
kind_is reflexive p l lowered place register before after proper within (counts at is) = rw is (within at)
kind_is reflexive p l lowered place register before after proper within (opens o w is) = rw is (opened_above (is_lowered lowered place register) before proper)
kind_is reflexive p l lowered place register before after proper within (keeps o w is) = rw is (kind_below-refl reflexive before)

-- a formed program writes no frame pointer
frame_named : (o : Option ℕ) → IfSome o (λ register. register ≢ 10) → is_register_named o 10 ≡ false
frame_named None leaves = refl
frame_named (Some register) leaves = differs register leaves
  where
    differs : (n : ℕ) → n ≢ 10 → eqb n 10 ≡ false
    differs n other = grind (arith, nat_tests, other)

frame_clobbered : (flow : Flow) → is_clobbered flow 10 ≡ false
frame_clobbered GoesOn = refl
frame_clobbered (Branches distance) = refl
frame_clobbered (Jumps distance) = refl
frame_clobbered (Calls callee number) = refl
frame_clobbered Ends = refl
frame_clobbered Unsupported = refl

pub frame_kept : (p : Program) (slot : ℕ) (o : Option Insn) → insn_at p slot ≡ o → IsFormed p → IsWrittenBy o 10 → ⊥
frame_kept p slot None is form writes = absurd writes
frame_kept p slot (Some insn) is form writes =
    let named = frame_named (written_register insn) (form.allowed slot insn is).leaves_frame in
    let clobbered = frame_clobbered (flow_of insn) in
    false≢true (sym (rw (named, clobbered) refl) ∙ writes)

-- if the loop stores, nothing is known of any place
pub wide_is : (p : Program) (l : Loop) (before after : StateValue) → HasStore p l → AreWidenedRanges p l before after → AreAllWhole after.ranges
wide_is p l before after stored (forgets s is) = is
wide_is p l before after stored (retains out is) = absurd (out stored)

ranges_are : (p : Program) (l : Loop) (before after : StateValue) → IsWhole before → AreWidenedRanges p l before after → AreRangesWithin before.ranges after.ranges
ranges_are p l before after proper (forgets stored is) k = rw (is k) (record { above = omega arith; below = omega (arith, (proper.ranges k).words) })
ranges_are p l before after proper (retains out is) k = rw is (record { above = omega arith; below = omega arith })

pub widened_head : (p : Program) (l : Loop) (lowered : List Bool) (place : ℕ) (before after : StateValue) → IsFormed p → l.register ≤ 9 → IsWhole after → IsWidened p l lowered place before after → IsHead p l after
widened_head p l lowered place before after form low whole_range widened = record {
  counter = counter_is p l lowered place l.register (kind_at before l.register) (kind_at after l.register) refl (widened.registers l.register low);
  others = λ register other written.
      elim (cases_lt register 10) [
        | inl below ↦ other_is p l lowered place register (kind_at before register) (kind_at after register) other written (widened.registers register (omega (arith, below)))
        | inr past ↦ elim (cases_lt 10 register) [
          | inl beyond ↦ rw (get_or_past after.kinds register Unset (omega (arith, beyond, whole_range.sizes.registers))) tt
          | inr at ↦ absurd (frame_kept p written.slot (insn_at p written.slot) refl form (subst (λ (r : ℕ). IsWrittenBy (insn_at p written.slot) r) (omega (arith, past, at)) written.writes))
        ]
      ];
  words = λ keeps stored. wide_is p l before after stored widened.ranges;
}

pub widened_above : BelowIsReflexive → (p : Program) (l : Loop) (lowered : List Bool) (place : ℕ) (before after : StateValue) → IsWhole before → IsWhole after → IsWithinBound l before → IsWidened p l lowered place before after → IsStateBelow before after
widened_above reflexive p l lowered place before after proper new_proper within widened = record {
  kinds = λ register.
      elim (cases_lt register 10) [
        | inl below ↦ kind_is reflexive p l lowered place register (kind_at before register) (kind_at after register) (proper.kinds register) (λ same. subst (λ (r : ℕ). IsKindBelow (kind_at before r) (Num (1, l.bound))) (sym same) within) (widened.registers register (omega (arith, below)))
        | inr past ↦ elim (cases_lt 10 register) [
          | inl beyond ↦ rw (get_or_past after.kinds register Unset (omega (arith, beyond, new_proper.sizes.registers)), get_or_past before.kinds register Unset (omega (arith, beyond, proper.sizes.registers))) tt
          | inr at ↦
              let same : 10 ≡ register = omega (arith, past, at) in
              subst (λ (r : ℕ). IsKindBelow (kind_at before r) (kind_at after r)) same (rw widened.frame (kind_below-refl reflexive (kind_at before 10)))
        ]
      ];
  marks = λ mark is. rw (sym widened.marks) is;
  ranges = ranges_are p l before after proper widened.ranges;
}
