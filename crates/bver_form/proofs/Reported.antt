-- The facts of slots, and the tests of loops by them.
use Rattle.std.proofs.Common.{◌≡◌, ◌≢◌, ℕ, ◌+◌, ◌*◌, ◌^◌, ◌%◌, ◌<◌, ◌≤◌, Bool, true, false, Option, Some, None, List, length, inl, inr, eqb, refl, sym, ap, subst, ◌∙◌, arith, get_or-set_same, get_or-set_other}
use Rattle.std.specs.Prelude.{◌==◌, ◌||◌, IsTrue, IfSome, slice_index_or, slice_set}
use Rattle.std.proofs.lemmas.Bool.{cases_lt, false≢true}
use Rattle.std.proofs.lemmas.Bool.Decides.{nat_tests}
use Rattle.std.proofs.lemmas.Nat.{one_shl}
use Rattle.std.proofs.lemmas.Nat.Bits.{bit_at-zero, bit_at-pow_same, bit_at-pow_other}
use Rattle.bpf_insn.specs.Bits.{is_bit}
use Rattle.bpf_insn.specs.Flow.{is_written}
use Rattle.bpf_insn.specs.declared.insn.Insn.{Insn}
use Rattle.bpf.specs.declared.loops.Loop.{Loop}
use Rattle.bpf.specs.Program.{Program, insn_at}
use Rattle.bver_form.specs.declared.facts.SlotFacts.{SlotFacts}
use Rattle.bver_form.specs.Facts.{AreFactsOf}
use Rattle.bver_form.specs.Loops.{LeavesCounterAt, holds}

-- ---- bits

pub from_eqb : (m n : ℕ) → eqb m n ≡ true → m ≡ n
from_eqb m n same = grind (arith, nat_tests, same)

-- no register is among those of 0
pub has_none : (register : ℕ) → is_bit 0 register ≡ false
has_none register = ap (λ x. x == 1) (bit_at-zero register)

-- the bit of a register is that of no other
has_named : (named register : ℕ) → named ≤ 10 → is_bit (1 * 2 ^ named % 2 ^ 16) register ≡ (named == register)
has_named named register low =
    ap (λ m. is_bit m register) (one_shl named 16 (omega arith)) ∙ by_same (eqb named register) refl
  where
    by_same : (t : Bool) → eqb named register ≡ t → is_bit (2 ^ named) register ≡ (named == register)
    by_same true e =
        let same : named ≡ register = from_eqb named register e in
        ap (λ r. is_bit (2 ^ named) r) (sym same) ∙ ap (λ x. x == 1) (bit_at-pow_same named) ∙ sym e
    by_same false e =
        let apart : register ≢ named = grind (arith, nat_tests, e) in
        ap (λ x. x == 1) (bit_at-pow_other named register apart) ∙ sym e

-- with that bit there is no other register
pub has_only : (named register : ℕ) → named ≤ 10 → is_bit (1 * 2 ^ named % 2 ^ 16) register ≡ (named == register || false)
has_only named register low = has_named named register low ∙ by_test (named == register)
  where
    by_test : (t : Bool) → t ≡ (t || false)
    by_test true = refl
    by_test false = refl

-- ---- the facts of slots

-- the facts of the slots before one are at their places
abbrev pub AreReportedBefore : Program → List SlotFacts → (slot : ℕ) → Type 0
AreReportedBefore p facts slot =
    (k : ℕ) (any : SlotFacts) → k < slot → AreFactsOf (insn_at p k) (slice_index_or facts k any)

pub reported_next : (p : Program) (facts : List SlotFacts) (slot at : ℕ) (reported : SlotFacts) → at ≡ slot → slot < length facts → AreReportedBefore p facts slot → AreFactsOf (insn_at p slot) reported → AreReportedBefore p (slice_set facts at reported) (slot + 1)
reported_next p facts slot at reported same inside before here =
    subst (λ (i : ℕ). AreReportedBefore p (slice_set facts i reported) (slot + 1)) (sym same) by_place
  where
    by_place : AreReportedBefore p (slice_set facts slot reported) (slot + 1)
    by_place k any below =
        elim (cases_lt k slot) [
          | inl earlier ↦
              let apart : k ≢ slot = λ is. omega (arith, earlier, is) in
              subst (AreFactsOf (insn_at p k)) (sym (get_or-set_other facts slot k reported any apart)) (before k any earlier)
          | inr past ↦
              let is : k ≡ slot = omega (arith, past, below) in
              subst (λ (j : ℕ). AreFactsOf (insn_at p j) (slice_index_or (slice_set facts slot reported) j any)) (sym is)
              (subst (AreFactsOf (insn_at p slot)) (sym (get_or-set_same facts slot reported any inside)) here)
        ]

-- ---- a loop's register

-- nothing is required of slots outside a loop
leaves_outside : (p : Program) (l : Loop) (slot : ℕ) → holds l slot ≡ false → LeavesCounterAt p l slot
leaves_outside p l slot outside = by_insn (insn_at p slot)
  where
    by_insn : (o : Option Insn) → IfSome o (λ insn. IsTrue (holds l slot) → slot + 1 ≢ l.back → is_written insn l.register ≡ false)
    by_insn None = tt
    by_insn (Some insn) = λ inside. absurd (false≢true (sym outside ∙ inside))

-- the slots of a loop before one do not write its register
abbrev pub LeaveBefore : Program → Loop → (slot : ℕ) → Type 0
LeaveBefore p l slot = (k : ℕ) → k < slot → LeavesCounterAt p l k

pub leave_none : (p : Program) (l : Loop) → LeaveBefore p l l.head
leave_none p l k below = leaves_outside p l k (grind (arith, nat_tests, below))
