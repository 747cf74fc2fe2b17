-- The registers that instructions write, as bits of a number.
use Rattle.std.proofs.Common.{◌≡◌, ◌≢◌, ◌⊎◌, ℕ, ◌+◌, ◌<◌, ◌≤◌, false, List, length, inl, inr, sym, ap, subst, ◌∙◌, arith, set, length-set, get_or-set_same, get_or-set_other}
use Rattle.std.specs.Prelude.{◌==◌, ◌||◌, ◌↔◌, IsTrue, slice_index_or}
use Rattle.std.specs.Int.Bits.{bit_or}
use Rattle.std.proofs.lemmas.Bool.{cases_lt}
use Rattle.std.proofs.lemmas.Nat.Bits.{bit_at-zero}
use Rattle.bpf_insn.specs.Bits.{bit_of_either}
use Rattle.bpf.specs.declared.loops.Loop.{Loop}
use Rattle.bpf.specs.Program.{Program, insn_at}
use Rattle.bver_pass.specs.declared.written.Written.{Written}
use Rattle.bver_pass.specs.Heads.{IsDeclared}
use Rattle.bver_pass.specs.Justified.{IsStoreAt, IsWrittenBy}
use Rattle.bver_pass.specs.Written.{AreWrittenByLoops, IsWrittenByLoop, has_register}
use Rattle.bver_pass.proofs.Loops.{inside_of, holds_at}

-- ---- bits

-- no register is among those of 0
pub has_none : (register : ℕ) → has_register 0 register ≡ false
has_none register = ap (λ x. x == 1) (bit_at-zero register)

-- a register is among those of both
pub has_either : (a b register : ℕ) → has_register (bit_or a b) register ≡ (has_register a register || has_register b register)
has_either a b register = bit_of_either a b register

-- ---- what the slots of a loop write, up to one of them

-- an instruction of the loop before the slot writes the register
pub record IsWrittenBefore (p : Program) (l : Loop) (slot register : ℕ) : Type 0 where
  pub at : ℕ
  pub from : l.head ≤ at
  pub before : at < slot
  pub writes : IsWrittenBy (insn_at p at) register

-- an instruction of the loop before the slot is a store
pub record IsStoredBefore (p : Program) (l : Loop) (slot : ℕ) : Type 0 where
  pub at : ℕ
  pub from : l.head ≤ at
  pub before : at < slot
  pub stores : IsStoreAt (insn_at p at)

-- what the slots of the loop before the slot write
pub record IsWrittenSoFar (p : Program) (l : Loop) (slot : ℕ) (w : Written) : Type 0 where
  pub register_made : (register : ℕ) → register ≤ 10 → IsTrue (has_register w.registers register) → IsWrittenBefore p l slot register
  pub register_kept : (register : ℕ) → register ≤ 10 → (k : ℕ) → l.head ≤ k → k < slot → IsWrittenBy (insn_at p k) register → IsTrue (has_register w.registers register)
  pub store_made : IsTrue w.stores → IsStoredBefore p l slot
  pub store_kept : (k : ℕ) → l.head ≤ k → k < slot → IsStoreAt (insn_at p k) → IsTrue w.stores

pub so_far_none : (p : Program) (l : Loop) (w : Written) → ((register : ℕ) → has_register w.registers register ≡ false) → w.stores ≡ false → IsWrittenSoFar p l l.head w
so_far_none p l w registers stores = record {
  register_made = λ register low is. absurd (cc (registers register, is));
  register_kept = λ register low k from before writes. absurd (omega (arith, from, before));
  store_made = λ is. absurd (cc (stores, is));
  store_kept = λ k from before is. absurd (omega (arith, from, before));
}

pub so_far_next : (p : Program) (l : Loop) (slot : ℕ) (old new : Written) → l.head ≤ slot → IsWrittenSoFar p l slot old
    → ((register : ℕ) → register ≤ 10 → IsTrue (has_register new.registers register) ↔ (IsTrue (has_register old.registers register) ⊎ IsWrittenBy (insn_at p slot) register))
    → IsTrue new.stores ↔ (IsTrue old.stores ⊎ IsStoreAt (insn_at p slot)) → IsWrittenSoFar p l (slot + 1) new
so_far_next p l slot old new above so registers stores = record {
  register_made = λ register low is.
      elim ((registers register low).0 is) [
        | inl was ↦
            let h : IsWrittenBefore p l slot register = so.register_made register low was in
            record { at = h.at; from = h.from; before = omega (arith, h.before); writes = h.writes }
        | inr writes ↦ record { at = slot; from = above; before = omega arith; writes = writes }
      ];
  register_kept = λ register low k from before writes.
      elim (cases_lt k slot) [
        | inl earlier ↦ (registers register low).1 (inl (so.register_kept register low k from earlier writes))
        | inr past ↦ (registers register low).1 (inr (here (λ i. IsWrittenBy (insn_at p i) register) k past before writes))
      ];
  store_made = λ is.
      elim (stores.0 is) [
        | inl was ↦
            let h : IsStoredBefore p l slot = so.store_made was in
            record { at = h.at; from = h.from; before = omega (arith, h.before); stores = h.stores }
        | inr is_store ↦ record { at = slot; from = above; before = omega arith; stores = is_store }
      ];
  store_kept = λ k from before is.
      elim (cases_lt k slot) [
        | inl earlier ↦ stores.1 (inl (so.store_kept k from earlier is))
        | inr past ↦ stores.1 (inr (here (λ i. IsStoreAt (insn_at p i)) k past before is))
      ];
}
  where
    here : (P : ℕ → Type 0) (k : ℕ) → slot ≤ k → k < slot + 1 → P k → P slot
    here P k past before is = let same : k ≡ slot = omega (arith, past, before) in subst P same is

pub so_far_all : (p : Program) (l : Loop) (slot : ℕ) (w : Written) → slot ≡ l.back + 1 → IsWrittenSoFar p l slot w → IsWrittenByLoop p l w
so_far_all p l slot w end so = record {
  registers = λ register low. (
    λ is.
        let h : IsWrittenBefore p l slot register = so.register_made register low is in
        record { slot = h.at; inside = holds_at l h.at h.from (omega (arith, end, h.before)); writes = h.writes },
    λ h.
        let within = inside_of l h.slot h.inside in
        so.register_kept register low h.slot within.0 (omega (arith, end, within.1)) h.writes,
  );
  stores = (
    λ is.
        let h : IsStoredBefore p l slot = so.store_made is in
        record { slot = h.at; inside = holds_at l h.at h.from (omega (arith, end, h.before)); stores = h.stores },
    λ h.
        let within = inside_of l h.slot h.inside in
        so.store_kept h.slot within.0 (omega (arith, end, within.1)) h.stores,
  );
}

-- ---- what each loop writes

-- what each declared loop before a place writes is at its place
pub record AreWrittenBelow (p : Program) (written : List Written) (place : ℕ) : Type 0 where
  pub count : length written ≡ 8
  pub each : (l : Loop) (k : ℕ) → k < place → IsDeclared p l k → (d : Written) → IsWrittenByLoop p l (slice_index_or written k d)

pub written_none : (p : Program) (written : List Written) → length written ≡ 8 → AreWrittenBelow p written 0
written_none p written size = record { count = size; each = λ l k below. absurd (omega (arith, below)) }

pub written_next : (p : Program) (written : List Written) (place : ℕ) (w : Written) → place < 8 → AreWrittenBelow p written place
    → ((l : Loop) → IsDeclared p l place → IsWrittenByLoop p l w) → AreWrittenBelow p (set written place w) (place + 1)
written_next p written place w inside so here = record {
  count = length-set written place w ∙ so.count;
  each = λ l k below declared d.
      elim (cases_lt k place) [
        | inl earlier ↦
            let apart : k ≢ place = λ same. omega (arith, earlier, same) in
            subst (IsWrittenByLoop p l) (sym (get_or-set_other written place k w d apart)) (so.each l k earlier declared d)
        | inr past ↦
            let same : k ≡ place = omega (arith, past, below) in
            let at : place < length written = omega (arith, inside, so.count) in
            subst (λ j. IsWrittenByLoop p l (slice_index_or (set written place w) j d)) (sym same)
            (subst (IsWrittenByLoop p l) (sym (get_or-set_same written place w d at)) (here l (subst (IsDeclared p l) same declared)))
      ];
}

pub written_all : (p : Program) (written : List Written) (place : ℕ) → length p.loops ≤ place → AreWrittenBelow p written place → AreWrittenByLoops p written
written_all p written place all so = record {
  count = so.count;
  each = λ l k declared d. so.each l k (omega (arith, all, declared.inside)) declared d;
}

-- one place has one loop
pub one_loop : (p : Program) (l m : Loop) (place : ℕ) (w : Written) → IsDeclared p l place → IsDeclared p m place → IsWrittenByLoop p m w → IsWrittenByLoop p l w
one_loop p l m place w first second is =
    let same : m ≡ l = sym (second.is l) ∙ first.is l in
    subst (λ (it : Loop). IsWrittenByLoop p it w) same is
