-- The visit of an instruction in a loop. At the slots to which it leads, what is known says all that the loop's head
-- says of what the loop does not write. The counter is within the bound.
use Rattle.std.proofs.Common.{◌≡◌, ◌≢◌, ℕ, ◌+◌, ◌-◌, ◌<◌, ◌≤◌, ◌^◌, ◌⊎◌, inl, inr, Bool, true, false, List, [], Option, None, Some, refl, sym, subst, ◌∙◌, arith, get_or-set_same, get_or-set_other}
use Rattle.std.specs.Prelude.{IsTrue, IsSome, IfSome, ◌==◌, if◌then◌else◌}
use Rattle.std.proofs.lemmas.Bool.{cases_lt, false≢true}
use Rattle.std.proofs.lemmas.Bool.Decides.{nat_tests}
use Rattle.std.proofs.lemmas.List.{get_or_past}
use Rattle.bpf.specs.declared.header.TheConstants.{MAX_SLOTS}
use Rattle.bpf.specs.declared.loops.Loop.{Loop}
use Rattle.bpf.specs.Program.{Program, IsLoop}
use Rattle.bpf_insn.specs.declared.insn.Insn.{Insn}
use Rattle.bpf_insn.specs.Flow.{is_written}
use Rattle.bpf_parts.specs.declared.operation.AluOp.TheVariants.{Add}
use Rattle.bpf_parts.specs.declared.operation.Width.TheVariants.{Bits64}
use Rattle.machine.specs.Step.{insn_at}
use Rattle.absdom_num.specs.declared.ranges.Range.{Range}
use Rattle.absdom_num.specs.Ranges.{IsWithin}
use Rattle.absdom_num.specs.Tables.{alu_range, single_range}
use Rattle.absdom.specs.declared.kinds.AbsKind.{AbsKind}
use Rattle.absdom.specs.declared.kinds.AbsKind.TheVariants.{Unset, Num, Ptr, Map}
use Rattle.absdom.specs.Kinds.{IsKindBelow}
use Rattle.absdom.specs.State.{StateValue, IsStateBelow, IsProper, IsWhole, kind_at, with_kind}
use Rattle.absdom_stack.specs.StackWords.{AreRangesWithin}
use Rattle.absdom.specs.Effect.{sum_kind, with_result}
use Rattle.absdom.specs.Laws.{ApplyLeaves, BelowIsReflexive, BelowIsTransitive, CallLeaves, IsKnownLeftBy, StateRefineShrinks}
use Rattle.absdom_stack.specs.Spill.{spill_of}
use Rattle.bver_form.specs.Form.{IsFormed}
use Rattle.bver_form.specs.Loops.{ComesIn, IsEdge, IsLoopInside, IsLoopFormed, holds, step_down}
use Rattle.bver_pass.specs.Heads.{AreWidenedRanges, IsWidened, IsWidenedKind, counts, keeps, opens, retains, forgets}
use Rattle.bver_pass.specs.Justified.{HasStore, IsCovered, IsHead, IsWrittenBy, IsWrittenIn}
use Rattle.bver_pass.specs.Leading.{GivesBelow, LeadsBelow}
use Rattle.bver_pass.specs.Visit.{HasNext, VisitValue}
use Rattle.bver_pass.proofs.Loops.{holds_at, inside_of}
use Rattle.bver.proofs.Widening.{kind_below-refl}
use Rattle.bver.proofs.Rings.{leads_by, ring, ring_any, ring_after}
use Rattle.bver.proofs.Rounds.{AreWords, IsRound, below_all, counter_range, ranges_less, ranges_same, round_left, round_less, round_there, words_of}
use Rattle.bver.proofs.Steps.{step_within}

-- what holds of the state after an instruction
pub record Leaves : Type 0 where
  pub reflexive : BelowIsReflexive
  pub transitive : BelowIsTransitive
  pub applies : ApplyLeaves
  pub calls : CallLeaves
  pub shrinks : StateRefineShrinks

-- ---- the counter's range

pub range_ahead : (l : Loop) (slot : ℕ) → slot ≢ l.back → counter_range l slot ≡ (1, l.bound)
range_ahead l slot other = by_test (slot == l.back) refl
  where
    at_back : (slot == l.back) ≡ true → slot ≡ l.back
    at_back h = grind (arith, nat_tests, h)

    by_test : (t : Bool) → (slot == l.back) ≡ t → ◌≡◌ {A = ℕ × ℕ} (if t then (0, l.bound - 1) else (1, l.bound)) (1, l.bound)
    by_test false is = refl
    by_test true is = absurd (other (at_back is))

pub range_back : (l : Loop) → counter_range l l.back ≡ (0, l.bound - 1)
range_back l = rw at refl
  where
    at : (l.back == l.back) ≡ true
    at = grind (arith, nat_tests)

-- ---- at the head

pub round_head : BelowIsReflexive → (p : Program) (l : Loop) (h : StateValue) → l.head < l.back → IsWhole h → IsHead p l h → IsRound p l l.head h h
round_head reflexive p l h ordered whole head = record {
  unwritten = λ register out. kind_below-refl reflexive (kind_at h register);
  counter = rw (range_ahead l l.head (λ same. omega (arith, ordered, same)), head.counter) (kind_below-refl reflexive (Num (1, l.bound)));
  marks = λ place is. is;
  ranges = λ out. ranges_same h.ranges;
  words = words_of h whole;
}

-- ---- at the head of a loop that lies inside

written_inside : (p : Program) (l m : Loop) (register : ℕ) → IsLoopInside m l → IsWrittenIn p m register → IsWrittenIn p l register
written_inside p l m register inside w =
    let within = inside_of m w.slot w.inside in
    record { slot = w.slot; inside = holds_at l w.slot (omega (arith, inside.0, within.0)) (omega (arith, inside.1, within.1)); writes = w.writes }

-- a loop writes its counter
counter_written : (p : Program) (m : Loop) → m.head < m.back → IsLoopFormed p m → IsWrittenIn p m m.register
counter_written p m ordered formed = record {
  slot = m.back - 1;
  inside = holds_at m (m.back - 1) (omega (arith, ordered)) (omega arith);
  writes = subst (λ (o : Option Insn). IsWrittenBy o m.register) (sym formed.step) writes;
}
  where
    writes : IsTrue (is_written (step_down m) m.register)
    writes = grind (arith, nat_tests)

-- but it writes no counter of a loop around it
counter_apart : (p : Program) (l m : Loop) → IsLoopFormed p l → IsLoopFormed p m → IsLoopInside m l → IsWrittenIn p m l.register → ⊥
counter_apart p l m outer inner inside w = by_place (cases_lt (w.slot + 1) l.back)
  where
    within : (m.head ≤ w.slot) × (w.slot ≤ m.back)
    within = inside_of m w.slot w.inside

    by_insn : (o : Option Insn) → IfSome o (λ insn. IsTrue (holds l w.slot) → w.slot + 1 ≢ l.back → is_written insn l.register ≡ false) → w.slot + 1 ≢ l.back → IsWrittenBy o l.register → ⊥
    by_insn None leaves other writes = writes
    by_insn (Some insn) leaves other writes =
        false≢true (sym (leaves (holds_at l w.slot (omega (arith, inside.0, within.0)) (omega (arith, inside.1, within.1))) other) ∙ writes)

    by_place : (w.slot + 1 < l.back) ⊎ (l.back ≤ w.slot + 1) → ⊥
    by_place (inl before) = by_insn (insn_at p w.slot) (outer.counter w.slot) (λ same. omega (arith, same, before)) w.writes
    by_place (inr past) =
        let last : w.slot ≡ m.back = omega (arith, past, within.1, inside.1) in
        false≢true (subst (λ (o : Option Insn). IsWrittenBy o l.register) inner.back (subst (λ (k : ℕ). IsWrittenBy (insn_at p k) l.register) last w.writes))

kind_kept : (p : Program) (m : Loop) (lowered : List Bool) (place register : ℕ) (before after : AbsKind) → register ≢ m.register → (IsWrittenIn p m register → ⊥) → IsWidenedKind p m lowered place register before after → after ≡ before
kind_kept p m lowered place register before after other out (counts at is) = absurd (other at)
kind_kept p m lowered place register before after other out (opens o written is) = absurd (out written)
kind_kept p m lowered place register before after other out (keeps o w is) = is

-- if an inner loop stores, so does the loop around it
stored_inside : (p : Program) (l m : Loop) → IsLoopInside m l → HasStore p m → HasStore p l
stored_inside p l m inside s =
    let within = inside_of m s.slot s.inside in
    record { slot = s.slot; inside = holds_at l s.slot (omega (arith, inside.0, within.0)) (omega (arith, inside.1, within.1)); stores = s.stores }

-- if the loop does not store, the ranges of words are kept
ranges_kept : (p : Program) (m : Loop) (before after head : StateValue) → (HasStore p m → ⊥) → AreWidenedRanges p m before after → AreRangesWithin before.ranges head.ranges → AreRangesWithin after.ranges head.ranges
ranges_kept p m before after head out (forgets stored is) within = absurd (out stored)
ranges_kept p m before after head out (retains o is) within = rw is within

-- a register that the inner loop does not write is kept
widened_kept : (p : Program) (m : Loop) (lowered : List Bool) (place register : ℕ) (before after : StateValue) → IsWhole before → IsWhole after → IsWidened p m lowered place before after → register ≢ m.register → (IsWrittenIn p m register → ⊥) → kind_at after register ≡ kind_at before register
widened_kept p m lowered place register before after p_before p_after widened other out =
    elim (cases_lt register 10) [
      | inl small ↦ kind_kept p m lowered place register (kind_at before register) (kind_at after register) other out (widened.registers register (omega (arith, small)))
      | inr past ↦ elim (cases_lt 10 register) [
        | inl beyond ↦
            get_or_past after.kinds register Unset (omega (arith, beyond, p_after.sizes.registers))
            ∙ sym (get_or_past before.kinds register Unset (omega (arith, beyond, p_before.sizes.registers)))
        | inr at ↦
            let same : 10 ≡ register = omega (arith, past, at) in
            subst (λ (r : ℕ). kind_at after r ≡ kind_at before r) same widened.frame
      ]
    ]

pub round_widened : (p : Program) (l m : Loop) (lowered : List Bool) (place slot : ℕ) (h before after : StateValue) → m.head < m.back → IsLoopFormed p l → IsLoopFormed p m → IsLoopInside m l → IsWhole before → IsWhole after → IsWidened p m lowered place before after → IsRound p l slot h before → IsRound p l slot h after
round_widened p l m lowered place slot h before after ordered outer inner inside p_before p_after widened round = record {
  unwritten = λ register out.
      subst (λ (k : AbsKind). IsKindBelow k (kind_at h register))
      (sym (widened_kept p m lowered place register before after p_before p_after widened
      (λ same. out (subst (λ (r : ℕ). IsWrittenIn p l r) (sym same) (written_inside p l m m.register inside (counter_written p m ordered inner))))
      (λ written. out (written_inside p l m register inside written))))
      (round.unwritten register out);
  counter =
      subst (λ (k : AbsKind). IsKindBelow k (Num (counter_range l slot)))
      (sym (widened_kept p m lowered place l.register before after p_before p_after widened
      (λ same. counter_apart p l m outer inner inside (subst (λ (r : ℕ). IsWrittenIn p m r) (sym same) (counter_written p m ordered inner)))
      (λ written. counter_apart p l m outer inner inside written)))
      round.counter;
  marks = λ mark is. rw widened.marks (round.marks mark is);
  ranges = λ out. ranges_kept p m before after h (λ stored. out (stored_inside p l m inside stored)) widened.ranges (round.ranges out);
  words = words_of after p_after;
}

-- ---- the slots to which an instruction leads

-- a table of the loop's slots that says no more than the head says of what the loop does not write
abbrev pub IsAround : Program → Loop → (head : StateValue) → (around : ℕ → StateValue) → Type 0
IsAround p l head around = (slot : ℕ) (b : StateValue) → IsRound p l slot head b → IsStateBelow b (around slot)

-- the state after an instruction in a whole state has ranges of words
moved_words : (a b : StateValue) (insn : Insn) → IsWhole a → IsKnownLeftBy insn a b ⊎ IsStateBelow b a → AreWords b.ranges
moved_words a b insn whole (inl left) k = record { above = omega arith; below = omega (arith, (left.proper whole k).words) }
moved_words a b insn whole (inr below) k = ranges_less b.ranges a.ranges [] below.ranges (words_of a whole) k

-- an instruction outside a loop leads to no slot of it except its head
pub leads_outside : Leaves → (v : VisitValue) (l : Loop) (inner : ℕ → Option StateValue) (a : StateValue) (insn : Insn) → IsFormed v.program → HasNext v insn → insn_at v.program v.slot ≡ Some insn
    → ((next : ℕ) → IsEdge v.program v.slot next → IsSome (insn_at v.program next) → ComesIn l v.slot next) → holds l v.slot ≡ false
    → IsWhole a
    → LeadsBelow (spill_of v.program.version) (ring l inner) v.slot a insn
leads_outside laws v l inner a insn form next begins comes outside whole =
    leads_by laws.applies laws.calls laws.shrinks laws.reflexive v (ring l inner) a insn form next begins
    (λ k b edge some moves.
    ring_any (λ o. IsCovered b o) l inner k
    (λ following. absurd (omega (arith, following.0, (comes k edge some).to_head outside (holds_at l k (omega (arith, following.0)) following.1))))
    (below_all b (moved_words a b insn whole moves)))

-- in the loop, except for the instruction that counts and the jump back
pub leads_around : Leaves → (v : VisitValue) (l : Loop) (h a : StateValue) (around : ℕ → StateValue) (insn : Insn) → IsFormed v.program → HasNext v insn → insn_at v.program v.slot ≡ Some insn
    → ((next : ℕ) → IsEdge v.program v.slot next → IsSome (insn_at v.program next) → ComesIn l v.slot next)
    → IsLoopFormed v.program l → l.head ≤ v.slot → v.slot < l.back → v.slot + 1 ≢ l.back
    → IsWhole a → IsAround v.program l h around → IsRound v.program l v.slot h a
    → LeadsBelow (spill_of v.program.version) (ring l (λ k. Some (around k))) v.slot a insn
leads_around laws v l h a around insn form next begins comes formed above before apart whole covers round =
    leads_by laws.applies laws.calls laws.shrinks laws.reflexive v (ring l (λ k. Some (around k))) a insn form next begins
    (λ k b edge some moves.
    ring_any (λ o. IsCovered b o) l (λ k. Some (around k)) k
    (λ following. covers k b (there k b (λ at_back. apart ((comes k edge some).to_back at_back)) moves))
    (below_all b (moved_words a b insn whole moves)))
  where
    inside : IsTrue (holds l v.slot)
    inside = holds_at l v.slot above (omega (arith, before))

    uncounted : is_written insn l.register ≡ false
    uncounted = subst (λ (o : Option Insn). IfSome o (λ i. IsTrue (holds l v.slot) → v.slot + 1 ≢ l.back → is_written i l.register ≡ false)) begins (formed.counter v.slot) inside apart

    same : (k : ℕ) → k ≢ l.back → counter_range l k ≡ counter_range l v.slot
    same k other = range_ahead l k other ∙ sym (range_ahead l v.slot (λ at_back. omega (arith, at_back, before)))

    there : (k : ℕ) (b : StateValue) → k ≢ l.back → IsKnownLeftBy insn a b ⊎ IsStateBelow b a → IsRound v.program l k h b
    there k b other (inl left) = round_left v.program l v.slot k h a b insn inside begins uncounted (same k other) whole left round
    there k b other (inr below) = round_less laws.transitive v.program l k h b a below (round_there v.program l v.slot k h a (same k other) round)

-- the instruction that counts takes one from the counter
pub leads_counted : (v : VisitValue) (l : Loop) (h a : StateValue) (around : ℕ → StateValue) → IsLoop MAX_SLOTS l → IsLoopFormed v.program l → v.slot + 1 ≡ l.back → IsWhole a
    → IsAround v.program l h around → IsRound v.program l v.slot h a
    → LeadsBelow (spill_of v.program.version) (ring l (λ k. Some (around k))) v.slot a (step_down l)
leads_counted v l h a around limits formed last whole covers round =
    by_kind (kind_at a l.register) (rw (range_ahead l v.slot (λ same. omega (arith, same, last))) at round.counter) (whole.kinds l.register)
  where
    counted : Range → StateValue
    counted range = with_kind a l.register (Num (alu_range Add Bits64 range (single_range (2 ^ 64 - 1))))

    there : (range : Range) → IsWithin range (1, l.bound) → IsProper (Num range) → IsRound v.program l (v.slot + 1) h (counted range)
    there range within proper = record {
      unwritten = λ register out.
          subst (λ (k : AbsKind). IsKindBelow k (kind_at h register))
          (sym (get_or-set_other a.kinds l.register register (Num (alu_range Add Bits64 range (single_range (2 ^ 64 - 1)))) Unset (λ same. out (subst (λ (r : ℕ). IsWrittenIn v.program l r) (sym same) (counter_written v.program l limits.ordered formed)))))
          (round.unwritten register out);
      counter =
          rw (get_or-set_same a.kinds l.register (Num (alu_range Add Bits64 range (single_range (2 ^ 64 - 1)))) Unset (omega (arith, whole.sizes.registers, limits.register)), last, range_back l)
          (step_within range.0 range.1 l.bound within.above proper.in_order within.below limits.high);
      marks = round.marks;
      ranges = round.ranges;
      words = round.words;
    }

    by_kind : (k : AbsKind) → IsKindBelow k (Num (1, l.bound)) → IsProper k → GivesBelow (with_result a l.register (sum_kind Bits64 k (Num (single_range (2 ^ 64 - 1))))) (ring l (λ k. Some (around k)) (v.slot + 1))
    by_kind Unset below proper = absurd below
    by_kind (Num range) below proper =
        subst (λ (o : Option StateValue). IsCovered (counted range) o) (sym (ring_after l (λ k. Some (around k)) (v.slot + 1) (omega (arith, last, limits.ordered), omega (arith, last))))
        (covers (v.slot + 1) (counted range) (there range below proper))
    by_kind (Ptr region offsets) below proper = absurd below
    by_kind (Map index) below proper = absurd below
