-- The edge back to the head of a loop: it is covered there, or it lowers a register that was not lowered before.
use Rattle.std.proofs.Common.{◌≡◌, ◌≢◌, ℕ, zero, suc, ◌+◌, ◌-◌, ◌<◌, ◌≤◌, ◌^◌, ◌⊎◌, inl, inr, pos, Bool, true, false, List, Option, None, Some, Result, Ok, Err, refl, sym, subst, ◌∙◌, arith, get_or-set_same}
use Rattle.std.specs.Prelude.{IsTrue, IfSome, IfOk, ◌&&◌, ◌==◌, nat_lt, nat_le, if◌then◌else◌}
use Rattle.std.proofs.lemmas.Bool.{cases_eq, cases_lt, false≢true}
use Rattle.std.proofs.lemmas.Bool.Decides.{nat_tests}
use Rattle.std.proofs.lemmas.List.{get_or_past}
use Rattle.bpf.specs.declared.header.TheConstants.{MAX_SLOTS}
use Rattle.bpf.specs.declared.loops.Loop.{Loop}
use Rattle.bpf.specs.Program.{Program, IsLoop}
use Rattle.bpf_insn.specs.declared.insn.Insn.{Insn}
use Rattle.bpf_insn.specs.Flow.{is_written}
use Rattle.bpf_parts.specs.declared.operation.Condition.TheVariants.{NotEqual}
use Rattle.bpf_parts.specs.declared.operation.Operand.TheVariants.{Immediate}
use Rattle.bpf_parts.specs.declared.operation.Width.TheVariants.{Bits64}
use Rattle.machine.specs.Laws.{is_store}
use Rattle.machine.specs.Step.{insn_at}
use Rattle.absdom_num.specs.declared.ranges.Range.{Range}
use Rattle.absdom_num.specs.declared.refinement.Operands.{Operands}
use Rattle.absdom_num.specs.Ranges.{IsWithin}
use Rattle.absdom_num.specs.Refinement.{edge as edge_ranges, range_apart, refined_ranges}
use Rattle.absdom_num.specs.Tables.{single_range}
use Rattle.absdom.specs.declared.cause.Cause.{Cause}
use Rattle.absdom.specs.declared.kinds.AbsKind.{AbsKind}
use Rattle.absdom.specs.declared.kinds.AbsKind.TheVariants.{Unset, Num, Ptr, Map}
use Rattle.absdom.specs.Kinds.{IsKindBelow, number_of}
use Rattle.absdom.specs.State.{StateValue, IsStateBelow, IsProper, IsWhole, kind_at, with_kind}
use Rattle.absdom_stack.specs.StackWords.{AreAllWhole}
use Rattle.absdom.specs.Edges.{Edges, compared_edges, edge_state, refined_edges}
use Rattle.absdom.specs.Laws.{AreEdgesBelow, StateRefineShrinks}
use Rattle.bver_form.specs.Form.{IsFormed}
use Rattle.bver_form.specs.Loops.{back_jump}
use Rattle.bver_form.specs.Lowered.{is_lowered}
use Rattle.bver_pass.specs.Heads.{Falls, IsDeclared, is_number}
use Rattle.bver_pass.specs.Justified.{HasStore, IsHead, IsStoreAt, IsWrittenBy, IsWrittenIn}
use Rattle.bver_pass.specs.Leading.{jumping_state, taken_state}
use Rattle.bver_pass.proofs.Loops.{holds_at}
use Rattle.bver.proofs.Widening.{frame_kept, unstored, unwritten}
use Rattle.bver.proofs.Rounds.{IsRound, closes, kind_less, ranges_less}
use Rattle.bver.proofs.Turns.{Leaves, range_back}

-- ---- which registers a loop writes, and whether it stores

writes_at : (o : Option Insn) (register : ℕ) → IsWrittenBy o register ⊎ (IsWrittenBy o register → ⊥)
writes_at None register = inr (λ writes. writes)
writes_at (Some insn) register = by_test (is_written insn register) refl
  where
    by_test : (t : Bool) → is_written insn register ≡ t → IsTrue (is_written insn register) ⊎ (IsTrue (is_written insn register) → ⊥)
    by_test true is = inl is
    by_test false is = inr (λ writes. false≢true (sym is ∙ writes))

stores_at : (o : Option Insn) → IsStoreAt o ⊎ (IsStoreAt o → ⊥)
stores_at None = inr (λ stores. stores)
stores_at (Some insn) = by_test (is_store insn) refl
  where
    by_test : (t : Bool) → is_store insn ≡ t → IsTrue (is_store insn) ⊎ (IsTrue (is_store insn) → ⊥)
    by_test true is = inl is
    by_test false is = inr (λ stores. false≢true (sym is ∙ stores))

-- one of the loop's first `n` slots is so
record IsFound (Q : Option Insn → Type 0) (p : Program) (l : Loop) (n : ℕ) : Type 0 where
  slot : ℕ
  above : l.head ≤ slot
  below : slot < l.head + n
  is : Q (insn_at p slot)

found_below : (Q : Option Insn → Type 0) → ((o : Option Insn) → Q o ⊎ (Q o → ⊥)) → (p : Program) (l : Loop) (n : ℕ) → IsFound Q p l n ⊎ ((k : ℕ) → l.head ≤ k → k < l.head + n → Q (insn_at p k) → ⊥)
found_below Q decides p l zero = inr (λ k above below. absurd (omega (arith, above, below)))
found_below Q decides p l (suc n) =
    elim (found_below Q decides p l n) [
      | inl found ↦ inl (record { slot = found.slot; above = found.above; below = omega (arith, found.below); is = found.is })
      | inr none ↦ elim (decides (insn_at p (l.head + n))) [
        | inl is ↦ inl (record { slot = l.head + n; above = omega arith; below = omega arith; is = is })
        | inr not ↦ inr (λ k above below.
            elim (cases_lt k (l.head + n)) [
              | inl earlier ↦ none k above earlier
              | inr past ↦
                  let same : l.head + n ≡ k = omega (arith, past, below) in
                  subst (λ (i : ℕ). Q (insn_at p i) → ⊥) same not
            ])
      ]
    ]

-- whether a loop writes a register
written_or_not : (p : Program) (l : Loop) → l.head < l.back → (register : ℕ) → IsWrittenIn p l register ⊎ (IsWrittenIn p l register → ⊥)
written_or_not p l ordered register =
    elim (found_below (λ o. IsWrittenBy o register) (λ o. writes_at o register) p l (l.back + 1 - l.head)) [
      | inl found ↦ inl (record { slot = found.slot; inside = holds_at l found.slot found.above (omega (arith, found.below, ordered)); writes = found.is })
      | inr none ↦ inr (unwritten p l register (λ k above below. none k above (omega (arith, below, ordered))))
    ]

-- whether a loop stores
stored_or_not : (p : Program) (l : Loop) → l.head < l.back → HasStore p l ⊎ (HasStore p l → ⊥)
stored_or_not p l ordered =
    elim (found_below IsStoreAt stores_at p l (l.back + 1 - l.head)) [
      | inl found ↦ inl (record { slot = found.slot; inside = holds_at l found.slot found.above (omega (arith, found.below, ordered)); stores = found.is })
      | inr none ↦ inr (unstored p l (λ k above below. none k above (omega (arith, below, ordered))))
    ]

-- ---- the counter of the edge back

edge_is : (a b : Range) (new : Operands) → edge_ranges a b ≡ Some new → new.dst ≡ a
edge_is a b new is = by_test (nat_le a.0 a.1 && nat_le b.0 b.1) is
  where
    by_test : (t : Bool) → (if t then Some (record { dst = a; src = b }) else None) ≡ Some new → new.dst ≡ a
    by_test true same = cc
    by_test false same = absurd cc

apart_within : (x y n : ℕ) → x ≤ y → y ≤ n - 1 → 1 ≤ n → IsWithin (range_apart (x, y) (single_range 0)) (1, n)
apart_within x y n order within some = by_low (x == 0) refl
  where
    by_high : (t : Bool) → (y == 0) ≡ t → (x == 0) ≡ false → IsWithin (if t then (x, y - 1) else (x, y)) (1, n)
    by_high true is low = absurd (let low_is : x ≢ 0 = grind (arith, nat_tests, low) in let high_is : y ≡ 0 = grind (arith, nat_tests, is) in omega (arith, low_is, high_is, order))
    by_high false is low = let low_is : x ≢ 0 = grind (arith, nat_tests, low) in record { above = omega (arith, low_is); below = omega (arith, within, some) }

    by_low : (t : Bool) → (x == 0) ≡ t → IsWithin (if t then (x + 1, y) else (if y == 0 then (x, y - 1) else (x, y))) (1, n)
    by_low true is = record { above = omega arith; below = omega (arith, within, some) }
    by_low false is = by_high (y == 0) refl is

back_within : (x y n : ℕ) (new : Operands) → x ≤ y → y ≤ n - 1 → 1 ≤ n → n ≤ 4096 → (refined_ranges NotEqual Bits64 (x, y) (single_range 0)).taken ≡ Some new → IsWithin new.dst (1, n)
back_within x y n new order within some few is = by_reach (nat_lt y (2 ^ 64)) refl
  where
    by_reach : (t : Bool) → nat_lt y (2 ^ 64) ≡ t → IsWithin new.dst (1, n)
    by_reach true low =
        subst (λ (r : Range). IsWithin r (1, n)) (sym (edge_is (range_apart (x, y) (single_range 0)) (range_apart (single_range 0) (x, y)) new (rw low at is))) (apart_within x y n order within some)
    by_reach false low = absurd (let h : 2 ^ 64 ≤ y = grind (arith, nat_tests, low) in omega (arith, h, within, few))

-- the counter on the edge back is one to the bound
counter_back : (l : Loop) (a edge : StateValue) → IsLoop MAX_SLOTS l → IsWhole a → IsKindBelow (kind_at a l.register) (Num (0, l.bound - 1)) → jumping_state a (back_jump l) ≡ Some edge → IsKindBelow (kind_at edge l.register) (Num (1, l.bound))
counter_back l a edge limits whole below is = by_kind (kind_at a l.register) below (whole.kinds l.register) is
  where
    by_new : (range : Range) → IsWithin range (0, l.bound - 1) → IsProper (Num range) → (o : Option Operands) → (refined_ranges NotEqual Bits64 range (single_range 0)).taken ≡ o → edge_state a l.register (Immediate (pos 0)) o ≡ Some edge → IsKindBelow (kind_at edge l.register) (Num (1, l.bound))
    by_new range within proper None found is = absurd cc
    by_new range within proper (Some new) found is =
        let same : with_kind a l.register (Num new.dst) ≡ edge = cc in
        subst (λ (s : StateValue). IsKindBelow (kind_at s l.register) (Num (1, l.bound))) same
        (rw (get_or-set_same a.kinds l.register (Num new.dst) Unset (omega (arith, whole.sizes.registers, limits.register)))
        (back_within range.0 range.1 l.bound new proper.in_order within.below limits.low limits.high found))

    by_kind : (k : AbsKind) → IsKindBelow k (Num (0, l.bound - 1)) → IsProper k → taken_state (compared_edges NotEqual Bits64 a l.register (Immediate (pos 0)) (number_of k) (Ok (single_range 0))) ≡ Some edge → IsKindBelow (kind_at edge l.register) (Num (1, l.bound))
    by_kind Unset below proper is = absurd below
    by_kind (Num range) below proper is = by_new range below proper (refined_ranges NotEqual Bits64 range (single_range 0)).taken refl is
    by_kind (Ptr region offsets) below proper is = absurd below
    by_kind (Map index) below proper is = absurd below

-- what is known along the edge back says all that is known at the back
back_below : StateRefineShrinks → (l : Loop) (a edge : StateValue) → jumping_state a (back_jump l) ≡ Some edge → IsStateBelow edge a
back_below shrinks l a edge is = by_edges (refined_edges a NotEqual Bits64 l.register (Immediate (pos 0))) (shrinks a NotEqual Bits64 l.register (Immediate (pos 0))) is
  where
    by_taken : (o : Option StateValue) → IfSome o (λ e. IsStateBelow e a) → o ≡ Some edge → IsStateBelow edge a
    by_taken None below is = absurd cc
    by_taken (Some e) below is = let same : e ≡ edge = cc in subst (λ (s : StateValue). IsStateBelow s a) same below

    by_edges : (r : Result Edges Cause) → IfOk r (λ edges. AreEdgesBelow edges a) → taken_state r ≡ Some edge → IsStateBelow edge a
    by_edges (Err cause) below is = absurd cc
    by_edges (Ok edges) below is = by_taken edges.taken below.taken is

-- ---- covered, or lowered

-- if the head of a loop knows a number, the loop writes only r0 to r9
written_small : (p : Program) (l : Loop) (h : StateValue) (register : ℕ) → IsFormed p → IsWhole h → IsWrittenIn p l register → IsTrue (is_number (kind_at h register)) → register ≤ 9
written_small p l h register form whole written number =
    elim (cases_lt register 10) [
      | inl small ↦ omega (arith, small)
      | inr past ↦ elim (cases_lt 10 register) [
        | inl beyond ↦ absurd (false≢true (subst (λ (k : AbsKind). IsTrue (is_number k)) (get_or_past h.kinds register Unset (omega (arith, beyond, whole.sizes.registers))) number))
        | inr at ↦ absurd (frame_kept p written.slot (insn_at p written.slot) refl form (subst (λ (r : ℕ). IsWrittenBy (insn_at p written.slot) r) (omega (arith, past, at)) written.writes))
      ]
    ]

-- an edge back on which each register that falls was lowered before is covered at the head
pub back_covered : Leaves → (p : Program) (l : Loop) (place : ℕ) (start lowered : List Bool) (h a edge : StateValue) → IsFormed p → IsDeclared p l place → IsWhole h → IsWhole a → IsWhole edge → IsHead p l h → (HasStore p l → AreAllWhole h.ranges)
    → ((register : ℕ) → register ≤ 9 → register ≢ l.register → IsWrittenIn p l register → IsTrue (is_lowered start place register) → is_number (kind_at h register) ≡ false)
    → ((register : ℕ) → register ≤ 9 → is_lowered lowered place register ≡ is_lowered start place register)
    → IsRound p l l.back h a → jumping_state a (back_jump l) ≡ Some edge
    → ((register : ℕ) → register ≤ 9 → Falls (record { program = p; declared = l; place = place }) (Some h) edge register → IsTrue (is_lowered lowered place register))
    → IsStateBelow edge h
back_covered laws p l place start lowered h a edge form declared h_whole a_whole edge_whole head wide unset same round is fallen =
    closes p l h edge edge_whole head
    (λ register out. kind_less laws.transitive (kind_at edge register) (kind_at a register) (kind_at h register) (below.kinds register) (round.unwritten register out))
    (counter_back l a edge declared.limits a_whole (rw (range_back l) at round.counter) is)
    (λ mark set. below.marks mark (round.marks mark set))
    numbers
    (written_or_not p l declared.limits.ordered)
    (λ register. cases_eq register l.register)
    wide
    (λ out. ranges_less edge.ranges a.ranges h.ranges below.ranges (round.ranges out))
    (stored_or_not p l declared.limits.ordered)
  where
    below : IsStateBelow edge a
    below = back_below laws.shrinks l a edge is

    numbers : (register : ℕ) → register ≢ l.register → IsWrittenIn p l register → IsTrue (is_number (kind_at h register)) → IsTrue (is_number (kind_at edge register))
    numbers register other written number = by_number (is_number (kind_at edge register)) refl
      where
        small : register ≤ 9
        small = written_small p l h register form h_whole written number

        by_number : (t : Bool) → is_number (kind_at edge register) ≡ t → IsTrue (is_number (kind_at edge register))
        by_number true is = is
        by_number false is =
            let low : IsTrue (is_lowered lowered place register) = fallen register small (record { head_number = number; edge_number = is; written = written }) in
            absurd (false≢true (sym (unset register small other written (sym (same register small) ∙ low)) ∙ number))
