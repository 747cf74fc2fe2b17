-- What is closed of every program that has its form. Nothing is known of what comes and what holds, except of the
-- counter at the head of a loop.
use Rattle.std.proofs.Common.{◌≡◌, ◌≢◌, ◌<◌, ◌≤◌, ◌+◌, ℕ, zero, suc, Bool, true, false, List, [], ◌∷◌, Option, Some, ◌⊎◌, inl, inr, length, refl, sym, ap, subst, arith, ◌∙◌}
use Rattle.std.specs.Prelude.{◌==◌, ◌^◌, if◌then◌else◌, replicate, slice_index_or, All, IfSome}
use Rattle.std.proofs.lemmas.Bool.{false≢true}
use Rattle.std.proofs.lemmas.Bool.Decides.{nat_tests}
use Rattle.std.proofs.lemmas.List.{length-replicate}
use Rattle.bpf.specs.declared.loops.Loop.{Loop}
use Rattle.bpf.specs.Program.{AreLoops, IsProgram, Program}
use Rattle.bpf_insn.specs.declared.insn.Insn.{Insn}
use Rattle.bpf_parts.specs.declared.operation.Width.TheVariants.{Bits64}
use Rattle.machine.specs.Sizes.{Maps}
use Rattle.machine.specs.Step.{insn_at}
use Rattle.machine.specs.declared.regions.TheConstants.{STACK_SIZE}
use Rattle.absdom_num.specs.declared.ranges.Range.{Range}
use Rattle.absdom_num.specs.Ranges.{IsRange, IsWithin}
use Rattle.absdom_num.specs.Tables.{whole_range}
use Rattle.absdom.specs.declared.kinds.AbsKind.{AbsKind}
use Rattle.absdom.specs.declared.kinds.AbsKind.TheVariants.{Num, Unset}
use Rattle.absdom.specs.Kinds.{IsKindBelow}
use Rattle.absdom_stack.specs.StackWords.{AreAllWhole, range_in}
use Rattle.absdom.specs.State.{IsStateBelow, IsEntry, IsProper, IsWhole, StateValue, entry_kinds, kind_at}
use Rattle.absdom.specs.Laws.{ApplyLeaves, BelowIsReflexive, CallLeaves, IsKnownLeftBy, StateRefineShrinks}
use Rattle.bver_form.specs.Form.{IsFormed}
use Rattle.bver_pass.specs.Justified.{HasStore, IsHead, IsOpen}
use Rattle.bver_pass.specs.Visit.{VisitValue}
use Rattle.bver.specs.Reported.{IsBelowBut, IsClosed}
use Rattle.bver.proofs.Rings.{leads_by}
use Rattle.bver.proofs.Rounds.{AreWords, alone, below_all, but_alone, kind_alone_at, kind_alone_but, marked, ranges_less, ranges_same, ranges_whole, unset_top, words_of}
use Rattle.bver.proofs.Slots.{has_next}

-- ---- the whole state that says nothing

replicated : {A : Type 0} (n k : ℕ) (x : A) → slice_index_or (replicate n x) k x ≡ x
replicated zero k x = refl
replicated (suc n) zero x = refl
replicated (suc n) (suc k) x = replicated n k x

pub nothing : StateValue
nothing = record { kinds = replicate 11 Unset; marks = replicate STACK_SIZE false; ranges = replicate 64 (whole_range Bits64) }

nothing_whole : IsWhole nothing
unfolding nothing
nothing_whole = record {
  sizes = record { registers = length-replicate 11 Unset; bytes = length-replicate STACK_SIZE false; words = length-replicate 64 (whole_range Bits64) };
  kinds = λ r. subst IsProper (sym (replicated 11 r Unset)) tt;
  ranges = λ w. subst IsRange (sym (replicated 64 w (whole_range Bits64))) (record { in_order = omega arith; words = omega arith });
  unset = λ w is. replicated 64 w (whole_range Bits64);
}

below_nothing : (a : StateValue) → AreWords a.ranges → IsStateBelow a nothing
unfolding nothing
below_nothing a words = record {
  kinds = λ r. subst (λ (k : AbsKind). IsKindBelow (kind_at a r) k) (sym (replicated 11 r Unset)) (unset_top (kind_at a r));
  marks = λ place is. absurd (false≢true (sym (replicated STACK_SIZE place false) ∙ is));
  ranges = ranges_whole a.ranges (replicate 64 (whole_range Bits64)) words (λ w. replicated 64 w (whole_range Bits64));
}

words_below : (a : StateValue) → IsStateBelow a nothing → AreWords a.ranges
unfolding nothing
words_below a h w = subst (λ (r : Range). IsWithin (range_in a.ranges w) r) (replicated 64 w (whole_range Bits64)) (h.ranges w)

-- ---- what holds at heads

pub stands_at : List Loop → ℕ → StateValue
stands_at [] slot = marked []
stands_at (l ∷ ls) slot = if l.head == slot then alone l.register (Num (1, l.bound)) else stands_at ls slot

first_head : (l : Loop) (slot : ℕ) (other : StateValue) → l.head ≡ slot → (if l.head == slot then alone l.register (Num (1, l.bound)) else other) ≡ alone l.register (Num (1, l.bound))
first_head l slot other same = by_test (l.head == slot) refl
  where
    by_test : (t : Bool) → (l.head == slot) ≡ t → (if t then alone l.register (Num (1, l.bound)) else other) ≡ alone l.register (Num (1, l.bound))
    by_test true is = refl
    by_test false is = absurd (grind (arith, nat_tests, is, same))

other_head : (l : Loop) (slot : ℕ) (other : StateValue) → l.head ≢ slot → (if l.head == slot then alone l.register (Num (1, l.bound)) else other) ≡ other
other_head l slot other apart = by_test (l.head == slot) refl
  where
    by_test : (t : Bool) → (l.head == slot) ≡ t → (if t then alone l.register (Num (1, l.bound)) else other) ≡ other
    by_test true is = absurd (apart (grind (arith, nat_tests, is)))
    by_test false is = refl

elsewhere : (ls : List Loop) (slot : ℕ) → All (λ l. l.head ≢ slot) ls → stands_at ls slot ≡ marked []
unfolding stands_at
elsewhere [] slot apart = refl
elsewhere (l ∷ ls) slot apart =
    other_head l slot (stands_at ls slot) (apart 0 l (omega arith)) ∙ elsewhere ls slot (λ k d low. apart (suc k) d (omega (arith, low)))

-- heads rise
above : (slots least : ℕ) (ls : List Loop) (k : ℕ) (d : Loop) → AreLoops slots least ls → k < length ls → least ≤ (slice_index_or ls k d).head
above slots least [] k d loops low = absurd (omega (arith, low))
above slots least (l ∷ ls) zero d loops low = loops.0
above slots least (l ∷ ls) (suc k) d loops low = omega (arith, loops.0, above slots (l.head + 1) ls k d loops.2 (omega (arith, low)))

at_head : (slots least : ℕ) (ls : List Loop) (k : ℕ) (d : Loop) → AreLoops slots least ls → k < length ls
    → stands_at ls (slice_index_or ls k d).head ≡ alone (slice_index_or ls k d).register (Num (1, (slice_index_or ls k d).bound))
unfolding stands_at
at_head slots least [] k d loops low = absurd (omega (arith, low))
at_head slots least (l ∷ ls) zero d loops low = first_head l l.head (stands_at ls l.head) refl
at_head slots least (l ∷ ls) (suc k) d loops low =
    let below : k < length ls = omega (arith, low) in
    let later : l.head + 1 ≤ (slice_index_or ls k d).head = above slots (l.head + 1) ls k d loops.2 below in
    other_head l (slice_index_or ls k d).head (stands_at ls (slice_index_or ls k d).head) (λ same. absurd (omega (arith, same, later)))
    ∙ at_head slots (l.head + 1) ls k d loops.2 below

head_alone : (p : Program) (l : Loop) → IsHead p l (alone l.register (Num (1, l.bound)))
unfolding alone
head_alone p l = record {
  counter = kind_alone_at l.register (Num (1, l.bound));
  others = λ r other written. subst (λ (k : AbsKind). IsOpen k) (sym (kind_alone_but l.register (Num (1, l.bound)) r other)) tt;
  words = λ keeps stores w. refl;
}

no_words : (r : ℕ) (k : AbsKind) → AreAllWhole (alone r k).ranges
unfolding alone
no_words r k w = refl

-- ---- the pair

pub pair_is_closed : ApplyLeaves → CallLeaves → StateRefineShrinks → BelowIsReflexive → (p : Program) → IsProgram p → IsFormed p → IsClosed p (λ slot. Some nothing) (λ slot. Some (stands_at p.loops slot))
pair_is_closed leaves calls shrinks reflexive p limits form = record {
  entered = record {
    known = record { kinds = entry_kinds; marks = []; ranges = [] };
    entry = record { kinds = refl; marks = λ place. refl; ranges = λ w. refl };
    covered = below_nothing (record { kinds = entry_kinds; marks = []; ranges = [] }) (ranges_same []);
  };
  whole = λ slot. nothing_whole;
  plain = λ slot apart a covered. subst (λ (s : StateValue). IsStateBelow a s) (sym (elsewhere p.loops slot apart)) (below_all a (words_below a covered));
  opened = λ k d low a covered.
      let l = slice_index_or p.loops k d in
      subst (λ (s : StateValue). IsBelowBut l.register a s) (sym (at_head _ 0 p.loops k d limits.loops low)) (but_alone a l.register (Num (1, l.bound)) (words_below a covered));
  heads = λ k d low. subst (λ (s : StateValue). IsHead p (slice_index_or p.loops k d) s) (sym (at_head _ 0 p.loops k d limits.loops low)) (head_alone p (slice_index_or p.loops k d));
  words = λ k d low. subst (λ (s : StateValue). HasStore p (slice_index_or p.loops k d) → AreAllWhole s.ranges) (sym (at_head _ 0 p.loops k d limits.loops low)) (λ stores. no_words (slice_index_or p.loops k d).register (Num (1, (slice_index_or p.loops k d).bound)));
  leads = λ slot insn begins a whole covered.
      let v : VisitValue = record { program = p; maps = record { cells = []; kinds = [] }; slot = slot } in
      leads_by leaves calls shrinks reflexive v (λ k. Some nothing) a insn form (has_next v insn limits form begins) begins (λ k b edge some left. covers insn a whole b left);
}
  where
    covers : (insn : Insn) (a : StateValue) → IsWhole a → (b : StateValue) → IsKnownLeftBy insn a b ⊎ IsStateBelow b a → IsStateBelow b nothing
    covers insn a whole b (inl left) = below_nothing b (λ w. record { above = omega arith; below = omega (arith, (left.proper whole w).words) })
    covers insn a whole b (inr below) = below_nothing b (ranges_less b.ranges a.ranges [] below.ranges (words_of a whole))
