-- What is known in a loop says all that its head says of what the loop does not write. So an edge back to the head
-- that lowers nothing is covered there.
use Rattle.std.proofs.Common.{◌≡◌, ◌≢◌, ℕ, zero, suc, ◌-◌, Bool, true, false, List, [], ◌∷◌, Option, Some, ◌⊎◌, inl, inr, refl, sym, ap, subst, arith}
use Rattle.std.specs.Prelude.{IsTrue, ◌==◌, if◌then◌else◌}
use Rattle.std.proofs.lemmas.Bool.{false≢true}
use Rattle.bpf.specs.declared.loops.Loop.{Loop}
use Rattle.bpf.specs.Program.{Program}
use Rattle.bpf_insn.specs.Flow.{is_written}
use Rattle.bpf_insn.specs.declared.insn.Insn.{Insn}
use Rattle.machine.specs.Laws.{is_store}
use Rattle.machine.specs.Step.{insn_at}
use Rattle.absdom_num.specs.declared.ranges.Range.{Range}
use Rattle.absdom.specs.declared.kinds.AbsKind.{AbsKind}
use Rattle.absdom.specs.declared.kinds.AbsKind.TheVariants.{Unset, Num, Ptr, Map}
use Rattle.absdom.specs.Kinds.{IsKindBelow}
use Rattle.absdom_stack.specs.Marks.{AreMarkedIn}
use Rattle.absdom_stack.specs.StackWords.{AreAllWhole, AreRangesWithin}
use Rattle.absdom.specs.State.{StateValue, IsStateBelow, IsWhole, IsProper, kind_at, kind_in}
use Rattle.absdom.specs.Laws.{BelowIsTransitive, IsKnownLeftBy}
use Rattle.bver_form.specs.Loops.{holds}
use Rattle.bver.specs.Reported.{IsBelowBut}
use Rattle.bver_pass.specs.Heads.{is_number}
use Rattle.bver_pass.specs.Justified.{HasStore, IsHead, IsOpen, IsStoreAt, IsWrittenBy, IsWrittenIn}

-- the values of a loop's counter at a slot of it: at the back the loop took one from it
abbrev pub counter_range : Loop → (slot : ℕ) → ℕ × ℕ
counter_range l slot = if slot == l.back then (0, l.bound - 1) else (1, l.bound)

-- the ranges are of words
abbrev pub AreWords : List Range → Type 0
AreWords ranges = AreRangesWithin ranges []

-- what is known at a slot of the loop says all that is known at its head, except of what the loop writes
pub record IsRound (p : Program) (l : Loop) (slot : ℕ) (head a : StateValue) : Type 0 where
  pub unwritten : (register : ℕ) → (IsWrittenIn p l register → ⊥) → IsKindBelow (kind_at a register) (kind_at head register)
  pub counter : IsKindBelow (kind_at a l.register) (Num (counter_range l slot))
  pub marks : AreMarkedIn head.marks a.marks
  pub ranges : (HasStore p l → ⊥) → AreRangesWithin a.ranges head.ranges
  pub words : AreWords a.ranges

-- ---- ranges of words

-- those of a whole state are of words
pub words_of : (a : StateValue) → IsWhole a → AreWords a.ranges
words_of a whole k = record { above = omega arith; below = omega (arith, (whole.ranges k).words) }

pub ranges_less : (first second third : List Range) → AreRangesWithin first second → AreRangesWithin second third → AreRangesWithin first third
ranges_less first second third f g k =
    record { above = omega (arith, (f k).above, (g k).above); below = omega (arith, (f k).below, (g k).below) }

pub ranges_same : (ranges : List Range) → AreRangesWithin ranges ranges
ranges_same ranges k = record { above = omega arith; below = omega arith }

pub words_whole : (ranges : List Range) → AreAllWhole ranges → AreWords ranges
words_whole ranges whole k = rw (whole k) (record { above = omega arith; below = omega arith })

-- what is whole contains every range of words
pub ranges_whole : (first second : List Range) → AreWords first → AreAllWhole second → AreRangesWithin first second
ranges_whole first second words whole k = rw (whole k) (words k)

-- ---- only one register

pub unset_top : (k : AbsKind) → IsKindBelow k Unset
unset_top Unset = tt
unset_top (Num range) = tt
unset_top (Ptr region offsets) = tt
unset_top (Map index) = tt

unfoldable pub padded : ℕ → AbsKind → List AbsKind
padded zero k = k ∷ []
padded (suc r) k = Unset ∷ padded r k

padded_above : (xs : List AbsKind) (r : ℕ) (k : AbsKind) → IsKindBelow (kind_in xs r) k → (q : ℕ) → IsKindBelow (kind_in xs q) (kind_in (padded r k) q)
unfolding padded
padded_above [] zero k h zero = h
padded_above [] zero k h (suc q) = tt
padded_above [] (suc r) k h zero = tt
padded_above [] (suc r) k h (suc q) = padded_above [] r k h q
padded_above (x ∷ xs) zero k h zero = h
padded_above (x ∷ xs) zero k h (suc q) = unset_top (kind_in xs q)
padded_above (x ∷ xs) (suc r) k h zero = unset_top x
padded_above (x ∷ xs) (suc r) k h (suc q) = padded_above xs r k h q

padded_at : (r : ℕ) (k : AbsKind) → kind_in (padded r k) r ≡ k
unfolding padded
padded_at zero k = refl
padded_at (suc r) k = padded_at r k

-- that kind of one register, and nothing else
unfoldable pub alone : ℕ → AbsKind → StateValue
alone r k = record { kinds = padded r k; marks = []; ranges = [] }

pub below_alone : (a : StateValue) (r : ℕ) (k : AbsKind) → AreWords a.ranges → IsKindBelow (kind_at a r) k → IsStateBelow a (alone r k)
unfolding alone
below_alone a r k words h = record { kinds = padded_above a.kinds r k h; marks = λ place is. absurd (none is); ranges = words }
  where
    none : {P : Type 0} → false ≡ true → P
    none is = cc

pub kind_alone : (a : StateValue) (r : ℕ) (k : AbsKind) → IsStateBelow a (alone r k) → IsKindBelow (kind_at a r) k
unfolding alone
kind_alone a r k h = subst (λ (j : AbsKind). IsKindBelow (kind_at a r) j) (padded_at r k) (h.kinds r)

padded_but : (r : ℕ) (k : AbsKind) (q : ℕ) → q ≢ r → kind_in (padded r k) q ≡ Unset
unfolding padded
padded_but zero k zero other = absurd (other refl)
padded_but zero k (suc q) other = refl
padded_but (suc r) k zero other = refl
padded_but (suc r) k (suc q) other = padded_but r k q (λ same. other (ap (λ n. suc n) same))

pub kind_alone_at : (r : ℕ) (k : AbsKind) → kind_at (alone r k) r ≡ k
unfolding alone
kind_alone_at r k = padded_at r k

pub kind_alone_but : (r : ℕ) (k : AbsKind) (q : ℕ) → q ≢ r → kind_at (alone r k) q ≡ Unset
unfolding alone
kind_alone_but r k q other = padded_but r k q other

-- what covers every state except in one register
pub but_alone : (a : StateValue) (r : ℕ) (k : AbsKind) → AreWords a.ranges → IsBelowBut r a (alone r k)
unfolding alone
but_alone a r k words = record {
  kinds = λ q other. subst (λ (j : AbsKind). IsKindBelow (kind_at a q) j) (sym (padded_but r k q other)) (unset_top (kind_at a q));
  marks = λ place is. absurd (false≢true is);
  ranges = words;
}

pub kind_less : BelowIsTransitive → (j k l : AbsKind) → IsKindBelow j k → IsKindBelow k l → IsKindBelow j l
kind_less transitive j k l g h =
    (transitive (one j) (one k) (one l) (ones g) (ones h)).kinds 0
  where
    one : AbsKind → StateValue
    one k = record { kinds = k ∷ []; marks = []; ranges = [] }

    ones : {j k : AbsKind} → IsKindBelow j k → IsStateBelow (one j) (one k)
    ones {j} {k} g = record { kinds = each; marks = λ place is. is; ranges = ranges_same [] }
      where
        each : (r : ℕ) → IsKindBelow (kind_in (j ∷ []) r) (kind_in (k ∷ []) r)
        each zero = g
        each (suc r) = tt

-- those marks, and nothing else
unfoldable pub marked : List Bool → StateValue
marked marks = record { kinds = []; marks = marks; ranges = [] }

pub below_marked : (a : StateValue) (marks : List Bool) → AreWords a.ranges → AreMarkedIn marks a.marks → IsStateBelow a (marked marks)
unfolding marked
below_marked a marks words h = record { kinds = λ q. unset_top (kind_at a q); marks = h; ranges = words }

pub marks_marked : (a : StateValue) (marks : List Bool) → IsStateBelow a (marked marks) → AreMarkedIn marks a.marks
unfolding marked
marks_marked a marks h = h.marks

-- what covers every state whose ranges are of words
pub below_all : (a : StateValue) → AreWords a.ranges → IsStateBelow a (marked [])
unfolding marked
below_all a words = record { kinds = λ q. unset_top (kind_at a q); marks = λ place is. absurd (false≢true is); ranges = words }

pub words_all : (a : StateValue) → IsStateBelow a (marked []) → AreWords a.ranges
unfolding marked
words_all a h = h.ranges

-- those ranges, and nothing else
pub ranged : List Range → StateValue
ranged ranges = record { kinds = []; marks = []; ranges = ranges }

pub below_ranged : (a : StateValue) (ranges : List Range) → AreRangesWithin a.ranges ranges → IsStateBelow a (ranged ranges)
unfolding ranged
below_ranged a ranges h = record { kinds = λ q. unset_top (kind_at a q); marks = λ place is. absurd (false≢true is); ranges = h }

pub ranges_ranged : (a : StateValue) (ranges : List Range) → IsStateBelow a (ranged ranges) → AreRangesWithin a.ranges ranges
unfolding ranged
ranges_ranged a ranges h = h.ranges

-- ---- what is known in a loop

-- a smaller state says no less
pub round_less : BelowIsTransitive → (p : Program) (l : Loop) (slot : ℕ) (head a b : StateValue) → IsStateBelow a b → IsRound p l slot head b → IsRound p l slot head a
round_less transitive p l slot head a b below h = record {
  unwritten = λ register out. kind_less transitive (kind_at a register) (kind_at b register) (kind_at head register) (below.kinds register) (h.unwritten register out);
  counter = kind_less transitive (kind_at a l.register) (kind_at b l.register) (Num (counter_range l slot)) (below.kinds l.register) h.counter;
  marks = λ place is. below.marks place (h.marks place is);
  ranges = λ out. ranges_less a.ranges b.ranges head.ranges below.ranges (h.ranges out);
  words = ranges_less a.ranges b.ranges [] below.ranges h.words;
}

-- an instruction of the loop that keeps what it does not write keeps what the head says, if it does not count
pub round_left : (p : Program) (l : Loop) (slot next : ℕ) (head a b : StateValue) (insn : Insn) → IsTrue (holds l slot) → insn_at p slot ≡ Some insn → is_written insn l.register ≡ false → counter_range l next ≡ counter_range l slot → IsWhole a → IsKnownLeftBy insn a b → IsRound p l slot head a → IsRound p l next head b
round_left p l slot next head a b insn inside begins counter same whole left h = record {
  unwritten = λ register out.
      subst (λ (k : AbsKind). IsKindBelow k (kind_at head register)) (sym (left.kinds register (unwritten_by register out))) (h.unwritten register out);
  counter = rw (left.kinds l.register counter, same) h.counter;
  marks = λ place is. left.marks place (h.marks place is);
  ranges = λ out. subst (λ (ranges : List Range). AreRangesWithin ranges head.ranges) (sym (left.ranges (unstored out))) (h.ranges out);
  words = λ k. record { above = omega arith; below = omega (arith, (left.proper whole k).words) };
}
  where
    unstored : (HasStore p l → ⊥) → is_store insn ≡ false
    unstored out = by_store (is_store insn) refl
      where
        by_store : (t : Bool) → is_store insn ≡ t → is_store insn ≡ false
        by_store false is = is
        by_store true is =
            absurd (out (record { slot = slot; inside = inside; stores = subst (λ (o : Option Insn). IsStoreAt o) (sym begins) is }))

    by_test : (register : ℕ) (t : Bool) → is_written insn register ≡ t → (IsWrittenIn p l register → ⊥) → is_written insn register ≡ false
    by_test register false is out = is
    by_test register true is out =
        absurd (out (record { slot = slot; inside = inside; writes = subst (λ (o : Option Insn). IsWrittenBy o register) (sym begins) is }))

    unwritten_by : (register : ℕ) → (IsWrittenIn p l register → ⊥) → is_written insn register ≡ false
    unwritten_by register out = by_test register (is_written insn register) refl out

-- what is known stays so at another slot with as many rounds left
pub round_there : (p : Program) (l : Loop) (slot next : ℕ) (head a : StateValue) → counter_range l next ≡ counter_range l slot → IsRound p l slot head a → IsRound p l next head a
round_there p l slot next head a same h =
    record { unwritten = h.unwritten; counter = rw same h.counter; marks = h.marks; ranges = h.ranges; words = h.words }

-- ---- the edge back

open_covers : (edge head : AbsKind) → IsOpen head → IsProper edge → (IsTrue (is_number head) → IsTrue (is_number edge)) → IsKindBelow edge head
open_covers edge Unset is_open proper number = unset_top edge
open_covers edge (Ptr s b) is_open proper number = absurd is_open
open_covers edge (Map j) is_open proper number = absurd is_open
open_covers (Num a) (Num b) is_open proper number = rw is_open (record { above = omega arith; below = omega (arith, proper.words) })
open_covers Unset (Num b) is_open proper number = absurd (no (number refl))
  where
    no : false ≡ true → ⊥
    no is = cc
open_covers (Ptr r a) (Num b) is_open proper number = absurd (no (number refl))
  where
    no : false ≡ true → ⊥
    no is = cc
open_covers (Map i) (Num b) is_open proper number = absurd (no (number refl))
  where
    no : false ≡ true → ⊥
    no is = cc

-- An edge back is covered if its counter is within the bound again, and each number of the head is a number on it.
-- `writes` decides whether the loop writes a register, and `stores` whether it stores.
pub closes : (p : Program) (l : Loop) (head edge : StateValue) → IsWhole edge → IsHead p l head
    → ((register : ℕ) → (IsWrittenIn p l register → ⊥) → IsKindBelow (kind_at edge register) (kind_at head register))
    → IsKindBelow (kind_at edge l.register) (Num (1, l.bound)) → AreMarkedIn head.marks edge.marks
    → ((register : ℕ) → register ≢ l.register → IsWrittenIn p l register → IsTrue (is_number (kind_at head register)) → IsTrue (is_number (kind_at edge register)))
    → ((register : ℕ) → IsWrittenIn p l register ⊎ (IsWrittenIn p l register → ⊥)) → ((register : ℕ) → register ≡ l.register ⊎ register ≢ l.register)
    → (HasStore p l → AreAllWhole head.ranges) → ((HasStore p l → ⊥) → AreRangesWithin edge.ranges head.ranges) → HasStore p l ⊎ (HasStore p l → ⊥)
    → IsStateBelow edge head
closes p l head edge whole stands outside counter marks numbers writes same wide kept stores = record {
  kinds = λ register. by_writes register (writes register) (same register);
  marks = marks;
  ranges = by_store stores;
}
  where
    by_store : HasStore p l ⊎ (HasStore p l → ⊥) → AreRangesWithin edge.ranges head.ranges
    by_store (inl stored) = ranges_whole edge.ranges head.ranges (words_of edge whole) (wide stored)
    by_store (inr out) = kept out

    by_writes : (register : ℕ) → IsWrittenIn p l register ⊎ (IsWrittenIn p l register → ⊥) → register ≡ l.register ⊎ register ≢ l.register → IsKindBelow (kind_at edge register) (kind_at head register)
    by_writes register (inr out) either = outside register out
    by_writes register (inl written) (inr other) =
        open_covers (kind_at edge register) (kind_at head register) (stands.others register other written) (whole.kinds register) (numbers register other written)
    by_writes register (inl written) (inl is) =
        subst (λ (r : ℕ). IsKindBelow (kind_at edge r) (kind_at head r)) (sym is) (rw stands.counter counter)
