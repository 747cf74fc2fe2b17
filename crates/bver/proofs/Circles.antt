-- Slot by slot of a pass. What is known in a loop after its head says all that is known at the head of what the loop
-- does not write.
use Rattle.std.proofs.Common.{◌≡◌, ◌≢◌, ℕ, ◌+◌, ◌-◌, ◌<◌, ◌≤◌, ◌⊎◌, inl, inr, Bool, true, false, List, [], length, Option, None, Some, refl, sym, ap, subst, ◌∙◌, arith}
use Rattle.std.specs.Prelude.{IsTrue, IsSome, IfSome, slice_index_or}
use Rattle.std.proofs.lemmas.Bool.{cases_lt, false≢true}
use Rattle.bpf.specs.declared.loops.Loop.{Loop}
use Rattle.bpf.specs.Program.{Program, IsProgram}
use Rattle.bpf_insn.specs.declared.insn.Insn.{Insn}
use Rattle.machine.specs.declared.regions.Region.{Region}
use Rattle.machine.specs.Step.{insn_at}
use Rattle.absdom.specs.declared.kinds.AbsKind.{AbsKind}
use Rattle.absdom.specs.declared.kinds.AbsKind.TheVariants.{Unset, Num, Ptr, Map}
use Rattle.absdom.specs.State.{StateValue, IsStateBelow, IsWhole, kind_at}
use Rattle.absdom_stack.specs.StackWords.{AreAllWhole}
use Rattle.absdom_stack.specs.Spill.{spill_of}
use Rattle.bver_form.specs.Form.{IsFormed}
use Rattle.bver_form.specs.Laws.{LoopsAreEntered}
use Rattle.bver_form.specs.Loops.{ComesIn, IsEdge, IsLoopInside, IsLoopFormed, IsNestedOrApart, holds, step_down}
use Rattle.bver_form.specs.Lowered.{is_lowered}
use Rattle.bver_form.specs.Targets.{IsKept}
use Rattle.bver_pass.specs.Heads.{IsDeclared, IsWidened, IsWidenedKind, counts, is_number, keeps, opened_kind, opens}
use Rattle.bver_pass.specs.Justified.{HasStore, IsCovered, IsCoveredIfAny, IsEntered, IsHead, IsWrittenIn}
use Rattle.bver_pass.specs.Leading.{IsFollowedBelow, IsLeastVisit, IsWidenedIfAny, LeadsBelow, widens, stays}
use Rattle.bver_pass.specs.StateTable.{TableValue, knowledge_in}
use Rattle.bver_pass.specs.Visit.{AreWhole, HasNext, IsInsnVisit, IsLeastEntry, VisitValue, visited_state}
use Rattle.bver.proofs.Below.{StaysBelow, below_next, below_none, below_skip, comes_below, comes_whole}
use Rattle.bver.proofs.Counters.{same_place}
use Rattle.bver_pass.proofs.Loops.{inside_of}
use Rattle.bver.proofs.Keeping.{kept_begins}
use Rattle.bver_pass.proofs.Keeping.{head_kept}
use Rattle.bver.proofs.Widening.{wide_is}
use Rattle.bver.proofs.Rings.{IsAfterHead, ring, ring_any, ring_after, ring_more}
use Rattle.bver.proofs.Rounds.{IsRound, alone, below_all, below_alone, below_marked, below_ranged, counter_range, kind_alone, marked, marks_marked, ranged, ranges_ranged, words_all, words_of, words_whole}
use Rattle.bver.proofs.Turns.{IsAround, Leaves, leads_around, leads_counted, leads_outside, round_head, round_widened}

-- nothing is known
abbrev pub nothing : ℕ → Option StateValue
nothing k = None

-- ---- what holds in a loop

-- in the loop after its head, what is known says no less than its head; the head keeps nothing of what was lowered
pub record IsTurning (p : Program) (l : Loop) (place : ℕ) (start : List Bool) (table : TableValue) (runs : Bool) (state : StateValue) (slot : ℕ) (h : StateValue) : Type 0 where
  pub head : IsHead p l h
  pub wide : HasStore p l → AreAllWhole h.ranges
  pub unset : (register : ℕ) → register ≤ 9 → register ≢ l.register → IsWrittenIn p l register → IsTrue (is_lowered start place register) → is_number (kind_at h register) ≡ false
  pub below : (around : ℕ → StateValue) → IsAround p l h around → StaysBelow p table runs state slot (ring l (λ k. Some (around k)))

-- the same if anything is known at the head; else nothing is known in the loop
abbrev pub IsTurningIfAny : Program → Loop → (place : ℕ) (start : List Bool) (table : TableValue) (runs : Bool) → StateValue → (slot : ℕ) → Option StateValue → Type 0
IsTurningIfAny p l place start table runs state slot None = StaysBelow p table runs state slot (ring l nothing)
IsTurningIfAny p l place start table runs state slot (Some h) = IsTurning p l place start table runs state slot h

-- while the head is ahead nothing is known in the loop
pub record IsCircle (p : Program) (l : Loop) (place : ℕ) (start : List Bool) (table : TableValue) (runs : Bool) (state : StateValue) (slot : ℕ) : Type 0 where
  pub ahead : slot ≤ l.head → StaysBelow p table runs state slot (ring l nothing)
  pub within : l.head < slot → slot ≤ l.back → IsTurningIfAny p l place start table runs state slot (knowledge_in table l.head)

-- ---- what is known at a slot of the loop

round_of : (p : Program) (l : Loop) (slot : ℕ) (h a : StateValue) → ((around : ℕ → StateValue) → IsAround p l h around → IsStateBelow a (around slot)) → IsRound p l slot h a
round_of p l slot h a below = record {
  unwritten = λ register out.
      kind_alone a register (kind_at h register)
      (below (λ k. alone register (kind_at h register)) (λ k b round. below_alone b register (kind_at h register) round.words (round.unwritten register out)));
  counter =
      kind_alone a l.register (Num (counter_range l slot))
      (below (λ k. alone l.register (Num (counter_range l k))) (λ k b round. below_alone b l.register (Num (counter_range l k)) round.words round.counter));
  marks = marks_marked a h.marks (below (λ k. marked h.marks) (λ k b round. below_marked b h.marks round.words round.marks));
  ranges = λ out. ranges_ranged a h.ranges (below (λ k. ranged h.ranges) (λ k b round. below_ranged b h.ranges (round.ranges out)));
  words = words_all a (below (λ k. marked []) (λ k b round. below_all b round.words));
}

-- what comes to a slot after the head
pub comes_round : (p : Program) (l : Loop) (place : ℕ) (start : List Bool) (table : TableValue) (runs : Bool) (state : StateValue) (slot : ℕ) (h : StateValue) (insn : Insn) → insn_at p slot ≡ Some insn → (IsTrue runs → IsKept p slot → ⊥) → IsAfterHead l slot → IsTurning p l place start table runs state slot h → IfSome (visited_state runs state table slot) (IsRound p l slot h)
comes_round p l place start table runs state slot h insn begins plain following turning =
    by_state (visited_state runs state table slot) (λ around covers.
    subst (λ (o : Option StateValue). IsCoveredIfAny (visited_state runs state table slot) o) (ring_after l (λ k. Some (around k)) slot following)
    (comes_below p table runs state slot insn (ring l (λ k. Some (around k))) begins plain (turning.below around covers)))
  where
    by_state : (received : Option StateValue) → ((around : ℕ → StateValue) → IsAround p l h around → IsCoveredIfAny received (Some (around slot))) → IfSome received (IsRound p l slot h)
    by_state None below = tt
    by_state (Some a) below = round_of p l slot h a below

-- if nothing is known at the head, nothing comes there
pub comes_none : (p : Program) (l : Loop) (table : TableValue) (runs : Bool) (state : StateValue) (slot : ℕ) (insn : Insn) → insn_at p slot ≡ Some insn → (IsTrue runs → IsKept p slot → ⊥) → IsAfterHead l slot → StaysBelow p table runs state slot (ring l nothing) → visited_state runs state table slot ≡ None
comes_none p l table runs state slot insn begins plain following below =
    by_state (visited_state runs state table slot)
    (subst (λ (o : Option StateValue). IsCoveredIfAny (visited_state runs state table slot) o) (ring_after l nothing slot following)
    (comes_below p table runs state slot insn (ring l nothing) begins plain below))
  where
    by_state : (received : Option StateValue) → IsCoveredIfAny received None → received ≡ None
    by_state None covered = refl
    by_state (Some a) covered = absurd covered

-- ---- widened at a head

-- a loop that has its head after that of another, in it, lies inside
lies_inside : (l m : Loop) → IsNestedOrApart l m → l.head < l.back → m.head < m.back → IsAfterHead l m.head → IsLoopInside m l
lies_inside l m (inl (inl before)) l_order m_order following = absurd (omega (arith, before, following.1))
lies_inside l m (inl (inr after)) l_order m_order following = absurd (omega (arith, after, following.0, m_order))
lies_inside l m (inr (inl outer)) l_order m_order following = absurd (omega (arith, outer.0, following.0))
lies_inside l m (inr (inr inner)) l_order m_order following = inner

-- a declared loop has its form
pub formed_in : (p : Program) (l : Loop) (place : ℕ) → IsFormed p → IsDeclared p l place → IsLoopFormed p l
formed_in p l place form declared = subst (λ (m : Loop). IsLoopFormed p m) (declared.is l) (form.loops place l declared.inside)

nested_in : (p : Program) (l m : Loop) (place : ℕ) → IsLoopFormed p l → IsDeclared p m place → m.head ≢ l.head → IsNestedOrApart l m
nested_in p l m place formed declared other =
    subst (λ (n : Loop). n.head ≢ l.head → IsNestedOrApart l n) (declared.is m) (formed.others place m declared.inside) other

-- what is widened after the head stays so
pub widened_round : (p : Program) (l : Loop) (place : ℕ) (lowered : List Bool) (slot : ℕ) (h : StateValue) (received here : Option StateValue) → IsFormed p → IsDeclared p l place → IsAfterHead l slot → IfSome received IsWhole → IfSome here IsWhole → IsWidenedIfAny p lowered slot received here → IfSome received (IsRound p l slot h) → IfSome here (IsRound p l slot h)
widened_round p l place lowered slot h None None form declared following old new widened round = tt
widened_round p l place lowered slot h None (Some a) form declared following old new widened round = absurd widened
widened_round p l place lowered slot h (Some b) None form declared following old new widened round = tt
widened_round p l place lowered slot h (Some b) (Some a) form declared following old new (stays none same) round = subst (λ (s : StateValue). IsRound p l slot h s) (sym same) round
widened_round p l place lowered slot h (Some b) (Some a) form declared following old new (widens m other inner at widened) round =
    let outer = formed_in p l place form declared in
    let inside : IsLoopInside m l = lies_inside l m (nested_in p l m other outer inner (λ same. omega (arith, same, at, following.0))) declared.limits.ordered inner.limits.ordered (omega (arith, at, following.0), omega (arith, at, following.1)) in
    round_widened p l m lowered other slot h b a inner.limits.ordered outer (formed_in p m other form inner) inside old new widened round

-- ---- at the head of the loop

-- one loop has its head there
pub one_loop : (p : Program) (l m : Loop) (place other : ℕ) → IsProgram p → IsDeclared p l place → IsDeclared p m other → l.head ≡ m.head → (l ≡ m) × (place ≡ other)
one_loop p l m place other limits f g same =
    let at : place ≡ other = same_place (length p.slots) 0 p.loops place other l limits.loops f.inside g.inside (ap (λ (n : Loop). n.head) (f.is l) ∙ same ∙ sym (ap (λ (n : Loop). n.head) (g.is l))) in
    (sym (f.is l) ∙ ap (λ (i : ℕ). slice_index_or p.loops i l) at ∙ g.is l, at)

opened_none : (kind : AbsKind) → is_number (opened_kind true kind) ≡ false
opened_none Unset = refl
opened_none (Num range) = refl
opened_none (Ptr region offsets) = refl
opened_none (Map index) = refl

lowered_none : (p : Program) (l : Loop) (lowered : List Bool) (place register : ℕ) (before after : AbsKind) → register ≢ l.register → IsWrittenIn p l register → is_lowered lowered place register ≡ true → IsWidenedKind p l lowered place register before after → is_number after ≡ false
lowered_none p l lowered place register before after other written low (counts at is) = absurd (other at)
lowered_none p l lowered place register before after other written low (opens o w is) = rw (is, low) (opened_none before)
lowered_none p l lowered place register before after other written low (keeps o w is) = absurd (w written)

-- what was lowered is no number after the head is widened
widened_unset : (p : Program) (l : Loop) (place : ℕ) (lowered : List Bool) (register : ℕ) (received : Option StateValue) (h : StateValue) → IsProgram p → IsDeclared p l place → register ≤ 9 → register ≢ l.register → IsWrittenIn p l register → is_lowered lowered place register ≡ true → IsWidenedIfAny p lowered l.head received (Some h) → is_number (kind_at h register) ≡ false
widened_unset p l place lowered register None h limits declared small other written low widened = absurd widened
widened_unset p l place lowered register (Some b) h limits declared small other written low (stays none same) =
    absurd (none place l declared.inside (ap (λ (n : Loop). n.head) (declared.is l)))
widened_unset p l place lowered register (Some b) h limits declared small other written low (widens m also inner at widened) =
    let one = one_loop p m l also place limits inner declared at in
    let here : IsWidened p l lowered place b h = subst (λ (n : Loop). IsWidened p n lowered place b h) one.0 (subst (λ (i : ℕ). IsWidened p m lowered i b h) one.1 widened) in
    lowered_none p l lowered place register (kind_at b register) (kind_at h register) other written low (here.registers register small)

-- if the loop stores, nothing is known of any word of the stack after the head is widened
widened_wide : (p : Program) (l : Loop) (place : ℕ) (lowered : List Bool) (received : Option StateValue) (h : StateValue) → IsProgram p → IsDeclared p l place → IsWidenedIfAny p lowered l.head received (Some h) → HasStore p l → AreAllWhole h.ranges
widened_wide p l place lowered None h limits declared widened stored = absurd widened
widened_wide p l place lowered (Some b) h limits declared (stays none same) stored =
    absurd (none place l declared.inside (ap (λ (n : Loop). n.head) (declared.is l)))
widened_wide p l place lowered (Some b) h limits declared (widens m also inner at widened) stored =
    let one = one_loop p m l also place limits inner declared at in
    wide_is p m b h (subst (λ (n : Loop). HasStore p n) (sym one.0) stored) widened.ranges

-- ---- from one slot to the next

-- if nothing was known in the loop, what is known there may be anything
below_more : (p : Program) (l : Loop) (inner : ℕ → Option StateValue) (table : TableValue) (runs : Bool) (state : StateValue) (slot : ℕ) → StaysBelow p table runs state slot (ring l nothing) → StaysBelow p table runs state slot (ring l inner)
below_more p l inner table runs state slot below = record {
  known = λ k. grown k (knowledge_in table k) (below.known k);
  running = λ on next stands. covered next (below.running on next stands);
}
  where
    covered : (k : ℕ) → IsCovered state (ring l nothing k) → IsCovered state (ring l inner k)
    covered k was = ring_more (λ o. IsCovered state o) l inner k (λ none. none) was

    grown : (k : ℕ) (o : Option StateValue) → IsCoveredIfAny o (ring l nothing k) → IsCoveredIfAny o (ring l inner k)
    grown k None was = tt
    grown k (Some a) was = ring_more (λ o. IsCovered a o) l inner k (λ none. none) was

-- the head of a loop is kept, so no running state is there
never_runs : (p : Program) (l : Loop) (place slot : ℕ) (was : Bool) → IsFormed p → IsDeclared p l place → l.head ≡ slot → (IsTrue was → IsKept p slot → ⊥) → was ≡ false
never_runs p l place slot false form declared at plain = refl
never_runs p l place slot true form declared at plain =
    absurd (plain refl (subst (λ (k : ℕ). IsKept p k) at (head_kept p l form (formed_in p l place form declared) (omega (arith, declared.limits.ordered)))))

pub circle_next : Leaves → LoopsAreEntered → (v : VisitValue) (lowered now start : List Bool) (old new : TableValue) (was runs : Bool) (before after : StateValue) (settled : Type 0) (region : Option Region) (insn : Insn) (l : Loop) (place : ℕ)
    → IsProgram v.program → IsFormed v.program → insn_at v.program v.slot ≡ Some insn → HasNext v insn → (IsTrue was → IsKept v.program v.slot → ⊥)
    → IsWhole before → AreWhole (knowledge_in old) → IsDeclared v.program l place
    → (v.slot ≤ l.back → (register : ℕ) → register ≤ 9 → is_lowered lowered place register ≡ is_lowered start place register)
    → IsInsnVisit v old new was runs before after settled region insn → IsLeastVisit v lowered now old new was runs before after insn
    → IsCircle v.program l place start old was before v.slot → IsCircle v.program l place start new runs after (v.slot + 1)
circle_next laws entered v lowered now start old new was runs before after settled region insn l place limits form begins next plain proper whole declared same visit least circle = record {
  ahead = λ before_head. next_below (ring l nothing)
      (any_followed (ring l nothing) (λ a is. (at_no_ring nothing a (whole_of a is) (omega (arith, before_head)), leads_outside laws v l nothing a insn form next begins comes (outside (omega (arith, before_head))) (whole_of a is))))
      (circle.ahead (omega (arith, before_head)));
  within = λ past upto. by_place (cases_lt l.head v.slot) past upto;
}
  where
    p : Program
    p = v.program

    here : Option StateValue
    here = visited_state was before new v.slot

    formed : IsLoopFormed v.program l
    formed = formed_in v.program l place form declared

    comes : (k : ℕ) → IsEdge v.program v.slot k → IsSome (insn_at v.program k) → ComesIn l v.slot k
    comes k edge some = subst (λ (m : Loop). ComesIn m v.slot k) (declared.is l) (entered v.program v.slot k limits form edge some place l declared.inside)

    outside : v.slot < l.head → holds l v.slot ≡ false
    outside before_head = by_test (holds l v.slot) refl
      where
        by_test : (t : Bool) → holds l v.slot ≡ t → holds l v.slot ≡ false
        by_test false is = is
        by_test true is = absurd (omega (arith, before_head, (inside_of l v.slot is).0))

    at_no_ring : (inner : ℕ → Option StateValue) (a : StateValue) → IsWhole a → v.slot ≤ l.head → IsCovered a (ring l inner v.slot)
    at_no_ring inner a proper upto = ring_any (λ o. IsCovered a o) l inner v.slot (λ following. absurd (omega (arith, upto, following.0))) (below_all a (words_of a proper))

    here_whole : IfSome here IsWhole
    here_whole = comes_whole was before new v.slot proper (visit.extended.whole whole)

    next_below : (above : ℕ → Option StateValue) → IsFollowedBelow (spill_of v.program.version) above v.slot here insn → StaysBelow v.program old was before v.slot above → StaysBelow v.program new runs after (v.slot + 1) above
    next_below above followed below = below_next v lowered now old new was runs before after insn above limits begins visit.plain least followed below

    any_followed : (above : ℕ → Option StateValue) → ((a : StateValue) → here ≡ Some a → IsCovered a (above v.slot) × LeadsBelow (spill_of v.program.version) above v.slot a insn) → IsFollowedBelow (spill_of v.program.version) above v.slot here insn
    any_followed above follows = by_here here refl
      where
        by_here : (o : Option StateValue) → here ≡ o → IsFollowedBelow (spill_of v.program.version) above v.slot o insn
        by_here None is = tt
        by_here (Some a) is = follows a is

    leads : (h a : StateValue) (around : ℕ → StateValue) → l.head ≤ v.slot → v.slot + 1 ≤ l.back → IsWhole a → IsAround v.program l h around → IsRound v.program l v.slot h a → LeadsBelow (spill_of v.program.version) (ring l (λ k. Some (around k))) v.slot a insn
    leads h a around above upto whole covers round =
        elim (cases_lt (v.slot + 1) l.back) [
          | inl earlier ↦ leads_around laws v l h a around insn form next begins comes formed above (omega (arith, upto)) (λ last. omega (arith, last, earlier)) whole covers round
          | inr past ↦
              let last : v.slot + 1 ≡ l.back = omega (arith, past, upto) in
              subst (λ (i : Insn). LeadsBelow (spill_of v.program.version) (ring l (λ k. Some (around k))) v.slot a i) (sym (counts_down last)) (leads_counted v l h a around declared.limits formed last whole covers round)
        ]
      where
        counts_down : v.slot + 1 ≡ l.back → insn ≡ step_down l
        counts_down last =
            let at : v.slot ≡ l.back - 1 = omega (arith, last) in
            let is : insn_at v.program v.slot ≡ Some (step_down l) = ap (λ (k : ℕ). insn_at v.program k) at ∙ formed.step in
            cc

    whole_of : (a : StateValue) → here ≡ Some a → IsWhole a
    whole_of a is = subst (λ (o : Option StateValue). IfSome o IsWhole) is here_whole

    by_head : v.slot ≡ l.head → v.slot + 1 ≤ l.back → IsTurningIfAny v.program l place start new runs after (v.slot + 1) (knowledge_in new l.head)
    by_head at upto = by_known (knowledge_in new l.head) (known_here ∙ ap (λ (k : ℕ). knowledge_in new k) at)
      where
        known_here : here ≡ knowledge_in new v.slot
        known_here = rw (never_runs v.program l place v.slot was form declared (sym at) plain) refl

        by_known : (o : Option StateValue) → here ≡ o → IsTurningIfAny v.program l place start new runs after (v.slot + 1) o
        by_known None is = next_below (ring l nothing) (any_followed (ring l nothing) (λ a found. absurd (none_some a (sym is ∙ found)))) (circle.ahead (omega (arith, at)))
          where
            none_some : (a : StateValue) → None ≡ Some a → ⊥
            none_some a same = cc
        by_known (Some h) is = record {
          head = head;
          wide = widened_wide v.program l place lowered (visited_state was before old v.slot) h limits declared here_widened;
          unset = λ register small other written low.
              widened_unset v.program l place lowered register (visited_state was before old v.slot) h limits declared small other written (same (omega (arith, at, declared.limits.ordered)) register small ∙ low)
              here_widened;
          below = λ around covers. next_below (ring l (λ k. Some (around k)))
              (any_followed (ring l (λ k. Some (around k))) (λ a found.
              let one : h ≡ a = same_some h a (sym is ∙ found) in (
                at_no_ring (λ k. Some (around k)) a (whole_of a found) (omega (arith, at)),
                leads h a around (omega (arith, at)) upto (whole_of a found) covers
                    (subst (λ (b : StateValue). IsRound v.program l v.slot h b) one (subst (λ (k : ℕ). IsRound v.program l k h h) (sym at) (round_head laws.reflexive v.program l h declared.limits.ordered (whole_of h is) head))),
              )))
              (below_more v.program l (λ k. Some (around k)) old was before v.slot (circle.ahead (omega (arith, at))));
        }
          where
            here_widened : IsWidenedIfAny v.program lowered l.head (visited_state was before old v.slot) (Some h)
            here_widened =
                subst (λ (k : ℕ). IsWidenedIfAny v.program lowered k (visited_state was before old v.slot) (Some h)) at
                (subst (λ (o : Option StateValue). IsWidenedIfAny v.program lowered v.slot (visited_state was before old v.slot) o) is least.widened)

            same_some : (a b : StateValue) → Some a ≡ Some b → a ≡ b
            same_some a b is = cc

            head : IsHead v.program l h
            head =
                subst (λ (o : Option StateValue). IfSome o (IsHead v.program l)) is
                (subst (λ (m : Loop). IfSome here (IsHead v.program m)) (declared.is l)
                (visit.heads place l declared.inside (ap (λ (m : Loop). m.head) (declared.is l) ∙ sym at)))

    by_within : l.head < v.slot → v.slot + 1 ≤ l.back → (o : Option StateValue) → IsTurningIfAny v.program l place start old was before v.slot o → IsTurningIfAny v.program l place start new runs after (v.slot + 1) o
    by_within past upto None below =
        let none : visited_state was before old v.slot ≡ None = comes_none v.program l old was before v.slot insn begins plain (past, omega (arith, upto)) below in
        next_below (ring l nothing)
        (any_followed (ring l nothing) (λ a found. absurd (never a (subst (λ (o : Option StateValue). IsWidenedIfAny v.program lowered v.slot o (Some a)) none (subst (λ (o : Option StateValue). IsWidenedIfAny v.program lowered v.slot (visited_state was before old v.slot) o) found least.widened)))))
        below
      where
        never : (a : StateValue) → IsWidenedIfAny v.program lowered v.slot None (Some a) → ⊥
        never a widened = widened
    by_within past upto (Some h) turning = record {
      head = turning.head;
      wide = turning.wide;
      unset = turning.unset;
      below = λ around covers. next_below (ring l (λ k. Some (around k)))
          (any_followed (ring l (λ k. Some (around k))) (λ a found.
          let round : IsRound v.program l v.slot h a = subst (λ (o : Option StateValue). IfSome o (IsRound v.program l v.slot h)) found rounds in (
            subst (λ (o : Option StateValue). IsCovered a o) (sym (ring_after l (λ k. Some (around k)) v.slot following)) (covers v.slot a round),
            leads h a around (omega (arith, past)) upto (whole_of a found) covers round,
          )))
          (turning.below around covers);
    }
      where
        following : IsAfterHead l v.slot
        following = (past, omega (arith, upto))

        rounds : IfSome here (IsRound v.program l v.slot h)
        rounds =
            widened_round v.program l place lowered v.slot h (visited_state was before old v.slot) here form declared following (comes_whole was before old v.slot proper whole) here_whole least.widened
            (comes_round v.program l place start old was before v.slot h insn begins plain following turning)

    by_place : (l.head < v.slot) ⊎ (v.slot ≤ l.head) → l.head < v.slot + 1 → v.slot + 1 ≤ l.back → IsTurningIfAny v.program l place start new runs after (v.slot + 1) (knowledge_in new l.head)
    by_place (inl past) head upto =
        subst (λ (o : Option StateValue). IsTurningIfAny v.program l place start new runs after (v.slot + 1) o) (sym (visit.extended.kept l.head past))
        (by_within past upto (knowledge_in old l.head) (circle.within past (omega (arith, upto))))
    by_place (inr not_past) head upto = by_head (omega (arith, not_past, head)) upto

-- at a second slot
pub circle_skip : (p : Program) (l : Loop) (place : ℕ) (start : List Bool) (table : TableValue) (runs : Bool) (state : StateValue) (slot : ℕ) → IsProgram p → IsFormed p → IsDeclared p l place → insn_at p slot ≡ None → IsCircle p l place start table runs state slot → IsCircle p l place start table runs state (slot + 1)
circle_skip p l place start table runs state slot limits form declared none circle = record {
  ahead = λ upto. below_skip p table runs state slot (ring l nothing) none (circle.ahead (omega (arith, upto)));
  within = λ past upto. by_known (knowledge_in table l.head) (circle.within (following past) (omega (arith, upto)));
}
  where
    -- an instruction begins at the head
    begins : IsSome (insn_at p l.head)
    begins = kept_begins p l.head limits (head_kept p l form (formed_in p l place form declared) (omega (arith, declared.limits.ordered)))

    following : l.head < slot + 1 → l.head < slot
    following past =
        elim (cases_lt l.head slot) [
          | inl earlier ↦ earlier
          | inr not_past ↦
              let same : l.head ≡ slot = omega (arith, past, not_past) in
              absurd (false≢true (subst (λ (o : Option Insn). IsSome o) none (subst (λ (k : ℕ). IsSome (insn_at p k)) same begins)))
        ]

    by_known : (o : Option StateValue) → IsTurningIfAny p l place start table runs state slot o → IsTurningIfAny p l place start table runs state (slot + 1) o
    by_known None below = below_skip p table runs state slot (ring l nothing) none below
    by_known (Some h) turning = record {
      head = turning.head;
      wide = turning.wide;
      unset = turning.unset;
      below = λ around covers. below_skip p table runs state slot (ring l (λ k. Some (around k))) none (turning.below around covers);
    }

-- before the first slot
pub circle_none : (p : Program) (l : Loop) (place : ℕ) (start : List Bool) (table : TableValue) (state : StateValue) → IsEntered (knowledge_in table 0) → IsLeastEntry (knowledge_in table) → IsCircle p l place start table false state 0
circle_none p l place start table state entered least = record {
  ahead = λ upto. below_none p table state (ring l nothing) (least (ring l nothing) (record {
    known = entered.known;
    entry = entered.entry;
    covered = ring_any (λ o. IsCovered entered.known o) l nothing 0 (λ following. absurd (omega (arith, following.0))) (below_all entered.known (words_whole entered.known.ranges entered.entry.ranges));
  }));
  within = λ past upto. absurd (omega (arith, past));
}
