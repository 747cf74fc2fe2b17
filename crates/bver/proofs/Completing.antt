-- Slot by slot of a pass that starts below what is closed. If what was lowered holds nothing at the heads of what is
-- closed, what the pass knows stays below it. What the pass lowers holds nothing there either. No edge back is
-- refused, and what a refusal gives must be known.
use Rattle.std.proofs.Common.{◌≡◌, ◌≢◌, ℕ, zero, suc, ◌*◌, ◌+◌, ◌≤◌, ◌⊎◌, inl, inr, ℤ, pos, negsuc, Bool, true, false, List, [], ◌∷◌, ◌-◌, Option, None, Some, Result, Ok, Err, refl, sym, ap, subst, ◌∙◌, arith}
use Rattle.std.specs.Prelude.{IfErr, IfSome, IsTrue, slice_index_or}
use Rattle.std.proofs.lemmas.Bool.{false≢true}
use Rattle.bpf.specs.declared.loops.Loop.{Loop}
use Rattle.bpf.specs.Program.{Program, IsProgram}
use Rattle.bpf_insn.specs.declared.insn.Insn.{Insn}
use Rattle.bpf_parts.specs.declared.operation.Condition.TheVariants.{NotEqual}
use Rattle.bpf_parts.specs.declared.operation.Operand.TheVariants.{Immediate}
use Rattle.bpf_parts.specs.declared.operation.Width.TheVariants.{Bits64}
use Rattle.machine.specs.Sizes.{Maps}
use Rattle.machine.specs.declared.regions.Region.{Region}
use Rattle.machine.specs.Step.{insn_at}
use Rattle.absdom.specs.declared.cause.Cause.{Cause}
use Rattle.absdom.specs.declared.kinds.AbsKind.TheVariants.{Unset}
use Rattle.absdom.specs.Edges.{Edges, refined_edges}
use Rattle.absdom.specs.State.{StateValue, IsStateBelow, IsWhole, kind_at}
use Rattle.absdom.specs.Laws.{ApplyGrows, ApplyLeaves, BelowIsReflexive, BelowIsTransitive, CallGrows, CallLeaves, StateRefineGrows, StateRefineShrinks}
use Rattle.absdom_stack.specs.declared.spill.Spill.{Spill}
use Rattle.absdom_stack.specs.Spill.{spill_of}
use Rattle.bver_form.specs.declared.refusal.Refused.{Refused}
use Rattle.bver_form.specs.Form.{IsFormed}
use Rattle.bver_form.specs.Jumps.{target}
use Rattle.bver_form.specs.Laws.{LoopsAreEntered}
use Rattle.bver_form.specs.Loops.{back_jump}
use Rattle.bver_form.specs.Lowered.{count_of, is_lowered}
use Rattle.bver_form.specs.Targets.{IsKept}
use Rattle.bver_pass.specs.Heads.{AreUnset, Falls, HasLowered, IsDeclared}
use Rattle.bver_pass.specs.Justified.{IsCovered, IsCoveredIfAny, IsEntered, IsHead, knowledge_at}
use Rattle.bver_pass.specs.Leading.{BranchesBelow, LeadsBelow, IsLeastVisit, AreLoweredBack, IsLeastVisitIfAny, IsLoweredBack, IsLoweredBackIfAny, IsUncovered, IsVisitFaultIfAny, jumping_if_any, jumping_state, taken_state}
use Rattle.bver_pass.specs.StateTable.{TableValue, knowledge_in}
use Rattle.bver_pass.specs.Visit.{AreWhole, IsInsnVisit, IsLeastEntry, IsVisit, VisitValue, visited_state}
use Rattle.bver.specs.Reported.{HasToLower, IsClosed, IsCoveredBut, ReportsKnown}
use Rattle.bver.proofs.Above.{falls_unset}
use Rattle.bver.proofs.Ahead.{ahead, ahead_from, ahead_next}
use Rattle.bver.proofs.Below.{IsRefusedBack, Order, StaysBelow, below_none, below_skip, below_wider, closed_next, comes_whole, head_in, here_covered, opened_in, visit_reported}
use Rattle.bver.proofs.Circles.{IsCircle, IsTurningIfAny, circle_next, circle_none, circle_skip, comes_none, comes_round, formed_in, widened_round}
use Rattle.bver.proofs.Closing.{back_covered}
use Rattle.bver_form.proofs.Entering.{to_head}
use Rattle.bver.proofs.Rings.{IsAfterHead}
use Rattle.bver.proofs.Rounds.{IsRound}
use Rattle.bver.proofs.Slots.{has_next}
use Rattle.bver.proofs.Turns.{Leaves}

-- what holds of the states of the verifier, and of the loops of a program that has its form
pub record Rules : Type 0 where
  pub reflexive : BelowIsReflexive
  pub transitive : BelowIsTransitive
  pub applies : ApplyGrows
  pub refines : StateRefineGrows
  pub calls : CallGrows
  pub apply_leaves : ApplyLeaves
  pub call_leaves : CallLeaves
  pub shrinks : StateRefineShrinks
  pub entered : LoopsAreEntered

order_of : Rules → Order
order_of rules = record { reflexive = rules.reflexive; transitive = rules.transitive; applies = rules.applies; refines = rules.refines; calls = rules.calls }

leaves_of : Rules → Leaves
leaves_of rules = record { reflexive = rules.reflexive; transitive = rules.transitive; applies = rules.apply_leaves; calls = rules.call_leaves; shrinks = rules.shrinks }

-- what a pass lowered of a loop whose back is still ahead is what it began with
abbrev pub IsSameAhead : Program → (start lowered : List Bool) (slot : ℕ) → Type 0
IsSameAhead p start lowered slot =
    (l : Loop) (place : ℕ) → IsDeclared p l place → slot ≤ l.back → (register : ℕ) → register ≤ 9 → is_lowered lowered place register ≡ is_lowered start place register

-- the slots before this one were visited
pub record IsCompleting (p : Program) (start lowered : List Bool) (table : TableValue) (runs : Bool) (state : StateValue) (slot : ℕ) : Type 0 where
  pub same : IsSameAhead p start lowered slot
  pub circles : (l : Loop) (place : ℕ) → IsDeclared p l place → IsCircle p l place start table runs state slot
  pub below : (comes stands : ℕ → Option StateValue) → IsClosed p comes stands → HasLowered p start stands → StaysBelow p table runs state slot (ahead slot comes) × HasLowered p lowered stands

-- ---- what an edge back lowers

-- one loop is declared at a place
declared_once : (p : Program) (l m : Loop) (place : ℕ) → IsDeclared p l place → IsDeclared p m place → l ≡ m
declared_once p l m place f g = sym (f.is l) ∙ g.is l

-- what is known along the jump comes to the slot to which it leads
back_leads : (spill : Spill) (comes : ℕ → Option StateValue) (l : Loop) (a edge : StateValue) → l.head ≤ l.back → LeadsBelow spill comes l.back a (back_jump l) → jumping_state a (back_jump l) ≡ Some edge → IsCovered edge (comes l.head)
back_leads spill comes l a edge ordered leads is =
    subst (λ (z : ℤ). IsCovered edge (knowledge_at comes z)) (to_head l.head l.back ordered) (by_edges (refined_edges a NotEqual Bits64 l.register (Immediate (pos 0))) leads is)
  where
    by_edges : (r : Result Edges Cause) → BranchesBelow r (knowledge_at comes (target l.back (negsuc (l.back - l.head)))) (comes (l.back + 1)) → taken_state r ≡ Some edge → IsCovered edge (knowledge_at comes (target l.back (negsuc (l.back - l.head))))
    by_edges (Err cause) leads is = absurd cc
    by_edges (Ok edges) leads is = subst (λ (o : Option StateValue). IsCoveredIfAny o (knowledge_at comes (target l.back (negsuc (l.back - l.head))))) is leads.0

-- the instruction at the back of a loop is its jump back
jumps_back : (p : Program) (l : Loop) (place slot : ℕ) (insn : Insn) → IsFormed p → IsDeclared p l place → l.back ≡ slot → insn_at p slot ≡ Some insn → insn ≡ back_jump l
jumps_back p l place slot insn form declared back begins =
    let is : insn_at p slot ≡ Some (back_jump l) = subst (λ (k : ℕ). insn_at p k ≡ Some (back_jump l)) back (formed_in p l place form declared).back in
    cc

-- what was lowered, and what is lowered now, holds nothing at the heads of what is closed
keeps_lowered : (v : VisitValue) (lowered now : List Bool) (known : ℕ → Option StateValue) (here : Option StateValue) (insn : Insn) (comes stands : ℕ → Option StateValue)
    → IsFormed v.program → insn_at v.program v.slot ≡ Some insn → IfSome here IsWhole → IsCoveredIfAny here (stands v.slot)
    → IsClosed v.program comes stands → HasLowered v.program lowered stands
    → AreLoweredBack v.program v.slot known (jumping_if_any here insn) lowered now → HasLowered v.program now stands
keeps_lowered v lowered now known here insn comes stands form begins whole covered h low marks l place declared = by_there (stands l.head) refl
  where
    by_back : (a edge d : StateValue) (register : ℕ) → IsWhole a → IsCovered a (stands v.slot) → jumping_state a insn ≡ Some edge → stands l.head ≡ Some d → register ≢ l.register → IsLoweredBack v.program v.slot known edge place register → kind_at d register ≡ Unset
    by_back a edge d register proper below is there other back =
        let m = back.declared in
        let one : l ≡ m = declared_once v.program l m place declared back.is in
        let here_is : stands m.head ≡ Some d = ap (λ (n : Loop). stands n.head) (sym one) ∙ there in
        let insn_is : insn ≡ back_jump m = jumps_back v.program m place v.slot insn form back.is back.back begins in
        let leads : LeadsBelow (spill_of v.program.version) comes v.slot a insn = h.leads v.slot insn begins a proper below in
        let back_leading : LeadsBelow (spill_of v.program.version) comes m.back a (back_jump m) = subst (λ (k : ℕ). LeadsBelow (spill_of v.program.version) comes k a (back_jump m)) (sym back.back) (subst (λ (i : Insn). LeadsBelow (spill_of v.program.version) comes v.slot a i) insn_is leads) in
        let coming : IsCovered edge (comes m.head) = back_leads (spill_of v.program.version) comes m a edge (omega (arith, back.is.limits.ordered)) back_leading (subst (λ (i : Insn). jumping_state a i ≡ Some edge) insn_is is) in
        falls_unset (record { program = v.program; declared = m; place = place }) (known m.head) edge d register
        (subst (λ (n : Loop). register ≢ n.register) one other)
        (subst (λ (o : Option StateValue). IfSome o (IsHead v.program m)) here_is (head_in v.program comes stands m place h back.is))
        (subst (λ (o : Option StateValue). IsCoveredBut m.register edge o) here_is (opened_in v.program comes stands m place edge h back.is coming))
        back.falls

    by_edge : (a d : StateValue) (register : ℕ) → IsWhole a → IsCovered a (stands v.slot) → stands l.head ≡ Some d → register ≢ l.register → (edge : Option StateValue) → jumping_state a insn ≡ edge → IsLoweredBackIfAny v.program v.slot known edge place register → kind_at d register ≡ Unset
    by_edge a d register proper below there other None is back = absurd back
    by_edge a d register proper below there other (Some edge) is back = by_back a edge d register proper below is there other back

    by_here : (d : StateValue) (register : ℕ) → stands l.head ≡ Some d → register ≢ l.register → (o : Option StateValue) → IfSome o IsWhole → IsCoveredIfAny o (stands v.slot) → IsLoweredBackIfAny v.program v.slot known (jumping_if_any o insn) place register → kind_at d register ≡ Unset
    by_here d register there other None proper below back = absurd back
    by_here d register there other (Some a) proper below back = by_edge a d register proper below there other (jumping_state a insn) refl back

    held : (d : StateValue) → stands l.head ≡ Some d → AreUnset v.program l now place d
    held d is register small other written lowers = by_mark (marks place register small)
      where
        before : AreUnset v.program l lowered place d
        before = subst (λ (o : Option StateValue). IfSome o (AreUnset v.program l lowered place)) is (low l place declared)

        by_mark : (is_lowered now place register ≡ is_lowered lowered place register) ⊎ IsLoweredBackIfAny v.program v.slot known (jumping_if_any here insn) place register → kind_at d register ≡ Unset
        by_mark (inl same) = before register small other written (sym same ∙ lowers)
        by_mark (inr back) = by_here d register is other here whole covered back

    by_there : (there : Option StateValue) → stands l.head ≡ there → IfSome there (AreUnset v.program l now place)
    by_there None is = tt
    by_there (Some d) is = held d is

-- ---- from one slot to the next

-- after the visit of an instruction
complete_insn : Rules → (v : VisitValue) (start lowered now : List Bool) (old new : TableValue) (was runs : Bool) (before after : StateValue) (settled : Type 0) (region : Option Region) (insn : Insn)
    → IsProgram v.program → IsFormed v.program → insn_at v.program v.slot ≡ Some insn → (IsTrue was → IsKept v.program v.slot → ⊥)
    → IsWhole before → AreWhole (knowledge_in old)
    → IsInsnVisit v old new was runs before after settled region insn → IsLeastVisit v lowered now old new was runs before after insn
    → IsCompleting v.program start lowered old was before v.slot → IsCompleting v.program start now new runs after (v.slot + 1)
complete_insn rules v start lowered now old new was runs before after settled region insn limits form begins plain proper whole visit least h = record {
  same = λ l place declared upto register small. still l place declared upto register small (least.marks place register small);
  circles = λ l place declared.
      circle_next (leaves_of rules) rules.entered v lowered now start old new was runs before after settled region insn l place limits form begins (has_next v insn limits form begins) plain proper whole declared
      (λ upto. h.same l place declared upto) visit least (h.circles l place declared);
  below = λ comes stands closed low.
      let was_below = h.below comes stands closed low in (
        closed_next (order_of rules) v lowered now old new was runs before after settled region insn comes stands limits begins plain proper whole closed was_below.1 visit least was_below.0,
        keeps_lowered v lowered now (knowledge_in old) (visited_state was before new v.slot) insn comes stands form begins
            (comes_whole was before new v.slot proper new_whole)
            (here_covered v lowered old new was before insn comes stands begins plain proper whole new_whole closed was_below.1 least.widened was_below.0)
            closed was_below.1 least.marks,
      );
}
  where
    new_whole : AreWhole (knowledge_in new)
    new_whole = visit.extended.whole whole

    no_back : (l : Loop) (place register : ℕ) → IsDeclared v.program l place → v.slot + 1 ≤ l.back → (edge : Option StateValue) → IsLoweredBackIfAny v.program v.slot (knowledge_in old) edge place register → ⊥
    no_back l place register declared upto None back = back
    no_back l place register declared upto (Some edge) back =
        omega (arith, upto, back.back, ap (λ (n : Loop). n.back) (declared_once v.program l back.declared place declared back.is))

    still : (l : Loop) (place : ℕ) → IsDeclared v.program l place → v.slot + 1 ≤ l.back → (register : ℕ) → register ≤ 9 → (is_lowered now place register ≡ is_lowered lowered place register) ⊎ IsLoweredBackIfAny v.program v.slot (knowledge_in old) (jumping_if_any (visited_state was before new v.slot) insn) place register → is_lowered now place register ≡ is_lowered start place register
    still l place declared upto register small (inl same) = same ∙ h.same l place declared (omega (arith, upto)) register small
    still l place declared upto register small (inr back) = absurd (no_back l place register declared upto (jumping_if_any (visited_state was before new v.slot) insn) back)

-- at a second slot
complete_skip : Rules → (p : Program) (start lowered : List Bool) (table : TableValue) (runs : Bool) (state : StateValue) (slot : ℕ) → IsProgram p → IsFormed p → insn_at p slot ≡ None → IsCompleting p start lowered table runs state slot → IsCompleting p start lowered table runs state (slot + 1)
complete_skip rules p start lowered table runs state slot limits form none h = record {
  same = λ l place declared upto. h.same l place declared (omega (arith, upto));
  circles = λ l place declared. circle_skip p l place start table runs state slot limits form declared none (h.circles l place declared);
  below = λ comes stands closed low.
      let was_below = h.below comes stands closed low in (
        below_wider rules.transitive p table runs state (slot + 1) (ahead slot comes) (ahead (slot + 1) comes) (ahead_next rules.reflexive slot comes closed.whole)
            (below_skip p table runs state slot (ahead slot comes) none was_below.0),
        was_below.1,
      );
}

-- before the first slot
pub complete_none : (p : Program) (start : List Bool) (table : TableValue) (state : StateValue) → IsEntered (knowledge_in table 0) → IsLeastEntry (knowledge_in table) → IsCompleting p start start table false state 0
complete_none p start table state entered least = record {
  same = λ l place declared upto register small. refl;
  circles = λ l place declared. circle_none p l place start table state entered least;
  below = λ comes stands closed low. (
    below_none p table state (ahead 0 comes) (least (ahead 0 comes) (subst (λ (o : Option StateValue). IsEntered o) (sym (ahead_from 0 comes 0 (omega arith))) closed.entered)),
    low,
  );
}

-- after the visit of a slot
pub complete_next : Rules → (v : VisitValue) (p : Program) (maps : Maps) (slot : ℕ) (start lowered now : List Bool) (old new : TableValue) (was runs : Bool) (before after : StateValue) (settled : Type 0) (region : Option Region)
    → v ≡ record { program = p; maps = maps; slot = slot } → IsProgram p → IsFormed p → (IsTrue was → IsKept p slot → ⊥)
    → IsWhole before → AreWhole (knowledge_in old)
    → IsVisit v old new was runs before after settled region (insn_at v.program v.slot) → IsLeastVisitIfAny v lowered now old new was runs before after (insn_at v.program v.slot)
    → IsCompleting p start lowered old was before slot → IsCompleting p start now new runs after (slot + 1)
complete_next rules v p maps slot start lowered now old new was runs before after settled region same limits form plain proper whole visit least h =
    by_insn (insn_at p slot) refl
    (subst (λ (u : VisitValue). IsVisit u old new was runs before after settled region (insn_at u.program u.slot)) same visit)
    (subst (λ (u : VisitValue). IsLeastVisitIfAny u lowered now old new was runs before after (insn_at u.program u.slot)) same least)
  where
    by_insn : (o : Option Insn) → insn_at p slot ≡ o → IsVisit (record { program = p; maps = maps; slot = slot }) old new was runs before after settled region o → IsLeastVisitIfAny (record { program = p; maps = maps; slot = slot }) lowered now old new was runs before after o → IsCompleting p start now new runs after (slot + 1)
    by_insn None none visit least =
        rw (visit.same_table, visit.same_runs, visit.same_state, least) (complete_skip rules p start lowered old was before slot limits form none h)
    by_insn (Some insn) begins visit least =
        complete_insn rules (record { program = p; maps = maps; slot = slot }) start lowered now old new was runs before after settled region insn limits form begins plain proper whole visit least h

-- ---- no visit is refused at an edge back

-- an edge back is covered, or lowers what was not lowered before
back_refuted : Rules → (v : VisitValue) (start lowered : List Bool) (old : TableValue) (was : Bool) (before : StateValue) (insn : Insn)
    → IsFormed v.program → insn_at v.program v.slot ≡ Some insn → (IsTrue was → IsKept v.program v.slot → ⊥) → AreWhole (knowledge_in old)
    → IsCompleting v.program start lowered old was before v.slot
    → (a here edge : StateValue) → visited_state was before old v.slot ≡ Some a → IsRefusedBack v lowered (knowledge_in old) insn a here edge → ⊥
back_refuted rules v start lowered old was before insn form begins plain whole h a here edge received refused = by_uncovered refused.4
  where
    by_turn : (u : IsUncovered v.program v.slot lowered (knowledge_in old) edge) → IsAfterHead u.declared v.slot → (o : Option StateValue) → knowledge_in old u.declared.head ≡ o → IsTurningIfAny v.program u.declared u.place start old was before v.slot o → ⊥
    by_turn u following None is below =
        let none : visited_state was before old v.slot ≡ None = comes_none v.program u.declared old was before v.slot insn begins plain following below in
        absurd cc
    by_turn u following (Some d) is turning =
        let l = u.declared in
        let insn_is : insn ≡ back_jump l = jumps_back v.program l u.place v.slot insn form u.is u.back begins in
        let round_came : IsRound v.program l v.slot d a = subst (λ (o : Option StateValue). IfSome o (IsRound v.program l v.slot d)) received (comes_round v.program l u.place start old was before v.slot d insn begins plain following turning) in
        let round_here : IsRound v.program l v.slot d here = widened_round v.program l u.place lowered v.slot d (Some a) (Some here) form u.is following refused.0 refused.1 refused.2 round_came in
        let d_whole : IsWhole d = subst (λ (o : Option StateValue). IfSome o IsWhole) is (whole l.head) in
        let below : IsStateBelow edge d = back_covered (leaves_of rules) v.program l u.place start lowered d here edge form u.is d_whole refused.1 u.whole turning.head turning.wide turning.unset
        (h.same l u.place u.is following.1) (subst (λ (k : ℕ). IsRound v.program l k d here) (sym u.back) round_here) (subst (λ (i : Insn). jumping_state here i ≡ Some edge) insn_is refused.3)
        (λ register small falls. u.fallen register small (subst (λ (o : Option StateValue). Falls (record { program = v.program; declared = l; place = u.place }) o edge register) (sym is) falls)) in
        u.uncovered (subst (λ (o : Option StateValue). IsCovered edge o) (sym is) below)

    by_uncovered : IsUncovered v.program v.slot lowered (knowledge_in old) edge → ⊥
    by_uncovered u =
        let following : IsAfterHead u.declared v.slot = (omega (arith, u.is.limits.ordered, u.back), omega (arith, u.back)) in
        by_turn u following (knowledge_in old u.declared.head) refl ((h.circles u.declared u.place u.is).within following.0 following.1)

-- what a refused visit of a slot gives
pub complete_reported : Rules → (v : VisitValue) (p : Program) (maps : Maps) (slot : ℕ) (start lowered : List Bool) (old : TableValue) (was : Bool) (before reported : StateValue) (refused : Refused)
    → v ≡ record { program = p; maps = maps; slot = slot } → IsFormed p → (IsTrue was → IsKept p slot → ⊥)
    → IsWhole before → AreWhole (knowledge_in old)
    → IsVisitFaultIfAny v lowered (knowledge_in old) (visited_state was before old v.slot) (insn_at v.program v.slot) reported refused
    → IsCompleting p start lowered old was before slot → HasToLower p start → ReportsKnown p maps reported refused
complete_reported rules v p maps slot start lowered old was before reported refused same form plain proper whole fault h low =
    by_insn (insn_at p slot) refl (subst (λ (u : VisitValue). IsVisitFaultIfAny u lowered (knowledge_in old) (visited_state was before old u.slot) (insn_at u.program u.slot) reported refused) same fault)
  where
    by_insn : (o : Option Insn) → insn_at p slot ≡ o → IsVisitFaultIfAny (record { program = p; maps = maps; slot = slot }) lowered (knowledge_in old) (visited_state was before old slot) o reported refused → ReportsKnown p maps reported refused
    by_insn None none fault = absurd fault
    by_insn (Some insn) begins fault =
        visit_reported (record { program = p; maps = maps; slot = slot }) lowered old was before (knowledge_in old) insn reported refused begins plain proper whole
        (λ comes stands closed. h.below comes stands closed (low comes stands closed))
        (λ a. back_refuted rules (record { program = p; maps = maps; slot = slot }) start lowered old was before insn form begins plain whole h a reported) fault

-- ---- at first nothing is lowered

count_nothing : (marks : List Bool) → count_of marks ≡ 0 → (k : ℕ) → slice_index_or marks k false ≡ false
unfolding count_of
count_nothing [] none k = refl
count_nothing (true ∷ marks) none k = absurd (omega arith)
count_nothing (false ∷ marks) none zero = refl
count_nothing (false ∷ marks) none (suc k) = count_nothing marks none k

pub lowers_nothing : (p : Program) (lowered : List Bool) (table : ℕ → Option StateValue) → count_of lowered ≡ 0 → HasLowered p lowered table
lowers_nothing p lowered table none l place declared = by_there (table l.head)
  where
    by_there : (there : Option StateValue) → IfSome there (AreUnset p l lowered place)
    by_there None = tt
    by_there (Some d) = λ register small other written low. absurd (false≢true (sym (count_nothing lowered none (10 * place + register)) ∙ low))

-- what a refused pass gives, which the caller hands on
pub reported_on : {T : Type 0} (result : Result T Refused) (e : Refused) (Reports : Refused → Type 0) → result ≡ Err e → Reports e → IfErr result Reports
reported_on (Ok done) e Reports is reports = tt
reported_on (Err refused) e Reports is reports =
    let same : e ≡ refused = cc in
    subst Reports same reports
