-- What a pass knows stays below every table that covers what comes to a slot and what its instruction leads to. So it
-- stays below what is closed, and what a refusal gives refutes a table under which the program is justified.
use Rattle.std.proofs.Common.{◌≡◌, ℕ, ◌+◌, ◌<◌, ◌≤◌, Bool, true, false, List, Option, None, Some, Result, Ok, Err, inl, inr, refl, sym, ap, subst, ◌∙◌, arith, ◌⊎◌}
use Rattle.std.specs.Prelude.{IsTrue, IsSome, IfSome, slice_index_or}
use Rattle.std.proofs.lemmas.Bool.{cases_lt, false≢true}
use Rattle.bpf.specs.declared.loops.Loop.{Loop}
use Rattle.bpf.specs.Program.{Program, IsProgram}
use Rattle.bpf_insn.specs.declared.insn.Insn.{Insn}
use Rattle.bpf_insn.specs.declared.insn.Insn.TheVariants.{Alu, Negate, MoveSigned, ByteSwap, Load, Store, Jump, Goto, Wide, LoadMap, LoadAddress, Call, Exit}
use Rattle.bpf_insn.specs.Spelling.{slots_of}
use Rattle.machine.specs.Sizes.{Maps}
use Rattle.machine.specs.declared.regions.Region.{Region}
use Rattle.machine.specs.Step.{insn_at}
use Rattle.absdom.specs.declared.cause.Cause.{Cause}
use Rattle.absdom.specs.Edges.{Edges}
use Rattle.absdom.specs.Effect.{after_insn}
use Rattle.absdom.specs.State.{StateValue, IsWhole}
use Rattle.absdom_stack.specs.StackWords.{AreAllWhole}
use Rattle.absdom.specs.Laws.{ApplyGrows, BelowIsReflexive, BelowIsTransitive, CallGrows, StateRefineGrows}
use Rattle.absdom_stack.specs.declared.spill.Spill.{Spill}
use Rattle.absdom_stack.specs.Spill.{spill_of}
use Rattle.bver_form.specs.declared.refusal.Refused.{Refused}
use Rattle.bver_form.specs.Jumps.{target}
use Rattle.bver_form.specs.Targets.{IsKept, IsPlain}
use Rattle.bver_form.specs.Lowered.{is_lowered}
use Rattle.bver_pass.specs.Heads.{AreUnset, Falls, HasLowered, IsDeclared}
use Rattle.bver_pass.specs.Justified.{AreEdgesCovered, HasStore, IsCovered, IsCoveredIfAny, IsHead, IsPermitted, IsPermittedAt, IsResultCovered, edges_of_comparison, knowledge_at}
use Rattle.bver_pass.specs.Leading.{AreLoweredBack, BranchesBelow, EntersOutside, GivesBelow, IsFlowFault, IsFollowedBelow, IsHeadFaultIfAny, IsWidenedAt, IsLeastVisit, IsLoweredBackIfAny, IsWidenedIfAny, IsUncovered, IsUncoveredIfAny, IsVisitFault, IsVisitFaultIfAny, LeadsBelow, enters, jumping_if_any, jumping_state, leads, widens, refutes, returns, stays}
use Rattle.bver_pass.specs.StateTable.{TableValue, knowledge_in}
use Rattle.bver_pass.specs.Unjustified.{IsRefuted, Justifies}
use Rattle.bver_pass.specs.Visit.{AreWhole, IsExtended, IsInsnVisit, IsLeastNext, IsLeastOf, VisitValue, visited_state}
use Rattle.bver.proofs.Above.{entry_refuted, permitted_less, widened_less}
use Rattle.bver.specs.Reported.{HasToCome, HasToStand, IsClosed, IsCoveredBut, ReportsKnown, of_head, of_insn}
use Rattle.bver_pass.proofs.Covering.{AreCovered, any_covered_more, covered_more}
use Rattle.bver.proofs.Ahead.{ahead, ahead_before, ahead_from, ahead_next, covered_ahead}
use Rattle.bver.proofs.Covering.{leads_more}
use Rattle.bver.proofs.Rounds.{below_all, words_of}
use Rattle.bver.proofs.Passing.{StandsAt}
use Rattle.bver.proofs.Slots.{goes_further, none_between}

-- ---- what is permitted leads below the table

result_leads : (r : Result StateValue Cause) (there : Option StateValue) → IsResultCovered r there → GivesBelow r there
result_leads (Err cause) there h = absurd h
result_leads (Ok a) there h = h

edges_lead : (r : Result Edges Cause) (taken next : Option StateValue) → AreEdgesCovered r taken next → BranchesBelow r taken next
edges_lead (Err cause) taken next h = absurd h
edges_lead (Ok edges) taken next h = h

pub permitted_leads : (spill : Spill) (maps : Maps) (table : ℕ → Option StateValue) (slot : ℕ) (a : StateValue) (insn : Insn) → IsPermitted spill maps table slot a insn → LeadsBelow spill table slot a insn
permitted_leads spill maps table slot a insn h = by_insn insn h
  where
    proceeds : (insn : Insn) → IsResultCovered (after_insn spill a insn) (table (slot + slots_of insn)) → GivesBelow (after_insn spill a insn) (table (slot + slots_of insn))
    proceeds insn h = result_leads (after_insn spill a insn) (table (slot + slots_of insn)) h

    by_insn : (insn : Insn) → IsPermitted spill maps table slot a insn → LeadsBelow spill table slot a insn
    by_insn (Alu op width dst src) h = proceeds (Alu op width dst src) h
    by_insn (Negate width dst) h = proceeds (Negate width dst) h
    by_insn (MoveSigned extension dst src) h = proceeds (MoveSigned extension dst src) h
    by_insn (ByteSwap swap bits dst) h = proceeds (ByteSwap swap bits dst) h
    by_insn (Load size dst place) h = proceeds (Load size dst place) h
    by_insn (Store size place src) h = proceeds (Store size place src) h
    by_insn (Jump comparison offset) h = edges_lead (edges_of_comparison a comparison) (knowledge_at table (target slot offset)) (table (slot + 1)) h
    by_insn (Goto distance) h = h
    by_insn (Wide dst value) h = proceeds (Wide dst value) h
    by_insn (LoadMap dst index) h = proceeds (LoadMap dst index) h.1
    by_insn (LoadAddress dst address) h = tt
    by_insn (Call callee number) h = h.1
    by_insn Exit h = tt

-- ---- from one slot of a pass to the next

-- what the table knows is covered, and so is the running state at its slot
pub record StaysBelow (p : Program) (table : TableValue) (runs : Bool) (state : StateValue) (slot : ℕ) (above : ℕ → Option StateValue) : Type 0 where
  pub known : AreCovered (knowledge_in table) above
  pub running : IsTrue runs → (next : ℕ) → StandsAt p slot next → IsCovered state (above next)

-- the running state is at one slot
one_place : (p : Program) (slot a b : ℕ) → StandsAt p slot a → StandsAt p slot b → a ≡ b
one_place p slot a b f g =
    elim (cases_lt a b) [
      | inl below ↦ absurd (false≢true (subst (λ (o : Option Insn). IsSome o) (g.between a f.from below) f.begins))
      | inr past ↦ elim (cases_lt b a) [
        | inl beyond ↦ absurd (false≢true (subst (λ (o : Option Insn). IsSome o) (f.between b g.from beyond) g.begins))
        | inr at ↦ omega (arith, past, at)
      ]
    ]

-- what comes to the slot of an instruction is covered
pub comes_below : (p : Program) (table : TableValue) (runs : Bool) (state : StateValue) (slot : ℕ) (insn : Insn) (above : ℕ → Option StateValue) → insn_at p slot ≡ Some insn → (IsTrue runs → IsKept p slot → ⊥) → StaysBelow p table runs state slot above → IsCoveredIfAny (visited_state runs state table slot) (above slot)
comes_below p table false state slot insn above begins plain h = h.known slot
comes_below p table true state slot insn above begins plain h =
    h.running refl slot (record {
      from = omega arith;
      begins = subst (λ (o : Option Insn). IsSome o) (sym begins) refl;
      between = λ k from below. absurd (omega (arith, from, below));
      plain = plain refl;
    })

-- after the visit of an instruction
pub below_next : (v : VisitValue) (lowered now : List Bool) (old new : TableValue) (was runs : Bool) (before after : StateValue) (insn : Insn) (above : ℕ → Option StateValue) → IsProgram v.program → insn_at v.program v.slot ≡ Some insn → (IsTrue runs → IsPlain v.program (v.slot + slots_of insn)) → IsLeastVisit v lowered now old new was runs before after insn → IsFollowedBelow (spill_of v.program.version) above v.slot (visited_state was before new v.slot) insn → StaysBelow v.program old was before v.slot above → StaysBelow v.program new runs after (v.slot + 1) above
below_next v lowered now old new was runs before after insn above limits begins plain visit followed h = record {
  known = (visit.least above h.known followed).0;
  running = λ on next stands.
      subst (λ (k : ℕ). IsCovered after (above k)) (one_place v.program (v.slot + 1) (v.slot + slots_of insn) next (here on) stands)
      ((visit.least above h.known followed).1 on);
}
  where
    here : IsTrue runs → StandsAt v.program (v.slot + 1) (v.slot + slots_of insn)
    here on =
        let further : v.slot < v.slot + slots_of insn = goes_further v.slot insn in
        record {
          from = omega (arith, further);
          begins = (plain on).begins;
          between = λ k from below. none_between v.program v.slot k insn limits begins from below;
          plain = (plain on).unkept;
        }

-- after a second slot
pub below_skip : (p : Program) (table : TableValue) (runs : Bool) (state : StateValue) (slot : ℕ) (above : ℕ → Option StateValue) → insn_at p slot ≡ None → StaysBelow p table runs state slot above → StaysBelow p table runs state (slot + 1) above
below_skip p table runs state slot above none h = record {
  known = h.known;
  running = λ on next stands. h.running on next (record { from = omega (arith, stands.from); begins = stands.begins; between = between next stands; plain = stands.plain });
}
  where
    between : (next : ℕ) → StandsAt p (slot + 1) next → (k : ℕ) → slot ≤ k → k < next → insn_at p k ≡ None
    between next stands k from below =
        elim (cases_lt slot k) [
          | inl beyond ↦ stands.between k (omega (arith, beyond)) below
          | inr past ↦
              let same : slot ≡ k = omega (arith, from, past) in
              subst (λ (i : ℕ). insn_at p i ≡ None) same none
        ]

-- before the first slot
pub below_none : (p : Program) (table : TableValue) (state : StateValue) (above : ℕ → Option StateValue) → AreCovered (knowledge_in table) above → StaysBelow p table false state 0 above
below_none p table state above known = record { known = known; running = λ on. absurd (false≢true on) }

-- ---- the visit of an instruction: what comes to it, and what its flow does

-- if nothing is known
pub least_nothing : (v : VisitValue) (lowered now : List Bool) (old new : TableValue) (was : Bool) (before after : StateValue) (insn : Insn) → visited_state was before new v.slot ≡ None → now ≡ lowered
    → IsWidenedIfAny v.program lowered v.slot (visited_state was before old v.slot) (visited_state was before new v.slot)
    → IsLeastOf (λ above. IsCoveredIfAny (visited_state was before new v.slot) (above v.slot)) old new
    → IsLeastVisit v lowered now old new was was before after insn
least_nothing v lowered now old new true before after insn none unlowered widened least = absurd cc
least_nothing v lowered now old new false before after insn none unlowered widened least = record {
  widened = widened;
  least = λ above grown followed. (least above grown (subst (λ (o : Option StateValue). IsCoveredIfAny o (above v.slot)) (sym none) tt), λ on. absurd (false≢true on));
  marks = λ place register small. inl (ap (λ (marks : List Bool). is_lowered marks place register) unlowered);
}

-- what an edge lowers with a table, it lowers with one that is the same before the slot
lowered_before : (p : Program) (slot : ℕ) (mid old : ℕ → Option StateValue) (edge : Option StateValue) (lowered now : List Bool) → ((k : ℕ) → k < slot → mid k ≡ old k) → AreLoweredBack p slot mid edge lowered now → AreLoweredBack p slot old edge lowered now
lowered_before p slot mid old edge lowered now same marks place register small = by_mark edge (marks place register small)
  where
    by_mark : (edge : Option StateValue) → (is_lowered now place register ≡ is_lowered lowered place register) ⊎ IsLoweredBackIfAny p slot mid edge place register → (is_lowered now place register ≡ is_lowered lowered place register) ⊎ IsLoweredBackIfAny p slot old edge place register
    by_mark edge (inl is) = inl is
    by_mark None (inr falls) = absurd falls
    by_mark (Some e) (inr h) =
        inr (record {
          declared = h.declared;
          is = h.is;
          back = h.back;
          falls = subst (λ (o : Option StateValue). Falls (record { program = p; declared = h.declared; place = place }) o e register) (same h.declared.head (omega (arith, h.is.limits.ordered, h.back))) h.falls;
        })

-- if something is known
pub least_insn : (v : VisitValue) (lowered now : List Bool) (old mid new : TableValue) (was runs : Bool) (before here after : StateValue) (insn : Insn) → visited_state was before mid v.slot ≡ Some here
    → IsWidenedIfAny v.program lowered v.slot (visited_state was before old v.slot) (visited_state was before mid v.slot)
    → IsLeastOf (λ above. IsCoveredIfAny (visited_state was before mid v.slot) (above v.slot)) old mid
    → IsLeastNext (λ above. LeadsBelow (spill_of v.program.version) above v.slot here insn) mid new runs (v.slot + slots_of insn) after
    → AreLoweredBack v.program v.slot (knowledge_in mid) (jumping_state here insn) lowered now
    → IsExtended v.slot old mid → IsExtended (v.slot + 1) mid new
    → IsLeastVisit v lowered now old new was runs before after insn
least_insn v lowered now old mid new was runs before here after insn known widened first second marks entered extended = record {
  widened = subst (λ (o : Option StateValue). IsWidenedIfAny v.program lowered v.slot (visited_state was before old v.slot) o) (sym same) widened;
  least = λ above grown followed.
      let led : IsCovered here (above v.slot) × LeadsBelow (spill_of v.program.version) above v.slot here insn = subst (λ (o : Option StateValue). IsFollowedBelow (spill_of v.program.version) above v.slot o insn) (same ∙ known) followed in
      second above (first above grown (subst (λ (o : Option StateValue). IsCoveredIfAny o (above v.slot)) (sym known) led.0)) led.1;
  marks =
      subst (λ (o : Option StateValue). AreLoweredBack v.program v.slot (knowledge_in old) (jumping_if_any o insn) lowered now) (sym (same ∙ known))
      (lowered_before v.program v.slot (knowledge_in mid) (knowledge_in old) (jumping_state here insn) lowered now entered.kept marks);
}
  where
    by_runs : (b : Bool) → visited_state b before new v.slot ≡ visited_state b before mid v.slot
    by_runs false = extended.kept v.slot (omega arith)
    by_runs true = refl

    same : visited_state was before new v.slot ≡ visited_state was before mid v.slot
    same = by_runs was

-- a refusal with a table is one with a table that is the same before the slot
fault_before : (v : VisitValue) (lowered : List Bool) (mid old : ℕ → Option StateValue) (a : StateValue) (insn : Insn) (refused : Refused) → ((k : ℕ) → k < v.slot → mid k ≡ old k) → IsFlowFault v lowered mid a insn refused → IsFlowFault v lowered old a insn refused
fault_before v lowered mid old a insn refused same (refutes refuted) = refutes refuted
fault_before v lowered mid old a insn refused same (returns uncovered) = returns (by_edge (jumping_state a insn) uncovered)
  where
    by_edge : (edge : Option StateValue) → IsUncoveredIfAny v.program v.slot lowered mid edge → IsUncoveredIfAny v.program v.slot lowered old edge
    by_edge None u = u
    by_edge (Some edge) u =
        let there : mid u.declared.head ≡ old u.declared.head = same u.declared.head (omega (arith, u.is.limits.ordered, u.back)) in
        record {
          declared = u.declared;
          place = u.place;
          is = u.is;
          back = u.back;
          whole = u.whole;
          uncovered = λ covered. u.uncovered (subst (λ (o : Option StateValue). IsCovered edge o) (sym there) covered);
          fallen = λ register small falls.
              u.fallen register small (subst (λ (o : Option StateValue). Falls (record { program = v.program; declared = u.declared; place = u.place }) o edge register) (sym there) falls);
        }

pub enters_fault : (v : VisitValue) (lowered : List Bool) (known : ℕ → Option StateValue) (received : Option StateValue) (insn : Insn) (reported : StateValue) (refused : Refused) → IsHeadFaultIfAny v received reported refused → IsVisitFaultIfAny v lowered known received (Some insn) reported refused
enters_fault v lowered known None insn reported refused fault = fault
enters_fault v lowered known (Some a) insn reported refused fault = enters fault

pub leads_fault : (v : VisitValue) (lowered : List Bool) (old mid : TableValue) (was : Bool) (before here : StateValue) (insn : Insn) (refused : Refused) → visited_state was before mid v.slot ≡ Some here → IsWhole here
    → IsWidenedIfAny v.program lowered v.slot (visited_state was before old v.slot) (visited_state was before mid v.slot)
    → IsExtended v.slot old mid → IsFlowFault v lowered (knowledge_in mid) here insn refused
    → IsVisitFaultIfAny v lowered (knowledge_in old) (visited_state was before old v.slot) (Some insn) here refused
leads_fault v lowered old mid was before here insn refused known whole widened extended fault =
    by_came (visited_state was before old v.slot) (subst (λ (o : Option StateValue). IsWidenedIfAny v.program lowered v.slot (visited_state was before old v.slot) o) known widened)
  where
    by_came : (received : Option StateValue) → IsWidenedIfAny v.program lowered v.slot received (Some here) → IsVisitFaultIfAny v lowered (knowledge_in old) received (Some insn) here refused
    by_came None widened = widened
    by_came (Some a) widened = leads whole widened (fault_before v lowered (knowledge_in mid) (knowledge_in old) here insn refused extended.kept fault)

-- ---- below what is closed

-- what holds of the states of the verifier
pub record Order : Type 0 where
  pub reflexive : BelowIsReflexive
  pub transitive : BelowIsTransitive
  pub applies : ApplyGrows
  pub refines : StateRefineGrows
  pub calls : CallGrows

-- what holds at the head of a loop
pub head_in : (p : Program) (comes stands : ℕ → Option StateValue) (l : Loop) (place : ℕ) → IsClosed p comes stands → IsDeclared p l place → IfSome (stands l.head) (IsHead p l)
head_in p comes stands l place h declared = subst (λ (m : Loop). IfSome (stands m.head) (IsHead p m)) (declared.is l) (h.heads place l declared.inside)

words_in : (p : Program) (comes stands : ℕ → Option StateValue) (l : Loop) (place : ℕ) → IsClosed p comes stands → IsDeclared p l place → IfSome (stands l.head) (λ a. HasStore p l → AreAllWhole a.ranges)
words_in p comes stands l place h declared =
    subst (λ (m : Loop). IfSome (stands m.head) (λ a. HasStore p m → AreAllWhole a.ranges)) (declared.is l) (h.words place l declared.inside)

-- what comes to a head holds there, except for the counter
pub opened_in : (p : Program) (comes stands : ℕ → Option StateValue) (l : Loop) (place : ℕ) (a : StateValue) → IsClosed p comes stands → IsDeclared p l place → IsCovered a (comes l.head) → IsCoveredBut l.register a (stands l.head)
opened_in p comes stands l place a h declared covered =
    subst (λ (m : Loop). IsCovered a (comes m.head) → IsCoveredBut m.register a (stands m.head)) (declared.is l) (h.opened place l declared.inside a) covered

-- what comes to a slot holds there after it is widened
widened_covered : (p : Program) (comes stands : ℕ → Option StateValue) (lowered : List Bool) (slot : ℕ) (before after : Option StateValue) → IsClosed p comes stands → HasLowered p lowered stands → IfSome before IsWhole → IfSome after IsWhole → IsCoveredIfAny before (comes slot) → IsWidenedIfAny p lowered slot before after → IsCoveredIfAny after (stands slot)
widened_covered p comes stands lowered slot before None h low old new covered widened = tt
widened_covered p comes stands lowered slot None (Some a) h low old new covered widened = absurd widened
widened_covered p comes stands lowered slot (Some b) (Some a) h low old new covered (stays none same) = h.plain slot none a (subst (λ (s : StateValue). IsCovered s (comes slot)) (sym same) covered)
widened_covered p comes stands lowered slot (Some b) (Some a) h low old new covered (widens l place declared at widened) =
    subst (λ (k : ℕ). IsCovered a (stands k)) at
    (by_there (stands l.head) (head_in p comes stands l place h declared) (words_in p comes stands l place h declared) (low l place declared)
    (opened_in p comes stands l place b h declared (subst (λ (k : ℕ). IsCovered b (comes k)) (sym at) covered)))
  where
    by_there : (there : Option StateValue) → IfSome there (IsHead p l) → IfSome there (λ d. HasStore p l → AreAllWhole d.ranges) → IfSome there (AreUnset p l lowered place) → IsCoveredBut l.register b there → IsCovered a there
    by_there None head wide unset below = absurd below
    by_there (Some d) head wide unset below = widened_less p l lowered place b a d declared.limits.register old new head wide unset below widened

-- what comes to a slot is whole
pub comes_whole : (runs : Bool) (state : StateValue) (table : TableValue) (slot : ℕ) → IsWhole state → AreWhole (knowledge_in table) → IfSome (visited_state runs state table slot) IsWhole
comes_whole false state table slot proper whole = whole slot
comes_whole true state table slot proper whole = proper

-- what a table covers is covered by one that knows more
pub below_wider : BelowIsTransitive → (p : Program) (table : TableValue) (runs : Bool) (state : StateValue) (slot : ℕ) (above wider : ℕ → Option StateValue) → AreCovered above wider → StaysBelow p table runs state slot above → StaysBelow p table runs state slot wider
below_wider transitive p table runs state slot above wider more h = record {
  known = λ k. any_covered_more transitive (knowledge_in table k) (above k) (wider k) (h.known k) (more k);
  running = λ on next stands. covered_more transitive state (above next) (wider next) (h.running on next stands) (more next);
}

-- what comes to the slot of an instruction is covered by what comes there
pub comes_covered : (p : Program) (table : TableValue) (runs : Bool) (state : StateValue) (slot : ℕ) (insn : Insn) (comes : ℕ → Option StateValue) → insn_at p slot ≡ Some insn → (IsTrue runs → IsKept p slot → ⊥) → StaysBelow p table runs state slot (ahead slot comes) → IsCoveredIfAny (visited_state runs state table slot) (comes slot)
comes_covered p table runs state slot insn comes begins plain below =
    subst (λ (o : Option StateValue). IsCoveredIfAny (visited_state runs state table slot) o) (ahead_from slot comes slot (omega arith))
    (comes_below p table runs state slot insn (ahead slot comes) begins plain below)

-- what comes there holds there after it is widened
pub here_covered : (v : VisitValue) (lowered : List Bool) (old new : TableValue) (was : Bool) (before : StateValue) (insn : Insn) (comes stands : ℕ → Option StateValue)
    → insn_at v.program v.slot ≡ Some insn → (IsTrue was → IsKept v.program v.slot → ⊥)
    → IsWhole before → AreWhole (knowledge_in old) → AreWhole (knowledge_in new)
    → IsClosed v.program comes stands → HasLowered v.program lowered stands
    → IsWidenedIfAny v.program lowered v.slot (visited_state was before old v.slot) (visited_state was before new v.slot)
    → StaysBelow v.program old was before v.slot (ahead v.slot comes) → IsCoveredIfAny (visited_state was before new v.slot) (stands v.slot)
here_covered v lowered old new was before insn comes stands begins plain proper whole new_whole h low widened below =
    widened_covered v.program comes stands lowered v.slot (visited_state was before old v.slot) (visited_state was before new v.slot) h low
    (comes_whole was before old v.slot proper whole) (comes_whole was before new v.slot proper new_whole)
    (comes_covered v.program old was before v.slot insn comes begins plain below) widened

-- what holds at the slot of an instruction is followed below what comes after it
followed_ahead : Order → (p : Program) (comes stands : ℕ → Option StateValue) (slot : ℕ) (known : Option StateValue) (insn : Insn) → IsClosed p comes stands → insn_at p slot ≡ Some insn → IfSome known IsWhole → IsCoveredIfAny known (stands slot) → IsFollowedBelow (spill_of p.version) (ahead (slot + 1) comes) slot known insn
followed_ahead order p comes stands slot None insn h begins whole covered = tt
followed_ahead order p comes stands slot (Some a) insn h begins whole covered = (
  subst (λ (o : Option StateValue). IsCovered a o) (sym (ahead_before (slot + 1) comes slot (omega arith))) (below_all a (words_of a whole)),
  leads_more order.transitive (spill_of p.version) comes (ahead (slot + 1) comes) slot a insn (covered_ahead order.reflexive (slot + 1) comes h.whole) (h.leads slot insn begins a whole covered),
)

-- after the visit of an instruction
pub closed_next : Order → (v : VisitValue) (lowered now : List Bool) (old new : TableValue) (was runs : Bool) (before after : StateValue) (settled : Type 0) (region : Option Region) (insn : Insn) (comes stands : ℕ → Option StateValue)
    → IsProgram v.program → insn_at v.program v.slot ≡ Some insn → (IsTrue was → IsKept v.program v.slot → ⊥)
    → IsWhole before → AreWhole (knowledge_in old)
    → IsClosed v.program comes stands → HasLowered v.program lowered stands
    → IsInsnVisit v old new was runs before after settled region insn → IsLeastVisit v lowered now old new was runs before after insn
    → StaysBelow v.program old was before v.slot (ahead v.slot comes) → StaysBelow v.program new runs after (v.slot + 1) (ahead (v.slot + 1) comes)
closed_next order v lowered now old new was runs before after settled region insn comes stands limits begins plain proper whole h low visit least below =
    below_next v lowered now old new was runs before after insn (ahead (v.slot + 1) comes) limits begins visit.plain least
    (followed_ahead order v.program comes stands v.slot (visited_state was before new v.slot) insn h begins (comes_whole was before new v.slot proper (visit.extended.whole whole))
    (here_covered v lowered old new was before insn comes stands begins plain proper whole (visit.extended.whole whole) h low least.widened below))
    (below_wider order.transitive v.program old was before v.slot (ahead v.slot comes) (ahead (v.slot + 1) comes) (ahead_next order.reflexive v.slot comes h.whole) below)

-- ---- what a refusal gives

-- an edge back that is refused
abbrev pub IsRefusedBack : (v : VisitValue) (lowered : List Bool) (known : ℕ → Option StateValue) (insn : Insn) (before here edge : StateValue) → Type 0
IsRefusedBack v lowered known insn before here edge =
    IsWhole before × IsWhole here × IsWidenedAt v.program lowered v.slot before here × (jumping_state here insn ≡ Some edge) × IsUncovered v.program v.slot lowered known edge

-- what comes to the slot of an instruction stays below whatever is closed, and what was lowered holds nothing there
abbrev pub HasToStay : (v : VisitValue) (lowered : List Bool) (old : TableValue) (was : Bool) (before : StateValue) → Type 0
HasToStay v lowered old was before =
    (comes stands : ℕ → Option StateValue) → IsClosed v.program comes stands → StaysBelow v.program old was before v.slot (ahead v.slot comes) × HasLowered v.program lowered stands

-- a refused visit gives its slot, its code and what must be known there, except at an edge back
pub visit_reported : (v : VisitValue) (lowered : List Bool) (old : TableValue) (was : Bool) (before : StateValue) (known : ℕ → Option StateValue) (insn : Insn) (reported : StateValue) (refused : Refused)
    → insn_at v.program v.slot ≡ Some insn → (IsTrue was → IsKept v.program v.slot → ⊥)
    → IsWhole before → AreWhole (knowledge_in old)
    → HasToStay v lowered old was before
    → ((a edge : StateValue) → visited_state was before old v.slot ≡ Some a → IsRefusedBack v lowered known insn a reported edge → ⊥)
    → IsVisitFaultIfAny v lowered known (visited_state was before old v.slot) (Some insn) reported refused → ReportsKnown v.program v.maps reported refused
visit_reported v lowered old was before known insn reported refused begins plain proper whole below covers fault =
    by_state (visited_state was before old v.slot) refl (comes_whole was before old v.slot proper whole) fault
  where
    comes_there : (a : StateValue) → visited_state was before old v.slot ≡ Some a → HasToCome v.program v.slot a
    comes_there a received comes stands h =
        subst (λ (o : Option StateValue). IsCoveredIfAny o (comes v.slot)) received (comes_covered v.program old was before v.slot insn comes begins plain (below comes stands h).0)

    stands_there : (a : StateValue) → visited_state was before old v.slot ≡ Some a → IsWhole a → IsWhole reported → IsWidenedAt v.program lowered v.slot a reported → HasToStand v.program v.slot reported
    stands_there a received a_whole reported_whole widened comes stands h =
        widened_covered v.program comes stands lowered v.slot (Some a) (Some reported) h (below comes stands h).1 a_whole reported_whole (comes_there a received comes stands h) widened

    by_flow : (a : StateValue) → visited_state was before old v.slot ≡ Some a → IsWhole a → IsWhole reported → IsWidenedAt v.program lowered v.slot a reported → IsFlowFault v lowered known reported insn refused → ReportsKnown v.program v.maps reported refused
    by_flow a received a_whole reported_whole widened (refutes r) =
        of_insn (record {
          insn = insn;
          begins = subst (λ (k : ℕ). insn_at v.program k ≡ Some insn) (sym r.slot) begins;
          whole = reported_whole;
          stands = subst (λ (k : ℕ). HasToStand v.program k reported) (sym r.slot) (stands_there a received a_whole reported_whole widened);
          code = r.code;
          refuted = subst (λ (k : ℕ). IsRefuted (spill_of v.program.version) v.maps k reported insn) (sym r.slot) r.refuted;
        })
    by_flow a received a_whole reported_whole widened (returns uncovered) = by_edge (jumping_state reported insn) refl uncovered
      where
        by_edge : (edge : Option StateValue) → jumping_state reported insn ≡ edge → IsUncoveredIfAny v.program v.slot lowered known edge → ReportsKnown v.program v.maps reported refused
        by_edge None is uncovered = absurd uncovered
        by_edge (Some edge) is uncovered = absurd (covers a edge received (a_whole, reported_whole, widened, is, uncovered))

    by_fault : (a : StateValue) → visited_state was before old v.slot ≡ Some a → IsWhole a → IsVisitFault v lowered known a insn reported refused → ReportsKnown v.program v.maps reported refused
    by_fault a received a_whole (enters f) =
        let comes : HasToCome v.program refused.slot reported = subst (λ (k : ℕ). HasToCome v.program k reported) (sym f.slot) (subst (λ (s : StateValue). HasToCome v.program v.slot s) (sym f.as_it_came) (comes_there a received)) in
        let outside : EntersOutside v.program refused.slot reported = subst (λ (k : ℕ). EntersOutside v.program k reported) (sym f.slot) (subst (λ (s : StateValue). EntersOutside v.program v.slot s) (sym f.as_it_came) f.outside) in
        of_head (record { code = f.code; comes = comes; outside = outside })
    by_fault a received a_whole (leads reported_whole widened flow) = by_flow a received a_whole reported_whole widened flow

    by_state : (received : Option StateValue) → visited_state was before old v.slot ≡ received → IfSome received IsWhole → IsVisitFaultIfAny v lowered known received (Some insn) reported refused → ReportsKnown v.program v.maps reported refused
    by_state None is a_whole fault = absurd fault
    by_state (Some a) is a_whole fault = by_fault a is a_whole fault

-- ---- a table under which the program is justified

-- a table permits what is known of a state that it covers
permitted_there : Order → (p : Program) (maps : Maps) (table : ℕ → Option StateValue) (slot : ℕ) (a : StateValue) (insn : Insn) → Justifies p maps table → insn_at p slot ≡ Some insn → IsWhole a → IsCovered a (table slot) → IsPermitted (spill_of p.version) maps table slot a insn
permitted_there order p maps table slot a insn h begins whole covered =
    by_there (table slot) (h.whole slot) covered (subst (λ (o : Option Insn). IsPermittedAt (spill_of p.version) maps table slot (table slot) o) begins (h.permitted slot))
  where
    by_there : (there : Option StateValue) → IfSome there IsWhole → IsCovered a there → IsPermittedAt (spill_of p.version) maps table slot there (Some insn) → IsPermitted (spill_of p.version) maps table slot a insn
    by_there None proper below permitted = absurd below
    by_there (Some d) proper below permitted = permitted_less order.applies order.refines order.calls order.transitive (spill_of p.version) maps table slot a d insn whole proper below permitted

covered_but : (register : ℕ) (a : StateValue) (there : Option StateValue) → IsCovered a there → IsCoveredBut register a there
covered_but register a None covered = covered
covered_but register a (Some b) covered = record { kinds = λ other apart. covered.kinds other; marks = covered.marks; ranges = covered.ranges }

-- it is closed
pub justified_closed : Order → (p : Program) (maps : Maps) (table : ℕ → Option StateValue) → Justifies p maps table → IsClosed p table table
justified_closed order p maps table h = record {
  entered = h.entered;
  whole = h.whole;
  plain = λ slot none a covered. covered;
  opened = λ k d inside a covered. covered_but (slice_index_or p.loops k d).register a (table (slice_index_or p.loops k d).head) covered;
  heads = h.heads;
  words = h.words;
  leads = λ slot insn begins a whole covered. permitted_leads (spill_of p.version) maps table slot a insn (permitted_there order p maps table slot a insn h begins whole covered);
}

-- what a refusal gives refutes the table
pub reported_refutes : Order → (p : Program) (maps : Maps) (a : StateValue) (refused : Refused) (table : ℕ → Option StateValue) → ReportsKnown p maps a refused → Justifies p maps table → ⊥
reported_refutes order p maps a refused table (of_insn t) h =
    t.refuted table (permitted_there order p maps table refused.slot a t.insn h t.begins t.whole (t.stands table table (justified_closed order p maps table h)))
reported_refutes order p maps a refused table (of_head t) h =
    by_there (table refused.slot) (subst (λ (k : ℕ). IfSome (table k) (IsHead p t.outside.declared)) t.outside.head (head_in p table table t.outside.declared t.outside.place (justified_closed order p maps table h) t.outside.is))
    (t.comes table table (justified_closed order p maps table h))
  where
    by_there : (there : Option StateValue) → IfSome there (IsHead p t.outside.declared) → IsCovered a there → ⊥
    by_there None head covered = covered
    by_there (Some d) head covered = entry_refuted p t.outside.declared a d head covered t.outside.outside
