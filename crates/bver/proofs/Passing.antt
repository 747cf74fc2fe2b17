-- From one slot of a pass to the next. It says what is known at the visited slots and at those with entries, and the
-- slot of the running state.
use Rattle.std.proofs.Common.{◌≡◌, ◌≢◌, ℕ, ◌+◌, ◌<◌, ◌≤◌, Bool, true, false, Option, None, Some, List, length, refl, sym, ap, subst, ◌∙◌, arith}
use Rattle.std.specs.Prelude.{slice_set, IfSome, IsSome, IsTrue, nat_lt, if◌then◌else◌, ◌==◌}
use Rattle.std.proofs.lemmas.Bool.{false≢true}
use Rattle.std.proofs.lemmas.Bool.Decides.{nat_tests}
use Rattle.bpf.specs.Program.{Program, IsProgram}
use Rattle.bpf_insn.specs.declared.insn.Insn.{Insn}
use Rattle.bpf_insn.specs.Spelling.{slots_of}
use Rattle.machine.specs.Sizes.{Maps}
use Rattle.machine.specs.declared.regions.Region.{Region}
use Rattle.machine.specs.Step.{insn_at}
use Rattle.absdom.specs.State.{StateValue, IsWhole}
use Rattle.absdom.specs.Laws.{BelowIsReflexive, BelowIsTransitive}
use Rattle.absdom_stack.specs.Spill.{spill_of}
use Rattle.bver_pass.specs.Heads.{AreHeadsAt}
use Rattle.bver_pass.specs.Justified.{IsCoveredIfAny, IsPermitted, IsPermittedAt, region_at}
use Rattle.bver_pass.specs.StateTable.{TableValue, AreEntries, knowledge_beside, knowledge_in}
use Rattle.bver_form.specs.Targets.{IsKept, IsPlain}
use Rattle.bver_pass.specs.Visit.{AreWhole, IsExtended, IsInsnVisit, IsVisit, VisitValue, AreEntered, AreVisited, ArePermitted, visited_state}
use Rattle.bver.proofs.Covering.{permitted_at_more}
use Rattle.bver_pass.proofs.Covering.{AreCovered, any_covered_more, covers_itself}
use Rattle.bver.proofs.Keeping.{kept_begins, known_begins}
use Rattle.bver_pass.proofs.Keeping.{known_plain}
use Rattle.bver.proofs.Slots.{goes_further, none_between}
use Rattle.bver.proofs.Visiting.{Grows, extended_before, permitted_next, visited_next, visited_none}
use Rattle.bver_pass.proofs.Extending.{extended_twice}
use Rattle.bver_pass.proofs.Carried.{by_order, carried_any, carried_covers}

-- the running state is at that slot: the next one from here at which an instruction begins; no jump leads to it
pub record StandsAt (p : Program) (slot next : ℕ) : Type 0 where
  pub from : slot ≤ next
  pub begins : IsSome (insn_at p next)
  pub between : (k : ℕ) → slot ≤ k → k < next → insn_at p k ≡ None
  pub plain : IsKept p next → ⊥

-- the slots before this one were visited, and the table and the running state say what is known from here
pub record IsPassing (p : Program) (maps : Maps) (table : TableValue) (runs : Bool) (state : StateValue) (regions : List (Option Region)) (settled : Type 0) (slot : ℕ) : Type 0 where
  pub known : ℕ → Option StateValue
  pub next : ℕ
  pub stands : IsTrue runs → StandsAt p slot next
  pub visited : AreVisited p known regions slot
  pub permitted : settled → ArePermitted p maps known slot
  pub whole : AreWhole (knowledge_in table)
  pub state_whole : IsWhole state
  pub ahead : (k : ℕ) → slot ≤ k → known k ≡ knowledge_beside table runs next state k
  pub following : (k : ℕ) → k < slot → IsCoveredIfAny (knowledge_in table k) (known k)

-- ---- by cases

-- what holds of the running state if the slot is visited with it, and else of what the table knows
visited_any : (P : Option StateValue → Type 0) (runs : Bool) (state : StateValue) (t : TableValue) (slot : ℕ) → (IsTrue runs → P (Some state)) → (runs ≡ false → P (knowledge_in t slot)) → P (visited_state runs state t slot)
visited_any P false state t slot stands known = known refl
visited_any P true state t slot stands known = stands refl

-- ---- what is known after a visit

-- as before below the slot, what was visited there, and what comes after above it
revised : (before : ℕ → Option StateValue) (slot : ℕ) (here : Option StateValue) (after : ℕ → Option StateValue) → ℕ → Option StateValue
revised before slot here after k = if nat_lt k slot then before k else (if k == slot then here else after k)

revised_before : (before : ℕ → Option StateValue) (slot : ℕ) (here : Option StateValue) (after : ℕ → Option StateValue) (k : ℕ) → k < slot → revised before slot here after k ≡ before k
unfolding revised
revised_before before slot here after k below = grind (arith, nat_tests, below)

revised_here : (before : ℕ → Option StateValue) (slot : ℕ) (here : Option StateValue) (after : ℕ → Option StateValue) (k : ℕ) → k ≡ slot → revised before slot here after k ≡ here
unfolding revised
revised_here before slot here after k same = grind (arith, nat_tests, same)

revised_after : (before : ℕ → Option StateValue) (slot : ℕ) (here : Option StateValue) (after : ℕ → Option StateValue) (k : ℕ) → slot < k → revised before slot here after k ≡ after k
unfolding revised
revised_after before slot here after k beyond = grind (arith, nat_tests, beyond)

revised_any : (P : Option StateValue → Type 0) (before : ℕ → Option StateValue) (slot : ℕ) (here : Option StateValue) (after : ℕ → Option StateValue) (k : ℕ) → (k < slot → P (before k)) → (k ≡ slot → P here) → (slot < k → P (after k)) → P (revised before slot here after k)
revised_any P before slot here after k earlier same later =
    by_order (P (revised before slot here after k)) k slot
    (λ below. subst P (sym (revised_before before slot here after k below)) (earlier below))
    (λ at. subst P (sym (revised_here before slot here after k at)) (same at))
    (λ beyond. subst P (sym (revised_after before slot here after k beyond)) (later beyond))

-- ---- a visit

-- what the visit of the instruction at a slot gives, and the slot of the running state
pub record IsVisited (p : Program) (maps : Maps) (old new : TableValue) (was runs : Bool) (before after : StateValue) (settled : Type 0) (region : Option Region) (slot : ℕ) (insn : Insn) : Type 0 where
  pub limits : IsProgram p
  pub own : old.program ≡ p
  pub entries : AreEntries new
  pub after_whole : IsWhole after
  pub begins : insn_at p slot ≡ Some insn
  pub before_plain : IsTrue was → IsKept p slot → ⊥
  pub visit : IsInsnVisit (record { program = p; maps = maps; slot = slot }) old new was runs before after settled region insn

-- if an instruction begins at the slot, the running state is there
pub stands_here : (p : Program) (slot next : ℕ) (insn : Insn) → insn_at p slot ≡ Some insn → StandsAt p slot next → next ≡ slot
stands_here p slot next insn begins h =
    by_order (next ≡ slot) slot next
    (λ below. absurd (some_none (sym begins ∙ h.between slot (omega arith) below)))
    (λ same. sym same)
    (λ beyond. absurd (omega (arith, beyond, h.from)))
  where
    some_none : Some insn ≡ None → ⊥
    some_none is = cc

grows_next : BelowIsReflexive → BelowIsTransitive → (p : Program) (maps : Maps) (old new : TableValue) (was runs : Bool) (before after : StateValue) (regions : List (Option Region)) (region : Option Region) (settled turn : Type 0) (slot : ℕ) (insn : Insn)
    → (v : IsVisited p maps old new was runs before after turn region slot insn)
    → (h : IsPassing p maps old was before regions settled slot)
    → Grows p slot h.known (revised h.known slot (visited_state was before new slot) (knowledge_beside new runs (slot + slots_of insn) after))
grows_next reflexive transitive p maps old new was runs before after regions region settled turn slot insn v h = record {
  grown = λ k.
      revised_any (λ o. IsCoveredIfAny (h.known k) o) h.known slot here onward k
      (λ below. covers_itself reflexive (h.known k))
      (λ same. subst (λ (o : Option StateValue). IsCoveredIfAny o here) (sym (h.ahead k (omega (arith, same)))) (here_grown k same))
      (λ beyond.
      subst (λ (o : Option StateValue). IsCoveredIfAny o (onward k)) (sym (h.ahead k (omega (arith, beyond))))
      (carried_any (λ o. IsCoveredIfAny o (onward k)) old was h.next before k
      (λ on same. absurd (omega (arith, same, beyond, stands_here p slot h.next insn v.begins (h.stands on))))
      (λ apart. any_covered_more transitive (knowledge_in old k) (knowledge_in new k) (onward k) (v.visit.extended.grown k) (covers k))));
  kept = λ k below. revised_before h.known slot here onward k below;
  placed = λ k.
      revised_any (λ o. IsSome o → IsSome (insn_at p k)) h.known slot here onward k
      (λ below. h.visited.entry.placed k)
      (λ same some. subst (λ (i : ℕ). IsSome (insn_at p i)) (sym same) (subst (λ (o : Option Insn). IsSome o) (sym v.begins) refl))
      (λ beyond.
      carried_any (λ o. IsSome o → IsSome (insn_at p k)) new runs next after k
      (λ on same some. subst (λ (i : ℕ). IsSome (insn_at p i)) (sym same) ((v.visit.plain on).begins))
      (λ apart. known_placed k));
  whole = λ k.
      revised_any (λ o. IfSome o IsWhole) h.known slot here onward k
      (λ below. h.visited.entry.whole k)
      (λ same. visited_any (λ o. IfSome o IsWhole) was before new slot (λ on. h.state_whole) (λ off. new_whole slot))
      (λ beyond. carried_any (λ o. IfSome o IsWhole) new runs next after k (λ on at. v.after_whole) (λ apart. new_whole k));
}
  where
    next : ℕ
    next = slot + slots_of insn

    here : Option StateValue
    here = visited_state was before new slot

    onward : ℕ → Option StateValue
    onward = knowledge_beside new runs next after

    program : new.program ≡ p
    program = v.visit.extended.program ∙ v.own

    covers : AreCovered (knowledge_in new) onward
    covers = carried_covers reflexive new runs next after v.entries (λ on kept. (v.visit.plain on).unkept (subst (λ (q : Program). IsKept q next) program kept))

    new_whole : AreWhole (knowledge_in new)
    new_whole = v.visit.extended.whole h.whole

    known_placed : (k : ℕ) → IsSome (knowledge_in new k) → IsSome (insn_at p k)
    known_placed k some = subst (λ (q : Program). IsSome (insn_at q k)) program (known_begins new k (subst IsProgram (sym program) v.limits) v.entries some)

    here_grown : (k : ℕ) → k ≡ slot → IsCoveredIfAny (knowledge_beside old was h.next before k) here
    here_grown k same =
        visited_any (λ o. IsCoveredIfAny (knowledge_beside old was h.next before k) o) was before new slot
        (λ on.
        carried_any (λ o. IsCoveredIfAny o (Some before)) old was h.next before k
        (λ is at. covers_itself reflexive (Some before))
        (λ apart. absurd (apart on (same ∙ sym (stands_here p slot h.next insn v.begins (h.stands on))))))
        (λ off.
        carried_any (λ o. IsCoveredIfAny o (knowledge_in new slot)) old was h.next before k
        (λ on at. absurd (false≢true (sym off ∙ on)))
        (λ apart. subst (λ (i : ℕ). IsCoveredIfAny (knowledge_in old i) (knowledge_in new slot)) (sym same) (v.visit.extended.grown slot)))

pub passing_next : BelowIsReflexive → BelowIsTransitive → (p : Program) (maps : Maps) (old new : TableValue) (was runs : Bool) (before after : StateValue) (regions : List (Option Region)) (region : Option Region) (settled turn again : Type 0) (slot : ℕ) (insn : Insn)
    → IsVisited p maps old new was runs before after turn region slot insn
    → (again → settled) → (again → turn) → slot < length regions
    → IsPassing p maps old was before regions settled slot → IsPassing p maps new runs after (slice_set regions slot region) again (slot + 1)
passing_next reflexive transitive p maps old new was runs before after regions region settled turn again slot insn v earlier now inside h = record {
  known = known;
  next = next;
  stands = λ on. record {
    from = omega (arith, further);
    begins = (v.visit.plain on).begins;
    between = λ k from below. none_between p slot k insn v.limits v.begins from below;
    plain = (v.visit.plain on).unkept;
  };
  visited = visited_next transitive p h.known known regions slot region h.visited grows
      (subst (λ (o : Option StateValue). AreHeadsAt p slot o) (sym at) v.visit.heads)
      (v.visit.accesses ∙ ap (λ (o : Option StateValue). region_at o (Some insn)) (sym at) ∙ ap (λ (i : Option Insn). region_at (known slot) i) (sym v.begins))
      inside;
  permitted = λ settles.
      permitted_next transitive p maps h.known known slot (h.permitted (earlier settles)) grows
      (subst (λ (o : Option StateValue). IsPermittedAt (spill_of p.version) maps known slot o (insn_at p slot)) (sym at)
      (subst (λ (i : Option Insn). IsPermittedAt (spill_of p.version) maps known slot here i) (sym v.begins)
      (permitted_at_more transitive (spill_of p.version) maps onward known slot here (Some insn) reaches (v.visit.permitted (now settles)))));
  whole = v.visit.extended.whole h.whole;
  state_whole = v.after_whole;
  ahead = λ k past. revised_after h.known slot here onward k (omega (arith, past));
  following = following;
}
  where
    next : ℕ
    next = slot + slots_of insn

    further : slot < next
    further = goes_further slot insn

    here : Option StateValue
    here = visited_state was before new slot

    onward : ℕ → Option StateValue
    onward = knowledge_beside new runs next after

    known : ℕ → Option StateValue
    known = revised h.known slot here onward

    grows : Grows p slot h.known known
    grows = grows_next reflexive transitive p maps old new was runs before after regions region settled turn slot insn v h

    at : known slot ≡ here
    at = revised_here h.known slot here onward slot refl

    program : new.program ≡ p
    program = v.visit.extended.program ∙ v.own

    here_covered : IsCoveredIfAny (knowledge_in new slot) here
    here_covered =
        visited_any (λ o. IsCoveredIfAny (knowledge_in new slot) o) was before new slot
        (λ on. subst (λ (o : Option StateValue). IsCoveredIfAny o (Some before)) (sym (known_plain new slot v.entries (λ kept. v.before_plain on (subst (λ (q : Program). IsKept q slot) program kept)))) tt)
        (λ off. covers_itself reflexive (knowledge_in new slot))

    following : (k : ℕ) → k < slot + 1 → IsCoveredIfAny (knowledge_in new k) (known k)
    following k below =
        revised_any (λ o. IsCoveredIfAny (knowledge_in new k) o) h.known slot here onward k
        (λ before. subst (λ (o : Option StateValue). IsCoveredIfAny o (h.known k)) (sym (v.visit.extended.kept k before)) (h.following k before))
        (λ same. subst (λ (i : ℕ). IsCoveredIfAny (knowledge_in new i) here) (sym same) here_covered)
        (λ beyond. absurd (omega (arith, below, beyond)))

    reaches : AreCovered onward known
    reaches k =
        by_order (IsCoveredIfAny (onward k) (known k)) k (slot + 1)
        (λ below.
        carried_any (λ o. IsCoveredIfAny o (known k)) new runs next after k
        (λ on same. absurd (omega (arith, same, below, further)))
        (λ apart. following k below))
        (λ same. subst (λ (o : Option StateValue). IsCoveredIfAny (onward k) o) (sym (revised_after h.known slot here onward k (omega (arith, same)))) (covers_itself reflexive (onward k)))
        (λ beyond. subst (λ (o : Option StateValue). IsCoveredIfAny (onward k) o) (sym (revised_after h.known slot here onward k (omega (arith, beyond)))) (covers_itself reflexive (onward k)))

-- at a second slot
pub passing_skip : BelowIsReflexive → BelowIsTransitive → (p : Program) (maps : Maps) (table : TableValue) (runs : Bool) (state : StateValue) (regions : List (Option Region)) (settled : Type 0) (slot : ℕ)
    → insn_at p slot ≡ None → slot < length regions
    → IsPassing p maps table runs state regions settled slot → IsPassing p maps table runs state (slice_set regions slot None) settled (slot + 1)
passing_skip reflexive transitive p maps table runs state regions settled slot none inside h = record {
  known = h.known;
  next = h.next;
  stands = λ on.
      let was = h.stands on in
      record {
        from = later was;
        begins = was.begins;
        between = λ k from below. was.between k (omega (arith, from)) below;
        plain = was.plain;
      };
  visited = visited_next transitive p h.known h.known regions slot None h.visited grows
      (subst (λ (o : Option StateValue). AreHeadsAt p slot o) (sym nothing) (λ k d within same. tt))
      (sym (ap (λ (o : Option StateValue). region_at o (insn_at p slot)) nothing))
      inside;
  permitted = λ settles.
      permitted_next transitive p maps h.known h.known slot (h.permitted settles) grows
      (subst (λ (o : Option StateValue). IsPermittedAt (spill_of p.version) maps h.known slot o (insn_at p slot)) (sym nothing) tt);
  whole = h.whole;
  state_whole = h.state_whole;
  ahead = λ k past. h.ahead k (omega (arith, past));
  following = λ k below.
      by_order (IsCoveredIfAny (knowledge_in table k) (h.known k)) k slot
      (λ before. h.following k before)
      (λ same.
      subst (λ (o : Option StateValue). IsCoveredIfAny (knowledge_in table k) o) (sym (h.ahead k (omega (arith, same))))
      (carried_any (λ o. IsCoveredIfAny (knowledge_in table k) o) table runs h.next state k
      (λ on at. absurd (omega (arith, at, same, later (h.stands on))))
      (λ apart. covers_itself reflexive (knowledge_in table k))))
      (λ beyond. absurd (omega (arith, below, beyond)));
}
  where
    begins_apart : (next : ℕ) → IsSome (insn_at p next) → next ≡ slot → ⊥
    begins_apart next begins same =
        false≢true (subst (λ (o : Option Insn). IsSome o) none (subst (λ (i : ℕ). IsSome (insn_at p i)) same begins))

    later : StandsAt p slot h.next → slot + 1 ≤ h.next
    later was =
        by_order (slot + 1 ≤ h.next) slot h.next
        (λ below. omega (arith, below))
        (λ same. absurd (begins_apart h.next was.begins (sym same)))
        (λ beyond. absurd (omega (arith, beyond, was.from)))

    nothing : h.known slot ≡ None
    nothing = by_known (h.known slot) (h.visited.entry.placed slot)
      where
        by_known : (o : Option StateValue) → (IsSome o → IsSome (insn_at p slot)) → o ≡ None
        by_known None begins = refl
        by_known (Some a) begins = absurd (begins_apart slot (begins refl) refl)

    grows : Grows p slot h.known h.known
    grows = record {
      grown = λ k. covers_itself reflexive (h.known k);
      kept = λ k below. refl;
      placed = h.visited.entry.placed;
      whole = h.visited.entry.whole;
    }

-- no jump leads to the slot of a running state
pub passing_plain : (p : Program) (maps : Maps) (table : TableValue) (runs : Bool) (state : StateValue) (regions : List (Option Region)) (settled : Type 0) (slot : ℕ) → IsProgram p → IsPassing p maps table runs state regions settled slot → IsTrue runs → IsKept p slot → ⊥
passing_plain p maps table runs state regions settled slot limits h on kept =
    let was = h.stands on in
    by_order ⊥ slot h.next
    (λ below. false≢true (subst (λ (o : Option Insn). IsSome o) (was.between slot (omega arith) below) (kept_begins p slot limits kept)))
    (λ same. was.plain (subst (λ (k : ℕ). IsKept p k) same kept))
    (λ beyond. omega (arith, beyond, was.from))

-- after the visit of a slot
pub passing_slot : BelowIsReflexive → BelowIsTransitive → (p : Program) (maps : Maps) (old new : TableValue) (was runs : Bool) (before after : StateValue) (regions : List (Option Region)) (region : Option Region) (settled turn again : Type 0) (slot : ℕ) (o : Option Insn)
    → insn_at p slot ≡ o → IsProgram p → old.program ≡ p → AreEntries new → IsWhole after
    → (again → settled) → (again → turn) → slot < length regions
    → IsVisit (record { program = p; maps = maps; slot = slot }) old new was runs before after turn region o
    → IsPassing p maps old was before regions settled slot → IsPassing p maps new runs after (slice_set regions slot region) again (slot + 1)
passing_slot reflexive transitive p maps old new was runs before after regions region settled turn again slot None none limits own entries whole earlier now inside visit h =
    rw (visit.same_table, visit.same_runs, visit.same_state, visit.no_region)
    (passing_skip reflexive transitive p maps old was before regions again slot none inside (eased h))
  where
    eased : IsPassing p maps old was before regions settled slot → IsPassing p maps old was before regions again slot
    eased g = record {
      known = g.known;
      next = g.next;
      stands = g.stands;
      visited = g.visited;
      permitted = λ settles. g.permitted (earlier settles);
      whole = g.whole;
      state_whole = g.state_whole;
      ahead = g.ahead;
      following = g.following;
    }
passing_slot reflexive transitive p maps old new was runs before after regions region settled turn again slot (Some insn) begins limits own entries whole earlier now inside visit h =
    passing_next reflexive transitive p maps old new was runs before after regions region settled turn again slot insn
    (record { limits = limits; own = own; entries = entries; after_whole = whole; begins = begins; before_plain = passing_plain p maps old was before regions settled slot limits h; visit = visit })
    earlier now inside h

-- the visit of an instruction: what comes to it, and what its flow does
pub insn_visit : BelowIsTransitive → (v : VisitValue) (old mid new : TableValue) (was runs : Bool) (before here left : StateValue) (settled : Type 0) (region : Option Region) (insn : Insn)
    → visited_state was before mid v.slot ≡ Some here → (settled → IsPermitted (spill_of v.program.version) v.maps (knowledge_beside new runs (v.slot + slots_of insn) left) v.slot here insn) → region ≡ region_at (Some here) (Some insn)
    → AreHeadsAt v.program v.slot (visited_state was before mid v.slot) → (IsTrue runs → IsPlain v.program (v.slot + slots_of insn)) → IsExtended v.slot old mid → IsExtended (v.slot + 1) mid new
    → IsInsnVisit v old new was runs before left settled region insn
insn_visit transitive v old mid new was runs before here left settled region insn known permits accesses heads plain first second = record {
  permitted = λ settles. subst (λ (o : Option StateValue). IsPermittedAt (spill_of v.program.version) v.maps (knowledge_beside new runs (v.slot + slots_of insn) left) v.slot o (Some insn)) (sym there) (permits settles);
  accesses = subst (λ (o : Option StateValue). region ≡ region_at o (Some insn)) (sym there) accesses;
  heads = subst (λ (o : Option StateValue). AreHeadsAt v.program v.slot o) (sym same) heads;
  plain = plain;
  extended = extended_twice transitive v.slot old mid new first (extended_before v.slot mid new second);
}
  where
    by_runs : (b : Bool) → visited_state b before new v.slot ≡ visited_state b before mid v.slot
    by_runs false = second.kept v.slot (omega arith)
    by_runs true = refl

    same : visited_state was before new v.slot ≡ visited_state was before mid v.slot
    same = by_runs was

    there : visited_state was before new v.slot ≡ Some here
    there = same ∙ known

-- the visit of the slot of a program
pub visit_of : (v : VisitValue) (p : Program) (maps : Maps) (slot : ℕ) → v.program ≡ p → v.maps ≡ maps → v.slot ≡ slot → v ≡ record { program = p; maps = maps; slot = slot }
visit_of v p maps slot own for at =
    ap (λ (q : Program). visit_value q v.maps v.slot) own ∙ ap (λ (m : Maps). visit_value p m v.slot) for ∙ ap (λ (k : ℕ). visit_value p maps k) at
  where
    visit_value : Program → Maps → ℕ → VisitValue
    visit_value q m k = record { program = q; maps = m; slot = k }

pub visited_program : (v : VisitValue) (old new : TableValue) (was runs : Bool) (before after : StateValue) (turn : Type 0) (region : Option Region) (o : Option Insn) → IsVisit v old new was runs before after turn region o → new.program ≡ old.program
visited_program v old new was runs before after turn region None visit = ap (λ (t : TableValue). t.program) visit.same_table
visited_program v old new was runs before after turn region (Some insn) visit = visit.extended.program

pub visit_at : (v : VisitValue) (p : Program) (maps : Maps) (slot : ℕ) (old new : TableValue) (was runs : Bool) (before after : StateValue) (turn : Type 0) (region : Option Region) → v ≡ record { program = p; maps = maps; slot = slot } → IsVisit v old new was runs before after turn region (insn_at v.program v.slot) → IsVisit (record { program = p; maps = maps; slot = slot }) old new was runs before after turn region (insn_at p slot)
visit_at v p maps slot old new was runs before after turn region same visit =
    subst (λ (w : VisitValue). IsVisit w old new was runs before after turn region (insn_at w.program w.slot)) same visit

-- before the first slot
pub passing_none : BelowIsReflexive → (p : Program) (maps : Maps) (table : TableValue) (state : StateValue) (regions : List (Option Region)) (settled : Type 0) → AreEntered p (knowledge_in table) → IsWhole state → IsPassing p maps table false state regions settled 0
passing_none reflexive p maps table state regions settled entry whole = record {
  known = knowledge_in table;
  next = 0;
  stands = λ on. absurd (false≢true on);
  visited = visited_none p (knowledge_in table) regions entry;
  permitted = λ settles k below. absurd (omega (arith, below));
  whole = entry.whole;
  state_whole = whole;
  ahead = λ k past. refl;
  following = λ k below. absurd (omega (arith, below));
}
