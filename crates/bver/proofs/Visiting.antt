-- From one visit to the next, and from the last to a program that is judged.
use Rattle.std.proofs.Common.{◌≡◌, ◌≢◌, ℕ, zero, suc, ◌+◌, ◌<◌, ◌≤◌, inl, inr, true, false, Option, None, Some, List, [], ◌∷◌, length, refl, sym, ap, subst, ◌∙◌, arith, below_more, get_or-set_same, get_or-set_other}
use Rattle.std.specs.Prelude.{slice_index_or, slice_set, All, IfSome, IsSome}
use Rattle.std.proofs.lemmas.Bool.{cases_lt, false≢true}
use Rattle.std.proofs.lemmas.List.{get_or_past}
use Rattle.bpf.specs.declared.loops.Loop.{Loop}
use Rattle.bpf.specs.Program.{Program, IsProgram, AreSlots}
use Rattle.bpf_insn.specs.declared.insn.Insn.{Insn}
use Rattle.machine.specs.Sizes.{Maps}
use Rattle.machine.specs.declared.regions.Region.{Region}
use Rattle.machine.specs.Step.{insn_at}
use Rattle.absdom.specs.State.{StateValue, IsEntry, IsWhole}
use Rattle.absdom.specs.Laws.{BelowIsTransitive}
use Rattle.absdom_stack.specs.Spill.{spill_of}
use Rattle.bver_form.specs.Form.{IsFormed}
use Rattle.bver_pass.specs.Heads.{AreHeadsAt, IsDeclared}
use Rattle.bver_pass.specs.Justified.{IsCovered, IsCoveredIfAny, IsEntered, IsHead, IsPermittedAt, IsJudged, region_at}
use Rattle.bver_pass.specs.Visit.{AreWhole, IsTableGrown, AreFactsPlaced, IsExtended, AreEntered, AreHeadsBefore, AreVisited, ArePermitted}
use Rattle.bver_pass.specs.StateTable.{TableValue}
use Rattle.bver.proofs.Counters.{same_place}
use Rattle.bver_pass.proofs.Loops.{loop_in}
use Rattle.bver.proofs.Covering.{permitted_at_more}
use Rattle.bver_pass.proofs.Covering.{covered_more}

-- ---- the table

-- a table that grew after a slot grew from it
pub extended_before : (slot : ℕ) (old new : TableValue) → IsExtended (slot + 1) old new → IsExtended slot old new
extended_before slot old new f = record { program = f.program; grown = f.grown; kept = λ k below. f.kept k (omega (arith, below)); whole = f.whole }

-- ---- what is known, slot by slot

-- what is known grew from a slot, at slots at which instructions begin
pub record Grows (p : Program) (from : ℕ) (old new : ℕ → Option StateValue) : Type 0 where
  pub grown : IsTableGrown old new
  pub kept : (k : ℕ) → k < from → new k ≡ old k
  pub placed : AreFactsPlaced p new
  pub whole : AreWhole new

entered_more : BelowIsTransitive → (o n : Option StateValue) → IsCoveredIfAny o n → IsEntered o → IsEntered n
entered_more transitive o n grown h = record { known = h.known; entry = h.entry; covered = covered_more transitive h.known o n h.covered grown }

entry_next : BelowIsTransitive → (p : Program) (from : ℕ) (old new : ℕ → Option StateValue) → AreEntered p old → Grows p from old new → AreEntered p new
entry_next transitive p from old new v f = record {
  entered = entered_more transitive (old 0) (new 0) (f.grown 0) v.entered;
  placed = f.placed;
  whole = f.whole;
}

heads_next : (p : Program) (old new : ℕ → Option StateValue) (slot : ℕ) → Grows p slot old new → AreHeadsBefore p old slot → AreHeadsAt p slot (new slot) → AreHeadsBefore p new (slot + 1)
heads_next p old new slot f before at k d inside below =
    let l = slice_index_or p.loops k d in
    elim (cases_lt l.head slot) [
      | inl earlier ↦ subst (λ (o : Option StateValue). IfSome o (IsHead p l)) (sym (f.kept l.head earlier)) (before k d inside earlier)
      | inr past ↦
          let here : l.head ≡ slot = omega (arith, past, below) in
          subst (λ (h : ℕ). IfSome (new h) (IsHead p l)) (sym here) (at k d inside here)
    ]

pub visited_next : BelowIsTransitive → (p : Program) (old new : ℕ → Option StateValue) (regions : List (Option Region)) (slot : ℕ) (region : Option Region) → AreVisited p old regions slot → Grows p slot old new → AreHeadsAt p slot (new slot) → region ≡ region_at (new slot) (insn_at p slot) → slot < length regions → AreVisited p new (slice_set regions slot region) (slot + 1)
visited_next transitive p old new regions slot region v f heads accessed inside = record {
  entry = entry_next transitive p slot old new v.entry f;
  heads = heads_next p old new slot f v.heads heads;
  resolved = below_more (λ (k : ℕ). slice_index_or (slice_set regions slot region) k None ≡ region_at (new k) (insn_at p k)) slot
      (λ k below.
      get_or-set_other regions slot k region None (differs k below) ∙ v.resolved k below ∙ ap (λ (o : Option StateValue). region_at o (insn_at p k)) (sym (f.kept k below)))
      (get_or-set_same regions slot region None inside ∙ accessed);
}
  where
    differs : (k : ℕ) → k < slot → k ≢ slot
    differs k below same = omega arith

pub permitted_next : BelowIsTransitive → (p : Program) (maps : Maps) (old new : ℕ → Option StateValue) (slot : ℕ) → ArePermitted p maps old slot → Grows p slot old new → IsPermittedAt (spill_of p.version) maps new slot (new slot) (insn_at p slot) → ArePermitted p maps new (slot + 1)
permitted_next transitive p maps old new slot v f permitted =
    below_more (λ (k : ℕ). IsPermittedAt (spill_of p.version) maps new k (new k) (insn_at p k)) slot
    (λ k below.
    subst (λ (o : Option StateValue). IsPermittedAt (spill_of p.version) maps new k o (insn_at p k)) (sym (f.kept k below))
    (permitted_at_more transitive (spill_of p.version) maps old new k (old k) (insn_at p k) f.grown (v k below)))
    permitted

-- ---- after all visits

-- nothing is known past the end
past_none : (p : Program) (known : ℕ → Option StateValue) (slot : ℕ) → AreFactsPlaced p known → length p.slots ≤ slot → known slot ≡ None
past_none p known slot placed past = by_known (known slot) (placed slot)
  where
    by_known : (o : Option StateValue) → (IsSome o → IsSome (insn_at p slot)) → o ≡ None
    by_known None begins = refl
    by_known (Some a) begins =
        absurd (false≢true (subst (λ (i : Option Insn). IsSome i) (get_or_past p.slots slot None past) (begins refl)))

pub judged : (p : Program) (maps : Maps) (known : ℕ → Option StateValue) (regions : List (Option Region)) → IsProgram p → IsFormed p → length regions ≡ length p.slots → AreVisited p known regions (length p.slots) → ArePermitted p maps known (length p.slots) → IsJudged p maps regions
judged p maps known regions limits form size v permitted = record {
  justified = record {
    limits = limits;
    formed = form;
    table = known;
    entered = v.entry.entered;
    whole = v.entry.whole;
    permitted = λ slot.
        elim (cases_lt slot (length p.slots)) [
          | inl below ↦ permitted slot below
          | inr past ↦ subst (λ (o : Option StateValue). IsPermittedAt (spill_of p.version) maps known slot o (insn_at p slot)) (sym (past_none p known slot v.entry.placed past)) tt
        ];
    heads = λ k d inside. v.heads k d inside (head_below k d inside);
  };
  resolved = λ slot.
      elim (cases_lt slot (length p.slots)) [
        | inl below ↦ v.resolved slot below
        | inr past ↦ get_or_past regions slot None (omega (arith, size, past)) ∙ ap (λ (o : Option StateValue). region_at o (insn_at p slot)) (sym (past_none p known slot v.entry.placed past))
      ];
}
  where
    head_below : (k : ℕ) (d : Loop) → k < length p.loops → (slice_index_or p.loops k d).head < length p.slots
    head_below k d inside =
        let l = (loop_in (length p.slots) 0 p.loops k d limits.loops inside).1 in
        omega (arith, l.ordered, l.within)

-- ---- at a head

pub heads_of : (p : Program) (l : Loop) (place : ℕ) (a : StateValue) → IsProgram p → IsDeclared p l place → IsHead p l a → AreHeadsAt p l.head (Some a)
heads_of p l place a limits declared head k d inside same =
    let here : slice_index_or p.loops k d ≡ l = one_head k d inside same in
    subst (λ (m : Loop). IsHead p m a) (sym here) head
  where
    one_head : (k : ℕ) (d : Loop) → k < length p.loops → (slice_index_or p.loops k d).head ≡ l.head → slice_index_or p.loops k d ≡ l
    one_head k d inside same =
        let at : (slice_index_or p.loops place d).head ≡ l.head = ap (λ (m : Loop). m.head) (declared.is d) in
        let where_it_is : k ≡ place = same_place (length p.slots) 0 p.loops k place d limits.loops inside declared.inside (same ∙ sym at) in
        ap (λ (i : ℕ). slice_index_or p.loops i d) where_it_is ∙ declared.is d

-- at a slot that is no head
pub heads_none : (p : Program) (slot : ℕ) (o : Option StateValue) → All (λ l. l.head ≢ slot) p.loops → AreHeadsAt p slot o
heads_none p slot o none k d inside same = absurd (none k d inside same)

-- ---- before all visits

pub visited_none : (p : Program) (known : ℕ → Option StateValue) (regions : List (Option Region)) → AreEntered p known → AreVisited p known regions 0
visited_none p known regions entry = record {
  entry = entry;
  heads = λ k d inside below. absurd (omega (arith, below));
  resolved = λ k below. absurd (omega (arith, below));
}

-- at the first slot an instruction begins
pub begins_first : (xs : List (Option Insn)) → 1 ≤ length xs → AreSlots false xs → IsSome (slice_index_or xs 0 None)
begins_first [] some code = absurd (omega (arith, some))
begins_first (None ∷ xs) some code = absurd code
begins_first (Some insn ∷ xs) some code = refl

-- the table in which what is known at entry is known at slot 0, and nothing else
pub entered_first : (p : Program) (old new : ℕ → Option StateValue) (a : StateValue) → IsProgram p → ((k : ℕ) → old k ≡ None) → IsEntry a → IsCovered a (new 0) → ((k : ℕ) → k ≢ 0 → new k ≡ old k) → IfSome (new 0) IsWhole → AreEntered p new
entered_first p old new a limits nothing entry covered others whole = record {
  entered = record { known = a; entry = entry; covered = covered };
  placed = placed;
  whole = all_whole;
}
  where
    placed : (k : ℕ) → IsSome (new k) → IsSome (insn_at p k)
    placed zero some = begins_first p.slots limits.slots.0 limits.code
    placed (suc k) some = absurd (false≢true (subst (λ (o : Option StateValue). IsSome o) (others (suc k) (λ same. omega (arith, same)) ∙ nothing (suc k)) some))

    all_whole : (k : ℕ) → IfSome (new k) IsWhole
    all_whole zero = whole
    all_whole (suc k) = subst (λ (o : Option StateValue). IfSome o IsWhole) (sym (others (suc k) (λ same. omega (arith, same)) ∙ nothing (suc k))) tt
