-- Which slots are marked as kept, and their numbers.
use Rattle.std.proofs.Common.{◌≡◌, ℕ, zero, suc, ◌+◌, ◌<◌, ◌≤◌, ◌⊎◌, inl, inr, ℤ, pos, negsuc, Bool, true, false, Option, None, Some, List, length, refl, sym, ap, subst, ◌∙◌, arith, get_or-set_same, get_or-set_other}
use Rattle.std.specs.Prelude.{slice_index_or, slice_set, IsSome, is_some, if◌then◌else◌}
use Rattle.std.proofs.lemmas.Bool.{cases_lt, false≢true}
use Rattle.std.proofs.lemmas.List.{get_or_default, get_or_past}
use Rattle.std.proofs.Math.ListN.{length-set}
use Rattle.bpf.specs.declared.header.TheConstants.{MAX_SLOTS}
use Rattle.bpf.specs.Program.{Program, insn_at}
use Rattle.bpf_insn.specs.declared.insn.Insn.{Insn}
use Rattle.bver_form.specs.Jumps.{first_slot, jump_distance, target}
use Rattle.bver_form.specs.Targets.{AreKept, IsKept, IsMarked, IsNumbered, IsNumbering, NumbersSlot, JumpsTo, landing_by, landing_from, no_place, place_at}

-- ---- the slots to which jumps lead

-- a jump leads to a slot at which an instruction begins
pub lands_first : (p : Program) (z : ℤ) (slot : ℕ) → first_slot p z ≡ Some slot → IsSome (insn_at p slot)
lands_first p (pos k) slot is = by_begin (is_some (insn_at p k)) refl is
  where
    by_begin : (b : Bool) → is_some (insn_at p k) ≡ b → (if b then Some k else None) ≡ Some slot → IsSome (insn_at p slot)
    by_begin true begins same = let here : k ≡ slot = cc in subst (λ (i : ℕ). IsSome (insn_at p i)) here begins
    by_begin false begins same = absurd cc
lands_first p (negsuc n) slot is = absurd cc

-- a jump from a slot leads to a slot at which an instruction begins
pub jumps_first : (p : Program) (from slot : ℕ) (o : Option Insn) → landing_from p from o ≡ Some slot → IsSome (insn_at p slot)
jumps_first p from slot None is = absurd cc
jumps_first p from slot (Some insn) is = by_distance (jump_distance insn) is
  where
    by_distance : (d : Option ℤ) → landing_by p from d ≡ Some slot → IsSome (insn_at p slot)
    by_distance None is = absurd cc
    by_distance (Some distance) is = lands_first p (target from distance) slot is

-- an instruction begins inside the code
pub begins_inside : (p : Program) (slot : ℕ) → IsSome (insn_at p slot) → slot < length p.slots
begins_inside p slot some =
    elim (cases_lt slot (length p.slots)) [
      | inl below ↦ below
      | inr past ↦ absurd (false≢true (subst (λ (o : Option Insn). IsSome o) (get_or_past p.slots slot None past) some))
    ]

-- ---- the marks of the slots that are kept

-- slot 0 and the targets of the slots before one are marked, and no other
pub record AreMarked (p : Program) (marks : List Bool) (upto : ℕ) : Type 0 where
  pub first : IsMarked marks 0
  pub all : (from slot : ℕ) → from < upto → JumpsTo p from slot → IsMarked marks slot
  pub only : (slot : ℕ) → IsMarked marks slot → IsKept p slot

pub marked_first : (p : Program) (marks : List Bool) → 0 < length marks → ((k : ℕ) → slice_index_or marks k false ≡ false) → AreMarked p (slice_set marks 0 true) 0
marked_first p marks some none = record {
  first = get_or-set_same marks 0 true false some;
  all = λ from slot below jumps. absurd (omega (arith, below));
  only = λ slot marked. by_slot slot marked;
}
  where
    by_slot : (slot : ℕ) → IsMarked (slice_set marks 0 true) slot → IsKept p slot
    by_slot zero marked = inl refl
    by_slot (suc slot) marked =
        absurd (false≢true (sym (get_or-set_other marks 0 (suc slot) true false (λ same. omega (arith, same)) ∙ none (suc slot)) ∙ marked))

pub marked_next : (p : Program) (old new : List Bool) (upto : ℕ) → AreMarked p old upto → ((k : ℕ) → IsMarked old k → IsMarked new k) → ((k : ℕ) → JumpsTo p upto k → IsMarked new k) → ((k : ℕ) → IsMarked new k → IsMarked old k ⊎ JumpsTo p upto k) → AreMarked p new (upto + 1)
marked_next p old new upto h stays marks only = record {
  first = stays 0 h.first;
  all = λ from slot below jumps.
      elim (cases_lt from upto) [
        | inl earlier ↦ stays slot (h.all from slot earlier jumps)
        | inr past ↦
            let here : from ≡ upto = omega (arith, past, below) in
            marks slot (subst (λ (f : ℕ). JumpsTo p f slot) here jumps)
      ];
  only = λ slot marked. elim (only slot marked) [ inl was ↦ h.only slot was | inr jumps ↦ inr (record { from = upto; jumps = jumps }) ];
}

-- an instruction that jumps begins in the code
jumps_below : (p : Program) (from slot : ℕ) → JumpsTo p from slot → from < length p.slots
jumps_below p from slot jumps =
    elim (cases_lt from (length p.slots)) [
      | inl below ↦ below
      | inr past ↦
          let none : insn_at p from ≡ None = get_or_past p.slots from None past in
          absurd (no_landing (subst (λ (o : Option Insn). landing_from p from o ≡ Some slot) none jumps))
    ]
  where
    no_landing : landing_from p from None ≡ Some slot → ⊥
    no_landing is = cc

pub marked_all : (p : Program) (marks : List Bool) → AreMarked p marks (length p.slots) → AreKept p marks
marked_all p marks h = record {
  all = λ slot kept.
      elim kept [
        | inl zero_is ↦ subst (λ (k : ℕ). IsMarked marks k) (sym zero_is) h.first
        | inr target ↦ h.all target.from slot (jumps_below p target.from slot target.jumps) target.jumps
      ];
  only = h.only;
}

-- ---- the numbers of the slots that are kept

pub numbering_none : (marks : List Bool) (places : List ℕ) → length places ≡ length marks → ((k : ℕ) → place_at places k ≡ no_place) → IsNumbering marks places 0 0
numbering_none marks places size nothing = record {
  size = size;
  few = omega arith;
  all = λ slot below marked. absurd (omega (arith, below));
  only = λ slot below. absurd (omega (arith, below));
  used = λ place below. absurd (omega (arith, below));
  either = λ slot. inr (nothing slot);
  rest = λ slot past. nothing slot;
  rising = λ a b order below under. absurd (omega (arith, below));
}

pub numbering_skip : (marks : List Bool) (places : List ℕ) (count upto : ℕ) → (IsMarked marks upto → ⊥) → IsNumbering marks places count upto → IsNumbering marks places count (upto + 1)
numbering_skip marks places count upto unmarked h = record {
  size = h.size;
  few = omega (arith, h.few);
  all = λ slot below marked.
      elim (cases_lt slot upto) [
        | inl earlier ↦ h.all slot earlier marked
        | inr past ↦ absurd (unmarked (subst (λ (k : ℕ). IsMarked marks k) (omega (arith, past, below)) marked))
      ];
  only = h.only;
  used = h.used;
  either = h.either;
  rest = λ slot past. h.rest slot (omega (arith, past));
  rising = h.rising;
}

pub numbering_next : (marks : List Bool) (places : List ℕ) (count upto : ℕ) → upto < length marks → length marks ≤ MAX_SLOTS → IsMarked marks upto → IsNumbering marks places count upto → IsNumbering marks (slice_set places upto count) (count + 1) (upto + 1)
numbering_next marks places count upto inside few marked h = record {
  size = length-set places upto count ∙ h.size;
  few = omega (arith, h.few);
  all = λ slot below is.
      elim (cases_lt slot upto) [
        | inl earlier ↦ rw (other slot (λ same. omega (arith, same, earlier))) (omega (arith, h.all slot earlier is))
        | inr past ↦ rw (at slot (omega (arith, past, below))) (omega arith)
      ];
  only = λ slot below.
      elim (cases_lt slot upto) [
        | inl earlier ↦ earlier_only slot earlier (rw (other slot (λ same. omega (arith, same, earlier))) at below)
        | inr past ↦ elim (cases_lt upto slot) [
          | inl beyond ↦ absurd (outside slot beyond (rw (other slot (λ same. omega (arith, same, beyond))) at below))
          | inr here ↦ subst (λ (k : ℕ). IsMarked marks k) (omega (arith, past, here)) marked
        ]
      ];
  used = λ place below.
      elim (cases_lt place count) [
        | inl low ↦ still place low (h.used place low)
        | inr new ↦ record { slot = upto; is = at upto refl ∙ omega (arith, new, below) }
      ];
  either = λ slot.
      elim (cases_lt slot upto) [
        | inl earlier ↦ rw (other slot (λ same. omega (arith, same, earlier))) (elim (h.either slot) [ inl low ↦ inl (omega (arith, low)) | inr none ↦ inr none ])
        | inr past ↦ elim (cases_lt upto slot) [
          | inl beyond ↦ inr (other slot (λ same. omega (arith, same, beyond)) ∙ h.rest slot (omega (arith, beyond)))
          | inr here ↦ inl (rw (at slot (omega (arith, past, here))) (omega arith))
        ]
      ];
  rest = λ slot past. other slot (λ same. omega (arith, same, past)) ∙ h.rest slot (omega (arith, past));
  rising = λ a b order below under.
      elim (cases_lt b upto) [
        | inl earlier ↦
            rw (other a (λ same. omega (arith, same, earlier, order)), other b (λ same. omega (arith, same, earlier)))
            (h.rising a b order (lower a (omega (arith, order, earlier)) (rw (other a (λ same. omega (arith, same, earlier, order))) at below)) (lower b earlier (rw (other b (λ same. omega (arith, same, earlier))) at under)))
        | inr past ↦ elim (cases_lt upto b) [
          | inl beyond ↦ absurd (outside b beyond (rw (other b (λ same. omega (arith, same, beyond))) at under))
          | inr here ↦
              let same : b ≡ upto = omega (arith, past, here) in
              let before : a < upto = omega (arith, order, same) in
              rw (other a (λ is. omega (arith, is, before)), at b same)
              (lower a before (rw (other a (λ is. omega (arith, is, before))) at below))
        ]
      ];
}
  where
    other : (k : ℕ) → (k ≡ upto → ⊥) → place_at (slice_set places upto count) k ≡ place_at places k
    other k apart = get_or-set_other places upto k count no_place apart

    at : (k : ℕ) → k ≡ upto → place_at (slice_set places upto count) k ≡ count
    at k same = ap (λ (j : ℕ). place_at (slice_set places upto count) j) same ∙ get_or-set_same places upto count no_place (omega (arith, inside, h.size))

    -- a number that was given stays: the slot that has it is another
    still : (place : ℕ) → place < count → NumbersSlot places place → NumbersSlot (slice_set places upto count) place
    still place low earlier = record {
      slot = earlier.slot;
      is = other earlier.slot (λ same. omega (arith, low, h.few, inside, few, sym earlier.is ∙ ap (λ (k : ℕ). place_at places k) same ∙ h.rest upto (omega arith))) ∙ earlier.is;
    }

    -- an earlier slot has a place that is below the count, or none
    lower : (k : ℕ) → k < upto → place_at places k < count + 1 → place_at places k < count
    lower k earlier below =
        elim (h.either k) [ inl low ↦ low | inr none ↦ absurd (omega (arith, none, below, h.few, inside, few)) ]

    earlier_only : (k : ℕ) → k < upto → place_at places k < count + 1 → IsMarked marks k
    earlier_only k earlier below = h.only k (lower k earlier below)

    outside : (k : ℕ) → upto < k → place_at places k < count + 1 → ⊥
    outside k beyond below = let none : place_at places k ≡ no_place = h.rest k (omega (arith, beyond)) in omega (arith, none, below, h.few, inside, few)

pub numbered : (marks : List Bool) (places : List ℕ) (count upto : ℕ) → length marks ≤ upto → IsNumbering marks places count upto → IsNumbered marks places count
numbered marks places count upto all h = record {
  size = h.size;
  all = λ slot marked. h.all slot (omega (arith, all, below slot marked)) marked;
  only = h.only;
  used = h.used;
  rising = h.rising;
}
  where
    below : (slot : ℕ) → IsMarked marks slot → slot < length marks
    below slot marked =
        elim (cases_lt slot (length marks)) [
          | inl inside ↦ inside
          | inr past ↦ absurd (false≢true (sym (get_or_past marks slot false past) ∙ marked))
        ]

-- a mark that was read
pub marked_at : (marks : List Bool) (slot : ℕ) (b : Bool) → slot < length marks → b ≡ slice_index_or marks slot b → b ≡ true → IsMarked marks slot
marked_at marks slot b inside is set = get_or_default marks slot false b inside ∙ sym is ∙ set

pub unmarked_at : (marks : List Bool) (slot : ℕ) (b : Bool) → slot < length marks → b ≡ slice_index_or marks slot b → b ≡ false → IsMarked marks slot → ⊥
unmarked_at marks slot b inside is clear marked = false≢true (sym clear ∙ is ∙ get_or_default marks slot b false inside ∙ marked)
