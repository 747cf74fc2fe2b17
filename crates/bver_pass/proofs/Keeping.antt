-- Which slots have an entry in the table, and what is known there.
use Rattle.std.proofs.Common.{◌≡◌, ◌≢◌, ℕ, ◌-◌, ◌<◌, ◌≤◌, inl, inr, ℤ, pos, negsuc, Bool, Option, None, Some, List, length, refl, sym, ap, subst, ◌∙◌, arith, get_or-set_same, get_or-set_other}
use Rattle.std.specs.Prelude.{slice_index_or, slice_set, All, IfSome, IsSome}
use Rattle.std.proofs.lemmas.Bool.{cases_eq, cases_lt}
use Rattle.std.proofs.lemmas.Bool.Decides.{nat_tests}
use Rattle.std.proofs.lemmas.List.{get_or_default, get_or_past}
use Rattle.std.proofs.Math.ListN.{length-set}
use Rattle.bpf.specs.declared.loops.Loop.{Loop}
use Rattle.bpf.specs.Program.{Program, IsProgram}
use Rattle.bpf_insn.specs.declared.insn.Insn.{Insn}
use Rattle.machine.specs.Step.{insn_at}
use Rattle.absdom.specs.State.{StateValue, IsWhole}
use Rattle.bver_form.specs.Form.{IsFormed}
use Rattle.bver_form.specs.Jumps.{IsFirstSlot, IsJump, first_slot, target}
use Rattle.bver_form.specs.Loops.{IsLoopFormed, back_jump}
use Rattle.bver_form.specs.Targets.{AreKept, IsKept, IsNumbered, landing_from, place_at}
use Rattle.bver_pass.specs.Justified.{IsCoveredIfAny}
use Rattle.bver_pass.specs.StateTable.{TableValue, AreEntries, HasEntry, entry_place_of, knowledge_in}
use Rattle.bver_pass.specs.Visit.{AreWhole}
use Rattle.absdom.specs.Laws.{BelowIsReflexive}
use Rattle.bver_pass.proofs.Covering.{covers_itself}
use Rattle.bver_pass.proofs.Loops.{loop_in}
use Rattle.bver_form.proofs.Entering.{to_head}

-- ---- the slots to which jumps lead

-- a slot to which a jump leads is kept
pub kept_by : (p : Program) (from landing : ℕ) (z : ℤ) → landing_from p from (insn_at p from) ≡ first_slot p z → first_slot p z ≡ Some landing → IsKept p landing
kept_by p from landing z leads is = inr (record { from = from; jumps = leads ∙ is })

-- ---- the entries

-- the table of a program, by its marks and their numbers
pub entries_of : (t : TableValue) (marks : List Bool) → length marks ≡ length t.program.slots → AreKept t.program marks → IsNumbered marks t.places (length t.entries) → AreEntries t
entries_of t marks size kept numbers = record {
  size = numbers.size ∙ size;
  all = λ slot is. numbers.all slot (kept.all slot is);
  only = λ slot has. kept.only slot (numbers.only slot has);
  used = numbers.used;
  rising = numbers.rising;
}

-- a table with other entries, as many
pub entries_same : (t : TableValue) (entries : List (Option StateValue)) → length entries ≡ length t.entries → AreEntries t → AreEntries (record { program = t.program; places = t.places; entries = entries })
entries_same t entries size h = record {
  size = h.size;
  all = λ slot kept. rw size (h.all slot kept);
  only = λ slot has. h.only slot (rw size at has);
  used = λ place below. h.used place (rw size at below);
  rising = λ a b order below under. h.rising a b order (rw size at below) (rw size at under);
}

-- two slots with entries have two places
apart_places : (t : TableValue) (a b : ℕ) → AreEntries t → HasEntry t a → HasEntry t b → a ≢ b → place_at t.places a ≢ place_at t.places b
apart_places t a b h below under apart same =
    elim (cases_lt a b) [
      | inl before ↦ omega (arith, same, h.rising a b before below under)
      | inr past ↦ elim (cases_lt b a) [
        | inl after ↦ omega (arith, same, h.rising b a after under below)
        | inr at ↦ apart (omega (arith, past, at))
      ]
    ]

-- what is known at the slot whose entry was written, and elsewhere
pub known_there : (t : TableValue) (slot : ℕ) (new : Option StateValue) → HasEntry t slot → slice_index_or (slice_set t.entries (place_at t.places slot) new) (place_at t.places slot) None ≡ new
known_there t slot new has = get_or-set_same t.entries (place_at t.places slot) new None has

pub known_elsewhere : (t : TableValue) (slot k : ℕ) (new : Option StateValue) → AreEntries t → HasEntry t slot → k ≢ slot → slice_index_or (slice_set t.entries (place_at t.places slot) new) (place_at t.places k) None ≡ knowledge_in t k
known_elsewhere t slot k new h has apart =
    elim (cases_lt (place_at t.places k) (length t.entries)) [
      | inl inside ↦ get_or-set_other t.entries (place_at t.places slot) (place_at t.places k) new None (λ same. apart_places t slot k h has inside (λ is. apart (sym is)) (sym same))
      | inr past ↦ get_or_past (slice_set t.entries (place_at t.places slot) new) (place_at t.places k) None (omega (arith, past, length-set t.entries (place_at t.places slot) new)) ∙ sym (get_or_past t.entries (place_at t.places k) None past)
    ]

-- the place of an entry that was found
entry_is : (t : TableValue) (slot place : ℕ) → Some place ≡ entry_place_of t slot → (place ≡ place_at t.places slot) × HasEntry t slot
entry_is t slot place is =
    elim (cases_lt (place_at t.places slot) (length t.entries)) [
      | inl inside ↦ (let there : entry_place_of t slot ≡ Some (place_at t.places slot) = grind (arith, nat_tests, inside) in cc, inside)
      | inr past ↦ let none : entry_place_of t slot ≡ None = grind (arith, nat_tests, past) in absurd cc
    ]

pub entry_none : (t : TableValue) (slot : ℕ) → None ≡ entry_place_of t slot → HasEntry t slot → ⊥
entry_none t slot is inside =
    let there : entry_place_of t slot ≡ Some (place_at t.places slot) = grind (arith, nat_tests, inside) in
    cc

-- an entry that was found is written
pub set_there : (t : TableValue) (slot place : ℕ) (new : Option StateValue) → Some place ≡ entry_place_of t slot → slice_index_or (slice_set t.entries place new) (place_at t.places slot) None ≡ new
set_there t slot place new is =
    let found = entry_is t slot place is in
    subst (λ (i : ℕ). slice_index_or (slice_set t.entries i new) (place_at t.places slot) None ≡ new) (sym found.0) (known_there t slot new found.1)

pub set_elsewhere : (t : TableValue) (slot place k : ℕ) (new : Option StateValue) → AreEntries t → Some place ≡ entry_place_of t slot → k ≢ slot → slice_index_or (slice_set t.entries place new) (place_at t.places k) None ≡ knowledge_in t k
set_elsewhere t slot place k new h is apart =
    let found = entry_is t slot place is in
    subst (λ (i : ℕ). slice_index_or (slice_set t.entries i new) (place_at t.places k) None ≡ knowledge_in t k) (sym found.0) (known_elsewhere t slot k new h found.1 apart)

-- what is known grows if an entry that was found is written with what covers it
pub set_grown : BelowIsReflexive → (t : TableValue) (slot place : ℕ) (new : Option StateValue) → AreEntries t → Some place ≡ entry_place_of t slot → IsCoveredIfAny (knowledge_in t slot) new → (k : ℕ) → IsCoveredIfAny (knowledge_in t k) (slice_index_or (slice_set t.entries place new) (place_at t.places k) None)
set_grown reflexive t slot place new h is covers k =
    elim (cases_eq k slot) [
      | inl same ↦
          subst (λ (i : ℕ). IsCoveredIfAny (knowledge_in t i) (slice_index_or (slice_set t.entries place new) (place_at t.places i) None)) (sym same)
          (subst (λ (o : Option StateValue). IsCoveredIfAny (knowledge_in t slot) o) (sym (set_there t slot place new is)) covers)
      | inr apart ↦ subst (λ (o : Option StateValue). IsCoveredIfAny (knowledge_in t k) o) (sym (set_elsewhere t slot place k new h is apart)) (covers_itself reflexive (knowledge_in t k))
    ]

-- a place that was found is inside, so the element there needs no default
pub found_there : (t : TableValue) (slot place : ℕ) (old : Option StateValue) → Some place ≡ entry_place_of t slot → old ≡ slice_index_or t.entries place old → slice_index_or t.entries place None ≡ old
found_there t slot place old is there =
    let found = entry_is t slot place is in
    let inside : place < length t.entries = subst (λ (i : ℕ). i < length t.entries) (sym found.0) found.1 in
    get_or_default t.entries place None old inside ∙ sym there

-- what covers the entry that was found covers what was known
pub found_covers : (t : TableValue) (slot place : ℕ) (old new : Option StateValue) → Some place ≡ entry_place_of t slot → slice_index_or t.entries place None ≡ old → IsCoveredIfAny old new → IsCoveredIfAny (knowledge_in t slot) new
found_covers t slot place old new is there covers =
    let found = entry_is t slot place is in
    subst (λ (o : Option StateValue). IsCoveredIfAny o new) (sym there ∙ ap (λ (i : ℕ). slice_index_or t.entries i None) found.0) covers

pub set_whole : (t : TableValue) (slot place : ℕ) (new : Option StateValue) → AreEntries t → Some place ≡ entry_place_of t slot → IfSome new IsWhole → AreWhole (knowledge_in t) → (k : ℕ) → IfSome (slice_index_or (slice_set t.entries place new) (place_at t.places k) None) IsWhole
set_whole t slot place new h is whole was k =
    elim (cases_eq k slot) [
      | inl same ↦
          subst (λ (i : ℕ). IfSome (slice_index_or (slice_set t.entries place new) (place_at t.places i) None) IsWhole) (sym same)
          (subst (λ (o : Option StateValue). IfSome o IsWhole) (sym (set_there t slot place new is)) whole)
      | inr apart ↦ subst (λ (o : Option StateValue). IfSome o IsWhole) (sym (set_elsewhere t slot place k new h is apart)) (was k)
    ]

-- if there is no entry, nothing is known
pub known_nowhere : (t : TableValue) (slot : ℕ) → (HasEntry t slot → ⊥) → knowledge_in t slot ≡ None
known_nowhere t slot none =
    elim (cases_lt (place_at t.places slot) (length t.entries)) [
      | inl inside ↦ absurd (none inside)
      | inr past ↦ get_or_past t.entries (place_at t.places slot) None past
    ]

-- nothing is known at a slot that is not kept
pub known_plain : (t : TableValue) (slot : ℕ) → AreEntries t → (IsKept t.program slot → ⊥) → knowledge_in t slot ≡ None
known_plain t slot h plain = known_nowhere t slot (λ has. plain (h.only slot has))

-- ---- heads

pub head_kept : (p : Program) (l : Loop) → IsFormed p → IsLoopFormed p l → l.head ≤ l.back → IsKept p l.head
head_kept p l form formed ordered =
    let jump : IsJump p l.back (negsuc (l.back - l.head)) = (form.allowed l.back (back_jump l) formed.back).jump in
    let begins : IsSome (insn_at p l.head) = subst (IsFirstSlot p) (to_head l.head l.back ordered) jump.first_slot in
    let lands : first_slot p (pos l.head) ≡ Some l.head = by_begin (insn_at p l.head) refl begins in
    let leads : first_slot p (target l.back (negsuc (l.back - l.head))) ≡ Some l.head = subst (λ (z : ℤ). first_slot p z ≡ Some l.head) (sym (to_head l.head l.back ordered)) lands in
    inr (record { from = l.back; jumps = subst (λ (o : Option Insn). landing_from p l.back o ≡ Some l.head) (sym formed.back) leads })
  where
    by_begin : (o : Option Insn) → insn_at p l.head ≡ o → IsSome o → first_slot p (pos l.head) ≡ Some l.head
    by_begin None is some = absurd cc
    by_begin (Some insn) is some = rw is refl

pub no_head : (p : Program) (slot : ℕ) → IsProgram p → IsFormed p → (IsKept p slot → ⊥) → All (λ l. l.head ≢ slot) p.loops
no_head p slot limits form plain k d inside same =
    let l = slice_index_or p.loops k d in
    let low = (loop_in (length p.slots) 0 p.loops k d limits.loops inside).1 in
    plain (subst (λ (h : ℕ). IsKept p h) same (head_kept p l form (form.loops k d inside) (omega (arith, low.ordered))))
