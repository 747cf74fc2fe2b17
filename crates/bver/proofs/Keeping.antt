-- Which slots have an entry in the table, and what is known there.
use Rattle.std.proofs.Common.{◌≡◌, ◌≢◌, ℕ, ◌<◌, inl, inr, ℤ, Option, None, Some, length, refl, sym, subst}
use Rattle.std.specs.Prelude.{IsSome}
use Rattle.std.proofs.lemmas.Bool.{cases_lt, false≢true}
use Rattle.std.proofs.lemmas.List.{get_or_past}
use Rattle.bpf.specs.Program.{Program, IsProgram}
use Rattle.machine.specs.Step.{insn_at}
use Rattle.absdom.specs.State.{StateValue}
use Rattle.bver_form.specs.Jumps.{first_slot, target}
use Rattle.bver_form.specs.Targets.{IsKept, place_at}
use Rattle.bver_pass.specs.StateTable.{TableValue, AreEntries, HasEntry, knowledge_in}
use Rattle.bver.proofs.Visiting.{begins_first}
use Rattle.bver_form.proofs.Kept.{lands_first}
use Rattle.bver_form.proofs.Kept.{begins_inside}
use Rattle.bver_form.proofs.Kept.{jumps_first}

-- ---- the slots to which jumps lead

pub lands_inside : (p : Program) (z : ℤ) (slot : ℕ) → first_slot p z ≡ Some slot → slot < length p.slots
lands_inside p z slot is = begins_inside p slot (lands_first p z slot is)

-- ---- the entries

-- something is known only if there is an entry
pub known_entry : (t : TableValue) (slot : ℕ) → IsSome (knowledge_in t slot) → HasEntry t slot
known_entry t slot some =
    elim (cases_lt (place_at t.places slot) (length t.entries)) [
      | inl inside ↦ inside
      | inr past ↦ absurd (false≢true (subst (λ (o : Option StateValue). IsSome o) (get_or_past t.entries (place_at t.places slot) None past) some))
    ]

-- something is known only at a slot that is kept
pub known_kept : (t : TableValue) (slot : ℕ) (a : StateValue) → AreEntries t → knowledge_in t slot ≡ Some a → IsKept t.program slot
known_kept t slot a h known = h.only slot (known_entry t slot (subst (λ (o : Option StateValue). IsSome o) (sym known) refl))

begins_zero : (p : Program) → IsProgram p → IsSome (insn_at p 0)
begins_zero p limits = begins_first p.slots limits.slots.0 limits.code

-- an instruction begins at each slot that is kept
pub kept_begins : (p : Program) (slot : ℕ) → IsProgram p → IsKept p slot → IsSome (insn_at p slot)
kept_begins p slot limits kept =
    elim kept [
      | inl zero_is ↦ subst (λ (k : ℕ). IsSome (insn_at p k)) (sym zero_is) (begins_zero p limits)
      | inr target ↦ jumps_first p target.from slot (insn_at p target.from) target.jumps
    ]

-- if something is known, an instruction begins
pub known_begins : (t : TableValue) (slot : ℕ) → IsProgram t.program → AreEntries t → IsSome (knowledge_in t slot) → IsSome (insn_at t.program slot)
known_begins t slot limits h some = kept_begins t.program slot limits (h.only slot (known_entry t slot some))
