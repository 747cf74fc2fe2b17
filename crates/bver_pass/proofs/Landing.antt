-- What comes to a slot is the least that covers it.
use Rattle.std.proofs.Common.{◌≡◌, ◌≢◌, ℕ, ap, ℤ, pos, negsuc, Bool, true, false, Option, None, Some, ◌⊎◌, inl, inr, refl, sym, subst}
use Rattle.std.specs.Prelude.{IsTrue, IsFalse, if◌then◌else◌, is_some}
use Rattle.std.proofs.lemmas.Bool.{cases_eq}
use Rattle.bpf.specs.Program.{Program}
use Rattle.machine.specs.Step.{insn_at}
use Rattle.absdom.specs.State.{StateValue}
use Rattle.bver_form.specs.Jumps.{first_slot}
use Rattle.bver_pass.specs.StateTable.{TableValue, knowledge_in}
use Rattle.bver_pass.specs.Visit.{IsTableGrown as HasGrown, IsLeast, IsLeastOf}
use Rattle.bver_pass.specs.Justified.{IsCovered, IsCoveredIfAny, knowledge_at}

-- ---- what comes to a slot

-- a table in which one slot changed, to the least that covers a state too
pub least_at : (old new : TableValue) (slot : ℕ) (state : StateValue) → IsLeast (knowledge_in old slot) state (knowledge_in new slot) → ((k : ℕ) → k ≢ slot → knowledge_in new k ≡ knowledge_in old k) → IsLeastOf (λ above. IsCovered state (above slot)) old new
least_at old new slot state least others above grown covered k = by_place (cases_eq k slot)
  where
    here : (there : Option StateValue) → IsCoveredIfAny (knowledge_in old slot) there → IsCovered state there → IsCoveredIfAny (knowledge_in new slot) there
    here None was now = absurd now
    here (Some b) was now = least b was now

    by_place : k ≡ slot ⊎ k ≢ slot → IsCoveredIfAny (knowledge_in new k) (above k)
    by_place (inl same) = subst (λ (i : ℕ). IsCoveredIfAny (knowledge_in new i) (above i)) (sym same) (here (above slot) (grown slot) covered)
    by_place (inr other) = subst (λ (o : Option StateValue). IsCoveredIfAny o (above k)) (sym (others k other)) (grown k)

-- a table that did not change
pub least_same : (followed : (ℕ → Option StateValue) → Type 0) (old new : TableValue) → new ≡ old → IsLeastOf followed old new
least_same followed old new same above grown covered = subst (λ (t : TableValue). HasGrown (knowledge_in t) above) (sym same) grown

-- a state that goes on: if the slot has an entry, it is joined there, else it is the running one
pub least_next : (old new : TableValue) (runs : Bool) (next : ℕ) (state : StateValue) → (IsFalse runs → IsLeast (knowledge_in old next) state (knowledge_in new next)) → (IsTrue runs → new ≡ old) → ((k : ℕ) → k ≢ next → knowledge_in new k ≡ knowledge_in old k) → IsLeastOf (λ above. IsCovered state (above next)) old new
least_next old new true next state least same others = least_same (λ above. IsCovered state (above next)) old new (same refl)
least_next old new false next state least same others = least_at old new next state (least refl) others

-- a slot to which a jump leads
lands_at : (p : Program) (z : ℤ) (landing : ℕ) → first_slot p z ≡ Some landing → z ≡ pos landing
lands_at p (pos k) landing is = by_begin (is_some (insn_at p k)) is
  where
    by_begin : (b : Bool) → (if b then Some k else None) ≡ Some landing → pos k ≡ pos landing
    by_begin true same = let here : k ≡ landing = cc in ap (λ (i : ℕ). pos i) here
    by_begin false same = absurd cc
lands_at p (negsuc n) landing is = absurd cc

pub least_landing : (p : Program) (z : ℤ) (landing : ℕ) (old new : TableValue) (state : StateValue) → first_slot p z ≡ Some landing → IsLeast (knowledge_in old landing) state (knowledge_in new landing) → ((k : ℕ) → k ≢ landing → knowledge_in new k ≡ knowledge_in old k) → IsLeastOf (λ above. IsCovered state (knowledge_at above z)) old new
least_landing p z landing old new state lands least others =
    subst (λ (y : ℤ). IsLeastOf (λ above. IsCovered state (knowledge_at above y)) old new) (sym (lands_at p z landing lands)) (least_at old new landing state least others)
