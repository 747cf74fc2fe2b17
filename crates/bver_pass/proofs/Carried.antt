-- What is known beside the running state.
use Rattle.std.proofs.Common.{◌≡◌, ◌≢◌, ℕ, ◌<◌, inl, inr, Bool, true, false, Option, None, Some, refl, sym, ap, subst, ◌∙◌, arith}
use Rattle.std.specs.Prelude.{IsTrue}
use Rattle.std.proofs.lemmas.Bool.{cases_lt, false≢true}
use Rattle.std.proofs.lemmas.Bool.Decides.{nat_tests}
use Rattle.absdom.specs.State.{StateValue}
use Rattle.absdom.specs.Laws.{BelowIsReflexive}
use Rattle.bver_pass.specs.Justified.{IsCoveredIfAny}
use Rattle.bver_pass.specs.StateTable.{TableValue, AreEntries, knowledge_beside, knowledge_in}
use Rattle.bver_form.specs.Targets.{IsKept}
use Rattle.bver_pass.proofs.Covering.{AreCovered, covers_itself}
use Rattle.bver_pass.proofs.Keeping.{known_plain}

-- ---- by cases

pub by_order : (P : Type 0) (k slot : ℕ) → (k < slot → P) → (k ≡ slot → P) → (slot < k → P) → P
by_order P k slot below same beyond =
    elim (cases_lt k slot) [
      | inl earlier ↦ below earlier
      | inr past ↦ elim (cases_lt slot k) [ inl after ↦ beyond after | inr at ↦ same (omega (arith, past, at)) ]
    ]

-- the running state, at its slot
pub carried_here : (t : TableValue) (next : ℕ) (state : StateValue) (k : ℕ) → k ≡ next → knowledge_beside t true next state k ≡ Some state
carried_here t next state k same = grind (arith, nat_tests, same)

-- what holds of the running state at its slot, and else of what the table knows
pub carried_any : (P : Option StateValue → Type 0) (t : TableValue) (runs : Bool) (next : ℕ) (state : StateValue) (k : ℕ) → (IsTrue runs → k ≡ next → P (Some state)) → ((IsTrue runs → k ≢ next) → P (knowledge_in t k)) → P (knowledge_beside t runs next state k)
carried_any P t false next state k stands known = known (λ on. absurd (false≢true on))
carried_any P t true next state k stands known =
    by_order (P (knowledge_beside t true next state k)) k next
    (λ below. subst P (sym (other (λ same. omega (arith, same, below)))) (known (λ on same. omega (arith, same, below))))
    (λ same. subst P (sym (here same)) (stands refl same))
    (λ beyond. subst P (sym (other (λ same. omega (arith, same, beyond)))) (known (λ on same. omega (arith, same, beyond))))
  where
    here : k ≡ next → knowledge_beside t true next state k ≡ Some state
    here same = grind (arith, nat_tests, same)

    other : k ≢ next → knowledge_beside t true next state k ≡ knowledge_in t k
    other apart = grind (arith, nat_tests, apart)

-- ---- the table beside the running state

-- what the table knows is covered, since it knows nothing at the slot of the running state
pub carried_covers : BelowIsReflexive → (t : TableValue) (runs : Bool) (next : ℕ) (state : StateValue) → AreEntries t → (IsTrue runs → IsKept t.program next → ⊥) → AreCovered (knowledge_in t) (knowledge_beside t runs next state)
carried_covers reflexive t runs next state entries plain k =
    carried_any (λ o. IsCoveredIfAny (knowledge_in t k) o) t runs next state k
    (λ on same.
    let none : knowledge_in t k ≡ None = ap (knowledge_in t) same ∙ known_plain t next entries (plain on) in
    subst (λ (o : Option StateValue). IsCoveredIfAny o (Some state)) (sym none) tt)
    (λ apart. covers_itself reflexive (knowledge_in t k))
