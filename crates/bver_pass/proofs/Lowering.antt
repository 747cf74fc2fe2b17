-- What an edge back lowers, register by register.
use Rattle.std.proofs.Common.{◌≡◌, ◌≢◌, ℕ, ◌≤◌, ◌⊎◌, inl, inr, Bool, List, Option, Some, sym, subst}
use Rattle.std.specs.Prelude.{IsTrue}
use Rattle.std.proofs.lemmas.Bool.{cases_eq}
use Rattle.bpf.specs.Program.{Program}
use Rattle.absdom.specs.State.{StateValue, IsWhole}
use Rattle.bver_form.specs.Lowered.{IsMore, IsSettled, is_lowered}
use Rattle.bver_pass.specs.Heads.{AreLowered, BodyValue, Falls, IsDeclared}
use Rattle.bver_pass.specs.Justified.{IsCovered}
use Rattle.bver_pass.specs.Leading.{AreLoweredBack, IsLoweredBack, IsUncovered}

-- a register that falls is lowered
pub lowered_one : (b : BodyValue) (head : Option StateValue) (edge : StateValue) (register : ℕ) (old new : List Bool) → Falls b head edge register → IsTrue (is_lowered new b.place register) → ((k r : ℕ) → r ≤ 9 → (k ≡ b.place → r ≢ register) → is_lowered new k r ≡ is_lowered old k r) → IsMore old new → (IsSettled old new → new ≡ old) → AreLowered b head edge (λ r. r ≡ register) old new
lowered_one b head edge register old new falls marked others more settled = record {
  fallen = λ r one falling. subst (λ (q : ℕ). IsTrue (is_lowered new b.place q)) (sym one) marked;
  only = λ k r small. by_mark k r small (cases_eq k b.place) (cases_eq r register);
  more = more;
  settled = settled;
}
  where
    by_mark : (k r : ℕ) → r ≤ 9 → k ≡ b.place ⊎ k ≢ b.place → r ≡ register ⊎ r ≢ register → (is_lowered new k r ≡ is_lowered old k r) ⊎ ((k ≡ b.place) × (r ≡ register) × Falls b head edge r)
    by_mark k r small (inr other) either = inl (others k r small (λ same. absurd (other same)))
    by_mark k r small (inl same) (inr other) = inl (others k r small (λ here. other))
    by_mark k r small (inl same) (inl one) = inr (same, one, subst (λ (q : ℕ). Falls b head edge q) (sym one) falls)

-- ---- an edge back, at its slot

-- what it lowers
pub lowered_back : (b : BodyValue) (p : Program) (slot : ℕ) (known : ℕ → Option StateValue) (edge : StateValue) (old new : List Bool) → b.program ≡ p → IsDeclared b.program b.declared b.place → b.declared.back ≡ slot → AreLowered b (known b.declared.head) edge (λ r. r ≤ 9) old new → AreLoweredBack p slot known (Some edge) old new
lowered_back b p slot known edge old new own declared back lowered place register small = by_mark (lowered.only place register small)
  where
    by_mark : (is_lowered new place register ≡ is_lowered old place register) ⊎ ((place ≡ b.place) × (register ≤ 9) × Falls b (known b.declared.head) edge register) → (is_lowered new place register ≡ is_lowered old place register) ⊎ IsLoweredBack p slot known edge place register
    by_mark (inl same) = inl same
    by_mark (inr h) =
        inr (record {
          declared = b.declared;
          is = subst (λ (k : ℕ). IsDeclared p b.declared k) (sym h.0) (subst (λ (q : Program). IsDeclared q b.declared b.place) own declared);
          back = back;
          falls = subst (λ (k : ℕ). Falls (record { program = p; declared = b.declared; place = k }) (known b.declared.head) edge register) (sym h.0)
              (subst (λ (q : Program). Falls (record { program = q; declared = b.declared; place = b.place }) (known b.declared.head) edge register) own h.2);
        })

-- why it is refused
pub uncovered_back : (b : BodyValue) (p : Program) (slot : ℕ) (known : ℕ → Option StateValue) (edge : StateValue) (old new : List Bool) → b.program ≡ p → IsDeclared b.program b.declared b.place → b.declared.back ≡ slot → IsWhole edge → AreLowered b (known b.declared.head) edge (λ r. r ≤ 9) old new → new ≡ old → (IsCovered edge (known b.declared.head) → ⊥) → IsUncovered p slot old known edge
uncovered_back b p slot known edge old new own declared back whole lowered same uncovered = record {
  declared = b.declared;
  place = b.place;
  is = subst (λ (q : Program). IsDeclared q b.declared b.place) own declared;
  back = back;
  whole = whole;
  uncovered = uncovered;
  fallen = λ register small falls.
      subst (λ (marks : List Bool). IsTrue (is_lowered marks b.place register)) same
      (lowered.fallen register small (subst (λ (q : Program). Falls (record { program = q; declared = b.declared; place = b.place }) (known b.declared.head) edge register) (sym own) falls));
}
