-- The states at entry and after a call.
use Rattle.std.proofs.Common.{◌≡◌, ℕ, zero, suc, ◌+◌, ◌*◌, ◌^◌, ◌<◌, ◌≤◌, pos, true, false, ◌==◌, refl, sym, ◌∙◌, subst, arith, List}
use Rattle.std.proofs.lemmas.Int.{ints}
use Rattle.std.proofs.lemmas.Bool.Decides.{nat_tests}
use Rattle.bpf_parts.specs.declared.operation.Width.TheVariants.{Bits64}
use Rattle.machine.specs.declared.values.Value.{Value}
use Rattle.machine.specs.declared.values.Value.TheVariants.{Unset as Nothing, Num as Number}
use Rattle.machine.specs.State.{State, state, entry_register, register_after, register_after_call}
use Rattle.absdom_num.specs.Tables.{whole_range}
use Rattle.absdom.specs.declared.kinds.AbsKind.{AbsKind}
use Rattle.absdom.specs.declared.kinds.AbsKind.TheVariants.{Unset, Num}
use Rattle.absdom.specs.State.{StateValue, entry_kinds, kind_in, kind_at, after_call}
use Rattle.absdom.specs.Fits.{IsAmong, FitsKind, Fits}
use Rattle.absdom.specs.Laws.{EntryFits, CallFits}
use Rattle.absdom_stack.proofs.MarkSteps.{marked_bytes}
use Rattle.absdom.proofs.FitsState.{fits_after}

at_start : IsAmong (pos 0) (pos 0, pos 0)
at_start = record { above = omega (arith, ints); below = omega (arith, ints) }

entry_kind_fits : (port : ℕ) → port < 32 → (k : ℕ) → FitsKind (entry_register port k) (kind_in entry_kinds k)
entry_kind_fits port h zero = tt
entry_kind_fits port h (suc zero) = (refl, at_start)
entry_kind_fits port h (suc (suc zero)) = (refl, at_start)
entry_kind_fits port h (suc (suc (suc zero))) = record { above = omega arith; below = omega arith; word = omega arith }
entry_kind_fits port h (suc (suc (suc (suc zero)))) = tt
entry_kind_fits port h (suc (suc (suc (suc (suc zero))))) = tt
entry_kind_fits port h (suc (suc (suc (suc (suc (suc zero)))))) = tt
entry_kind_fits port h (suc (suc (suc (suc (suc (suc (suc zero))))))) = tt
entry_kind_fits port h (suc (suc (suc (suc (suc (suc (suc (suc zero)))))))) = tt
entry_kind_fits port h (suc (suc (suc (suc (suc (suc (suc (suc (suc zero))))))))) = tt
entry_kind_fits port h (suc (suc (suc (suc (suc (suc (suc (suc (suc (suc zero)))))))))) = (refl, at_start)
entry_kind_fits port h (suc (suc (suc (suc (suc (suc (suc (suc (suc (suc (suc k))))))))))) = tt

pub entry_fits : EntryFits
entry_fits a port e h =
    record {
      registers = λ k. let P : List AbsKind → Type 0 = λ kinds. FitsKind (entry_register port k) (kind_in kinds k) in subst P (sym e.kinds) (entry_kind_fits port h k);
      bytes = λ p m. let no : true ≡ false = sym m ∙ e.marks p in absurd cc;
      words = λ k m. let no : true ≡ false = sym (marked_bytes a.marks (8 * k) 8 m 0 (omega arith)) ∙ e.marks (8 * k + 0) in absurd cc;
    }

-- the registers after a call, written one after another
one_by_one : (ℕ → Value) → ℕ → ℕ → Value
one_by_one r answer =
    register_after (register_after (register_after (register_after (register_after (register_after r 0 (Number answer)) 1 Nothing) 2 Nothing) 3 Nothing) 4 Nothing) 5 Nothing

same_above : (r : ℕ → Value) (answer k : ℕ) → 6 ≤ k → one_by_one r answer k ≡ register_after_call r answer k
unfolding one_by_one
same_above r answer k h =
    let e0 : (k == 0) ≡ false = grind (arith, nat_tests) in
    let e1 : (k == 1) ≡ false = grind (arith, nat_tests) in
    let e2 : (k == 2) ≡ false = grind (arith, nat_tests) in
    let e3 : (k == 3) ≡ false = grind (arith, nat_tests) in
    let e4 : (k == 4) ≡ false = grind (arith, nat_tests) in
    let e5 : (k == 5) ≡ false = grind (arith, nat_tests) in
    rw (e0, e1, e2, e3, e4, e5) refl

same_after_call : (r : ℕ → Value) (answer k : ℕ) → one_by_one r answer k ≡ register_after_call r answer k
unfolding one_by_one
same_after_call r answer zero = refl
same_after_call r answer (suc zero) = refl
same_after_call r answer (suc (suc zero)) = refl
same_after_call r answer (suc (suc (suc zero))) = refl
same_after_call r answer (suc (suc (suc (suc zero)))) = refl
same_after_call r answer (suc (suc (suc (suc (suc zero))))) = refl
same_after_call r answer (suc (suc (suc (suc (suc (suc k)))))) = same_above r answer (suc (suc (suc (suc (suc (suc k)))))) (omega arith)

called_fits : (s : State) (a : StateValue) (answer : ℕ) → answer < 2 ^ 64 → Fits s a → Fits (state (s.slot + 1) (one_by_one s.registers answer) s.stack) (after_call a)
unfolding one_by_one
called_fits s a answer h fits =
    let w : FitsKind (Number answer) (Num (whole_range Bits64)) = record { above = omega arith; below = omega arith; word = h } in
    fits_after _ _ (s.slot + 1) 5 Nothing Unset tt
    (fits_after _ _ (s.slot + 1) 4 Nothing Unset tt
    (fits_after _ _ (s.slot + 1) 3 Nothing Unset tt
    (fits_after _ _ (s.slot + 1) 2 Nothing Unset tt
    (fits_after _ _ (s.slot + 1) 1 Nothing Unset tt (fits_after s a (s.slot + 1) 0 (Number answer) (Num (whole_range Bits64)) w fits)))))

pub after_call_fits : CallFits
after_call_fits s a answer h fits =
    let before : Fits (state (s.slot + 1) (one_by_one s.registers answer) s.stack) (after_call a) = called_fits s a answer h fits in
    record {
      registers = λ k. let P : Value → Type 0 = λ v. FitsKind v (kind_at (after_call a) k) in subst P (same_after_call s.registers answer k) (before.registers k);
      bytes = fits.bytes;
      words = fits.words;
    }
