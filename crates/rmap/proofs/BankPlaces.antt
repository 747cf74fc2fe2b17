-- If the place of a command is a bank, the windows have it, and the command's bytes lie in it.
use Rattle.std.proofs.Common.{◌≡◌, ℕ, Bool, true, false, cond, eqb, Option, None, Some, refl, sym, ap, subst, ◌∙◌}
use Rattle.std.specs.Prelude.{slice_get}
use Rattle.std.proofs.lemmas.Option.{slice_get_within}
use Rattle.rmap.specs.declared.kind.Kind.{Kind}
use Rattle.rmap.specs.declared.kind.Kind.TheVariants.{Read, Write, Rmw, Unused}
use Rattle.rmap.specs.declared.places.Place.{Place}
use Rattle.rmap.specs.declared.places.Place.TheVariants.{Bank, Staging, LoadResult, Control}
use Rattle.rmap.specs.Command.{CommandValue, extended_of, command_kind}
use Rattle.rmap.specs.Windows.{WindowsValue, IsWithinBank, LiesInBank, place_of, bank_place, boot_place, load_register_of, is_register, is_staged, lies_inside}

-- whether the place is a bank
abbrev is_in_bank : Option Place → Bool
is_in_bank (Some (Bank k)) = true
is_in_bank (Some Staging) = false
is_in_bank (Some LoadResult) = false
is_in_bank (Some Control) = false
is_in_bank None = false

either : (b : Bool) (x y : Option Place) → is_in_bank x ≡ false → is_in_bank y ≡ false → is_in_bank (cond b x y) ≡ false
either true x y h k = h
either false x y h k = k

no_register : (kind : Kind) (c : CommandValue) → is_in_bank (load_register_of kind c) ≡ false
no_register Read c = either (is_register 8 c) (Some LoadResult) None refl refl
no_register Write c = either (is_register 4 c) (Some Control) None refl refl
no_register Rmw c = refl
no_register Unused c = refl

-- the boot window is no bank
no_bank : (c : CommandValue) → is_in_bank (bank_place None c) ≡ false
no_bank c = either (eqb (extended_of c) 255) (boot_place c) None (either (is_staged c) (Some Staging) (load_register_of (command_kind c) c) refl (no_register (command_kind c) c)) refl

pub given : (b : Bool) (x place : Place) → cond b (Some x) None ≡ Some place → (b ≡ true) × (x ≡ place)
given true x place e = (refl, cc)
given false x place e = absurd cc

number_of : Place → ℕ
number_of (Bank k) = k
number_of Staging = 0
number_of LoadResult = 0
number_of Control = 0

same_bank : (n k : ℕ) → Bank n ≡ Bank k → n ≡ k
unfolding number_of
same_bank n k e = ap number_of e

in_window : (w : WindowsValue) (c : CommandValue) (k : ℕ) (found : Option (ℕ × ℕ)) → slice_get w.banks (extended_of c) ≡ found → bank_place found c ≡ Some (Bank k) → LiesInBank w c k
in_window w c k None e h = let clash : true ≡ false = sym (ap is_in_bank h) ∙ no_bank c in absurd cc
in_window w c k (Some range) e h =
    let found = given (lies_inside range.0 range.1 c) (Bank (extended_of c)) (Bank k) h in
    let same : extended_of c ≡ k = same_bank (extended_of c) k found.1 in
    let window : slice_get w.banks k ≡ Some range = subst (λ n. slice_get w.banks n ≡ Some range) same e in
    record { below = slice_get_within w.banks k range window; range = range; window = window; inside = found.0 }

-- if the place of a command is a bank, the windows have it, and the command's bytes lie in it
pub lies_in_bank : (c : CommandValue) (w : WindowsValue) (place : Place) → place_of c w ≡ Some place → IsWithinBank w c place
lies_in_bank c w place h k at = in_window w c k (slice_get w.banks (extended_of c)) refl (h ∙ ap (λ x. Some x) at)
