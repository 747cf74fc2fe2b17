-- Masks decide the kinds and the increment bit.
use Rattle.std.proofs.Common.{◌≡◌, ℕ, Bool, true, false, refl, sym, ap, ◌∙◌, arith}
use Rattle.std.specs.Prelude.{◌↔◌, ◌==◌, bit_and, not}
use Rattle.std.proofs.lemmas.Bool.{agree_below_at}
use Rattle.std.proofs.lemmas.Bool.Decides.{nat_tests}
use Rattle.rmap.specs.declared.kind.Kind.{Kind}
use Rattle.rmap.specs.declared.kind.Kind.TheVariants.{Read, Write, Rmw, Unused}
use Rattle.rmap.specs.Instruction.{has_increment_bit, kind_of}
use Rattle.rmap.specs.Laws.{MasksGiveKinds}

-- whether two kinds are the same
abbrev same_kind : Kind → Kind → Bool
same_kind Read Read = true
same_kind Read Write = false
same_kind Read Rmw = false
same_kind Read Unused = false
same_kind Write Read = false
same_kind Write Write = true
same_kind Write Rmw = false
same_kind Write Unused = false
same_kind Rmw Read = false
same_kind Rmw Write = false
same_kind Rmw Rmw = true
same_kind Rmw Unused = false
same_kind Unused Read = false
same_kind Unused Write = false
same_kind Unused Rmw = false
same_kind Unused Unused = true

same_self : (k : Kind) → same_kind k k ≡ true
same_self Read = refl
same_self Write = refl
same_self Rmw = refl
same_self Unused = refl

same_is : (a b : Kind) → same_kind a b ≡ true → b ≡ a
same_is Read Read e = refl
same_is Read Write e = absurd cc
same_is Read Rmw e = absurd cc
same_is Read Unused e = absurd cc
same_is Write Read e = absurd cc
same_is Write Write e = refl
same_is Write Rmw e = absurd cc
same_is Write Unused e = absurd cc
same_is Rmw Read e = absurd cc
same_is Rmw Write e = absurd cc
same_is Rmw Rmw e = refl
same_is Rmw Unused e = absurd cc
same_is Unused Read e = absurd cc
same_is Unused Write e = absurd cc
same_is Unused Rmw e = absurd cc
same_is Unused Unused e = refl

equal_is : (a b : ℕ) → (a == b) ≡ true → a ≡ b
equal_is a b e = grind (arith, nat_tests)

equal_self : (a b : ℕ) → a ≡ b → (a == b) ≡ true
equal_self a b e = grind (arith, nat_tests)

reported : (kind : Kind) (byte mask bits : ℕ) → (bit_and byte mask == bits) ≡ same_kind kind (kind_of byte) → (bit_and byte mask ≡ bits) ↔ (kind_of byte ≡ kind)
reported kind byte mask bits agree = (
  (λ is. same_is kind (kind_of byte) (sym agree ∙ equal_self (bit_and byte mask) bits is)),
  (λ is. equal_is (bit_and byte mask) bits (agree ∙ ap (same_kind kind) is ∙ same_self kind)),
)

not_true : (b : Bool) → not b ≡ true → b ≡ false
not_true false e = refl
not_true true e = absurd cc

increment_given : (byte mask : ℕ) → (bit_and byte mask == 0) ≡ not (has_increment_bit byte) → (bit_and byte mask ≡ 0) ↔ (has_increment_bit byte ≡ false)
increment_given byte mask agree = (
  (λ is. not_true (has_increment_bit byte) (sym agree ∙ equal_self (bit_and byte mask) 0 is)),
  (λ is. equal_is (bit_and byte mask) 0 (agree ∙ ap not is)),
)

pub masks_give : MasksGiveKinds
masks_give = record {
  read = λ byte below. reported Read byte 248 72 (agree_below_at (λ b. bit_and b 248 == 72) (λ b. same_kind Read (kind_of b)) 256 byte refl below);
  write = λ byte below. reported Write byte 224 96 (agree_below_at (λ b. bit_and b 224 == 96) (λ b. same_kind Write (kind_of b)) 256 byte refl below);
  rmw = λ byte below. reported Rmw byte 252 92 (agree_below_at (λ b. bit_and b 252 == 92) (λ b. same_kind Rmw (kind_of b)) 256 byte refl below);
  increment = λ byte below. increment_given byte 4 (agree_below_at (λ b. bit_and b 4 == 0) (λ b. not (has_increment_bit b)) 256 byte refl below);
}
