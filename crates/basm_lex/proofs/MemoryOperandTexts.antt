-- The words of memory operands.
use Rattle.std.proofs.Common.{◌≡◌, ℕ, ℤ, List, [], ◌∷◌, ◌++◌, ap, ◌∙◌}
use Rattle.std.specs.Prelude.{FitsSigned}
use Rattle.std.specs.Int.{w16}
use Rattle.std.proofs.Common.{to_z, of_z}
use Rattle.std.proofs.lemmas.Int.{to_z-of_z}
use Rattle.basm_lex.specs.Numbers.{WritesDistance}
use Rattle.basm_lex.specs.Operands.{WritesMemoryOperand, WritesRegister}

-- a base and a distance, which begins with its sign, in brackets
pub place_of : (word inner base digits : List ℕ) (sign number : ℕ) (offset : ℤ) → word ≡ 91 ∷ (inner ++ 93 ∷ [])
    → inner ≡ base ++ sign ∷ digits → WritesRegister base number → WritesDistance (sign ∷ digits) offset × FitsSigned w16 offset
    → WritesMemoryOperand word (record { base = number; offset = to_z w16 (of_z w16 offset) })
place_of word inner base digits sign number offset outside split register distance =
    let place : WritesMemoryOperand word (record { base = number; offset = offset }) = record {
      distance = sign ∷ digits;
      is_base = register.0;
      word_is = outside ∙ ap (λ x. 91 ∷ (x ++ 93 ∷ [])) (split ∙ ap (λ x. x ++ sign ∷ digits) register.1);
      writes = distance.0;
      fits = distance.1;
    } in
    rw (to_z-of_z w16 offset distance.1) place
