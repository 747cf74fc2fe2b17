-- A target is a name or a distance, and no word is both.
use Rattle.std.proofs.Common.{◌≡◌, ℕ, ℤ, pos, List, true, false, inl, inr, sym, ◌∙◌, subst, true≢false}
use Rattle.std.specs.Prelude.{Option, Some, ◌-ℤ◌}
use Rattle.basm_lex.specs.Names.{IsName, is_name}
use Rattle.basm_lex.specs.Numbers.{WritesDistance}
use Rattle.basm.specs.Relation.{WritesTarget}

no_name : (word : List ℕ) (value : ℤ) → WritesDistance word value → ¬ IsName word
no_name word value (inl f) name = true≢false (sym (subst (λ w. is_name w ≡ true) f.signed name))
no_name word value (inr b) name = true≢false (sym (subst (λ w. is_name w ≡ true) b.signed name))

-- what a name writes
pub named_target : (names : List ℕ → Option ℕ) (slot : ℕ) (word : List ℕ) (offset : ℤ) → IsName word → WritesTarget names slot word offset
    → (target : ℕ) × (names word ≡ Some target) × (offset ≡ pos target -ℤ pos slot -ℤ pos 1)
named_target names slot word offset name (inl n) = (n.target, n.stands, n.away)
named_target names slot word offset name (inr d) = absurd (no_name word offset d name)

-- and the same of a word that is no name
pub other_target : (names : List ℕ → Option ℕ) (slot : ℕ) (word : List ℕ) (offset : ℤ) → is_name word ≡ false → WritesTarget names slot word offset → WritesDistance word offset
other_target names slot word offset other (inl n) = absurd (true≢false (sym n.name ∙ other))
other_target names slot word offset other (inr d) = d
