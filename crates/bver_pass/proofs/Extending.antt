-- A table that changed only at later slots.
use Rattle.std.proofs.Common.{◌≡◌, ◌≢◌, ℕ, ◌≤◌, ◌∙◌, arith}
use Rattle.absdom.specs.Laws.{BelowIsTransitive}
use Rattle.bver_pass.specs.Visit.{AreWhole, IsTableGrown, IsExtended}
use Rattle.bver_pass.specs.StateTable.{TableValue, knowledge_in}
use Rattle.bver_pass.proofs.Covering.{any_covered_more}

-- ---- the table

-- a table that grew twice
pub extended_twice : BelowIsTransitive → (from : ℕ) (old mid new : TableValue) → IsExtended from old mid → IsExtended from mid new → IsExtended from old new
extended_twice transitive from old mid new f g = record {
  program = g.program ∙ f.program;
  grown = λ k. any_covered_more transitive (knowledge_in old k) (knowledge_in mid k) (knowledge_in new k) (f.grown k) (g.grown k);
  kept = λ k before. g.kept k before ∙ f.kept k before;
  whole = λ whole. g.whole (f.whole whole);
}

-- a table in which only one slot changed, from there on
pub changed_at : (from slot : ℕ) (old new : TableValue) → from ≤ slot → new.program ≡ old.program → IsTableGrown (knowledge_in old) (knowledge_in new) → ((k : ℕ) → k ≢ slot → knowledge_in new k ≡ knowledge_in old k) → (AreWhole (knowledge_in old) → AreWhole (knowledge_in new)) → IsExtended from old new
changed_at from slot old new above program grown others whole = record {
  program = program;
  grown = grown;
  kept = λ k below. others k (λ same. omega (arith, below, same, above));
  whole = whole;
}
