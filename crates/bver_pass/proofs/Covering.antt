-- What is covered stays covered if more is known.
use Rattle.std.proofs.Common.{ℕ, ℤ, pos, negsuc, Option, None, Some}
use Rattle.absdom.specs.State.{StateValue}
use Rattle.absdom.specs.Laws.{BelowIsReflexive, BelowIsTransitive}
use Rattle.bver_pass.specs.Justified.{IsCovered, IsCoveredIfAny, knowledge_at}

-- all that one table knows is covered by the other
abbrev pub AreCovered : (old new : ℕ → Option StateValue) → Type 0
AreCovered old new = (slot : ℕ) → IsCoveredIfAny (old slot) (new slot)

pub covers_itself : BelowIsReflexive → (o : Option StateValue) → IsCoveredIfAny o o
covers_itself reflexive None = tt
covers_itself reflexive (Some a) = reflexive a

pub covered_more : BelowIsTransitive → (a : StateValue) (x y : Option StateValue) → IsCovered a x → IsCoveredIfAny x y → IsCovered a y
covered_more transitive a None y h g = absurd h
covered_more transitive a (Some b) None h g = absurd g
covered_more transitive a (Some b) (Some d) h g = transitive a b d h g

pub any_covered_more : BelowIsTransitive → (o x y : Option StateValue) → IsCoveredIfAny o x → IsCoveredIfAny x y → IsCoveredIfAny o y
any_covered_more transitive None x y h g = tt
any_covered_more transitive (Some a) x y h g = covered_more transitive a x y h g

pub known_covered : (old new : ℕ → Option StateValue) → AreCovered old new → (z : ℤ) → IsCoveredIfAny (knowledge_at old z) (knowledge_at new z)
known_covered old new grown (pos slot) = grown slot
known_covered old new grown (negsuc n) = tt
