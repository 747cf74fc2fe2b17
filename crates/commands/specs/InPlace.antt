-- The text of a program, or a table, in the place of an image.
use Rattle.std.specs.Prelude.{◌≡◌, ◌⊎◌, ℕ, List, Option, None, Some}
use Rattle.std.specs.Str.{IsUtf8}
use Rattle.basm.specs.Relation.{IsText}
use Rattle.bpf.specs.Program.{Program, image_bytes}
use Rattle.machine.specs.Sizes.{Maps}
use Rattle.policy.specs.Compiled.{IsPortCompiled}
use Rattle.policy_table.specs.Policies.{PolicyValue, WritesPolicy}
use Rattle.spw.specs.Line.{lines_of}

-- the image of the table that a text writes, for a node with maps of these sizes
pub record IsOfTable (sizes : Maps) (text : List ℕ) (image : Program) : Type 0 where
  pub policy : PolicyValue
  pub writes : WritesPolicy (lines_of text) policy
  pub compiled : IsPortCompiled sizes policy image

-- a text gives an image: that of the program that it writes, or else of its table. Or it gives none, and then it writes
-- no program
abbrev pub StandsForImage : Maps → (text : List ℕ) → Option Program → Type 0
StandsForImage sizes text None = (p : Program) → ¬ IsText text p
StandsForImage sizes text (Some image) = IsText text image ⊎ (((p : Program) → ¬ IsText text p) × IsOfTable sizes text image)

-- these bytes are given in the place of others. If those are a text that gives an image, they are the bytes of the
-- image, and else they are the same
pub record IsInPlace (sizes : Maps) (bytes given : List ℕ) : Type 0 where
  pub image : Option Program
  pub stands : IsUtf8 bytes → StandsForImage sizes bytes image
  pub is : (image ≡ None → given ≡ bytes) × ((own : Program) → image ≡ Some own → given ≡ image_bytes own)
