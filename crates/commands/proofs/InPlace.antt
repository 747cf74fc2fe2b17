-- A text in the place of an image.
use Rattle.std.proofs.Common.{◌≡◌, ◌∙◌, ℕ, List, Option, None, Some, IfSome, inr, ap, subst, sym}
use Rattle.std.specs.Str.{IsUtf8}
use Rattle.basm.specs.Relation.{IsText}
use Rattle.bpf.specs.Program.{Program, image_bytes}
use Rattle.machine.specs.Sizes.{Maps}
use Rattle.commands.specs.InPlace.{IsInPlace, IsOfTable, StandsForImage}

-- a text that writes no program gives the image of its table, if it is one
pub stands_for_table : (sizes : Maps) (text : List ℕ) (image : Option Program) → ((p : Program) → ¬ IsText text p)
    → IfSome image (IsOfTable sizes text) → StandsForImage sizes text image
stands_for_table sizes text None none is = none
stands_for_table sizes text (Some image) none is = inr (none, is)

not_there : (image : Program) → Some image ≡ None → ⊥
not_there image same = cc

same_image : (image other : Program) → Some image ≡ Some other → image ≡ other
same_image image other same = cc

-- the bytes of the image that a text gives are given in its place
pub in_place_of : (sizes : Maps) (bytes given : List ℕ) (image : Program) → (IsUtf8 bytes → StandsForImage sizes bytes (Some image))
    → given ≡ image_bytes image → IsInPlace sizes bytes given
in_place_of sizes bytes given image stands is = record {
  image = Some image;
  stands = stands;
  is = (λ none. absurd (not_there image none), λ own some. is ∙ ap image_bytes (same_image image own some));
}

-- the same of bytes that were read as a slice
pub in_place_by : (sizes : Maps) (bytes slice given : List ℕ) (found : Option Program) (image : Program) → slice ≡ bytes
    → (IsUtf8 slice → StandsForImage sizes slice found) → found ≡ Some image → given ≡ image_bytes image → IsInPlace sizes bytes given
in_place_by sizes bytes slice given found image same stands is written =
    in_place_of sizes bytes given image
    (λ utf8. subst (λ (f : Option Program). StandsForImage sizes bytes f) is (subst (λ (b : List ℕ). StandsForImage sizes b found) same (stands (subst IsUtf8 (sym same) utf8))))
    written
