-- The line of a scrub.
use Rattle.std.specs.Prelude.{ℕ, List, [], ◌∷◌, ◌++◌, codes, decimal, Option, None, Some}
use Rattle.scrub.specs.declared.guard.ScrubFindings.{ScrubFindings}
use Rattle.scrub.specs.declared.guard.Health.{Health}
use Rattle.scrub.specs.declared.guard.Health.TheVariants.{Whole, Mended, Unmended, Withdrawn}

-- `journal scrub SLOT STATE`
abbrev pub scrub_line : (slot : ℕ) → (state : List ℕ) → List ℕ
scrub_line slot state = codes "journal scrub " ++ decimal slot ++ codes " " ++ state ++ 10 ∷ []

-- the line of a slot whose program was found so; none for one that was whole
abbrev pub health_text : (slot : ℕ) → Health → List ℕ
health_text slot Whole = []
health_text slot Mended = scrub_line slot (codes "mended")
health_text slot Withdrawn = scrub_line slot (codes "withdrawn")
health_text slot Unmended = scrub_line slot (codes "withdrawn")

-- the same of what a scrub found, if one was due
abbrev pub found_text : Option ScrubFindings → List ℕ
found_text None = []
found_text (Some found) = health_text found.slot found.health
