-- The job `verify`: its words, and what it prints of a program that may judge.
use Rattle.std.specs.Prelude.{ℕ, List, [], ◌∷◌, ◌++◌, codes, decimal}
use Rattle.clap.specs.Simple.{App}
use Rattle.job_texts.specs.Images.{maps_app}

-- `verify FILE [--maps LIST]`
abbrev pub verify_app : App
verify_app = maps_app (codes "verify")

-- the line of a program that may judge
abbrev pub accepted_line : (weight budget : ℕ) → List ℕ
accepted_line weight budget =
    codes "accepted weight " ++ decimal weight ++ codes " budget " ++ decimal budget ++ 10 ∷ []
