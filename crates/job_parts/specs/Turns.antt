-- Lines that are taken in turn.
use Rattle.std.specs.Prelude.{◌≡◌, ℕ, suc, List, [], ◌∷◌, ◌++◌, length, Option}
use Rattle.job_parts.specs.Stops.{fault_at}
use Rattle.job_parts.specs.declared.faults.Fault.{Fault}
use Rattle.job_parts.specs.declared.stops.LineEnd.{LineEnd}

-- between two states of what takes lines, with what was printed before and after
abbrev pub SeesPrinted : Type 0 → Type 1
SeesPrinted T = T → T → Option (List ℕ) → Option (List ℕ) → Type 0

-- the same of an end at a line
abbrev pub SeesEnd : Type 0 → Type 1
SeesEnd T = T → T → Option (List ℕ) → Option (List ℕ) → LineEnd → Type 0

module _ {T : Type 0} (takes : List ℕ → SeesPrinted T) where
  -- the lines were taken in turn, each on what the earlier ones left
  abbrev pub AreTaken : List (List ℕ) → (before after : T) → (old new : Option (List ℕ)) → Type 0
  AreTaken [] before after old new = (after ≡ before) × (new ≡ old)
  AreTaken (line ∷ lines) before after old new =
      (next : T) × (between : Option (List ℕ)) × takes line before next old between × AreTaken lines next after between new

  -- the lines before one were taken in turn, and that one, which is counted from 1, ends the job with this fault
  pub record StopsInLines (stops : List ℕ → SeesEnd T) (lines : List (List ℕ)) (before after : T) (old new : Option (List ℕ))
      (fault : Fault) : Type 0 where
    pub done : List (List ℕ)
    pub line : List ℕ
    pub rest : List (List ℕ)
    pub between : T
    pub printed : Option (List ℕ)
    pub end : LineEnd
    pub lines_are : lines ≡ done ++ line ∷ rest
    pub all : AreTaken done before between old printed
    pub is_fault : fault ≡ fault_at (suc (length done)) end
    pub bad : stops line between after printed new end

-- the line of that number ends the job with this fault
abbrev pub StopsLinesAt : {T : Type 0} → (stops : List ℕ → SeesEnd T) → (line : List ℕ) → (number : ℕ) → (before after : T)
    → (old new : Option (List ℕ)) → Fault → Type 0
StopsLinesAt stops line number before after old new fault =
    (end : LineEnd) × (fault ≡ fault_at number end) × stops line before after old new end
