-- Lines that are shown in words, and why one is not.
use Rattle.std.specs.Prelude.{◌≡◌, ◌⊎◌, ℕ, List, [], ◌∷◌, ◌++◌, codes}
use Rattle.spw.specs.Line.{HasFault, marker_word}
use Rattle.spw.specs.declared.faults.LineFault.{LineFault}
use Rattle.spw.specs.declared.faults.LineFault.TheVariants.{Memory}

-- the text ends in a line feed (10): so it is not empty
abbrev pub EndsLine : (text : List ℕ) → Type 0
EndsLine text = (words : List ℕ) × (text ≡ words ++ 10 ∷ [])

-- the first word is this
abbrev pub BeginsWith : (word : List ℕ) → List (List ℕ) → Type 0
BeginsWith word words = (rest : List (List ℕ)) × (words ≡ word ∷ rest)

-- the first word is `journal` or `entry`, which are no ports
abbrev pub IsEntryWord : List (List ℕ) → Type 0
IsEntryWord words = BeginsWith (codes "journal") words ⊎ BeginsWith (codes "entry") words

-- a line of these words is not shown: memory was refused, or it has that fault of a packet line. Or it is an entry of a
-- journal, of whose fault nothing is said. So a packet line is refused only if memory was refused
abbrev pub IsLineFault : (line : List ℕ) (words : List (List ℕ)) → LineFault → Type 0
IsLineFault line words fault = (fault ≡ Memory) ⊎ (HasFault marker_word line fault ⊎ IsEntryWord words)
