-- What a line of a talk asks for.
use Rattle.std.specs.Prelude.{◌≡◌, ◌≢◌, List, ℕ, [], ◌∷◌, codes}
use Rattle.job_live.specs.declared.asks.Asks.{Asks}
use Rattle.job_live.specs.declared.asks.Asks.TheVariants.{Packet, Journal, Cells, Set}

-- `journal` as the only word asks for the journal, and `cells` as the only word for the words of all cells. `set`
-- before others asks for a write of the instrument. Every other line is a packet line
abbrev pub IsAskedBy : List (List ℕ) → Asks → Type 0
IsAskedBy words Journal = words ≡ codes "journal" ∷ []
IsAskedBy words Cells = words ≡ codes "cells" ∷ []
IsAskedBy words Set = (others : List (List ℕ)) × (words ≡ codes "set" ∷ others)
IsAskedBy words Packet =
    (words ≢ codes "journal" ∷ []) × (words ≢ codes "cells" ∷ [])
    × ((others : List (List ℕ)) → words ≢ codes "set" ∷ others)
