-- What a port asks for by a load.
use Rattle.std.specs.Prelude.{◌≡◌, ℕ, List, [], ◌∷◌, ◌++◌, Option, Some, None}
use Rattle.annals.specs.declared.deed.Act.TheVariants.{Publishes}
use Rattle.annals.specs.Chains.{Due}
use Rattle.annals.specs.Publishes.{publishes_chain}
use Rattle.node_programs.specs.declared.publishes.Publish.{Publish}

-- What was published, and what the port asked for. If a program was published, that is the last of the list, and the
-- port asked for it after what it asked for before. Else nothing was published, and nothing asked for.
abbrev pub AsksForLoad : (port : ℕ) → Option Publish → (old new : List Publish) → (asked after : List Due) → Type 0
AsksForLoad port None old new asked after = (new ≡ old) × (after ≡ asked)
AsksForLoad port (Some publish) old new asked after =
    (new ≡ old ++ publish ∷ []) × (after ≡ asked ++ (publishes_chain, Publishes (port, publish)) ∷ [])

-- some such program was published, or none
abbrev pub HasAskedForLoad : (port : ℕ) → (old new : List Publish) → (asked after : List Due) → Type 0
HasAskedForLoad port old new asked after = (loaded : Option Publish) × AsksForLoad port loaded old new asked after
