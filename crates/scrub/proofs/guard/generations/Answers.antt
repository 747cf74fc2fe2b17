use Rattle.std.proofs.Common.{◌≡◌, ℕ, List, [], ◌∷◌}
use Rattle.std.specs.Prelude.{slice_get}
use Rattle.node_programs.specs.Published.{generation_at}
use Rattle.scrub.proofs.Four.{four}
use Rattle.scrub.proofs.guard.generations.Goals as goal

pub returns : goal.returns
returns c =
    let all : List ℕ = c.generation.result ∷ c.generation-2.result ∷ c.generation-3.result ∷ c.generation-4.result ∷ [] in
    λ slot low. four (λ (s : ℕ). generation_at c.args.node.now.programs s ≡ slice_get all s)
    c.generation.ensures c.generation-2.ensures c.generation-3.ensures c.generation-4.ensures slot low
