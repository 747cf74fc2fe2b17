-- What the table of programs shows.
use Rattle.std.specs.Prelude.{ℕ, ◌≡◌, List, [], ◌∷◌, map, Some}
use Rattle.bver.specs.Justified.{AcceptedValue}
use Rattle.node_programs.specs.declared.publishes.Publish.{Publish}
use Rattle.node_programs.specs.Published.{judging_program, sizes_of, AreFor}

-- each slot has the program that is published for it, and all programs have the sizes of the first
pub record IsPublishedTable (shelf : List (AcceptedValue × ℕ)) (history : List Publish) : Type 0 where
  pub slots : map (λ s. Some s) shelf ≡ judging_program history 0 ∷ judging_program history 1 ∷ judging_program history 2
      ∷ judging_program history 3 ∷ []
  pub sizes : AreFor (sizes_of history) history
