-- Histories of programs.
use Rattle.std.specs.Prelude.{ℕ, List, [], ◌∷◌, ◌++◌}
use Rattle.bver.specs.Justified.{AcceptedValue}
use Rattle.node_programs.specs.declared.publishes.Publish.{Publish}

-- the publish of a program for a slot
abbrev pub entry : ℕ → AcceptedValue → Publish
entry slot program = record { slot = slot; program = program }

-- the history with one publish more
abbrev pub longer_history : List Publish → ℕ → AcceptedValue → List Publish
longer_history history slot program = history ++ entry slot program ∷ []
