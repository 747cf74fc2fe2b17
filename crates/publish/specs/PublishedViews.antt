-- The rule of the table of programs, and what a reader's step on it reports.
use Rattle.std.specs.Prelude.{◌≡◌, ℕ, List}
use mathlib.Core.List.{IsPrefix}
use mathlib.Core.Option.{some}
use lib.ListN.{get_elem?}
use Rattle.logbook.specs.Pages.{Book}
use Rattle.node_programs.specs.declared.publishes.Publish.{Publish}
use Rattle.publish.specs.Reached.{Reached}

-- the table is of that family, and what each reader saw begins its programs
pub record IsInFamily (home : Book) (table : Reached) (published_views : List (List Publish)) : Type 0 where
  pub family : table.family ≡ home
  pub seen : (seat : ℕ) (published_view : List Publish) → get_elem? published_views seat ≡ some published_view → IsPrefix published_view table.programs

-- the reader saw the programs of the table, which what it had seen begins
pub record Sees (home : Book) (before : List Publish) (old new : Reached) (after : List Publish) : Type 0 where
  pub family : old.family ≡ home
  pub longer : IsPrefix before old.programs
  pub seen : after ≡ old.programs
