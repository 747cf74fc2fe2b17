-- How far a history was reached.
use Rattle.std.specs.Prelude.{◌≡◌, List, Option, Some}
use Rattle.logbook.specs.Pages.{Book}
use Rattle.node_programs.specs.declared.publishes.Publish.{Publish}

-- a family, and the programs with which its history begins
pub record Reached : Type 0 where
  pub family : Book
  pub programs : List Publish

-- a family, and the programs with which its history begins
abbrev pub reached : Book → List Publish → Reached
reached family programs = record { family = family; programs = programs }

-- what a reader knows of the history, and the programs of the table in which it is, if it is in one
pub record Known : Type 0 where
  pub programs : List Publish
  pub inside : Option (List Publish)

-- what is known of the history, and the programs of the table that was entered, if one was
abbrev pub known : List Publish → Option (List Publish) → Known
known programs inside = record { programs = programs; inside = inside }

-- the reader is in the table whose programs it knows
abbrev pub IsReaderInside : Known → Type 0
IsReaderInside reader = reader.inside ≡ Some reader.programs
