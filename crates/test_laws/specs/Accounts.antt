-- What laws say of a worker that served its port.
use Rattle.std.specs.Prelude.{List, All}
use mathlib.Core.List.{IsPrefix}
use Rattle.annals.specs.declared.deed.HistoryEntry.{HistoryEntry}
use Rattle.spw.specs.Cargo.{Cargo}
use Rattle.ports.specs.Due.{Deed, Standing, Worked, judgings}
use Rattle.ports.specs.Laws.{AreAllEntries, AreAllPublishes, EntriesFollow, IsByPublished}

-- the port did what was due, and the history goes on from what it knows then. Each program that judged was published,
-- and the entries of its commands are there in order. The history has no other entries and publishes of its port than
-- these
pub record IsAccounted (h after : Standing) (log : List HistoryEntry) : Type 0 where
  pub packets : List Cargo
  pub deeds : List Deed
  pub worked : Worked h packets deeds after
  pub known : IsPrefix after.front log
  pub programs : All (IsByPublished after.pass.programs h.pass.port) (judgings deeds)
  pub follow : EntriesFollow h.pass.port h.front (judgings deeds) after.front
  pub entries : AreAllEntries log h.pass deeds
  pub publishes : AreAllPublishes log h deeds
