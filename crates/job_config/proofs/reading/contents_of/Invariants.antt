use Rattle.std.proofs.Common.{◌≡◌, length, take, true}
use Rattle.job_config.specs.OwnNodes.{fit}
use Rattle.job_config.specs.Reads.{SomeRead}
use Rattle.job_config.proofs.Contents.{GoesOn}
use Rattle.job_config.proofs.reading.contents_of.Given as goal

abbrev pub invariant-loop-index : goal.invariant-loop-index
invariant-loop-index g l =
    GoesOn g.F.Files.reads l.file l.list l.banks l.index l.fn.files l.files l.contents.items
    × (fit (take l.index l.banks) l.contents.items ≡ true) × (length l.contents.items ≡ l.index)
    × SomeRead g.F.Files.reads l.fn.files l.files
