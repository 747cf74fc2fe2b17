use Rattle.std.proofs.Common.{◌≡◌, All, length}
use Rattle.job_config.specs.OwnNodes.{IsPublish}
use Rattle.job_config.specs.Reads.{SomeRead}
use Rattle.job_config.proofs.Contents.{PublishesGoOn}
use Rattle.job_config.proofs.reading.publishes_in.Given as goal

abbrev pub invariant-loop-index : goal.invariant-loop-index
invariant-loop-index g l =
    PublishesGoOn g.F.Files.reads l.file l.list l.index l.fn.files l.files l.publishes.items
    × SomeRead g.F.Files.reads l.fn.files l.files
    × All (IsPublish l.sizes) l.publishes.items
    × (length l.publishes.items ≡ l.index)
