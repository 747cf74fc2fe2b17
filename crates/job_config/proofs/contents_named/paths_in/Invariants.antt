use Rattle.std.proofs.Common.{map}
use Rattle.std.specs.Prelude.{string_bytes}
use Rattle.job_config.proofs.ContentsPaths.{PathsGoOn}
use Rattle.job_config.proofs.contents_named.paths_in.Given as goal

abbrev pub invariant-loop-index : goal.invariant-loop-index
invariant-loop-index l = PathsGoOn l.file l.list l.index (map string_bytes l.paths.items)
