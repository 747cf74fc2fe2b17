-- The words of the job `why`.
use Rattle.std.specs.Prelude.{codes}
use Rattle.clap.specs.Simple.{App}
use Rattle.job_texts.specs.Images.{maps_app}

-- `why FILE [--maps LIST]`
abbrev pub why_app : App
why_app = maps_app (codes "why")
