-- The job `judge`: its words, and what it prints.
use Rattle.std.specs.Prelude.{ℕ, List, [], ◌∷◌, ◌++◌, codes, decimal}
use Rattle.clap.specs.Simple.{App}
use Rattle.rmap.specs.Codes.{discard_code}
use Rattle.rmap.specs.declared.discard.Discard.{Discard}
use Rattle.job_config.specs.NodeLines.{node_lines_app}

-- `judge LINES [--image FILE] [--maps LIST] [--ports N]`, or `judge LINES --node FILE`
abbrev pub judge_app : App
judge_app = node_lines_app (codes "judge")

-- the line of a packet that is discarded
abbrev pub discard_line : ℕ → Discard → List ℕ
discard_line port discard = decimal port ++ codes " discard " ++ decimal (discard_code discard) ++ 10 ∷ []
