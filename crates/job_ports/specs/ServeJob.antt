-- The job `serve`: its words, and what it prints.
use Rattle.std.specs.Prelude.{◌≡◌, ℕ, suc, List, [], ◌∷◌, ◌++◌, Option, codes, decimal}
use Rattle.std.specs.Io.KnownBytes.{Appends}
use Rattle.std.specs.List.{flat_map}
use Rattle.clap.specs.Simple.{App}
use Rattle.ports.specs.declared.worker.Report.{Report}
use Rattle.job_config.specs.NodeLines.{node_lines_app}
use Rattle.job_parts.specs.Replies.{reply_line}

-- `serve LINES [--image FILE] [--maps LIST] [--ports N]`, or `serve LINES --node FILE`
abbrev pub serve_app : App
serve_app = node_lines_app (codes "serve")

-- the lines of the replies of a port, in order
abbrev pub port_lines : ℕ → List (List ℕ) → List ℕ
port_lines port replies = flat_map (reply_line port) replies

-- the lines of the replies of some ports, port by port, of which the first has this number
abbrev pub lines_from : (first : ℕ) → List (List (List ℕ)) → List ℕ
lines_from first [] = []
lines_from first (replies ∷ others) = port_lines first replies ++ lines_from (suc first) others

-- the line of how many packets were no command, and how many replies were lost
abbrev pub report_line : Report → List ℕ
report_line report = codes "discarded " ++ decimal report.discarded ++ codes " lost " ++ decimal report.lost ++ 10 ∷ []

-- what was printed after that ends in the line that this many replies were lost
pub record EndsInLost (old new : Option (List ℕ)) (lost : ℕ) : Type 0 where
  pub replies : List ℕ
  pub report : Report
  pub printed : Appends old new (replies ++ report_line report)
  pub is : report.lost ≡ lost
