-- The job `sim`: its words, and what it prints.
use Rattle.std.specs.Prelude.{ℕ, List, [], ◌∷◌, ◌++◌, codes, decimal}
use Rattle.std.specs.List.{flat_map}
use Rattle.clap.specs.Simple.{App}
use Rattle.rmap.specs.Codes.{discard_code, status_code}
use Rattle.rmap.specs.declared.status.Status.{Status}
use Rattle.sched.specs.declared.event.Outcome.{Outcome}
use Rattle.sched.specs.declared.event.Outcome.TheVariants.{Refused, Discarded, Answered, Taken, Told, Done}
use Rattle.job_config.specs.NodeLines.{node_lines_app}
use Rattle.job_parts.specs.Replies.{reply_text}

-- `sim LINES [--image FILE] [--maps LIST] [--ports N]`, or `sim LINES --node FILE`
abbrev pub sim_app : App
sim_app = node_lines_app (codes "sim")

-- the line of a status with its reply
abbrev pub status_line : (what : List ℕ) → Status → (reply : List ℕ) → List ℕ
status_line what status reply =
    what ++ codes " " ++ decimal (status_code status) ++ codes " " ++ reply_text reply ++ 10 ∷ []

-- the line of what an event comes to
abbrev pub outcome_line : Outcome → List ℕ
outcome_line Refused = codes "refused" ++ 10 ∷ []
outcome_line (Discarded discard) = codes "discard " ++ decimal (discard_code discard) ++ 10 ∷ []
outcome_line (Answered status reply) = status_line (codes "answered") status reply
outcome_line (Taken generation) = codes "taken " ++ decimal generation ++ 10 ∷ []
outcome_line (Told reported) = codes "told " ++ decimal reported ++ 10 ∷ []
outcome_line (Done status reply loaded) = status_line (codes "done") status reply

-- the lines of what events come to, in order
abbrev pub outcome_lines : List Outcome → List ℕ
outcome_lines outcomes = flat_map outcome_line outcomes
