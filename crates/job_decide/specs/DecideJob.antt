-- The job `decide`: its words, the node that it decides for, and the lines that it prints.
use Rattle.std.specs.Prelude.{◌≡◌, ◌⊎◌, ℕ, List, [], ◌∷◌, ◌++◌, Option, Some, None, codes, decimal, option_map, string_bytes}
use Rattle.clap.specs.Walk.{Row, first_of}
use Rattle.clap.specs.Simple.{App, new_app, with_rule}
use Rattle.machine.specs.declared.calls.Call.{Call}
use Rattle.policy_table.specs.declared.matching.Match.{Match}
use Rattle.rmap.specs.Codes.{status_code}
use Rattle.rmap.specs.Verdict.{verdict_number}
use Rattle.rmap.specs.Windows.{WindowsValue}
use Rattle.rmap.specs.declared.status.Status.{Status}
use Rattle.node_parts.specs.Nodes.{windows_of}
use Rattle.job_nodes.specs.JobNode.{own_bank}
use Rattle.job_parts.specs.Arguments.{file_rule, option_rule}
use Rattle.job_parts.specs.Options.{GivesPorts, GivesSizes, IsBadCount, IsBadList}
use Rattle.job_parts.specs.declared.usage.UsageFault.{UsageFault}
use Rattle.job_parts.specs.declared.usage.UsageFault.TheVariants.{Parse, BadOption, Memory}
use Rattle.job_decide.specs.Tables.{decision_line_of}
use Rattle.job_decide.specs.declared.decide.DecideWords.{DecideWords}

-- `decide LINES TABLE [--maps LIST] [--ports N]`
abbrev pub decide_app : App
decide_app =
    with_rule
    (with_rule
    (with_rule (with_rule (new_app (codes "decide")) (file_rule (codes "lines"))) (file_rule (codes "table")))
    (option_rule (codes "maps")))
    (option_rule (codes "ports"))

-- the address and the bank of the node of the jobs, by which the header of a command is checked
abbrev pub own_windows : WindowsValue
own_windows = windows_of 254 (own_bank ∷ [])

-- the words are those of decide with these matches
abbrev pub NamesDecide : List Row → DecideWords → Type 0
NamesDecide rows words = (first_of (codes "lines") rows ≡ Some (string_bytes words.lines))
    × (first_of (codes "table") rows ≡ Some (string_bytes words.table))
    × GivesSizes (first_of (codes "maps") rows) words.sizes × GivesPorts (first_of (codes "ports") rows) words.ports
    × (words.windows ≡ own_windows)

-- matches without one of the files, or with a list of maps or a number of ports that is none
abbrev pub SpoilsDecide : List Row → Type 0
SpoilsDecide rows = (first_of (codes "lines") rows ≡ None) ⊎ (first_of (codes "table") rows ≡ None)
    ⊎ IsBadList (first_of (codes "maps") rows) ⊎ IsBadCount (first_of (codes "ports") rows)

-- such matches, or memory was refused
abbrev pub RefusesDecide : List Row → UsageFault → Type 0
RefusesDecide rows Memory = Unit {0}
RefusesDecide rows BadOption = SpoilsDecide rows
RefusesDecide rows (Parse text) = ⊥

-- the port of a packet, and the line of the rule that decides on it
abbrev pub rule_text : (port : ℕ) → Option ℕ → List ℕ
rule_text port None = decimal port ++ codes " no rule"
rule_text port (Some line) = decimal port ++ codes " rule " ++ decimal line

-- the ticket that the rule drew, if it did, to the end of the line
abbrev pub ticket_text : Option Call → List ℕ
ticket_text None = 10 ∷ []
ticket_text (Some call) = codes ", ticket " ++ decimal call.answer ++ codes " of " ++ decimal call.question.map ++ codes ":"
    ++ decimal call.question.key ++ 10 ∷ []

-- the line of a packet on which a table decides; the rules of the table are in these lines
abbrev pub match_line : (port : ℕ) → (lines : List ℕ) → Match → List ℕ
match_line port lines found = rule_text port (option_map (λ number. decision_line_of lines number) found.rule) ++ codes " verdict " ++ decimal (verdict_number found.verdict)
    ++ ticket_text found.ticket

-- the beginning of the line of a packet that a check of its header answers
abbrev pub status_text : (port : ℕ) → Status → List ℕ
status_text port status = decimal port ++ codes " answered " ++ decimal (status_code status) ++ codes ": "
