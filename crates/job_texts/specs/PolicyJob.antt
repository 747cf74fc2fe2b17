-- The job `policy`: its words, and what it prints.
use Rattle.std.specs.Prelude.{◌≡◌, ◌⊎◌, ℕ, List, [], ◌∷◌, ◌++◌, Some, None, codes, decimal, length, string_bytes}
use Rattle.clap.specs.Walk.{Row, first_of}
use Rattle.clap.specs.Simple.{App, new_app, with_rule}
use Rattle.bpf.specs.Program.{Program}
use Rattle.job_parts.specs.Arguments.{file_rule, flag_rule, is_flag_set, option_rule}
use Rattle.job_parts.specs.Options.{GivesSizes, IsBadList}
use Rattle.job_texts.specs.declared.policies.PolicyWords.{PolicyWords}
use Rattle.job_parts.specs.declared.usage.UsageFault.{UsageFault}
use Rattle.job_parts.specs.declared.usage.UsageFault.TheVariants.{Parse, BadOption, Memory}

-- `policy FILE OUT [--maps LIST] [--final] [--quiet]`
abbrev pub policy_app : App
policy_app =
    with_rule (with_rule (with_rule (with_rule (with_rule (new_app (codes "policy")) (file_rule (codes "table")))
    (file_rule (codes "image"))) (option_rule (codes "maps"))) (flag_rule (codes "final"))) (flag_rule (codes "quiet"))

-- the words are those of policy with these matches
abbrev pub NamesPolicy : List Row → PolicyWords → Type 0
NamesPolicy rows words = (first_of (codes "table") rows ≡ Some (string_bytes words.table))
    × (first_of (codes "image") rows ≡ Some (string_bytes words.image))
    × GivesSizes (first_of (codes "maps") rows) words.sizes
    × (words.is_final ≡ is_flag_set (codes "final") rows)
    × (words.is_quiet ≡ is_flag_set (codes "quiet") rows)

-- matches without one of the files, or with a list of maps that is none
abbrev pub SpoilsPolicy : List Row → Type 0
SpoilsPolicy rows = (first_of (codes "table") rows ≡ None) ⊎ (first_of (codes "image") rows ≡ None)
    ⊎ IsBadList (first_of (codes "maps") rows)

-- such matches, or memory was refused
abbrev pub RefusesPolicy : List Row → UsageFault → Type 0
RefusesPolicy rows Memory = Unit {0}
RefusesPolicy rows BadOption = SpoilsPolicy rows
RefusesPolicy rows (Parse text) = ⊥

-- the line of a table that was compiled
abbrev pub slots_line : Program → List ℕ
slots_line p = codes "slots " ++ decimal (length p.slots) ++ 10 ∷ []
