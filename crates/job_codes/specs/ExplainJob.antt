-- The job `explain`: its words, and what it prints.
use Rattle.std.specs.Prelude.{◌≡◌, ℕ, List, Option, Some, None, IfSome, codes, option_map, string_bytes}
use Rattle.clap.specs.Walk.{Row, first_of}
use Rattle.clap.specs.Simple.{App, new_app, with_rule}
use Rattle.job_parts.specs.Arguments.{optional_rule}
use Rattle.job_parts.specs.Printed.{GivesReason, PrintsMore}
use Rattle.job_codes.specs.Topics.{IsCode}
use Rattle.job_codes.specs.declared.explain.ExplainWords.{ExplainWords}
use Rattle.job_parts.specs.declared.usage.UsageFault.{UsageFault}
use Rattle.job_parts.specs.declared.usage.UsageFault.TheVariants.{Parse, BadOption, Memory}

-- `explain [CODE]`
abbrev pub explain_app : App
explain_app = with_rule (new_app (codes "explain")) (optional_rule (codes "code"))

-- the words are those of explain with these matches: what is given is a code
abbrev pub NamesExplain : List Row → ExplainWords → Type 0
NamesExplain rows words = (first_of (codes "code") rows ≡ option_map string_bytes words.code)
    × IfSome (first_of (codes "code") rows) IsCode

-- the matches have a text that is no code
abbrev pub IsBadCode : Option (List ℕ) → Type 0
IsBadCode None = ⊥
IsBadCode (Some text) = ¬ IsCode text

-- matches with a text that is no code
abbrev pub SpoilsExplain : List Row → Type 0
SpoilsExplain rows = IsBadCode (first_of (codes "code") rows)

-- such matches, or memory was refused
abbrev pub RefusesExplain : List Row → UsageFault → Type 0
RefusesExplain rows Memory = Unit {0}
RefusesExplain rows BadOption = SpoilsExplain rows
RefusesExplain rows (Parse text) = ⊥

-- some lines were printed, and after them what is to be said of a code, four columns further right. Which text that is
-- has no clause
pub record Explains (old new : Option (List ℕ)) : Type 0 where
  pub reported : Option (List ℕ)
  pub head : PrintsMore old reported
  pub advice : GivesReason reported new
