-- Lines of a table of version 1 that are no rules.
use Rattle.std.specs.Prelude.{◌≡◌, ◌⊎◌, ℕ, false, List, length}
use Rattle.spw.specs.Line.{words_of}
use Rattle.policy_table.specs.Words.{IsFirstBad, LineWords, in_order}
use Rattle.policy_table.specs.declared.statement_faults.StatementFault.{StatementFault}
use Rattle.policy_table.specs.declared.statement_faults.StatementFault.TheVariants.{LineCount, Word}
use Rattle.policy_table.specs.declared.words.RuleWord.{RuleWord}

-- the line has this many words, which are not eight
abbrev pub HasWords : (line : List ℕ) → (words : ℕ) → Type 0
HasWords line words = (words ≡ length (words_of line)) × ¬ (length (words_of line) ≡ 8)

-- the line has eight words, of which this is the first that is none of its field
pub record HasBadWord (line : List ℕ) (word : RuleWord) : Type 0 where
  pub words : LineWords
  pub are : words_of line ≡ in_order words
  pub first : IsFirstBad words word

-- why the line is no rule of version 1
abbrev pub IsNoRule : (line : List ℕ) → StatementFault → Type 0
IsNoRule line fault =
    ((words : ℕ) × (fault ≡ LineCount words) × HasWords line words)
    ⊎ ((word : RuleWord) × (fault ≡ Word word false) × HasBadWord line word)
