-- The lines of a policy table: one rule a line, as words between spaces.
use Rattle.std.specs.Prelude.{◌≡◌, ℕ, List, [], ◌∷◌}
use Rattle.spw.specs.Line.{lines_of, words_of}
use Rattle.policy_table.specs.declared.faults.PolicyFault.{PolicyFault}
use Rattle.policy_table.specs.declared.faults.PolicyFault.TheVariants.{TooLong, BadRange, Memory, NoCell, BadLine}
use Rattle.policy_table.specs.declared.rules.Rule.{Rule}
use Rattle.policy_table.specs.Fields.{IsKind, IsField, IsAddress, IsQuota, IsVerdictWord}

-- the line has eight words, each of its field: kind, key, initiator logical address, extended address, first and last
-- address, quota and verdict
pub record IsRule (line : List ℕ) (rule : Rule) : Type 0 where
  pub kind : List ℕ
  pub key : List ℕ
  pub initiator : List ℕ
  pub extended : List ℕ
  pub low : List ℕ
  pub high : List ℕ
  pub quota : List ℕ
  pub verdict : List ℕ
  pub words : words_of line ≡ kind ∷ key ∷ initiator ∷ extended ∷ low ∷ high ∷ quota ∷ verdict ∷ []
  pub is_kind : IsKind kind rule.kind
  pub is_key : IsField key rule.key
  pub is_initiator : IsField initiator rule.initiator
  pub is_extended : IsField extended rule.extended
  pub is_low : IsAddress low rule.low
  pub is_high : IsAddress high rule.high
  pub is_quota : IsQuota quota rule.quota
  pub is_verdict : IsVerdictWord verdict rule.verdict

-- the lines are the rules, one for one
abbrev pub AreRules : List (List ℕ) → List Rule → Type 0
AreRules [] [] = Unit {0}
AreRules [] (rule ∷ rules) = ⊥
AreRules (line ∷ lines) [] = ⊥
AreRules (line ∷ lines) (rule ∷ rules) = IsRule line rule × AreRules lines rules

-- the text is a table of these rules, one a line, in order
abbrev pub IsTable : (text : List ℕ) → List Rule → Type 0
IsTable text rules = AreRules (lines_of text) rules

-- the lines are the rules of no table
abbrev pub AreNoRules : List (List ℕ) → Type 0
AreNoRules lines = (rules : List Rule) → ¬ AreRules lines rules

-- why lines are not read: they are no rules, or memory was refused
abbrev pub IsReadFault : List (List ℕ) → PolicyFault → Type 0
IsReadFault lines TooLong = ⊥
IsReadFault lines BadRange = ⊥
IsReadFault lines Memory = Unit {0}
IsReadFault lines NoCell = ⊥
IsReadFault lines BadLine = AreNoRules lines

-- a text is one table at most
abbrev pub TableIsUnambiguous : Type 0
TableIsUnambiguous =
    (text : List ℕ) (rules others : List Rule) → IsTable text rules → IsTable text others → rules ≡ others
