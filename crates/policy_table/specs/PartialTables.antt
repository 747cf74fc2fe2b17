-- A table of either version, line by line.
use Rattle.std.specs.Prelude.{◌≡◌, ◌⊎◌, ℕ, suc, Bool, false, if◌then◌else◌, List, [], ◌∷◌, ◌++◌, Option, Some, None}
use Rattle.std.specs.Option.{option_or}
use Rattle.spw.specs.Line.{words_of}
use Rattle.policy_table.specs.Lines.{IsRule}
use Rattle.policy_table.specs.NoRules.{IsNoRule}
use Rattle.policy_table.specs.Ranges.{RangeText, range_text}
use Rattle.policy_table.specs.Refined.{refined}
use Rattle.policy_table.specs.Statements.{IsNoRange, IsNoRuleLine, IsRangeLine, IsRuleLine, statement_words, word_kind}
use Rattle.policy_table.specs.declared.partial_tables.TableStatement.{TableStatement}
use Rattle.policy_table.specs.declared.partial_tables.TableStatement.TheVariants.{Nothing, Range, Rule}
use Rattle.policy_table.specs.declared.port_rules.PortRule.{PortRule}
use Rattle.policy_table.specs.declared.statement_faults.StatementFault.{StatementFault}
use Rattle.policy_table.specs.declared.statement_faults.StatementFault.TheVariants as wrong
use Rattle.policy_table.specs.declared.statements.WordKind.TheVariants as kinds
use Rattle.policy_table.specs.declared.text_faults.TextFault.{TextFault}
use Rattle.policy_table.specs.declared.text_faults.TextFault.TheVariants.{Memory, Line}
use Rattle.policy_table.specs.declared.versions.TableVersion.{TableVersion}
use Rattle.policy_table.specs.declared.versions.TableVersion.TheVariants.{One, Two}

-- what lines said so far: the ranges that have names, the line of the first that ends before it begins, and the rules,
-- in order
pub record PartialTableValue : Type 0 where
  pub ranges : List RangeText
  pub reversed : Option ℕ
  pub rules : List PortRule

-- of these parts
abbrev pub partial_table : List RangeText → Option ℕ → List PortRule → PartialTableValue
partial_table ranges reversed rules = record { ranges = ranges; reversed = reversed; rules = rules }

-- no line
abbrev pub empty_partial_table : PartialTableValue
empty_partial_table = partial_table [] None []

-- ---- what a line says

-- the words are this rule, in the line of this number
abbrev pub IsRuleStatement : List RangeText → (line : ℕ) → (words : List (List ℕ)) → TableStatement → Type 0
IsRuleStatement ranges line words Nothing = ⊥
IsRuleStatement ranges line words (Range range reversed) = ⊥
IsRuleStatement ranges line words (Rule own) =
    IsRuleLine ranges words own.rule own.port own.named × (own.line ≡ line)

-- the words of a line of version 2 say this. No words say nothing, `.range` gives a name to a range, and else they are
-- a rule
abbrev pub IsStatementTwo : List RangeText → (line : ℕ) → (words : List (List ℕ)) → TableStatement → Type 0
IsStatementTwo ranges line [] Nothing = Unit {0}
IsStatementTwo ranges line [] (Range range reversed) = ⊥
IsStatementTwo ranges line [] (Rule own) = ⊥
IsStatementTwo ranges line (first ∷ rest) Nothing = ⊥
IsStatementTwo ranges line (first ∷ rest) (Range range reversed) =
    (word_kind first ≡ kinds.Range) × IsRangeLine ranges rest (range_text range) reversed
IsStatementTwo ranges line (first ∷ rest) (Rule own) =
    (word_kind first ≡ kinds.Rule) × IsRuleStatement ranges line (first ∷ rest) (Rule own)

-- a line of version 1 says this: it is a rule that is asked at every port
abbrev pub IsStatementOne : (line : ℕ) → (text : List ℕ) → TableStatement → Type 0
IsStatementOne line text Nothing = ⊥
IsStatementOne line text (Range range reversed) = ⊥
IsStatementOne line text (Rule own) =
    IsRule text own.rule × (own.port ≡ None) × (own.named ≡ false) × (own.line ≡ line)

-- the line of this number says this in this version, if these ranges have names
abbrev pub IsStatement : TableVersion → List RangeText → (line : ℕ) → (text : List ℕ) → TableStatement → Type 0
IsStatement One ranges line text statement = IsStatementOne line text statement
IsStatement Two ranges line text statement = IsStatementTwo ranges line (statement_words text) statement

-- why the words of a line of version 2 are no statement. They say a version, or an unknown directive. Or they give no
-- name to a range, or are no rule, for this fault
abbrev pub IsBadTwo : List RangeText → (words : List (List ℕ)) → StatementFault → Type 0
IsBadTwo ranges [] fault = ⊥
IsBadTwo ranges (first ∷ rest) fault =
    ((word_kind first ≡ kinds.Version) × (fault ≡ wrong.Version))
    ⊎ (((word_kind first ≡ kinds.Range) × IsNoRange ranges rest fault)
    ⊎ (((word_kind first ≡ kinds.Other) × (fault ≡ wrong.Directive))
    ⊎ ((word_kind first ≡ kinds.Rule) × IsNoRuleLine ranges (first ∷ rest) fault)))

-- why a line is none of this version
abbrev pub IsBad : TableVersion → List RangeText → (text : List ℕ) → StatementFault → Type 0
IsBad One ranges text fault = IsNoRule text fault
IsBad Two ranges text fault = IsBadTwo ranges (statement_words text) fault

-- the words of a line, in version 2 those before its comment
abbrev pub line_words : TableVersion → (text : List ℕ) → List (List ℕ)
line_words One text = words_of text
line_words Two text = statement_words text

-- the fault that is reported of a line that is none of this version
pub record IsNoStatement (version : TableVersion) (ranges : List RangeText) (text : List ℕ) (fault : StatementFault)
    : Type 0 where
  pub bad : StatementFault
  pub is_bad : IsBad version ranges text bad
  pub reported : fault ≡ refined (line_words version text) bad

-- ---- one line

-- the line where the first range ends before it begins
abbrev pub first_reversed : Option ℕ → (reversed : Bool) → (line : ℕ) → Option ℕ
first_reversed earlier reversed line = if reversed then option_or earlier (Some line) else earlier

-- one range more
abbrev pub with_range : (line : ℕ) → RangeText → (reversed : Bool) → PartialTableValue → PartialTableValue
with_range line range reversed d =
    partial_table (d.ranges ++ range ∷ []) (first_reversed d.reversed reversed line) d.rules

-- what was said so far, and what this line says
abbrev pub after : (line : ℕ) → TableStatement → PartialTableValue → PartialTableValue
after line Nothing d = d
after line (Range range reversed) d = with_range line (range_text range) reversed d
after line (Rule own) d = partial_table d.ranges d.reversed (d.rules ++ own ∷ [])

-- the line of this number is taken
pub record TakesLine (version : TableVersion) (line : ℕ) (text : List ℕ) (old new : PartialTableValue) : Type 0 where
  pub statement : TableStatement
  pub is : IsStatement version old.ranges line text statement
  pub taken : new ≡ after line statement old

-- why the line of this number is not taken: it is none of this version, or memory was refused
abbrev pub IsUnreadLine : TableVersion → (line : ℕ) → (text : List ℕ) → PartialTableValue → TextFault → Type 0
IsUnreadLine version line text d Memory = Unit {0}
IsUnreadLine version line text d (Line own fault) = (own ≡ line) × IsNoStatement version d.ranges text fault

-- ---- all lines

-- these lines, of which the first has this number, bring what was said so far to this
abbrev pub LinesWrite : TableVersion → (line : ℕ) → List (List ℕ) → (old new : PartialTableValue) → Type 0
LinesWrite version line [] old new = new ≡ old
LinesWrite version line (text ∷ lines) old new =
    (next : PartialTableValue) × TakesLine version line text old next × LinesWrite version (suc line) lines next new

-- the first of these lines that is not taken has this fault
abbrev pub HasBadLine : TableVersion → (line : ℕ) → List (List ℕ) → PartialTableValue → TextFault → Type 0
HasBadLine version line [] old fault = ⊥
HasBadLine version line (text ∷ lines) old fault =
    IsUnreadLine version line text old fault
    ⊎ ((next : PartialTableValue) × TakesLine version line text old next × HasBadLine version (suc line) lines next fault)
