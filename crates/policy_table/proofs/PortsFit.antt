-- The numbers of rules with ports fit their fields.
use Rattle.std.specs.Prelude.{All}
use Rattle.std.proofs.Common.{◌<◌, ℕ, suc, List, [], ◌∷◌, Option, Some, None, sym, subst}
use Rattle.std.proofs.lemmas.List.Elements.{All-cons, All-head, All-nil, All-push, All-tail}
use Rattle.spw.specs.Line.{WritesPort}
use Rattle.policy_table.specs.PartialTables.{PartialTableValue, IsStatement, IsStatementOne, IsStatementTwo, LinesWrite, TakesLine, after}
use Rattle.policy_table.specs.Limits.{FitsFields}
use Rattle.policy_table.specs.Ports.{FitsPort, IsPortField, at_every_port, on_lines}
use Rattle.policy_table.specs.Ranges.{RangeText}
use Rattle.policy_table.specs.Statements.{IsPortSuffix, IsRuleLine, statement_words}
use Rattle.policy_table.specs.declared.partial_tables.TableStatement.{TableStatement}
use Rattle.policy_table.specs.declared.partial_tables.TableStatement.TheVariants as says
use Rattle.policy_table.specs.declared.port_rules.PortRule.{PortRule}
use Rattle.policy_table.specs.declared.rules.Rule.{Rule}
use Rattle.policy_table.specs.declared.versions.TableVersion.{TableVersion}
use Rattle.policy_table.specs.declared.versions.TableVersion.TheVariants.{One, Two}
use Rattle.policy_table.proofs.Fitting.{rule_fits, words_fit}

-- rules that are asked at every port
pub lines_fit : (line : ℕ) (rules : List Rule) → All FitsFields rules → All FitsPort (on_lines line rules)
lines_fit line [] fits = All-nil FitsPort
lines_fit line (rule ∷ rules) fits =
    All-cons FitsPort (at_every_port line rule) (on_lines (suc line) rules) (record { rule = All-head FitsFields rule rules fits; port = tt }) (lines_fit (suc line) rules (All-tail FitsFields rule rules fits))

port_fits : (words : List (List ℕ)) (port : Option ℕ) → IsPortSuffix words port → IsPortField port
port_fits words None is = tt
port_fits words (Some port) is =
    let writes : WritesPort is.0 port = is.2 in
    subst (λ (n : ℕ). n < 32) (sym writes.1) writes.0.1

line_fits : (ranges : List RangeText) (words : List (List ℕ)) (own : PortRule) → IsRuleLine ranges words own.rule own.port own.named → FitsPort own
line_fits ranges words own is = record {
  rule = words_fit is.parts.words own.rule is.is_rule;
  port = port_fits is.parts.rest own.port is.is_port;
}

one_fits : (line : ℕ) (text : List ℕ) (own : PortRule) → IsStatementOne line text (says.Rule own) → FitsPort own
one_fits line text own is = record {
  rule = rule_fits text own.rule is.0;
  port = subst (λ (port : Option ℕ). IsPortField port) (sym is.1) tt;
}

two_fits : (ranges : List RangeText) (line : ℕ) (words : List (List ℕ)) (own : PortRule) → IsStatementTwo ranges line words (says.Rule own) → FitsPort own
two_fits ranges line [] own is = absurd is
two_fits ranges line (first ∷ rest) own is = line_fits ranges (first ∷ rest) own is.1.0

own_fits : (version : TableVersion) (ranges : List RangeText) (line : ℕ) (text : List ℕ) (own : PortRule) → IsStatement version ranges line text (says.Rule own) → FitsPort own
own_fits One ranges line text own is = one_fits line text own is
own_fits Two ranges line text own is = two_fits ranges line (statement_words text) own is

-- those of what a line says
pub statement_fits : (version : TableVersion) (ranges : List RangeText) (line : ℕ) (text : List ℕ) (statement : TableStatement) (d : PartialTableValue) → IsStatement version ranges line text statement → All FitsPort d.rules → All FitsPort (after line statement d).rules
statement_fits version ranges line text says.Nothing d is fits = fits
statement_fits version ranges line text (says.Range range reversed) d is fits = fits
statement_fits version ranges line text (says.Rule own) d is fits = All-push FitsPort d.rules own fits (own_fits version ranges line text own is)

line_keeps : (version : TableVersion) (line : ℕ) (text : List ℕ) (old new : PartialTableValue) → TakesLine version line text old new → All FitsPort old.rules → All FitsPort new.rules
line_keeps version line text old new takes fits =
    subst (λ (d : PartialTableValue). All FitsPort d.rules) (sym takes.taken) (statement_fits version old.ranges line text takes.statement old takes.is fits)

-- those of lines
pub partial_table_fits : (version : TableVersion) (line : ℕ) (lines : List (List ℕ)) (old new : PartialTableValue) → LinesWrite version line lines old new → All FitsPort old.rules → All FitsPort new.rules
partial_table_fits version line [] old new writes fits = subst (λ (d : PartialTableValue). All FitsPort d.rules) (sym writes) fits
partial_table_fits version line (text ∷ lines) old new writes fits =
    partial_table_fits version (suc line) lines writes.0 new writes.2 (line_keeps version line text old writes.0 writes.1 fits)
