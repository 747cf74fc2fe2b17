-- The rules of a table that never match, and why.
use Rattle.std.specs.Prelude.{◌≡◌, ◌⊎◌, ◌==◌, ◌<◌, ℕ, suc, All, Bool, MatchBool, false, true, if◌then◌else◌, List, [], ◌∷◌, ◌++◌, Option, Some, None, get_or, length, take}
use Rattle.charts.specs.Deciders.{Matches, NeverMatches}
use Rattle.charts.specs.Meetings.{Meet, NeverMeet}
use Rattle.charts.specs.Tickets.{is_of}
use Rattle.policy_table.specs.Policies.{PolicyValue}
use Rattle.policy_table.specs.PortTables.{is_named}
use Rattle.policy_table.specs.declared.port_rules.PortRule.{PortRule}
use Rattle.policy_table.specs.declared.rules.Quota.{Quota}
use Rattle.chart_lines.specs.AskedTables.{AskedValue, asked_at}
use Rattle.chart_lines.specs.Ports.{AtPort}
use Rattle.chart_lines.specs.Reporting.{PrintsFirst}
use Rattle.chart_lines.specs.declared.never.Fate.{Fate}
use Rattle.chart_lines.specs.declared.never.Fate.TheVariants.{Matching, AskedRules, Stopped, Met}
use Rattle.chart_lines.specs.declared.never.Note.{Note}
use Rattle.chart_lines.specs.declared.never.Reason.{Reason}
use Rattle.chart_lines.specs.declared.never.Reason.TheVariants.{NoTicket, Drawn, Before}

-- ---- a rule at the ports at which it is asked

-- the place of the first number that is this one, if the first of all has that place
abbrev pub place_from : (place : ℕ) → (line : ℕ) → List ℕ → Option ℕ
place_from place line [] = None
place_from place line (own ∷ lines) = if own == line then Some place else place_from (suc place) line lines

-- the place of the rule of a line, from 0 on, if it is asked
abbrev pub asked_place_of : (line : ℕ) → List ℕ → Option ℕ
asked_place_of line lines = place_from 0 line lines

-- there is a place, and this holds there
abbrev pub SomePlace : (holds : ℕ → Type 0) → Option ℕ → Type 0
SomePlace holds None = ⊥
SomePlace holds (Some place) = holds place

-- if there is a place, this holds there
abbrev pub AnyPlace : (holds : ℕ → Type 0) → Option ℕ → Type 0
AnyPlace holds None = Unit {0}
AnyPlace holds (Some place) = holds place

-- this holds of the rule of a line at a port:
-- - `Matching`: it decides on some command
-- - `AskedRules`: it is asked at some point
-- - `Stopped stop`: it holds at some point at which the rule of line `stop` is the first without quota
-- - `Met other`: it holds at some point at which the rule of line `other` is asked
abbrev pub IsFate : Fate → AskedValue → (line : ℕ) → Type 0
IsFate Matching at line = SomePlace (Matches at.rules) (asked_place_of line at.lines)
IsFate AskedRules at line = SomePlace (λ place. Meet place false place at.rules) (asked_place_of line at.lines)
IsFate (Stopped stop) at line =
    SomePlace (λ place. SomePlace (λ first. Meet first true place at.rules) (asked_place_of stop at.lines)) (asked_place_of line at.lines)
IsFate (Met other) at line =
    SomePlace (λ place. SomePlace (λ asked. Meet asked false place at.rules) (asked_place_of other at.lines)) (asked_place_of line at.lines)

-- it is not so
abbrev pub IsNoFate : Fate → AskedValue → (line : ℕ) → Type 0
IsNoFate Matching at line = AnyPlace (NeverMatches at.rules) (asked_place_of line at.lines)
IsNoFate AskedRules at line = AnyPlace (λ place. NeverMeet place false place at.rules) (asked_place_of line at.lines)
IsNoFate (Stopped stop) at line =
    AnyPlace (λ place. AnyPlace (λ first. NeverMeet first true place at.rules) (asked_place_of stop at.lines)) (asked_place_of line at.lines)
IsNoFate (Met other) at line =
    AnyPlace (λ place. AnyPlace (λ asked. NeverMeet asked false place at.rules) (asked_place_of other at.lines)) (asked_place_of line at.lines)

-- the tables of those of this many ports that have charts
abbrev pub AreTables : PolicyValue → (count : ℕ) → (tables : List AskedValue) → Type 0
AreTables policy count tables =
    PrintsFirst (AtPort (λ port. is_named port policy.rules) (λ port before after. after ≡ before ++ asked_at policy port ∷ [])) count [] tables

-- whether it is so at the port of a place
abbrev pub IsFateAt : Fate → (tables : List AskedValue) → (place line : ℕ) → (is : Bool) → Type 0
IsFateAt fate tables place line is =
    (d : AskedValue) → MatchBool is (IsFate fate (get_or tables place d) line) (IsNoFate fate (get_or tables place d) line)

-- at some of these ports it is so
pub record IsSomewhere (fate : Fate) (tables : List AskedValue) (line : ℕ) : Type 0 where
  pub place : ℕ
  pub there : place < length tables
  pub is : (d : AskedValue) → IsFate fate (get_or tables place d) line

-- at none of them it is so
abbrev pub IsNowhere : Fate → (tables : List AskedValue) → (line : ℕ) → Type 0
IsNowhere fate tables line = All (λ at. IsNoFate fate at line) tables

-- ---- reasons

-- the line of a rule after others, if it is the first without quota at some point at which the rule of a line holds
abbrev pub AddsStop : (tables : List AskedValue) → (line : ℕ) → (stop : ℕ) → (before after : List ℕ) → Type 0
AddsStop tables line stop before after =
    (IsSomewhere (Stopped stop) tables line × (after ≡ before ++ stop ∷ []))
    ⊎ (IsNowhere (Stopped stop) tables line × (after ≡ before))

-- the same for the line of the rule of a place
pub record AddsStopAt (tables : List AskedValue) (line : ℕ) (rules : List PortRule) (place : ℕ) (before after : List ℕ) : Type 0 where
  pub rule : PortRule
  pub own : (d : PortRule) → get_or rules place d ≡ rule
  pub adds : AddsStop tables line rule.line before after

-- whether a rule has a quota whose limit is 0
abbrev pub has_no_ticket : Option Quota → Bool
has_no_ticket None = false
has_no_ticket (Some quota) = quota.limit == 0

-- whether both have a quota, of one cell
abbrev pub share_cell : Option Quota → Option Quota → Bool
share_cell None other = false
share_cell (Some quota) None = false
share_cell (Some quota) (Some other) = is_of quota other.map other.cell

-- a rule draws of the cell of another, at some point at which that holds
abbrev pub IsDraw : (tables : List AskedValue) → (rule draw : PortRule) → Type 0
IsDraw tables rule draw =
    (share_cell draw.rule.quota rule.rule.quota ≡ true) × IsSomewhere (Met draw.line) tables rule.line

-- it does so at no such point
abbrev pub IsNoDraw : (tables : List AskedValue) → (rule draw : PortRule) → Type 0
IsNoDraw tables rule draw =
    (share_cell draw.rule.quota rule.rule.quota ≡ false) ⊎ IsNowhere (Met draw.line) tables rule.line

-- the line of a rule after others, if it draws of the cell of another at some point at which that holds
abbrev pub AddsDraw : (tables : List AskedValue) → (rule draw : PortRule) → (before after : List ℕ) → Type 0
AddsDraw tables rule draw before after =
    (IsDraw tables rule draw × (after ≡ before ++ draw.line ∷ [])) ⊎ (IsNoDraw tables rule draw × (after ≡ before))

-- the same for the line of the rule of a place
pub record AddsDrawAt (tables : List AskedValue) (rule : PortRule) (rules : List PortRule) (place : ℕ) (before after : List ℕ) : Type 0 where
  pub draw : PortRule
  pub own : (d : PortRule) → get_or rules place d ≡ draw
  pub adds : AddsDraw tables rule draw before after

-- why a rule never matches:
-- - it is asked, and its limit is 0
-- - it is asked, and these rules before it draw of its cell and leave no ticket
-- - it is never asked, and these rules before it are first without quota where it holds
abbrev pub IsReason : (tables : List AskedValue) → (before : List PortRule) → PortRule → Reason → Type 0
IsReason tables before rule NoTicket = IsSomewhere AskedRules tables rule.line × (has_no_ticket rule.rule.quota ≡ true)
IsReason tables before rule (Drawn lines) =
    IsSomewhere AskedRules tables rule.line × (has_no_ticket rule.rule.quota ≡ false)
    × PrintsFirst (AddsDrawAt tables rule before) (length before) [] lines.items
IsReason tables before rule (Before lines) =
    IsNowhere AskedRules tables rule.line × PrintsFirst (AddsStopAt tables rule.line before) (length before) [] lines.items

-- the rule of a place never matches, and that was noted with the reason
pub record Notes (tables : List AskedValue) (rules : List PortRule) (place : ℕ) (rule : PortRule) (before after : List Note) : Type 0 where
  pub never : IsNowhere Matching tables rule.line
  pub reason : Reason
  pub is_reason : IsReason tables (take place rules) rule reason
  pub note : after ≡ before ++ record { line = rule.line; reason = reason } ∷ []

-- the rule of a place matches at some port, and nothing was noted of it; or it was noted that it never does
pub record IsNotedAt (tables : List AskedValue) (rules : List PortRule) (place : ℕ) (before after : List Note) : Type 0 where
  pub rule : PortRule
  pub own : (d : PortRule) → get_or rules place d ≡ rule
  pub noted : (IsSomewhere Matching tables rule.line × (after ≡ before)) ⊎ Notes tables rules place rule before after

-- each rule of a table that matches at no port was noted
pub record AreNotes (policy : PolicyValue) (notes : List Note) : Type 0 where
  pub tables : List AskedValue
  pub are_tables : AreTables policy 32 tables
  pub noted : PrintsFirst (IsNotedAt tables policy.rules) (length policy.rules) [] notes
