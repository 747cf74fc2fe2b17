-- Rules of a table that match no command of a node.
use Rattle.std.specs.Prelude.{◌≡◌, ◌<◌, ◌==◌, ◌||◌, ◌+◌, ◌-◌, ◌^◌, ℕ, Bool, MatchBool, true, min, nat_lt, is_some, if◌then◌else◌}
use Rattle.std.specs.Prelude.{List, [], ◌∷◌, ◌++◌, length, slice_get, Option, Some, None}
use Rattle.std.specs.Option.{option_or}
use Rattle.policy_table.specs.declared.port_rules.PortRule.{PortRule}
use Rattle.policy_table.specs.declared.rules.Rule.{Rule}
use Rattle.policy_table.specs.declared.rules.RuleKind.TheVariants.{Any}
use Rattle.rmap.specs.Windows.{WindowsValue}
use Rattle.rmap.specs.declared.boot.TheConstants.{BOOT_WINDOW, LOAD_REGISTER, LOAD_RESULT_SIZE, STAGING_SIZE}
use Rattle.rmap.specs.declared.verdict.Verdict.TheVariants.{Authorised}
use Rattle.charts.specs.Meetings.{Meet, NeverMeet}
use Rattle.chart_lines.specs.Reporting.{PrintsFirst}
use Rattle.job_charts.specs.declared.missed.Missed.{Missed}
use Rattle.job_charts.specs.declared.missed.Missed.TheVariants.{Port, Bank, Range}

-- a rule of all commands to a number of bytes from an address on
abbrev pub window_rule : (extended base size : ℕ) → Rule
window_rule extended base size = record {
  kind = Any;
  key = None;
  initiator = None;
  extended = Some extended;
  low = base;
  high = min (base + (size - 1)) (2 ^ 32 - 1);
  quota = None;
  verdict = Authorised;
}

-- such a rule of the bank of a number, if there is one
abbrev pub bank_rules : (number : ℕ) → Option (ℕ × ℕ) → List Rule
bank_rules number None = []
bank_rules number (Some own) = window_rule number own.0 own.1 ∷ []

-- that of the bank of a number after others
abbrev pub AddsBank : WindowsValue → (number : ℕ) → (before after : List Rule) → Type 0
AddsBank windows number before after = after ≡ before ++ bank_rules number (slice_get windows.banks number)

-- the rules of the boot window: of the staging, and of the load register
abbrev pub boot_rules : List Rule
boot_rules =
    window_rule BOOT_WINDOW 0 STAGING_SIZE ∷ window_rule BOOT_WINDOW LOAD_REGISTER LOAD_RESULT_SIZE ∷ []

-- a rule of all commands to each place of a node: to its banks, and to the boot window
pub record ArePlaces (windows : WindowsValue) (places : List Rule) : Type 0 where
  pub banks : List Rule
  pub are : PrintsFirst (AddsBank windows) 8 [] banks
  pub is : places ≡ banks ++ boot_rules

-- the rule after this many places holds at a command of one of them
pub record MeetsPlace (rules : List Rule) (places : ℕ) : Type 0 where
  pub number : ℕ
  pub below : number < places
  pub meet : Meet number true places rules

-- it holds at no command of the first ones
abbrev pub MissesPlaces : List Rule → (places count : ℕ) → Type 0
MissesPlaces rules places count = (number : ℕ) → number < count → NeverMeet number true places rules

-- whether a rule holds at no command of a node
pub record MeetsNone (windows : WindowsValue) (rule : Rule) (is : Bool) : Type 0 where
  pub places : List Rule
  pub are : ArePlaces windows places
  pub met : MatchBool is (MissesPlaces (places ++ rule ∷ []) (length places) (length places))
      (MeetsPlace (places ++ rule ∷ []) (length places))

-- the port of a rule is one that the node does not have
abbrev pub port_missed : (ports : ℕ) → Option ℕ → Option Missed
port_missed ports None = None
port_missed ports (Some port) = if nat_lt port ports then None else Some (Port port)

-- the extended address of a rule is of no bank, and not of the boot window
abbrev pub bank_missed : WindowsValue → Option ℕ → Option Missed
bank_missed windows None = None
bank_missed windows (Some number) =
    if number == BOOT_WINDOW || is_some (slice_get windows.banks number) then None else Some (Bank number)

-- the rule holds at no command of the node
abbrev pub range_missed : Bool → Option Missed
range_missed missed = if missed then Some Range else None

-- why a rule matches no command of a node with these windows and this number of ports, or that it does
abbrev pub IsMissed : WindowsValue → (ports : ℕ) → PortRule → Option Missed → Type 0
IsMissed windows ports own found =
    (is : Bool) × MeetsNone windows own.rule is
    × (found ≡ option_or (port_missed ports own.port) (option_or (bank_missed windows own.rule.extended) (range_missed is)))
