-- The commands of which a chart is asked: those that meet the words of a rule, and at which port they come in.
use Rattle.std.specs.Prelude.{◌≡◌, ◌≤◌, ◌==◌, ◌&&◌, ℕ, Bool, false, true, is_none, List, [], ◌∷◌, Option, Some, None, codes}
use Rattle.std.specs.List.{slice_split}
use Rattle.clap.specs.Walk.{Row, first_of}
use Rattle.clap.specs.Simple.{App, with_rule}
use Rattle.policy_table.specs.Fields.{IsKind}
use Rattle.policy_table.specs.declared.rules.RuleKind.{RuleKind}
use Rattle.policy_table.specs.declared.rules.RuleKind.TheVariants as kind
use Rattle.charts.specs.Points.{holds_at}
use Rattle.regions.specs.Points.{HasCommand}
use Rattle.regions.specs.Regions.{lies_in}
use Rattle.regions.specs.declared.points.Point.{Point}
use Rattle.regions.specs.declared.regions.PointRegion.{PointRegion}
use Rattle.spw.specs.Line.{WritesPort}
use Rattle.job_packets.specs.HexWords.{Has, WritesHexWord}
use Rattle.job_parts.specs.Arguments.{option_rule}
use Rattle.job_charts.specs.declared.asking.ChartScope.{ChartScope}

-- an app, and after it `[--kind KIND] [--key HH] [--initiator HH] [--extended HH] [--address RANGE] [--port N]`
abbrev pub with_asking : App → App
with_asking app =
    with_rule
    (with_rule
    (with_rule
    (with_rule (with_rule (with_rule app (option_rule (codes "kind"))) (option_rule (codes "key")))
    (option_rule (codes "initiator"))) (option_rule (codes "extended"))) (option_rule (codes "address")))
    (option_rule (codes "port"))

-- the kind that the option's value writes; any without the option
abbrev pub GivesKind : Option (List ℕ) → RuleKind → Type 0
GivesKind None own = own ≡ kind.Any
GivesKind (Some word) own = IsKind word own

-- the byte that the option's value writes, if it is there
abbrev pub GivesByte : Option (List ℕ) → Option ℕ → Type 0
GivesByte None byte = byte ≡ None
GivesByte (Some word) None = ⊥
GivesByte (Some word) (Some byte) = WritesHexWord 2 word byte

-- the parts of a word between its hyphens (45)
abbrev pub dash_parts : List ℕ → List (List ℕ)
dash_parts word = slice_split (λ code. code == 45) word

-- the first and the last address that one word or two write
abbrev pub AreAddresses : List (List ℕ) → (low high : ℕ) → Type 0
AreAddresses [] low high = ⊥
AreAddresses (one ∷ []) low high = WritesHexWord 8 one low × (high ≡ low)
AreAddresses (one ∷ other ∷ []) low high = WritesHexWord 8 one low × WritesHexWord 8 other high × (low ≤ high)
AreAddresses (one ∷ other ∷ more ∷ rest) low high = ⊥

-- words write some
abbrev pub HasAddresses : List (List ℕ) → Type 0
HasAddresses words = (low : ℕ) × (high : ℕ) × AreAddresses words low high

-- the first and the last address of the option's value; all addresses without the option
abbrev pub GivesAddresses : Option (List ℕ) → (low high : ℕ) → Type 0
GivesAddresses None low high = (low ≡ 0) × (high ≡ 4294967295)
GivesAddresses (Some word) low high = AreAddresses (dash_parts word) low high

-- the port that the option's value writes, if it is there
abbrev pub GivesOwnPort : Option (List ℕ) → Option ℕ → Type 0
GivesOwnPort None port = port ≡ None
GivesOwnPort (Some word) None = ⊥
GivesOwnPort (Some word) (Some port) = WritesPort word port

-- the commands that are asked of are those of these matches
pub record GivesAsking (rows : List Row) (asking : ChartScope) : Type 0 where
  pub kind : GivesKind (first_of (codes "kind") rows) asking.rule.kind
  pub key : GivesByte (first_of (codes "key") rows) asking.rule.key
  pub initiator : GivesByte (first_of (codes "initiator") rows) asking.rule.initiator
  pub extended : GivesByte (first_of (codes "extended") rows) asking.rule.extended
  pub addresses : GivesAddresses (first_of (codes "address") rows) asking.rule.low asking.rule.high
  pub port : GivesOwnPort (first_of (codes "port") rows) asking.port

-- matches that do not say which commands are asked of
abbrev pub SpoilsAsking : List Row → Type 0
SpoilsAsking rows = ¬ Has (GivesAsking rows)

-- whether a kind is any
abbrev pub is_any : RuleKind → Bool
is_any kind.Read = false
is_any kind.Write = false
is_any kind.Rmw = false
is_any kind.Any = true

-- whether all commands are asked of
abbrev pub is_all : ChartScope → Bool
is_all asking =
    is_none asking.port && is_any asking.rule.kind && is_none asking.rule.key && is_none asking.rule.initiator
    && is_none asking.rule.extended && asking.rule.low == 0 && asking.rule.high == 4294967295

-- a region has just the points of these commands
abbrev pub IsAskedRegion : ChartScope → PointRegion → Type 0
IsAskedRegion asking region = (p : Point) → HasCommand p → lies_in region p ≡ holds_at asking.rule p
