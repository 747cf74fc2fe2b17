-- What the fields of a rule hold.
use Rattle.std.specs.Prelude.{◌≤◌, ◌<◌, ◌^◌, ℕ, Option, Some, None}
use Rattle.policy_table.specs.declared.rules.Quota.{Quota}
use Rattle.policy_table.specs.declared.rules.Rule.{Rule}

-- a field of a rule is a byte, if there is one
abbrev pub IsByteField : Option ℕ → Type 0
IsByteField None = Unit {0}
IsByteField (Some byte) = byte < 256

-- the numbers of a quota fit their fields, and its limit is one that an immediate has
abbrev pub IsLimited : Option Quota → Type 0
IsLimited None = Unit {0}
IsLimited (Some quota) = (quota.map < 256) × (quota.cell < 65536) × (quota.limit ≤ 2147483647)

-- the numbers of a rule fit their fields
pub record FitsFields (rule : Rule) : Type 0 where
  pub key : IsByteField rule.key
  pub initiator : IsByteField rule.initiator
  pub extended : IsByteField rule.extended
  pub low : rule.low < 2 ^ 32
  pub high : rule.high < 2 ^ 32
  pub quota : IsLimited rule.quota
