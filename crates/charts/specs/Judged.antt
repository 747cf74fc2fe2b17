-- The commands that a node brings to its table are among those about which the question is asked.
use Rattle.std.specs.Prelude.{◌≡◌, ◌≤◌, ◌<◌, ◌+◌, ◌^◌, ℕ, true, List, All, None}
use Rattle.machine.specs.Memory.{header}
use Rattle.rmap.specs.Checks.{header_line}
use Rattle.rmap.specs.Command.{CommandValue, IsHeader}
use Rattle.rmap.specs.Windows.{WindowsValue}
use Rattle.regions.specs.Regions.{lies_in}
use Rattle.regions.specs.declared.regions.PointRegion.{PointRegion}
use Rattle.charts.specs.Points.{header_point_of}
use Rattle.charts.specs.Same.{AreSame, MayBeJudged}
use Rattle.charts.specs.Tickets.{AreTicketsOfOne}
use Rattle.policy_table.specs.Meaning.{decision}
use Rattle.policy_table.specs.declared.rules.Rule.{Rule}

-- the bank does not go past the last address of 32 bits
abbrev pub EndsInTime : ℕ × ℕ → Type 0
EndsInTime bank = bank.0 + bank.1 ≤ 2 ^ 32

-- the command's bytes are bytes
pub record HasBytesAlone (c : CommandValue) : Type 0 where
  pub front : All (λ b. b < 256) c.front
  pub tail : All (λ b. b < 256) c.tail

-- if no check of its header stops a command, the question is asked of it
abbrev pub JudgedMayBe : Type 0
JudgedMayBe =
    (c : CommandValue) (w : WindowsValue) → IsHeader c → HasBytesAlone c → All EndsInTime w.banks → header_line c w ≡ None
    → MayBeJudged (header c.front c.tail)

-- two tables are the same for a region, and a command has its point there. Then each node decides it alike under both,
-- whatever tickets one of them gets
abbrev pub NodesDecideAlike : Type 0
NodesDecideAlike =
    (asked : PointRegion) (old new : List Rule) → AreSame asked old new → (c : CommandValue) (w : WindowsValue) → IsHeader c → HasBytesAlone c → All EndsInTime w.banks
    → header_line c w ≡ None → lies_in asked (header_point_of (header c.front c.tail)) ≡ true → (reported : ℕ → ℕ)
    → AreTicketsOfOne (decision old (header c.front c.tail) reported).0 (decision new (header c.front c.tail) reported).0
    → decision old (header c.front c.tail) reported ≡ decision new (header c.front c.tail) reported
