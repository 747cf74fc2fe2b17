-- The tickets that a run of a table gets, and the least that it may still get.
use Rattle.std.specs.Prelude.{◌≡◌, ◌≤◌, ◌<◌, ◌==◌, ◌&&◌, ◌⊎◌, ◌++◌, ℕ, suc, Bool, max, if◌then◌else◌, List, [], ◌∷◌, All, Option, Some, None}
use Rattle.machine.specs.declared.calls.Call.{Call}
use Rattle.policy_table.specs.Meaning.{draw}
use Rattle.policy_table.specs.declared.rules.Quota.{Quota}
use Rattle.policy_table.specs.declared.rules.Rule.{Rule}

-- if two draws are of one cell, the later gets the greater number
abbrev pub IsTicketBelow : (one later : Call) → Type 0
IsTicketBelow one later =
    one.question.map ≡ later.question.map → one.question.key ≡ later.question.key → one.answer < later.answer

-- the draws of one run get tickets: of two of one cell the later gets the greater. A counter that has given fewer than
-- 2^64 does so
abbrev pub AreTickets : List Call → Type 0
AreTickets [] = Unit {0}
AreTickets (one ∷ draws) = All (IsTicketBelow one) draws × AreTickets draws

-- the draws of one of two runs get tickets
abbrev pub AreTicketsOfOne : (one other : List Call) → Type 0
AreTicketsOfOne one other = AreTickets one ⊎ AreTickets other

-- ---- the least ticket

-- whether a quota is of a cell
abbrev pub is_of : Quota → (map cell : ℕ) → Bool
is_of quota map cell = quota.map == map && quota.cell == cell

-- the least ticket of a cell after a rule that holds and does not match, if it was this one before
abbrev pub raised : Option Quota → (map cell : ℕ) → (least : ℕ) → ℕ
raised None map cell least = least
raised (Some quota) map cell least = if is_of quota map cell then suc (max least quota.limit) else least

-- the same after such rules, in order
abbrev pub least_from : (least : ℕ) → (passed : List Rule) → (map cell : ℕ) → ℕ
least_from least [] map cell = least
least_from least (rule ∷ rules) map cell = least_from (raised rule.quota map cell least) rules map cell

-- the least ticket of a cell after such rules of two tables, which drew of the same cells
abbrev pub least_of : (old new : List Rule) → (map cell : ℕ) → ℕ
least_of old new map cell = max (least_from 0 old map cell) (least_from 0 new map cell)

-- ---- tickets from the least on

-- the answer of a draw is not below the least of its cell
abbrev pub IsFrom : (least : (map cell : ℕ) → ℕ) → Call → Type 0
IsFrom least one = least one.question.map one.question.key ≤ one.answer

-- draws get tickets that are not below the least of their cells
pub record AreTicketsFrom (least : (map cell : ℕ) → ℕ) (draws : List Call) : Type 0 where
  pub from : All (IsFrom least) draws
  pub tickets : AreTickets draws

-- the least ticket of a cell after a draw by a quota
abbrev pub after : (least : (map cell : ℕ) → ℕ) → Quota → (answer : ℕ) → (map cell : ℕ) → ℕ
after least quota answer map cell = if is_of quota map cell then suc answer else least map cell

-- all draws get tickets from the least on just if two things hold. The first is not below the least of its cell, and
-- those after it get tickets from what it leaves on
pub record TicketsFollow : Type 0 where
  pub start : (draws : List Call) → AreTickets draws → AreTicketsFrom (λ map cell. 0) draws
  pub none : (least : (map cell : ℕ) → ℕ) → AreTicketsFrom least []
  pub first : (least : (map cell : ℕ) → ℕ) (quota : Quota) (answer : ℕ) (draws : List Call) → least quota.map quota.cell ≤ answer
      → AreTicketsFrom (after least quota answer) draws → AreTicketsFrom least (draw quota answer ∷ draws)
  pub own : (least : (map cell : ℕ) → ℕ) (quota : Quota) (answer : ℕ) (draws : List Call)
      → AreTicketsFrom least (draw quota answer ∷ draws) → least quota.map quota.cell ≤ answer
  pub rest : (least : (map cell : ℕ) → ℕ) (quota : Quota) (answer : ℕ) (draws : List Call)
      → AreTicketsFrom least (draw quota answer ∷ draws) → AreTicketsFrom (after least quota answer) draws
  pub lower : (less more : (map cell : ℕ) → ℕ) (draws : List Call) → ((map cell : ℕ) → less map cell ≤ more map cell)
      → AreTicketsFrom more draws → AreTicketsFrom less draws
  pub following : (least : ℕ) (rules : List Rule) (rule : Rule) (map cell : ℕ)
      → least_from least (rules ++ rule ∷ []) map cell ≡ raised rule.quota map cell (least_from least rules map cell)
  pub together : (olds news : List Rule) (rule other : Rule) (one two : Quota) → rule.quota ≡ Some one → other.quota ≡ Some two
      → one.map ≡ two.map → one.cell ≡ two.cell → (map cell : ℕ)
      → least_of (olds ++ rule ∷ []) (news ++ other ∷ []) map cell
      ≡ after (least_of olds news) one (max (least_of olds news one.map one.cell) (max one.limit two.limit)) map cell
