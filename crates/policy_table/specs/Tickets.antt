-- What a table draws, of whatever its tickets are drawn.
use Rattle.std.specs.Prelude.{ℕ, if◌then◌else◌, List, [], ◌∷◌, slice_index, drop, Option, Some, None}
use Rattle.machine.specs.declared.calls.Call.{Call}
use Rattle.machine.specs.Memory.{Header}
use Rattle.policy_table.specs.Meaning.{holds}
use Rattle.policy_table.specs.declared.rules.Quota.{Quota}
use Rattle.policy_table.specs.declared.rules.Rule.{Rule}

-- what is left of tickets after some draws, if `after` is what is left after one of a cell
abbrev pub tickets_left : {Tickets : Type 0} → (after : Tickets → (map cell : ℕ) → Tickets) → Tickets → List Call → Tickets
tickets_left {Tickets} after tickets [] = tickets
tickets_left {Tickets} after tickets (c ∷ cs) = tickets_left after (after tickets c.question.map c.question.key) cs

-- if `next` is the next ticket of a cell, and `after` is what is left after it
module _ {Tickets : Type 0} (next : Tickets → (map cell : ℕ) → ℕ) (after : Tickets → (map cell : ℕ) → Tickets) where
  -- the ticket of a rule whose conditions hold, before those of the rest
  abbrev pub ticket_before : Option Quota → Tickets → (rest : Tickets → List ℕ) → List ℕ
  ticket_before None tickets rest = []
  ticket_before (Some quota) tickets rest =
      next tickets quota.map quota.cell ∷ rest (after tickets quota.map quota.cell)

  -- the tickets that rules are given, in order, as long as none of them matches
  abbrev pub tickets_given : List Rule → Header → Tickets → List ℕ
  tickets_given [] header tickets = []
  tickets_given (rule ∷ rules) header tickets =
      if holds rule header
      then ticket_before rule.quota tickets (λ left. tickets_given rules header left)
      else tickets_given rules header tickets

-- ---- answers in order

-- the next of some answers, whatever the cell; 0 if none is left
abbrev pub next_answer : List ℕ → (map cell : ℕ) → ℕ
next_answer answers map cell = slice_index answers 0

-- the answers after it
abbrev pub answers_after : List ℕ → (map cell : ℕ) → List ℕ
answers_after answers map cell = drop 1 answers
