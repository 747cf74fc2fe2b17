-- How many tickets were drawn of each cell of a node, and what a table draws there.
use Rattle.std.specs.Prelude.{ℕ, ◌+◌, ◌*◌, ◌%◌, ◌^◌, nat_lt, if◌then◌else◌, List, slice_index, slice_set, Option}
use Rattle.std.specs.Prelude.{Some, None}
use Rattle.machine.specs.declared.calls.Call.{Call}
use Rattle.machine.specs.Memory.{Header}
use Rattle.policy_table.specs.Meaning.{answers_in_turn}
use Rattle.policy_table.specs.Tickets.{tickets_left, tickets_given}
use Rattle.policy_table.specs.declared.rules.Rule.{Rule}

-- the place of a cell among the counts; no map has a cell from 256 on
abbrev pub cell_place : (map cell : ℕ) → Option ℕ
cell_place map cell = if nat_lt cell 256 then Some (map * 256 + cell) else None

-- the count at a place, and 0 if there is none
abbrev pub count_at : List ℕ → Option ℕ → ℕ
count_at counts None = 0
count_at counts (Some place) = slice_index counts place

-- one more at a place, modulo 2^64; no more if there is none
abbrev pub one_more_at : List ℕ → Option ℕ → List ℕ
one_more_at counts None = counts
one_more_at counts (Some place) = slice_set counts place ((slice_index counts place + 1) % 2 ^ 64)

-- how many tickets of a cell were drawn, which is the number of the next. Of a cell that no node has it is always 0
abbrev pub drawn_of : List ℕ → (map cell : ℕ) → ℕ
drawn_of counts map cell = count_at counts (cell_place map cell)

-- the counts after one ticket of a cell was drawn
abbrev pub after_draw : List ℕ → (map cell : ℕ) → List ℕ
after_draw counts map cell = one_more_at counts (cell_place map cell)

-- the counts after some draws
abbrev pub after_draws : List ℕ → List Call → List ℕ
after_draws counts calls = tickets_left after_draw counts calls

-- the answers of the counts to the draws of a table
abbrev pub reported_on : List ℕ → List Rule → Header → ℕ → ℕ
reported_on counts rules header = answers_in_turn (tickets_given drawn_of after_draw rules header counts)
