-- What seats log: the answers of `count`, of `ticket` and of `peak`, each with its call.
use Rattle.std.specs.Prelude.{ℕ, suc, ◌+◌, ◌-◌, ◌≤◌, ◌≡◌, ◌==◌, ◌&&◌, ◌<◌, All, Bool, true, false, List, [], ◌∷◌}
use Rattle.std.specs.Prelude.{map, filter, sum, take, count_by, cond, nat_lt}
use Rattle.machine.specs.Sizes.{Maps, kind_of_map}
use Rattle.machine.specs.declared.calls.Call.{Call}
use Rattle.machine.specs.declared.helpers.Helper.{Helper}
use Rattle.machine.specs.declared.helpers.Helper.TheVariants as helpers
use Rattle.machine.specs.declared.kinds.MapKind.{MapKind}
use Rattle.machine.specs.Runs.{call}
use Rattle.machine.specs.Step.{question}
use Rattle.cells.specs.declared.logs.Answer.{Answer}

-- the word of a cell: the cells of the maps before its own come first
abbrev pub cell_word_of : Maps → (map key : ℕ) → ℕ
cell_word_of maps map key = sum (take map maps.cells) + key

-- the cell of a word: its map and its key
abbrev pub cell_of : (cells : List ℕ) → (word : ℕ) → ℕ × ℕ
cell_of [] word = (0, word)
cell_of (size ∷ sizes) word =
    cond (nat_lt word size) (0, word) (suc (cell_of sizes (word - size)).0, (cell_of sizes (word - size)).1)

-- the kind of a word: that of its cell's map
abbrev pub kind_of_cell : Maps → (word : ℕ) → MapKind
kind_of_cell maps word = kind_of_map maps (cell_of maps.cells word).0

-- the answer of these parts
abbrev pub answer_of_parts : Helper → (word argument exact reported : ℕ) → Answer
answer_of_parts helper word argument exact reported =
    record { helper = helper; word = word; argument = argument; exact = exact; reported = reported }

-- the call that an answer was given to
abbrev pub call_answered_by : Maps → Answer → Call
call_answered_by maps a =
    call (question a.helper (cell_of maps.cells a.word).0 (cell_of maps.cells a.word).1 a.argument) a.reported

-- the calls that these answers were given to
abbrev pub calls_of : Maps → List Answer → List Call
calls_of maps answers = map (call_answered_by maps) answers

-- ---- cells of counter maps

-- whether a helper draws a ticket
abbrev pub draws_ticket : Helper → Bool
draws_ticket helpers.Count = false
draws_ticket helpers.Ticket = true
draws_ticket helpers.Peak = false

-- how many tickets are drawn from a cell at least, after the answer is given: a ticket is one more
abbrev pub tickets_after : Answer → ℕ
tickets_after a = a.exact + cond (draws_ticket a.helper) 1 0

-- an answer of that cell knew of no more tickets than that many
abbrev pub IsBelowCount : (word drawn : ℕ) → Answer → Type 0
IsBelowCount word drawn a = a.word ≡ word → tickets_after a ≤ drawn

-- whether it is a ticket of that cell
abbrev pub is_ticket : (word : ℕ) → Answer → Bool
is_ticket word a = draws_ticket a.helper && (a.word == word)

-- the numbers of the tickets of a cell
abbrev pub ticket_numbers : (word : ℕ) → List Answer → List ℕ
ticket_numbers word answers = map (λ a. a.exact) (filter (is_ticket word) answers)

-- whether the call drew a ticket of that cell
abbrev pub asks_ticket : (map key : ℕ) → Call → Bool
asks_ticket map key c = draws_ticket c.question.helper && ((c.question.map == map) && (c.question.key == key))

-- the answers of the calls that drew a ticket of a cell
abbrev pub tickets_of : (map key : ℕ) → List Call → List ℕ
tickets_of m key calls = map (λ c. c.answer) (filter (asks_ticket m key) calls)

-- each number below n is in the list once, and no other number is there
abbrev pub AreNumbersBelow : (n : ℕ) → List ℕ → Type 0
AreNumbersBelow n numbers = (number : ℕ) → count_by (λ k. k == number) numbers ≡ cond (nat_lt number n) 1 0

-- ---- cells of peak maps

-- an answer of that cell raised it to no more than that value, and was no more
abbrev pub IsUnder : (word value : ℕ) → Answer → Type 0
IsUnder word value a = a.word ≡ word → (a.argument ≤ value) × (a.reported ≤ value)

-- whether it raised that cell to that number
abbrev pub is_raise : (word value : ℕ) → Answer → Bool
is_raise word value a = (a.word == word) && (a.argument == value)

-- a call that asked that cell raised it to no more than that value, and its answer was no more
abbrev pub IsCallUnder : (map key value : ℕ) → Call → Type 0
IsCallUnder map key value c =
    (c.question.map ≡ map) → (c.question.key ≡ key) → (c.question.argument ≤ value) × (c.answer ≤ value)

-- whether the call raised that cell to that number
abbrev pub asks_raise : (map key value : ℕ) → Call → Bool
asks_raise map key value c =
    ((c.question.map == map) && (c.question.key == key)) && (c.question.argument == value)

-- The number is the greatest argument of the calls that asked a cell, or 0 if there is none. No call of the cell had a
-- greater answer.
pub record IsGreatest (map key value : ℕ) (calls : List Call) : Type 0 where
  pub under : All (IsCallUnder map key value) calls
  pub reached : 0 < value → 0 < count_by (asks_raise map key value) calls
