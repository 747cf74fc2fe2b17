-- What a seat has, and what the owner of the cells has.
use Rattle.std.specs.Prelude.{ℕ, ◌≡◌, ◌+◌, ◌%◌, ◌^◌, ◌<◌, List, [], ◌∷◌, ◌++◌, All, length, sum}
use base.Stored.{Gv}
use Rattle.atomic_table.specs.Seated.{TableId}
use Rattle.atomic_table.specs.declared.shared.Seat.{Seat}
use Rattle.machine.specs.Sizes.{Maps, AreSizes, kind_of_map}
use Rattle.machine.specs.declared.calls.Call.{Call}
use Rattle.machine.specs.declared.helpers.Helper.{Helper}
use Rattle.machine.specs.declared.kinds.MapKind.TheVariants.{Counter}
use Rattle.machine.specs.Runs.{call}
use Rattle.machine.specs.Step.{question}
use Rattle.cells.specs.declared.logs.Answer.{Answer}
use Rattle.cells.specs.declared.logs.SeatLog.{SeatLog}
use Rattle.cells.specs.Logs.{calls_of, tickets_of, cell_word_of, kind_of_cell, AreNumbersBelow, IsGreatest}
use Rattle.cells.specs.Counting.{IsWordAnswered}

-- a seat: the maps, the name of its table, and its answers
pub record CellSeatValue : Type 0 where
  pub sizes : Maps
  pub home : Gv
  pub answers : List Answer

-- a seat of that table, for those maps, with those answers
abbrev pub seat : Maps → Gv → List Answer → CellSeatValue
seat sizes home answers = record { sizes = sizes; home = home; answers = answers }

-- The cells: the maps, the name of their table, and the answers of the seats that came back. They also have how many of
-- the 256 parts are not with seats.
pub record CellsValue : Type 0 where
  pub sizes : Maps
  pub home : Gv
  pub parts : ℕ
  pub answers : List Answer

-- the cells of that table, for those maps, with that many parts and those answers
abbrev pub cells : Maps → Gv → ℕ → List Answer → CellsValue
cells sizes home parts answers = record { sizes = sizes; home = home; parts = parts; answers = answers }

-- the seat is one of these cells
pub record IsSeatOf (it : CellsValue) (s : CellSeatValue) : Type 0 where
  pub sizes : s.sizes ≡ it.sizes
  pub home : s.home ≡ it.home

-- every seat came back
abbrev pub AreSeatsBack : CellsValue → Type 0
AreSeatsBack it = it.parts ≡ 256

-- the calls of a seat
abbrev pub calls : CellSeatValue → List Call
calls s = calls_of s.sizes s.answers

-- the seat asked once more: a helper answered it, as the rule of the words says
pub record Asks (helper : Helper) (map key argument : ℕ) (before : CellSeatValue) (answer : ℕ) (after : CellSeatValue) :
    Type 0
  where
    pub asked : calls after ≡ calls before ++ call (question helper map key argument) answer ∷ []
    pub sizes : after.sizes ≡ before.sizes
    pub home : after.home ≡ before.home
    pub answered : IsWordAnswered (kind_of_map before.sizes map) helper (cell_word_of before.sizes map key) argument
        before.answers
        answer
        after.answers

-- the cells after that seat came back
abbrev pub cells_with : CellsValue → CellSeatValue → CellsValue
cells_with it s = cells it.sizes it.home (it.parts + 1) (it.answers ++ s.answers)

-- the calls of the seats that came back
abbrev pub calls_back : CellsValue → List Call
calls_back it = calls_of it.sizes it.answers

-- if fewer than 2^64 tickets of a cell came back, they are the numbers below n, each once
abbrev pub AreNumbered : CellsValue → (map key n : ℕ) → Type 0
AreNumbered it map key n =
    let ticket_numbers = tickets_of map key (calls_back it) in length ticket_numbers < 2 ^ 64 → AreNumbersBelow n ticket_numbers

-- the number is the greatest argument of the calls that came back and asked a cell, or 0 if there is none
abbrev pub IsHighest : CellsValue → (map key n : ℕ) → Type 0
IsHighest it map key n = IsGreatest map key n (calls_back it)

-- The answer is of one of these cells. If the cell counts, the answer is its number modulo 2^64.
abbrev pub IsOf : Maps → Answer → Type 0
IsOf maps a = (a.word < sum maps.cells) × (kind_of_cell maps a.word ≡ Counter → a.reported ≡ a.exact % 2 ^ 64)

-- Each answer is of one of the cells. If the cell counts, the answer is its number modulo 2^64.
abbrev pub AreOf : Maps → List Answer → Type 0
AreOf maps answers = All (IsOf maps) answers

-- The place is in a table of these cells, which has one word more. It has no slots, and its answers are of these cells.
pub record IsSeatPlaced (maps about : Maps) (table : TableId) (place : Seat (Unit {0}) SeatLog) : Type 0 where
  pub limits : AreSizes maps
  pub key : about ≡ maps
  pub words : table.words ≡ sum maps.cells + 1
  pub home : place.table_id ≡ table
  pub slots : place.me.1 ≡ []
  pub log : place.me.0.maps ≡ maps
  pub answers : AreOf maps place.me.0.answers
