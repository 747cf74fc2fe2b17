-- The rule of the words, and what the steps on them report.
use Rattle.std.specs.Prelude.{ℕ, ◌≡◌, ◌+◌, ◌%◌, ◌^◌, ◌≤◌, ◌<◌, List, [], ◌∷◌, ◌++◌, All, length, sum, sum_by}
use Rattle.std.specs.Prelude.{count_by, max, slice_index}
use mathlib.Core.Option.{some}
use lib.ListN.{get_elem?}
use Rattle.atomic_table.specs.Table.{State, Step, Me}
use Rattle.machine.specs.Sizes.{Maps}
use Rattle.machine.specs.declared.helpers.Helper.{Helper}
use Rattle.machine.specs.declared.helpers.Helper.TheVariants as helpers
use Rattle.machine.specs.declared.kinds.MapKind.{MapKind}
use Rattle.machine.specs.declared.kinds.MapKind.TheVariants.{Counter, Peak}
use Rattle.cells.specs.declared.logs.Answer.{Answer}
use Rattle.cells.specs.declared.logs.SeatLog.{SeatLog}
use Rattle.cells.specs.Logs.{answer_of_parts, ticket_numbers, kind_of_cell, is_raise, IsBelowCount, IsUnder, AreNumbersBelow}

-- the log of these maps, parts and answers
abbrev pub seat_log : Maps → ℕ → List Answer → SeatLog
seat_log maps parts answers = record { maps = maps; parts = parts; answers = answers }

-- a log of no maps, without parts
abbrev pub spent_log : SeatLog
spent_log = seat_log (record { cells = []; kinds = [] }) 0 []

-- the answers of all logs
abbrev pub all_answers : List SeatLog → List Answer
all_answers [] = []
all_answers (log ∷ logs) = log.answers ++ all_answers logs

-- The tickets among the answers are numbered from 0, each number once. The word is how many there are, modulo 2^64. No
-- answer knew of more.
pub record IsTicketCounted (word value : ℕ) (answers : List Answer) : Type 0 where
  pub counts : value ≡ length (ticket_numbers word answers) % 2 ^ 64
  pub each_once : AreNumbersBelow (length (ticket_numbers word answers)) (ticket_numbers word answers)
  pub following : All (IsBelowCount word (length (ticket_numbers word answers))) answers

-- The word is the greatest argument of the answers of its cell, or 0 if there is none. No answer was more.
pub record IsPeak (word value : ℕ) (answers : List Answer) : Type 0 where
  pub under : All (IsUnder word value) answers
  pub reached : 0 < value → 0 < count_by (is_raise word value) answers

-- what a word is to the answers, by its kind
abbrev pub IsWordOf : MapKind → (word value : ℕ) → List Answer → Type 0
IsWordOf Counter word value answers = IsTicketCounted word value answers
IsWordOf Peak word value answers = IsPeak word value answers

-- The rule. Each word of a counter map counts the tickets of its cell. Each word of a peak map is the peak of its cell.
-- There is one word more than there are cells. The logs have 256 parts together, and a log without parts has no
-- answers.
pub record IsCellTable (maps : Maps) (table : State (Unit {0}) SeatLog) : Type 0 where
  pub words : length table.words ≡ sum maps.cells + 1
  pub parts : sum_by (λ log. log.parts) table.views ≡ 256
  pub idle : (seat : ℕ) (log : SeatLog) → get_elem? table.views seat ≡ some log → log.parts ≡ 0 → log.answers ≡ []
  pub cells : (word : ℕ) → word < length table.words
      → IsWordOf (kind_of_cell maps word) word (slice_index table.words word) (all_answers table.views)

-- One answer more of a word of a counter map, which knew of all tickets of which those before it knew. How many tickets
-- it knew of is some number here. After every seat came back, the rule of the words binds it.
pub record IsCountAnswered (helper : Helper) (word argument : ℕ) (before : List Answer) (answer : ℕ)
    (after : List Answer) : Type 0
  where
    pub exact : ℕ
    pub wraps : answer ≡ exact % 2 ^ 64
    pub rising : All (IsBelowCount word exact) before
    pub answers : after ≡ before ++ answer_of_parts helper word argument exact answer ∷ []

-- One answer more of a word of a peak map. It answers at least its argument, and at least what the answers before it
-- raised the word to and answered.
pub record IsPeakAnswered (helper : Helper) (word argument : ℕ) (before : List Answer) (answer : ℕ)
    (after : List Answer) : Type 0
  where
    pub raised : argument ≤ answer
    pub rising : All (IsUnder word answer) before
    pub answers : after ≡ before ++ answer_of_parts helper word argument answer answer ∷ []

-- one answer more of a word, by its kind
abbrev pub IsWordAnswered : MapKind → (helper : Helper) (word argument : ℕ) → (before : List Answer) → (answer : ℕ)
    → (after : List Answer)
    → Type 0
IsWordAnswered Counter helper word argument before answer after = IsCountAnswered helper word argument before answer after
IsWordAnswered Peak helper word argument before answer after = IsPeakAnswered helper word argument before answer after

-- a step that logs one answer more, with that argument
pub record LogsAnswer (helper : Helper) (argument answer : ℕ) (s : Step (Unit {0}))
    (before after : Me (Unit {0}) SeatLog) : Type 0
  where
    pub answered : IsWordAnswered (kind_of_cell before.0.maps s.word) helper s.word argument before.0.answers answer
        after.0.answers
    pub maps : after.0.maps ≡ before.0.maps
    pub parts : after.0.parts ≡ before.0.parts
    pub slots : after.1 ≡ before.1

-- a step that answers what it found
abbrev pub AnswersFound : Helper → Step (Unit {0}) → Me (Unit {0}) SeatLog → (found : ℕ) → Me (Unit {0}) SeatLog
    → Type 0
AnswersFound helper s before found after = LogsAnswer helper 0 found s before after

-- a step that raises the word, and answers the greater of what it found and its argument
abbrev pub RaisesWord : Step (Unit {0}) → Me (Unit {0}) SeatLog → (found : ℕ) → Me (Unit {0}) SeatLog → Type 0
RaisesWord s before found after = LogsAnswer helpers.Peak s.first (max found s.first) s before after

-- a step that logs nothing, and reports to whoever has all parts how many tickets were drawn
pub record ReportsTickets (s : Step (Unit {0})) (before : Me (Unit {0}) SeatLog) (found : ℕ) (after : Me (Unit {0}) SeatLog) :
    Type 0
  where
    pub same : after ≡ before
    pub counted : before.0.parts ≡ 256 → IsTicketCounted s.word found before.0.answers

-- a step that logs nothing, and reports to whoever has all parts what the word was raised to
pub record ReportsPeak (s : Step (Unit {0})) (before : Me (Unit {0}) SeatLog) (found : ℕ) (after : Me (Unit {0}) SeatLog)
    : Type
    0 where
  pub same : after ≡ before
  pub above : All (IsUnder s.word found) before.0.answers
  pub peak : before.0.parts ≡ 256 → IsPeak s.word found before.0.answers
