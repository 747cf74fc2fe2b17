-- The steps of a seat that is in a table of the cells.
use Rattle.std.proofs.Common.{◌≡◌, ℕ, ◌+◌, ◌-◌, ◌%◌, ◌^◌, ◌<◌, List, [], ◌++◌, max, refl, sym, ap, ◌∙◌, subst, arith}
use Rattle.std.specs.Prelude.{sum}
use Rattle.std.proofs.lemmas.List.Elements.{All-append, All-push}
use mathlib.Core.Option.{none}
use Rattle.atomic_table.specs.Table.{Me, Step, step, Allows, Splits, Joins}
use Rattle.atomic_table.specs.Seated.{TableId, table_id_coded}
use Rattle.machine.specs.Sizes.{Maps, IsInside, kind_of_map}
use Rattle.machine.specs.declared.kinds.MapKind.{MapKind}
use Rattle.machine.specs.declared.kinds.MapKind.TheVariants.{Counter, Peak}
use Rattle.atomic_table.specs.declared.shared.Seat.{Seat}
use Rattle.machine.specs.declared.helpers.Helper.{Helper}
use Rattle.machine.specs.declared.helpers.Helper.TheVariants as helpers
use Rattle.cells.specs.declared.logs.Answer.{Answer}
use Rattle.cells.specs.declared.logs.SeatLog.{SeatLog}
use Rattle.cells.specs.Logs.{answer_of_parts, cell_word_of, kind_of_cell}
use Rattle.cells.specs.Counting.{seat_log, spent_log, IsWordAnswered, IsCellTable, LogsAnswer, AnswersFound, RaisesWord, ReportsTickets, ReportsPeak}
use Rattle.cells.specs.Seats.{CellSeatValue, seat, Asks, IsOf, AreOf, IsSeatPlaced}
use Rattle.cells.proofs.CellsOfWords.{asked, has_answered, kind_there}
use Rattle.cells.proofs.Steps.{counts, draws_one, raises, reports, reports_peak, splits, joins}

abbrev Place : Type 0
Place = Seat (Unit {0}) SeatLog

-- what a seat is whose place that is
abbrev seat_at : Maps → Place → CellSeatValue
seat_at maps place = seat maps (table_id_coded.code place.table_id) place.me.0.answers

module _ (maps about : Maps) (z : TableId) (place : Place) (h : IsSeatPlaced maps about z place) where
  -- a step that the rule for the seat's maps allows is one that the table allows
  allowed : (word : ℕ) (more : ℕ → ℕ) (after : ℕ → Me (Unit {0}) SeatLog → Type 0) → word < sum maps.cells
      → Allows (IsCellTable place.me.0.maps) z.slots place.id place.me word more after
      → (place.table_id ≡ z) × (word < z.words) × Allows (IsCellTable about) z.slots place.id place.me word more after
  allowed word more after below step = (
    h.home,
    (let long = h.words in omega arith),
    subst (λ (k : Maps). Allows (IsCellTable k) z.slots place.id place.me word more after) (h.log ∙ sym h.key) step,
  )

  -- a word of the seat's maps, and its kind, by the maps of its log
  below_log : (word : ℕ) → word < sum maps.cells → word < sum place.me.0.maps.cells
  below_log word below = subst (λ (k : Maps). word < sum k.cells) (sym h.log) below

  kind_log : (m key word : ℕ) (kind : MapKind) → IsInside maps m key → word ≡ cell_word_of maps m key → kind_of_map maps m ≡ kind → kind_of_cell place.me.0.maps word ≡ kind
  kind_log m key word kind inside here is =
      ap (λ (k : Maps). kind_of_cell k word) h.log ∙ ap (kind_of_cell maps) here ∙ kind_there maps m key inside ∙ is

  kind_about : (m key word : ℕ) (kind : MapKind) → IsInside maps m key → word ≡ cell_word_of maps m key → kind_of_map maps m ≡ kind → kind_of_cell about word ≡ kind
  kind_about m key word kind inside here is =
      ap (λ (k : Maps). kind_of_cell k word) h.key ∙ ap (kind_of_cell maps) here ∙ kind_there maps m key inside ∙ is

  pub counts_at : (word : ℕ) → 0 < place.me.0.parts → word < sum maps.cells
      → (place.table_id ≡ z) × (word < z.words) × Allows (IsCellTable about) z.slots place.id place.me word (λ n. n) (AnswersFound helpers.Count (step z.slots word 0 0 none) place.me)
  counts_at word part below =
      allowed word (λ n. n) (AnswersFound helpers.Count (step z.slots word 0 0 none) place.me) below (counts z.slots place.id word place.me part (below_log word below))

  pub draws_one_at : (m key word : ℕ) → IsInside maps m key → word ≡ cell_word_of maps m key → kind_of_map maps m ≡ Counter → 0 < place.me.0.parts → word < sum maps.cells
      → (place.table_id ≡ z) × (word < z.words) × Allows (IsCellTable about) z.slots place.id place.me word (λ n. (n + 1) % 2 ^ 64) (AnswersFound helpers.Ticket (step z.slots word 1 0 none) place.me)
  draws_one_at m key word inside here is part below =
      allowed word (λ n. (n + 1) % 2 ^ 64) (AnswersFound helpers.Ticket (step z.slots word 1 0 none) place.me) below
      (draws_one z.slots place.id word place.me (kind_log m key word Counter inside here is) part (below_log word below))

  pub raises_at : (m key word value : ℕ) → IsInside maps m key → word ≡ cell_word_of maps m key → kind_of_map maps m ≡ Peak → 0 < place.me.0.parts → word < sum maps.cells
      → (place.table_id ≡ z) × (word < z.words) × Allows (IsCellTable about) z.slots place.id place.me word (λ n. max n value) (RaisesWord (step z.slots word value 0 none) place.me)
  raises_at m key word value inside here is part below =
      allowed word (λ n. max n value) (RaisesWord (step z.slots word value 0 none) place.me) below
      (raises z.slots place.id word value place.me (kind_log m key word Peak inside here is) part (below_log word below))

  -- the same of a look
  looked : (word : ℕ) (after : ℕ → Me (Unit {0}) SeatLog → Type 0) → word < sum maps.cells
      → (word < sum about.cells → Allows (IsCellTable about) z.slots place.id place.me word (λ n. n) after)
      → (place.table_id ≡ z) × (word < z.words) × Allows (IsCellTable about) z.slots place.id place.me word (λ n. n) after
  looked word after below step = (h.home, (let long = h.words in omega arith), step (subst (λ (k : Maps). word < sum k.cells) (sym h.key) below))

  pub reports_at : (m key word : ℕ) → IsInside maps m key → word ≡ cell_word_of maps m key → kind_of_map maps m ≡ Counter → word < sum maps.cells
      → (place.table_id ≡ z) × (word < z.words) × Allows (IsCellTable about) z.slots place.id place.me word (λ n. n) (ReportsTickets (step z.slots word 0 0 none) place.me)
  reports_at m key word inside here is below =
      looked word (ReportsTickets (step z.slots word 0 0 none) place.me) below (reports about z.slots place.id word place.me (kind_about m key word Counter inside here is))

  pub reports_peak_at : (m key word : ℕ) → IsInside maps m key → word ≡ cell_word_of maps m key → kind_of_map maps m ≡ Peak → word < sum maps.cells
      → (place.table_id ≡ z) × (word < z.words) × Allows (IsCellTable about) z.slots place.id place.me word (λ n. n) (ReportsPeak (step z.slots word 0 0 none) place.me)
  reports_peak_at m key word inside here is below =
      looked word (ReportsPeak (step z.slots word 0 0 none) place.me) below (reports_peak about z.slots place.id word place.me (kind_about m key word Peak inside here is))

  pub joins_at : (other : Place) → other.table_id ≡ z → other.me.1 ≡ []
      → (place.table_id ≡ z) × (other.table_id ≡ z) × (other.me.1 ≡ []) × (0 < z.words)
      × Joins (IsCellTable about) place.id place.me.0 other.id other.me.0 (seat_log place.me.0.maps (place.me.0.parts + other.me.0.parts) (place.me.0.answers ++ other.me.0.answers)) spent_log
  joins_at other home slots = (h.home, home, slots, (let more = h.words in omega arith), joins about place.id place.me.0 other.id other.me.0)

  pub splits_at : place.me.0.answers ≡ [] → 0 < place.me.0.parts
      → (place.table_id ≡ z) × (0 < z.words) × Splits (IsCellTable about) place.id place.me.0 (seat_log place.me.0.maps (place.me.0.parts - 1) place.me.0.answers) (seat_log place.me.0.maps 1 [])
  splits_at fresh part = (h.home, (let more = h.words in omega arith), splits about place.id place.me.0 fresh part)

  -- a seat that was answered is where it was
  pub placed_after : (helper : Helper) (argument answer : ℕ) (s : Step (Unit {0})) (after : Place) → s.word < sum maps.cells → after.table_id ≡ place.table_id → LogsAnswer helper argument answer s place.me after.me → IsSeatPlaced maps about z after
  placed_after helper argument answer s after below home a =
      let d = has_answered (kind_of_cell place.me.0.maps s.word) helper s.word argument place.me.0.answers answer after.me.0.answers a.answered in record {
        limits = h.limits;
        key = h.key;
        words = h.words;
        home = home ∙ h.home;
        slots = a.slots ∙ h.slots;
        log = a.maps ∙ h.log;
        answers = subst (AreOf maps) (sym d.answers)
            (All-push (IsOf maps) place.me.0.answers (answer_of_parts helper s.word argument d.exact answer) h.answers (below, λ is. d.wraps (ap (λ (k : Maps). kind_of_cell k s.word) h.log ∙ is)));
      }

  -- a seat that another was joined to is where it was
  pub placed_joined : (after : Place) (answers : List Answer) → after.table_id ≡ place.table_id → after.me.1 ≡ place.me.1 → after.me.0.maps ≡ place.me.0.maps → after.me.0.answers ≡ place.me.0.answers ++ answers → AreOf maps answers → IsSeatPlaced maps about z after
  placed_joined after answers home slots same joined others = record {
    limits = h.limits;
    key = h.key;
    words = h.words;
    home = home ∙ h.home;
    slots = slots ∙ h.slots;
    log = same ∙ h.log;
    answers = subst (AreOf maps) (sym joined) (All-append (IsOf maps) place.me.0.answers answers h.answers others);
  }

  -- a seat that was answered from the word of a cell asked that cell once more
  pub asks_after : (m key : ℕ) (helper : Helper) (argument answer : ℕ) (s : Step (Unit {0})) (after : Place) → IsInside maps m key → s.word ≡ cell_word_of maps m key → after.table_id ≡ place.table_id
      → LogsAnswer helper argument answer s place.me after.me → Asks helper m key argument (seat_at maps place) answer (seat_at maps after)
  asks_after m key helper argument answer s after inside here home a =
      let kind : kind_of_cell place.me.0.maps s.word ≡ kind_of_map maps m = kind_log m key s.word (kind_of_map maps m) inside here refl in
      let by_kind = subst (λ (k : MapKind). IsWordAnswered k helper s.word argument place.me.0.answers answer after.me.0.answers) kind a.answered in
      let given = subst (λ (word : ℕ). IsWordAnswered (kind_of_map maps m) helper word argument place.me.0.answers answer after.me.0.answers) here by_kind in record {
        asked = asked maps m key (kind_of_map maps m) helper argument answer place.me.0.answers after.me.0.answers inside (has_answered (kind_of_map maps m) helper (cell_word_of maps m key) argument place.me.0.answers answer after.me.0.answers given);
        sizes = refl;
        home = ap table_id_coded.code home;
        answered = given;
      }
