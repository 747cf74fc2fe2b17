-- Laws of what a worker did.
use Rattle.std.specs.Prelude.{◌≡◌, ◌<◌, ℕ, ◌+◌, ◌==◌, ◌&&◌, Bool, false, List, [], ◌∷◌, ◌++◌, drop, length, filter, MatchBool, Option, None, Some, All}
use Rattle.std.specs.List.{flat_map}
use mathlib.Core.List.{IsPrefix}
use Rattle.machine.specs.declared.calls.Call.{Call}
use Rattle.spw.specs.Cargo.{Cargo}
use Rattle.rmap.specs.declared.places.Place.{Place}
use Rattle.rmap.specs.declared.places.Place.TheVariants.{Bank, Staging, LoadResult, Control}
use Rattle.rmap.specs.Command.{command_of, command_kind}
use Rattle.node_programs.specs.declared.publishes.Publish.{Publish}
use Rattle.node_programs.specs.Published.{judging_program}
use Rattle.node_parts.specs.Slots.{slot_of}
use Rattle.node_parts.specs.Passes.{PassValue}
use Rattle.node_parts.specs.Steps.{IsPacketVerdict}
use Rattle.node_parts.specs.Applied.{share_of}
use Rattle.bank.specs.declared.bank.Applied.{Applied}
use Rattle.bank.specs.Records.{EntryValue, ShareValue, numbered_entry}
use Rattle.annals.specs.declared.deed.HistoryEntry.{HistoryEntry}
use Rattle.annals.specs.Banks.{IsDoneAtBank, entries_by}
use Rattle.annals.specs.Chains.{done_for}
use Rattle.annals.specs.Publishes.{loads_by, loads_in, publishes_of}
use Rattle.annals.specs.Shown.{shown_of}
use Rattle.target.specs.Lines.{CountsAllOf}
use Rattle.ports.specs.Due.{Judging, Deed, Standing, Worked, judgings}

-- The verdict on a command is that of a run, for that port and with its calls. A beginning of those publishes has the
-- program of the run in the command's slot.
pub record IsByPublished (published : List Publish) (port : ℕ) (judging : Judging) : Type 0 where
  pub seen : List Publish
  pub begins : IsPrefix seen published
  pub shown : judging_program seen (slot_of (command_kind (command_of judging.judged.packet)) judging.judged.place)
      ≡ Some (judging.program, judging.judged.generation)
  pub verdict : IsPacketVerdict judging.program port judging.calls judging.judged.packet judging.judged.verdict

-- each verdict is that of a run of a program that was published: one that the port has seen in the end
abbrev pub WorkersProgramsWerePublished : Type 0
WorkersProgramsWerePublished =
    (h after : Standing) (packets : List Cargo) (deeds : List Deed) → Worked h packets deeds after
    → All (IsByPublished after.pass.programs h.pass.port) (judgings deeds)

-- the calls of the runs, in order
abbrev pub calls_of_runs : List Deed → List Call
calls_of_runs deeds = flat_map (λ (judging : Judging). judging.calls) (judgings deeds)

-- a port asked the cells what the runs of its judged commands asked, each run once and in order, and nothing else
abbrev pub WorkersAskOnce : Type 0
WorkersAskOnce =
    (h after : Standing) (packets : List Cargo) (deeds : List Deed) → Worked h packets deeds after
    → after.pass.seat.asked ≡ h.pass.seat.asked ++ calls_of_runs deeds

-- the place is the bank of that number
abbrev pub is_bank_of : ℕ → Place → Bool
is_bank_of k (Bank number) = number == k
is_bank_of k Staging = false
is_bank_of k LoadResult = false
is_bank_of k Control = false

-- the command left an entry at the bank of that number
abbrev pub is_entry_at : ℕ → Judging → Bool
is_entry_at k judging = judging.entered && is_bank_of k judging.judged.place

-- how many commands left an entry at the bank of that number
abbrev pub entry_count_at : ℕ → List Deed → ℕ
entry_count_at k deeds = length (filter (is_entry_at k) (judgings deeds))

-- the number of the port's next command at the bank of that number
abbrev pub next_number_at : PassValue → ℕ → ℕ
next_number_at h k = (share_of h (Bank k)).number

-- each share counts the entries that its port left at its bank, and what a port is stays
pub record SharesCount (h after : PassValue) (deeds : List Deed) : Type 0 where
  pub numbers : (k : ℕ) → k < length h.shares → next_number_at after k ≡ next_number_at h k + entry_count_at k deeds
  pub count : length after.shares ≡ length h.shares
  pub port : after.port ≡ h.port
  pub windows : after.windows ≡ h.windows
  pub sizes : after.seat.sizes ≡ h.seat.sizes
  pub home : after.seat.home ≡ h.seat.home

-- the shares of a port grew by the entries that its commands left
abbrev pub WorkersSharesCount : Type 0
WorkersSharesCount =
    (h after : Standing) (packets : List Cargo) (deeds : List Deed) → Worked h packets deeds after
    → SharesCount h.pass after.pass deeds

-- At one moment after what was known, and not after what was reached, readers saw in the command's slot the program
-- that judged it. So that program was then the last of its slot.
pub record IsByShown (known reached : List HistoryEntry) (judging : Judging) : Type 0 where
  pub at : List HistoryEntry
  pub after : IsPrefix known at
  pub before : IsPrefix at reached
  pub shown : judging_program (shown_of at) (slot_of (command_kind (command_of judging.judged.packet)) judging.judged.place)
      ≡ Some (judging.program, judging.judged.generation)

-- The command was done at a bank. It is the last of a history that goes on from what its port knew. Status and reply
-- are the definition's on the replay of what is before it there. Before it comes the publish of the program that judged
-- it. Readers saw that program as the last of its slot at a moment after what its port knew.
pub record HasEntered (port : ℕ) (known reached : List HistoryEntry) (judging : Judging) : Type 0 where
  pub bank : ℕ
  pub share : ShareValue
  pub result : Applied
  pub done : IsDoneAtBank bank known reached share judging.judged result judging.reply
  pub by : IsByPublished (publishes_of done.last.before) port judging
  pub moment : IsByShown known done.last.before judging

-- The entries of a port are in the history in the order of its packets, each after all that the port knew then. From
-- what left no entry the port may know more.
abbrev pub EntriesFollow : (port : ℕ) (known : List HistoryEntry) → List Judging → (reached : List HistoryEntry) → Type 0
EntriesFollow port known [] reached = IsPrefix known reached
EntriesFollow port known (judging ∷ judgings) reached =
    MatchBool judging.entered
    ((between : List HistoryEntry) × HasEntered port known between judging × EntriesFollow port between judgings reached)
    (EntriesFollow port known judgings reached)

-- The entry is that of the command, which is the one of that number of its port at its bank. It is in the history with
-- the status of the command's answer there.
pub record IsEntryOf (port : ℕ) (log : List HistoryEntry) (number : ℕ) (judging : Judging) (entry : EntryValue) : Type 0 where
  pub known : List HistoryEntry
  pub reached : List HistoryEntry
  pub entered : HasEntered port known reached judging
  pub stands : IsPrefix reached log
  pub entry_is : entry ≡ numbered_entry number judging.judged entered.result.status

-- the entries are those of the commands, in order and each once, numbered from that number on
abbrev pub AreEntriesOf : (port : ℕ) → (log : List HistoryEntry) → ℕ → List Judging → List EntryValue → Type 0
AreEntriesOf port log number [] [] = Unit {0}
AreEntriesOf port log number [] (entry ∷ entries) = ⊥
AreEntriesOf port log number (judging ∷ judgings) [] = ⊥
AreEntriesOf port log number (judging ∷ judgings) (entry ∷ entries) =
    IsEntryOf port log number judging entry × AreEntriesOf port log (number + 1) judgings entries

-- At each bank, the entries of the port in that history are those that its share counted at first, and then those of
-- its commands. Each command that left one there has one, in order and each once.
abbrev pub AreAllEntries : List HistoryEntry → PassValue → List Deed → Type 0
AreAllEntries log h deeds =
    (k : ℕ) → k < length h.shares
    → AreEntriesOf h.port log (next_number_at h k) (filter (is_entry_at k) (judgings deeds))
    (drop (next_number_at h k) (entries_by h.port k log))

-- Let a history go on from what a worker knows in the end, with only those entries of its port that the shares count.
-- Then the entries of the port in it are those that `AreAllEntries` gives.
abbrev pub WorkersEntriesAreAll : Type 0
WorkersEntriesAreAll =
    (h after : Standing) (packets : List Cargo) (deeds : List Deed) (log : List HistoryEntry) → Worked h packets deeds after
    → IsPrefix after.front log → CountsAllOf after.pass log → AreAllEntries log h.pass deeds

-- Each command of a worker that left an entry is in the history that its port knows in the end, in order. It has the
-- status and the reply of the definition on what is before it there. It comes after the publish of the program by which
-- it was judged.
abbrev pub WorkersEntriesFollow : Type 0
WorkersEntriesFollow =
    (h after : Standing) (packets : List Cargo) (deeds : List Deed) → Worked h packets deeds after
    → EntriesFollow h.pass.port h.front (judgings deeds) after.front

-- what a command published, if it did, before those
abbrev pub with_loaded : Option Publish → List Publish → List Publish
with_loaded None publishes = publishes
with_loaded (Some publish) publishes = publish ∷ publishes

-- what the commands published, in order
abbrev pub publishes_of_commands : List Judging → List Publish
publishes_of_commands [] = []
publishes_of_commands (judging ∷ judgings) = with_loaded judging.loaded (publishes_of_commands judgings)

-- The publishes of the port in that history are those that it had asked for at first, and then those of its commands
-- that published. The latter are in order and each once.
abbrev pub AreAllPublishes : List HistoryEntry → Standing → List Deed → Type 0
AreAllPublishes log h deeds = loads_by h.pass.port log ≡ loads_in h.asked ++ publishes_of_commands (judgings deeds)

-- If a history has of a port what it asked for, and nothing else, its publishes of the port are those that
-- `AreAllPublishes` gives.
abbrev pub WorkersPublishesAreAll : Type 0
WorkersPublishesAreAll =
    (h after : Standing) (packets : List Cargo) (deeds : List Deed) (log : List HistoryEntry) → Worked h packets deeds after
    → done_for after.pass.port log ≡ after.asked → AreAllPublishes log h deeds
