-- Which programs readers see at a moment of a node's history.
use Rattle.std.specs.Prelude.{ℕ, ◌≡◌, ◌≤◌, List, length, take}
use Rattle.std.specs.List.{sum_by}
use mathlib.Core.List.{IsPrefix}
use Rattle.node_programs.specs.declared.publishes.Publish.{Publish}
use Rattle.annals.specs.declared.deed.Deed.{Deed}
use Rattle.annals.specs.declared.deed.Deed.TheVariants.{Opens, Does, Asks, Shows}
use Rattle.annals.specs.declared.deed.HistoryEntry.{HistoryEntry}
use Rattle.annals.specs.Publishes.{publishes_of}

-- how many programs a deed shows to readers
abbrev pub shows : Deed → ℕ
shows (Opens opening) = 0
shows (Does act) = 0
shows (Asks due) = 0
shows Shows = 1

-- how many programs readers see, in the order in which they were published
abbrev pub shown_in : List HistoryEntry → ℕ
shown_in log = sum_by (λ (l : HistoryEntry). shows l.deed) log

-- the programs that readers see: the first of those that were published
abbrev pub shown_of : List HistoryEntry → List Publish
shown_of log = take (shown_in log) (publishes_of log)

-- at each moment readers saw no more programs than had been published
abbrev pub AreListed : List HistoryEntry → Type 0
AreListed log = (before : List HistoryEntry) → IsPrefix before log → shown_in before ≤ length (publishes_of before)

-- at some moment after what was known, and not after what was reached, readers saw exactly these programs
pub record IsTakenAtMoment (known reached : List HistoryEntry) (programs : List Publish) : Type 0 where
  pub at : List HistoryEntry
  pub after : IsPrefix known at
  pub before : IsPrefix at reached
  pub seen : shown_of at ≡ programs
