-- A port's line of the history of its node's banks, beside its shares of them.
use Rattle.std.specs.Prelude.{◌≡◌, ◌<◌, ℕ, List, [], length, map, slice_index_or}
use Rattle.std.specs.List.{range_with_len}
use mathlib.Core.List.{IsPrefix}
use Rattle.rmap.specs.declared.places.Place.TheVariants.{Bank}
use Rattle.bank.specs.Records.{ShareValue, first_share, numbers_of}
use Rattle.node_parts.specs.Passes.{PassValue}
use Rattle.node_parts.specs.Applied.{share_of}
use Rattle.annals.specs.declared.deed.HistoryEntry.{HistoryEntry}
use Rattle.annals.specs.Chains.{LineValue}
use Rattle.annals.specs.Banks.{IsCountOf, entries_of}

-- The line is the port's, as its shares are. At each bank it asked for the entries that its share counts.
pub record IsLineOf (port : ℕ) (shares : List ShareValue) (line : LineValue) : Type 0 where
  pub line_is : line.port ≡ port
  pub ports : (k : ℕ) → k < length shares → (slice_index_or shares k (first_share port)).port ≡ port
  pub counts : (k : ℕ) → k < length shares → IsCountOf (slice_index_or shares k (first_share port)) k line

-- the lines of that many ports, in which nothing was asked for
abbrev pub fresh_lines : ℕ → List LineValue
fresh_lines ports = map (λ port. record { port = port; asked = [] }) (range_with_len 0 ports)

-- At each bank the port's entries in that history have the numbers from 0 on, each once and in order. All are below the
-- number of its share.
abbrev pub CountsAllOf : PassValue → List HistoryEntry → Type 0
CountsAllOf h log =
    (k : ℕ) → k < length h.shares
    → IsPrefix (numbers_of h.port (entries_of k log)) (range_with_len 0 (share_of h (Bank k)).number)
