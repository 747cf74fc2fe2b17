-- Which entries of a node's journals are not whole, and the sum of its sizes.
use Rattle.std.specs.Prelude.{◌+◌, ℕ, Bool, false, true, List, [], ◌∷◌, length, Option, None, Some, slice_get}
use Rattle.std.specs.Option.{option_map}
use Rattle.bank.specs.Records.{BankValue, EntryValue, is_whole}
use Rattle.machine.specs.Sizes.{Maps}
use Rattle.node_parts.specs.Passes.{PassValue}
use Rattle.node_programs.specs.Published.{sizes_of}
use Rattle.scrub.specs.declared.damage.BrokenBits.{BrokenBits}
use Rattle.single_node.specs.Nodes.{SingleNodeValue}
use Rattle.sums.specs.Sums.{after_word}

-- ---- journals

-- the first place of an entry that is not whole, of one that may be, and of those after it
abbrev pub place_with : (whole : Bool) → (following : Option ℕ) → Option ℕ
place_with false following = Some 0
place_with true following = option_map (λ place. place + 1) following

-- the place of the first entry of a list that is not whole, if one is not
abbrev pub broken_place : List EntryValue → Option ℕ
broken_place [] = None
broken_place (e ∷ es) = place_with (is_whole e) (broken_place es)

-- the same of the journal of a bank, if there is that bank
abbrev pub broken_in : Option BankValue → Option ℕ
broken_in None = None
broken_in (Some b) = broken_place b.journal.entries

-- the bit of a bank if it has such a place, else 0
abbrev pub broken_bit : (place : Option ℕ) → (bit : ℕ) → ℕ
broken_bit None bit = 0
broken_bit (Some place) bit = bit

-- the first place, if there is one, else the next
abbrev pub first_place_of : (first next : Option ℕ) → Option ℕ
first_place_of None next = next
first_place_of (Some place) next = Some place

-- no entry that is not whole
abbrev pub no_broken : BrokenBits
no_broken = record { banks = 0; first = None }

-- the result with one more bank, of that bit
abbrev pub with_broken_bank : BrokenBits → Option BankValue → (bit : ℕ) → BrokenBits
with_broken_bank reported bank bit = record {
  banks = reported.banks + broken_bit (broken_in bank) bit;
  first = first_place_of reported.first (broken_in bank);
}

-- the result for the first four banks
abbrev pub broken_low : List BankValue → BrokenBits
broken_low banks =
    with_broken_bank (with_broken_bank (with_broken_bank (with_broken_bank no_broken
    (slice_get banks 0) 1) (slice_get banks 1) 2) (slice_get banks 2) 4) (slice_get banks 3) 8

-- The result for the banks, of which there are at most eight. It has a bit for each bank with an entry that is not
-- whole. It also has the place of the first one of the first such bank.
abbrev pub broken_of : List BankValue → BrokenBits
broken_of banks =
    with_broken_bank (with_broken_bank (with_broken_bank (with_broken_bank (broken_low banks)
    (slice_get banks 4) 16) (slice_get banks 5) 32) (slice_get banks 6) 64) (slice_get banks 7) 128

-- ---- sizes

-- the sum after the range of a bank, if there is that bank
abbrev pub after_range : (sum : ℕ) → Option BankValue → ℕ
after_range sum None = sum
after_range sum (Some b) = after_word (after_word sum b.first) (length b.bytes)

-- the sum after the ranges of the banks, of which there are at most eight
abbrev pub after_ranges : (sum : ℕ) → List BankValue → ℕ
after_ranges sum banks =
    after_range (after_range (after_range (after_range
    (after_range (after_range (after_range (after_range sum
    (slice_get banks 0)) (slice_get banks 1)) (slice_get banks 2)) (slice_get banks 3))
    (slice_get banks 4)) (slice_get banks 5)) (slice_get banks 6)) (slice_get banks 7)

-- the sum after the range of a bank by the windows of a node, if they have that bank
abbrev pub sum_after_place : (sum : ℕ) → Option (ℕ × ℕ) → ℕ
sum_after_place sum None = sum
sum_after_place sum (Some place) = after_word (after_word sum place.0) place.1

-- the sum after the ranges of all banks by them
abbrev pub after_places : (sum : ℕ) → List (ℕ × ℕ) → ℕ
after_places sum places =
    sum_after_place (sum_after_place (sum_after_place (sum_after_place
    (sum_after_place (sum_after_place (sum_after_place (sum_after_place sum
    (slice_get places 0)) (slice_get places 1)) (slice_get places 2)) (slice_get places 3))
    (slice_get places 4)) (slice_get places 5)) (slice_get places 6)) (slice_get places 7)

-- The sum after the windows under which the ports serve, if there is a port. They are the node's address, and the
-- ranges of the banks.
abbrev pub after_windows : (sum : ℕ) → Option PassValue → ℕ
after_windows sum None = sum
after_windows sum (Some h) = after_places (after_word sum h.windows.node_address) h.windows.banks

-- the sum after the cells of a map, if there is that map
abbrev pub after_cells : (sum : ℕ) → Option ℕ → ℕ
after_cells sum None = sum
after_cells sum (Some cells) = after_word sum cells

-- the sum after the cells of the maps, of which there are at most eight
abbrev pub after_maps : (sum : ℕ) → Maps → ℕ
after_maps sum sizes =
    after_cells (after_cells (after_cells (after_cells
    (after_cells (after_cells (after_cells (after_cells sum
    (slice_get sizes.cells 0)) (slice_get sizes.cells 1)) (slice_get sizes.cells 2)) (slice_get sizes.cells 3))
    (slice_get sizes.cells 4)) (slice_get sizes.cells 5)) (slice_get sizes.cells 6)) (slice_get sizes.cells 7)

-- the sum of a node's sizes at its opening: its ports and banks, its address, the ranges of its windows and banks, and its cells
abbrev pub sizes_sum : SingleNodeValue → ℕ
sizes_sum node =
    after_maps
    (after_ranges
    (after_windows (after_word (after_word 0 (length node.passes)) (length node.banks)) (slice_get node.passes 0))
    node.banks)
    (sizes_of node.programs)
