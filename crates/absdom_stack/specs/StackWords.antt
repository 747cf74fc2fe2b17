-- What is known of the numbers that the stack holds: a range for each word. Word k is the bytes 8k to 8k + 7 of the
-- stack (a choice of this project).
use Rattle.std.specs.Prelude.{◌≡◌, ℕ, suc, ◌+◌, ◌*◌, ◌%◌, Bool, ◌&&◌, ◌-◌, ◌/◌, ◌==◌, nat_le, if◌then◌else◌, List, [], ◌∷◌}
use Rattle.std.specs.Prelude.{length, replicate, slice_index_or, slice_set}
use Rattle.bpf_parts.specs.declared.operation.Width.TheVariants.{Bits64}
use Rattle.absdom_num.specs.declared.ranges.Range.{Range}
use Rattle.absdom_num.specs.Ranges.{IsRange, IsWithin, joined_ranges}
use Rattle.absdom_num.specs.Tables.{whole_range}
use Rattle.absdom_stack.specs.declared.spill.Spill.{Spill}
use Rattle.absdom_stack.specs.declared.spill.Spill.TheVariants.{Forgets, Keeps}

-- ---- the statement

-- the range of a word; nothing is known of one past the end
abbrev pub range_in : List Range → (word : ℕ) → Range
range_in ranges word = slice_index_or ranges word (whole_range Bits64)

-- nothing is known of any word
abbrev pub AreAllWhole : List Range → Type 0
AreAllWhole ranges = (word : ℕ) → range_in ranges word ≡ whole_range Bits64

-- whether the bytes from the first to the last touch the word
abbrev pub is_touched : (word first last : ℕ) → Bool
is_touched word first last = nat_le (8 * word) last && nat_le first (8 * word + 7)

-- The ranges of the words from one, after a write of the bytes from the first to the last. Nothing is known of a word
-- that they touch.
unfoldable pub widened_from : (word : ℕ) → List Range → (first last : ℕ) → List Range
widened_from word [] first last = []
widened_from word (range ∷ ranges) first last =
    (if is_touched word first last then whole_range Bits64 else range) ∷ widened_from (suc word) ranges first last

-- the ranges of all words after that
abbrev pub widened : List Range → (first last : ℕ) → List Range
widened ranges first last = widened_from 0 ranges first last

-- whether an access of `bytes` bytes, which begins at either of two bytes or between, is of the eight bytes of one
-- word
abbrev pub is_stack_word : (bytes : ℕ) → ℕ × ℕ → Bool
is_stack_word bytes firsts = (bytes == 8) && (firsts.0 == firsts.1) && (firsts.0 % 8 == 0)

-- If numbers keep their ranges, a store to one word of the stack gives that word the range of its number. After every
-- other store nothing is known of a word that it may touch.
abbrev pub stored_ranges : Spill → List Range → (bytes : ℕ) → ℕ × ℕ → Range → List Range
stored_ranges Forgets ranges bytes places value = widened ranges places.0 (places.1 + bytes - 1)
stored_ranges Keeps ranges bytes places value =
    if is_stack_word bytes places then slice_set ranges (places.0 / 8) value
    else widened ranges places.0 (places.1 + bytes - 1)

-- word by word the first range is contained in the second
abbrev pub AreRangesWithin : (first second : List Range) → Type 0
AreRangesWithin first second = (word : ℕ) → IsWithin (range_in first word) (range_in second word)

-- ---- what else contracts and proofs say

-- 64 words of which nothing is known
unfoldable pub all_whole : List Range
all_whole = replicate 64 (whole_range Bits64)

-- 64 ranges, the ends of each in order
pub record AreStackWords (ranges : List Range) : Type 0 where
  pub count : length ranges ≡ 64
  pub each : (word : ℕ) → IsRange (range_in ranges word)

-- word by word the least range that holds both
abbrev pub AreRangesJoined : (first second joint : List Range) → Type 0
AreRangesJoined first second joint =
    (word : ℕ) → range_in joint word ≡ joined_ranges (range_in first word) (range_in second word)
