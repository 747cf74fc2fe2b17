-- Ranges of words, as a pair of a low end and a high end, both included
use Rattle.std.specs.Prelude.{ℕ, ◌≤◌, ◌<◌, ◌^◌, ◌==◌, if◌then◌else◌, min, max, Option, Some, None}
use Rattle.absdom_num.specs.declared.ranges.Range.{Range}

-- ---- the statement

-- the ends are in order, and both are words
pub record IsRange (r : Range) : Type 0 where
  pub in_order : r.0 ≤ r.1
  pub words : r.1 < 2 ^ 64

-- the first range is contained in the second
pub record IsWithin (a b : Range) : Type 0 where
  pub above : b.0 ≤ a.0
  pub below : a.1 ≤ b.1

-- ---- what else contracts and proofs say

-- the range holds the word n: what "fits" says of numbers
pub record IsIn (n : ℕ) (r : Range) : Type 0 where
  pub above : r.0 ≤ n
  pub below : n ≤ r.1
  pub word : n < 2 ^ 64

-- the one word of a range
abbrev pub single_value : Range → Option ℕ
single_value r = if r.0 == r.1 then Some r.0 else None

-- the least range that holds both
abbrev pub joined_ranges : Range → Range → Range
joined_ranges a b = (min a.0 b.0, max a.1 b.1)
