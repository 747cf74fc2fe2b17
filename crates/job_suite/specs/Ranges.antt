-- The places of memory that a suite may change, as its words name them.
use Rattle.std.specs.Prelude.{◌≡◌, ◌≤◌, ◌==◌, ℕ, Bool, List, [], ◌∷◌}
use Rattle.std.specs.List.{after_first, before_first}
use Rattle.job_packets.specs.HexWords.{Has, WritesHexWord}
use Rattle.job_suite.specs.declared.ranges.MemoryRange.{MemoryRange}

-- the colon (58)
abbrev pub is_colon : ℕ → Bool
is_colon code = code == 58

-- the dash (45)
abbrev pub is_dash : ℕ → Bool
is_dash code = code == 45

-- a part of a list writes the range: `HH:LOW-HIGH`, each in hexadecimal digits, LOW not above HIGH
pub record WritesRange (part : List ℕ) (range : MemoryRange) : Type 0 where
  pub extended : WritesHexWord 2 (before_first is_colon part) range.extended
  pub low : WritesHexWord 8 (before_first is_dash (after_first is_colon part)) range.low
  pub high : WritesHexWord 8 (after_first is_dash (after_first is_colon part)) range.high
  pub ordered : range.low ≤ range.high

-- it writes some range: each of its three words writes a number, and LOW writes none that is above one of HIGH
pub record IsRangeWord (part : List ℕ) : Type 0 where
  pub extended : Has (WritesHexWord 2 (before_first is_colon part))
  pub low : Has (WritesHexWord 8 (before_first is_dash (after_first is_colon part)))
  pub high : Has (WritesHexWord 8 (after_first is_dash (after_first is_colon part)))
  pub ordered : (low high : ℕ) → WritesHexWord 8 (before_first is_dash (after_first is_colon part)) low
      → WritesHexWord 8 (after_first is_dash (after_first is_colon part)) high → low ≤ high

-- each part of a list writes its range
abbrev pub WriteRanges : (parts : List (List ℕ)) → List MemoryRange → Type 0
WriteRanges [] [] = Unit {0}
WriteRanges [] (range ∷ ranges) = ⊥
WriteRanges (part ∷ parts) [] = ⊥
WriteRanges (part ∷ parts) (range ∷ ranges) = WritesRange part range × WriteRanges parts ranges
