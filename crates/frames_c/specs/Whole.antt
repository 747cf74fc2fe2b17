-- A reader of frames, beside what says whether memory keeps it.
use Rattle.std.specs.Prelude.{◌≡◌, ◌≢◌, ◌<◌, ℕ, ◌-◌, ◌^◌, ◌==◌, ◌&&◌, Bool, true, false, List, ◌∷◌, ◌++◌, length}
use Rattle.frames.specs.Heads.{flag_code}
use Rattle.frames.specs.Reading.{Reading}
use Rattle.sums.specs.Sums.{sum_from}

-- the complement of a count: each of its 128 bits is the other one
abbrev pub complement_of_left : (left : ℕ) → ℕ
complement_of_left left = 2 ^ 128 - 1 - left

-- what is summed of a reader, as words: what the frame is, how many bytes are held of a packet, and those of a head
abbrev pub state_words : Reading → List ℕ
state_words r = flag_code r.flag ∷ length r.held ∷ length r.head ∷ r.head

-- their sum
abbrev pub state_sum : Reading → ℕ
state_sum r = sum_from 0 (state_words r)

-- what was read, and beside it the complement of the count and the sum of the rest
pub record CheckedReading : Type 0 where
  pub reading : Reading
  pub complement_of_left : ℕ
  pub sum : ℕ

-- a reader beside which both are right
abbrev pub checked : Reading → CheckedReading
checked r = record { reading = r; complement_of_left = complement_of_left r.left; sum = state_sum r }

-- whether both are right
abbrev pub is_whole : CheckedReading → Bool
is_whole c = c.complement_of_left == complement_of_left c.reading.left && c.sum == state_sum c.reading

-- what each call leaves is whole, and what changed in one place is not
pub record ChangesAreSeen : Type 0 where
  pub whole : (r : Reading) → is_whole (checked r) ≡ true
  -- another count, or another complement of it
  pub count : (r : Reading) (left : ℕ) → r.left < 2 ^ 128 → left < 2 ^ 128 → left ≢ r.left
      → is_whole (record { reading = record { head = r.head; flag = r.flag; left = left; held = r.held }; complement_of_left = complement_of_left r.left; sum = state_sum r }) ≡ false
  pub beside : (r : Reading) (kept : ℕ) → kept ≢ complement_of_left r.left
      → is_whole (record { reading = r; complement_of_left = kept; sum = state_sum r }) ≡ false
  -- another word of the rest, or another sum of it
  pub word : (r changed : Reading) (before after : List ℕ) (a b : ℕ) → a < 2 ^ 64 → b < 2 ^ 64 → a ≢ b
      → state_words r ≡ before ++ a ∷ after → state_words changed ≡ before ++ b ∷ after
      → is_whole (record { reading = changed; complement_of_left = complement_of_left changed.left; sum = state_sum r }) ≡ false
  pub summed : (r : Reading) (kept : ℕ) → kept ≢ state_sum r
      → is_whole (record { reading = r; complement_of_left = complement_of_left r.left; sum = kept }) ≡ false
