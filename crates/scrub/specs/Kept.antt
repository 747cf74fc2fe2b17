-- What is kept of the program of a slot.
use Rattle.std.specs.Prelude.{◌≡◌, ◌≢◌, ◌<◌, ℕ, ◌==◌, List, Bool, bit_xor, count_ones, false, nat_lt, not, ◌||◌, Option, None, Some, slice_get}
use Rattle.bver.specs.Justified.{AcceptedValue}
use Rattle.node_programs.specs.declared.publishes.Publish.{Publish}
use Rattle.node_programs.specs.Published.{generation_at, program_at}
use Rattle.scrub.specs.declared.kept.SlotSums.{SlotSums}
use Rattle.scrub.specs.declared.kept.TheConstants.{OPEN}
use Rattle.scrub.specs.Sums.{IsSummed}

-- the sum twice, of a program that may judge
abbrev pub fresh_sums : (sum : ℕ) → SlotSums
fresh_sums sum = record { first = sum; second = sum; mark = OPEN }

-- the same sums, of a slot that is withdrawn
abbrev pub withdrawn_sums : SlotSums → SlotSums
withdrawn_sums s = record { first = s.first; second = s.second; mark = 0 }

-- in how many bits two numbers differ
abbrev pub bit_distance : (a b : ℕ) → ℕ
bit_distance a b = count_ones (bit_xor a b)

-- The program may judge: the mark is nearer to `OPEN` than to 0. If it is as near to both, or nearer to 0, its slot is
-- withdrawn.
abbrev pub is_open : SlotSums → Bool
is_open s = nat_lt (bit_distance s.mark OPEN) (count_ones s.mark)

-- the sum is one of those that are kept
abbrev pub has_sum : SlotSums → (sum : ℕ) → Bool
has_sum s sum = (sum == s.first) || (sum == s.second)

-- the slot is withdrawn, if it is one
abbrev pub closed_in : Option SlotSums → Bool
closed_in None = false
closed_in (Some s) = not (is_open s)

-- the slot of a command is withdrawn, if a program judges it
abbrev pub is_withheld : List SlotSums → (slot : Option ℕ) → Bool
is_withheld sums None = false
is_withheld sums (Some slot) = closed_in (slice_get sums slot)

-- what is kept is the sum of the operations of the program that judges at the slot, which may judge
pub record AreFresh (programs : List Publish) (slot : ℕ) (kept : Option SlotSums) : Type 0 where
  pub program : AcceptedValue
  pub shown : program_at programs slot ≡ Some program
  pub sum : ℕ
  pub summed : IsSummed program sum
  pub kept_is : kept ≡ Some (fresh_sums sum)

-- What is kept of a slot stays if its program stays. If the program is another, it is the sum of that one.
pub record FollowAt (before after : List Publish) (slot : ℕ) (old new : Option SlotSums) : Type 0 where
  pub stay : generation_at after slot ≡ generation_at before slot → new ≡ old
  pub fresh : generation_at after slot ≢ generation_at before slot → AreFresh after slot new

-- each of the four slots
abbrev pub Follow : (before after : List Publish) → (old new : List SlotSums) → Type 0
Follow before after old new =
    (slot : ℕ) → slot < 4 → FollowAt before after slot (slice_get old slot) (slice_get new slot)

-- these are the generations of the programs that judge at the four slots
abbrev pub AreGenerations : (programs : List Publish) → (generations : List ℕ) → Type 0
AreGenerations programs generations =
    (slot : ℕ) → slot < 4 → generation_at programs slot ≡ slice_get generations slot
