-- What a scrub of a node reports and does.
use Rattle.std.specs.Prelude.{◌≡◌, ◌+◌, ◌==◌, ◌||◌, ℕ, nat_lt, Bool, true, false, if◌then◌else◌, List, Option, None, Some}
use Rattle.bver.specs.Justified.{AcceptedValue}
use Rattle.node_programs.specs.Published.{sizes_of}
use Rattle.scrub.specs.declared.guard.Health.{Health}
use Rattle.scrub.specs.declared.guard.Health.TheVariants.{Whole, Mended, Unmended, Withdrawn}
use Rattle.scrub.specs.declared.guard.Scrubbed.{Scrubbed}
use Rattle.scrub.specs.Damage.{broken_of, no_broken}
use Rattle.scrub.specs.Guarded.{GuardedValue, Installs, ScrubsGuarded, has_counting, has_sizes}
use Rattle.scrub.specs.declared.damage.BrokenBits.{BrokenBits}
use Rattle.single_node_c.specs.Opening.{IsAccepted}
use Rattle.single_node_c.specs.Held.{code_on}
use Rattle.single_node_c.specs.declared.codes.TheConstants.{NO_MEMORY, NO_PART, OK}
use Rattle.single_node_c.specs.declared.numbers.ScrubbedNumbers.{ScrubbedNumbers}
use Rattle.single_node_c.specs.declared.scrubbing.ProgramBits.{ProgramBits}
use Rattle.single_node_c.specs.declared.scrubbing.Restored.{Restored}
use Rattle.single_node_c.specs.declared.scrubbing.Restored.TheVariants.{Done, Nothing, Short}
use Rattle.single_node_c.specs.declared.scrubbing.TheConstants.{ALL, COUNT_DIFFERS, JOURNALS, PROGRAMS, SIZES, SIZES_DIFFER}

-- the bit of a slot whose program was mended, else 0
abbrev pub mended_bit : Health → (bit : ℕ) → ℕ
mended_bit Whole bit = 0
mended_bit Mended bit = bit
mended_bit Withdrawn bit = 0
mended_bit Unmended bit = 0

-- the bit of a slot that is withdrawn, else 0
abbrev pub withdrawn_bit : Health → (bit : ℕ) → ℕ
withdrawn_bit Whole bit = 0
withdrawn_bit Mended bit = 0
withdrawn_bit Withdrawn bit = bit
withdrawn_bit Unmended bit = bit

-- the bits of the slots whose programs were mended
abbrev pub mended_bits : Scrubbed → ℕ
mended_bits reported = mended_bit reported.reads 1 + mended_bit reported.writes 2 + mended_bit reported.rmws 4 + mended_bit reported.window 8

-- the bits of the slots that are withdrawn
abbrev pub withdrawn_bits : Scrubbed → ℕ
withdrawn_bits reported =
    withdrawn_bit reported.reads 1 + withdrawn_bit reported.writes 2 + withdrawn_bit reported.rmws 4 + withdrawn_bit reported.window 8

-- the program that the image spells was accepted for the maps of the node, and published for the slot of the boot window
pub record IsRestored (image : List ℕ) (before after : GuardedValue) : Type 0 where
  pub program : AcceptedValue
  pub accepted : IsAccepted (sizes_of before.node.programs) image program
  pub installed : Installs 3 program before after

-- by what became of the image
abbrev pub Restores : List ℕ → Restored → (before after : GuardedValue) → Type 0
Restores image Done before after = IsRestored image before after
Restores image Nothing before after = after ≡ before
Restores image Short before after = after ≡ before

-- It may be published if the scrub left the slot withdrawn, and is not otherwise.
abbrev pub RestoresIf : Health → List ℕ → Restored → (before after : GuardedValue) → Type 0
RestoresIf Whole image restored before after = (restored ≡ Nothing) × (after ≡ before)
RestoresIf Mended image restored before after = (restored ≡ Nothing) × (after ≡ before)
RestoresIf Withdrawn image restored before after = Restores image restored before after
RestoresIf Unmended image restored before after = Restores image restored before after

-- 1 if the image that was lent is published, else 0
abbrev pub restored_number : Restored → ℕ
restored_number Done = 1
restored_number Nothing = 0
restored_number Short = 0

-- the slot is withdrawn because memory to mend its program was refused
abbrev pub is_unmended : Health → Bool
is_unmended Whole = false
is_unmended Mended = false
is_unmended Unmended = true
is_unmended Withdrawn = false

-- the same of the slot of the boot window, by what became of the image that was lent for it
abbrev pub is_window_short : Health → Restored → Bool
is_window_short window Done = false
is_window_short window Nothing = is_unmended window
is_window_short window Short = true

-- a slot is withdrawn because memory was refused
abbrev pub is_slot_short : Scrubbed → Restored → Bool
is_slot_short reported restored =
    is_unmended reported.reads || is_unmended reported.writes || is_unmended reported.rmws || is_window_short reported.window restored

-- The slots were scrubbed, and the numbers say what was found. Then the slot of the boot window was restored, if it
-- could be.
pub record ScrubsAllSlots (image : List ℕ) (numbers : ProgramBits) (before after : GuardedValue) : Type 0 where
  pub reported : Scrubbed
  pub between : GuardedValue
  pub restored : Restored
  pub scrubs : ScrubsGuarded reported image before between
  pub restores : RestoresIf reported.window image restored between after
  pub mended_is : numbers.mended ≡ mended_bits reported
  pub withdrawn_is : numbers.withdrawn ≡ withdrawn_bits reported
  pub restored_is : numbers.restored ≡ restored_number restored
  pub short_is : numbers.is_slot_short ≡ is_slot_short reported restored

-- ---- parts

-- that part is asked for: by itself, or with all
abbrev pub asks : (what part : ℕ) → Bool
asks what part = (what == part) || (what == ALL)

-- the code of a scrub of that part of the node of a handle, unless memory is refused
abbrev pub scrub_test : Option GuardedValue → (what : ℕ) → ℕ
scrub_test kept what = code_on kept (λ _. if nat_lt ALL what then NO_PART else OK)

-- the code of a scrub that was done, by whether a slot is withdrawn because memory was refused
abbrev pub short_code : (is_slot_short : Bool) → ℕ
short_code is_slot_short = if is_slot_short then NO_MEMORY else OK

-- the numbers of programs that nobody asks for
abbrev pub no_programs : ProgramBits
no_programs = record { mended = 0; withdrawn = 0; restored = 0; is_slot_short = false }

-- the programs are scrubbed if they are asked for
abbrev pub ScrubsIf : (asked : Bool) → List ℕ → ProgramBits → (before after : GuardedValue) → Type 0
ScrubsIf true image reported before after = ScrubsAllSlots image reported before after
ScrubsIf false image reported before after = (reported ≡ no_programs) × (after ≡ before)

-- The number of the sizes: whether they have the sum that was kept of them, and the numbers of scrubs before packets
-- agree with their complements.
abbrev pub sizes_number : (has_sizes has_counting : Bool) → ℕ
sizes_number false has_counting = SIZES_DIFFER
sizes_number true false = COUNT_DIFFERS
sizes_number true true = 0

-- the same if they are asked for, else 0
abbrev pub sizes_if : (asked : Bool) → GuardedValue → ℕ
sizes_if asked g = if asked then sizes_number (has_sizes g.guard g.node) (has_counting g.guard) else 0

-- the entries that are not whole, if they are asked for
abbrev pub broken_if : (asked : Bool) → GuardedValue → BrokenBits
broken_if asked g = if asked then broken_of g.node.banks else no_broken

-- the number of a place, or 0
abbrev pub place_number : Option ℕ → ℕ
place_number None = 0
place_number (Some place) = place

-- the numbers of what a scrub found
abbrev pub scrubbed_numbers : ProgramBits → (sizes : ℕ) → BrokenBits → ScrubbedNumbers
scrubbed_numbers programs sizes broken = record {
  first = place_number broken.first;
  mended = programs.mended;
  withdrawn = programs.withdrawn;
  restored = programs.restored;
  sizes = sizes;
  journals = broken.banks;
  unused = 0;
  unused_half = 0;
}

-- The part of the node was scrubbed. Its programs may be mended or withdrawn. Of its sizes and journals the numbers say
-- what is not as it was. The code is lack of memory exactly if a slot is withdrawn for that.
pub record ScrubsPart (what : ℕ) (image : List ℕ) (numbers : ScrubbedNumbers) (code : ℕ) (before after : GuardedValue) :
    Type 0 where
  pub programs : ProgramBits
  pub scrubs : ScrubsIf (asks what PROGRAMS) image programs before after
  pub numbers_are : numbers
      ≡ scrubbed_numbers programs (sizes_if (asks what SIZES) after) (broken_if (asks what JOURNALS) after)
  pub code_is : code ≡ short_code programs.is_slot_short
