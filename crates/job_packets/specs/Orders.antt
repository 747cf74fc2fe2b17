-- What the job `packet` is to make: a read, a write, a read-modify-write, or the packets of loads.
use Rattle.std.specs.Prelude.{◌≡◌, ◌≤◌, ◌&&◌, not, is_some, ℕ, Bool, true, List, ◌∷◌, ◌++◌, Option, Some, None}
use Rattle.std.specs.Prelude.{codes, length, string_bytes}
use Rattle.clap.specs.Walk.{Row, Text, first_of}
use Rattle.initiator.specs.CommandCodes.{read_code as code_of_read, write_code as code_of_write}
use Rattle.job_parts.specs.Options.{IsNumberWithin, WritesSuch}
use Rattle.job_packets.specs.HexWords.{WritesBytes, WritesHexWord}
use Rattle.job_packets.specs.Slots.{WritesSlots}
use Rattle.job_parts.specs.Arguments.{is_flag_set}
use Rattle.job_packets.specs.declared.orders.Order.{Order}
use Rattle.job_packets.specs.declared.orders.Order.TheVariants.{Read, Write, Rmw, Load}
use Rattle.job_packets.specs.declared.orders.DataSource.{DataSource}
use Rattle.job_packets.specs.declared.orders.DataSource.TheVariants.{Bytes, File}

-- the word is there, and writes the value
abbrev pub GivesWord : {V : Type 0} → (List ℕ → V → Type 0) → Option (List ℕ) → V → Type 0
GivesWord writes None v = ⊥
GivesWord writes (Some word) v = writes word v

-- the matches have the argument or the option of this name
abbrev pub is_given : Text → List Row → Bool
is_given name rows = is_some (first_of name rows)

-- the command code of a read: `--no-increment` clears the increment bit
abbrev pub packet_read_code : List Row → ℕ
packet_read_code rows = code_of_read (not (is_flag_set (codes "no-increment") rows))

-- the command code of a write: `--verify` sets the verify bit, `--no-reply` and `--no-increment` clear theirs
abbrev pub packet_write_code : List Row → ℕ
packet_write_code rows =
    code_of_write (is_flag_set (codes "verify") rows) (not (is_flag_set (codes "no-reply") rows))
    (not (is_flag_set (codes "no-increment") rows))

-- no flag is there that changes a reply or verifies
abbrev pub is_plain_reply : List Row → Bool
is_plain_reply rows = not (is_flag_set (codes "verify") rows) && not (is_flag_set (codes "no-reply") rows)

-- there are only the words of a read
abbrev pub is_read_alone : List Row → Bool
is_read_alone rows =
    is_plain_reply rows && not (is_given (codes "mask") rows) && not (is_given (codes "slot") rows)
    && not (is_flag_set (codes "final") rows)

-- there are only the words of a write
abbrev pub is_write_alone : List Row → Bool
is_write_alone rows =
    not (is_given (codes "mask") rows) && not (is_given (codes "slot") rows) && not (is_flag_set (codes "final") rows)

-- there are only the words of a read-modify-write
abbrev pub is_rmw_alone : List Row → Bool
is_rmw_alone rows =
    is_plain_reply rows && not (is_flag_set (codes "no-increment") rows) && not (is_given (codes "slot") rows)
    && not (is_flag_set (codes "final") rows)

-- there are only the words of a load
abbrev pub is_load_alone : List Row → Bool
is_load_alone rows =
    is_plain_reply rows && not (is_flag_set (codes "no-increment") rows) && not (is_given (codes "data") rows)
    && not (is_given (codes "mask") rows) && not (is_given (codes "extended") rows)

-- the word writes the data of a write: their bytes, or `@` (64) and the name of the file that has them
abbrev pub WritesSource : List ℕ → DataSource → Type 0
WritesSource word (Bytes bytes) = WritesBytes word bytes.items
WritesSource word (File name) = word ≡ 64 ∷ string_bytes name

-- the address: at most eight hexadecimal digits
abbrev pub GivesPlace : List Row → ℕ → Type 0
GivesPlace rows address = GivesWord (WritesHexWord 8) (first_of (codes "address") rows) address

-- `ADDRESS LENGTH`, the words of a read: the length is a decimal number below 2^24
pub record OrdersRead (rows : List Row) (code address count : ℕ) : Type 0 where
  pub alone : is_read_alone rows ≡ true
  pub command : code ≡ packet_read_code rows
  pub place : GivesPlace rows address
  pub number : GivesWord (WritesSuch (IsNumberWithin 0 16777215)) (first_of (codes "data") rows) count

-- `ADDRESS DATA`, the words of a write
pub record OrdersWrite (rows : List Row) (code address : ℕ) (source : DataSource) : Type 0 where
  pub alone : is_write_alone rows ≡ true
  pub command : code ≡ packet_write_code rows
  pub place : GivesPlace rows address
  pub bytes : GivesWord WritesSource (first_of (codes "data") rows) source

-- two words write data, and a mask of as many bytes after them, at most 4 (ECSS-E-ST-50-52C, read-modify-write command
-- format)
pub record AreMasked (word mask : List ℕ) (bytes : List ℕ) : Type 0 where
  pub front : List ℕ
  pub following : List ℕ
  pub data_written : WritesBytes word front
  pub mask_written : WritesBytes mask following
  pub as_long : length following ≡ length front
  pub few : length front ≤ 4
  pub joined : bytes ≡ front ++ following

-- both words are there, and write such data and such a mask
abbrev pub GivesMasked : (word mask : Option (List ℕ)) → (bytes : List ℕ) → Type 0
GivesMasked None mask bytes = ⊥
GivesMasked (Some word) None bytes = ⊥
GivesMasked (Some word) (Some mask) bytes = AreMasked word mask bytes

-- `ADDRESS DATA MASK`, the words of a read-modify-write
pub record OrdersRmw (rows : List Row) (address : ℕ) (bytes : List ℕ) : Type 0 where
  pub alone : is_rmw_alone rows ≡ true
  pub place : GivesPlace rows address
  pub masked : GivesMasked (first_of (codes "data") rows) (first_of (codes "mask") rows) bytes

-- `IMAGE --slot LIST`, the words of loads
pub record OrdersLoad (rows : List Row) (image : List ℕ) (slots : List ℕ) : Type 0 where
  pub alone : is_load_alone rows ≡ true
  pub file : first_of (codes "address") rows ≡ Some image
  pub list : GivesWord WritesSlots (first_of (codes "slot") rows) slots

-- there are the words of some read
abbrev pub HasRead : List Row → Type 0
HasRead rows = (code : ℕ) × (address : ℕ) × (count : ℕ) × OrdersRead rows code address count

-- there are the words of some write
abbrev pub HasWrite : List Row → Type 0
HasWrite rows = (code : ℕ) × (address : ℕ) × (source : DataSource) × OrdersWrite rows code address source

-- there are the words of some read-modify-write
abbrev pub HasRmw : List Row → Type 0
HasRmw rows = (address : ℕ) × (bytes : List ℕ) × OrdersRmw rows address bytes

-- there are the words of some loads
abbrev pub HasLoad : List Row → Type 0
HasLoad rows = (image : List ℕ) × (slots : List ℕ) × OrdersLoad rows image slots

-- the word of the kind
abbrev pub HasKind : List Row → List ℕ → Type 0
HasKind rows word = first_of (codes "kind") rows ≡ Some word

-- the order is the one of these matches: its kind, and the words of the kind
abbrev pub NamesOrder : List Row → Order → Type 0
NamesOrder rows (Read code address count) = HasKind rows (codes "read") × OrdersRead rows code address count
NamesOrder rows (Write code address source) = HasKind rows (codes "write") × OrdersWrite rows code address source
NamesOrder rows (Rmw address bytes) = HasKind rows (codes "rmw") × OrdersRmw rows address bytes.items
NamesOrder rows (Load image slots) =
    HasKind rows (codes "load") × OrdersLoad rows (string_bytes image) slots.items
