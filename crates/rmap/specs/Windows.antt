-- Where the bytes of a command lie. The standard leaves to the target what is at the addresses (ECSS-E-ST-50-52C,
-- extended address field and address field): this is a choice of this target.
use Rattle.std.specs.Prelude.{◌≡◌, ◌<◌, ℕ, ◌+◌, Bool, true, ◌==◌, ◌&&◌, ◌||◌, not, nat_le, nat_lt, if◌then◌else◌, List, length, slice_get}
use Rattle.std.specs.Prelude.{Option, None, Some}
use Rattle.rmap.specs.declared.boot.TheConstants.{BOOT_WINDOW, STAGING_SIZE, LOAD_REGISTER, LOAD_RESULT_SIZE}
use Rattle.rmap.specs.declared.boot.TheConstants.{CONTROL_SIZE}
use Rattle.rmap.specs.declared.kind.Kind.{Kind}
use Rattle.rmap.specs.declared.kind.Kind.TheVariants.{Read, Write, Rmw, Unused}
use Rattle.rmap.specs.declared.places.Place.{Place}
use Rattle.rmap.specs.declared.places.Place.TheVariants.{Bank, Staging, LoadResult, Control}
use Rattle.rmap.specs.Instruction.{is_used}
use Rattle.rmap.specs.Command.{CommandValue, extended_of, address_of, length_of, command_kind, increments}

-- a node's logical address, and the base and size of each bank
pub record WindowsValue : Type 0 where
  pub node_address : ℕ
  pub banks : List (ℕ × ℕ)

-- the address is in the range of that base and size
abbrev pub begins_inside : (base size : ℕ) → CommandValue → Bool
begins_inside base size c = nat_le base (address_of c) && nat_lt (address_of c) (base + size)

-- the address lies inside, and with increment the data does not pass the end
abbrev pub lies_inside : (base size : ℕ) → CommandValue → Bool
lies_inside base size c =
    nat_le base (address_of c) && nat_lt (address_of c) (base + size)
    && (not (increments c) || nat_le (address_of c + length_of c) (base + size))

-- the staging is like a bank of 16,384 bytes at 0, for every kind that is used
abbrev pub is_staged : CommandValue → Bool
is_staged c = is_used (command_kind c) && lies_inside 0 STAGING_SIZE c

-- exactly that many bytes at the address of the load register, 0x10000, with increment
abbrev pub is_register : ℕ → CommandValue → Bool
is_register size c = address_of c == LOAD_REGISTER && length_of c == size && increments c

-- a read at 0x10000 takes the whole load result, and a write there is a whole control write
abbrev pub load_register_of : Kind → CommandValue → Option Place
load_register_of Read c = if is_register LOAD_RESULT_SIZE c then Some LoadResult else None
load_register_of Write c = if is_register CONTROL_SIZE c then Some Control else None
load_register_of Rmw c = None
load_register_of Unused c = None

-- the boot window: staging, the load result and control writes
abbrev pub boot_place : CommandValue → Option Place
boot_place c =
    if is_staged c then Some Staging else load_register_of (command_kind c) c

-- the bank of the extended address if the command's bytes lie in it; without such a bank, the boot window
abbrev pub bank_place : Option (ℕ × ℕ) → CommandValue → Option Place
bank_place None c = if extended_of c == BOOT_WINDOW then boot_place c else None
bank_place (Some bank) c = if lies_inside bank.0 bank.1 c then Some (Bank (extended_of c)) else None

-- the extended address names a bank, or the boot window; nothing else is allowed
abbrev pub place_of : CommandValue → WindowsValue → Option Place
place_of c w = bank_place (slice_get w.banks (extended_of c)) c

-- the windows have a bank of that number, and the bytes of the command lie in it
pub record LiesInBank (w : WindowsValue) (c : CommandValue) (k : ℕ) : Type 0 where
  pub below : k < length w.banks
  pub range : ℕ × ℕ
  pub window : slice_get w.banks k ≡ Some range
  pub inside : lies_inside range.0 range.1 c ≡ true

-- if the place is a bank, the windows have it, and the bytes of the command lie in it
abbrev pub IsWithinBank : WindowsValue → CommandValue → Place → Type 0
IsWithinBank w c place = (k : ℕ) → place ≡ Bank k → LiesInBank w c k
