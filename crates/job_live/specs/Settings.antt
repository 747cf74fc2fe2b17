-- The write of an instrument: `set EXTENDED ADDRESS BYTES`.
use Rattle.std.specs.Prelude.{◌≡◌, ◌⊎◌, ℕ, List, [], ◌∷◌, codes, slice_index, Ok}
use Rattle.std.specs.Int.{w32, from_be_bytes}
use Rattle.hex.specs.Hex.{decode_of, decode_sized}
use Rattle.spw.specs.declared.faults.LineFault.TheVariants.{NoPort, BadHex, BadMarker, TooLong, Memory}
use Rattle.job_parts.specs.declared.bad_lines.BadLine.{BadLine}
use Rattle.job_parts.specs.declared.bad_lines.BadLine.TheVariants.{Line, NoPort as NoSuchPort, NoEvent, NoRoom}
use Rattle.job_live.specs.declared.settings.Setting.{Setting}

-- two hexadecimal digits write this byte
abbrev pub WritesByteDigits : List ℕ → ℕ → Type 0
WritesByteDigits word byte = (bytes : List ℕ) × (decode_sized word 1 ≡ Ok bytes) × (byte ≡ slice_index bytes 0)

-- eight hexadecimal digits write this address, the most significant first
abbrev pub WritesAddress : List ℕ → ℕ → Type 0
WritesAddress word address =
    (bytes : List ℕ) × (decode_sized word 4 ≡ Ok bytes) × (address ≡ from_be_bytes w32 bytes)

-- pairs of hexadecimal digits write these bytes
abbrev pub WritesByteList : List ℕ → List ℕ → Type 0
WritesByteList word bytes = decode_of word ≡ Ok bytes

-- the fault of a word that is not the digits of such a value
abbrev pub IsNotHex : (written : Type 0) → BadLine → Type 0
IsNotHex written fault = (fault ≡ Line BadHex) × ¬ written

-- the fault of a word that writes no byte
abbrev pub IsNoByte : List ℕ → BadLine → Type 0
IsNoByte word fault = IsNotHex ((byte : ℕ) × WritesByteDigits word byte) fault

-- the fault of a word that writes no address
abbrev pub IsNoAddress : List ℕ → BadLine → Type 0
IsNoAddress word fault = IsNotHex ((address : ℕ) × WritesAddress word address) fault

-- the fault of a word that writes no bytes; or memory was refused
abbrev pub AreNoBytes : List ℕ → BadLine → Type 0
AreNoBytes word fault = (fault ≡ Line Memory) ⊎ IsNotHex ((bytes : List ℕ) × WritesByteList word bytes) fault

-- the words are `set` and three others
pub record AreSetWords (words : List (List ℕ)) (extended address bytes : List ℕ) : Type 0 where
  pub words_are : words ≡ codes "set" ∷ extended ∷ address ∷ bytes ∷ []

-- the words write the extended address, the address and the bytes
pub record WritesSetting (words : List (List ℕ)) (setting : Setting) : Type 0 where
  pub extended : List ℕ
  pub address : List ℕ
  pub bytes : List ℕ
  pub words_are : AreSetWords words extended address bytes
  pub extended_written : WritesByteDigits extended setting.extended
  pub address_written : WritesAddress address setting.address
  pub bytes_written : WritesByteList bytes setting.bytes.items

-- there are three words after `set`, and they write no such thing
pub record AreNoSetting (words : List (List ℕ)) : Type 0 where
  pub extended : List ℕ
  pub address : List ℕ
  pub bytes : List ℕ
  pub words_are : AreSetWords words extended address bytes
  pub unwritten : (setting : Setting) → ¬ WritesSetting words setting

-- why words write no such thing: there are not three of them after `set`, or they are not hexadecimal digits of the
-- right number. Or memory was refused
abbrev pub IsNoSetting : List (List ℕ) → BadLine → Type 0
IsNoSetting words (Line NoPort) = ⊥
IsNoSetting words (Line BadHex) = AreNoSetting words
IsNoSetting words (Line BadMarker) = ⊥
IsNoSetting words (Line TooLong) = ⊥
IsNoSetting words (Line Memory) = Unit {0}
IsNoSetting words NoSuchPort = ⊥
IsNoSetting words NoEvent = (extended address bytes : List ℕ) → ¬ AreSetWords words extended address bytes
IsNoSetting words NoRoom = ⊥
