-- What words in hexadecimal digits write: numbers, and bytes.
use Rattle.std.specs.Prelude.{◌≡◌, ◌≢◌, ◌≤◌, ◌⊎◌, ℕ, List, [], ◌++◌, Ok, codes, length}
use Rattle.std.specs.Str.Parse.{IsNumeral, digits_value}
use Rattle.hex.specs.Hex.{decode_of}
use Rattle.hex.specs.declared.error.FromHexError.{FromHexError}
use Rattle.hex.specs.declared.error.FromHexError.TheVariants.{InvalidHexCharacter, OddLength, InvalidStringLength, OutOfMemory}
use Rattle.job_packets.specs.Slips.{bad_word}
use Rattle.job_packets.specs.declared.slips.PacketFault.{PacketFault}
use Rattle.job_packets.specs.declared.slips.PacketFault.TheVariants.{Memory}
use Rattle.job_packets.specs.declared.slips.PacketWord.{PacketWord}

-- there is such a value
abbrev pub Has : {V : Type 0} → (V → Type 0) → Type 0
Has {V} P = (v : V) × P v

-- hexadecimal digits, in either case and at most `most`, write the number
abbrev pub WritesDigits : (most : ℕ) → List ℕ → ℕ → Type 0
WritesDigits most digits n = IsNumeral 16 digits × (length digits ≤ most) × (n ≡ digits_value 16 digits)

-- so do they after `0x`
pub record WritesPrefixed (most : ℕ) (word : List ℕ) (n : ℕ) : Type 0 where
  pub digits : List ℕ
  pub prefix : word ≡ codes "0x" ++ digits
  pub written : WritesDigits most digits n

-- at most `most` hexadecimal digits, with or without `0x` before them, write the number
abbrev pub WritesHexWord : (most : ℕ) → List ℕ → ℕ → Type 0
WritesHexWord most word n = WritesDigits most word n ⊎ WritesPrefixed most word n

-- pairs of hexadecimal digits, one at least, write the bytes, and `-` writes none
abbrev pub WritesBytes : List ℕ → List ℕ → Type 0
WritesBytes word bytes = ((word ≡ codes "-") × (bytes ≡ [])) ⊎ ((word ≢ []) × (decode_of word ≡ Ok bytes))

-- a word whose text does not decode writes no bytes, unless memory was refused
abbrev pub fault_of_hex_word : PacketWord → FromHexError → PacketFault
fault_of_hex_word word (InvalidHexCharacter c index) = bad_word word
fault_of_hex_word word OddLength = bad_word word
fault_of_hex_word word InvalidStringLength = bad_word word
fault_of_hex_word word OutOfMemory = Memory
