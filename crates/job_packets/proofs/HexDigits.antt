-- What words in hexadecimal digits are read as.
use Rattle.std.proofs.Common.{◌≡◌, ◌≢◌, ◌≤◌, ◌<◌, ◌^◌, ◌⊎◌, ℕ, List, length, get_or, Result, Ok, Err, MatchOption, inl, inr, refl, sym, subst, arith}
use Rattle.std.specs.Prelude.{IfSome, codes}
use Rattle.std.proofs.Math.Nat.{pow-le-pow_right}
use Rattle.std.proofs.lemmas.Int.Digits.{digits_value-lt}
use Rattle.std.proofs.lemmas.Str.Parse.{without_leading_plus_none}
use Rattle.std.specs.Result.{OkIff, result_ok}
use Rattle.std.specs.Str.Parse.{IsNumeral, ParsesUnsigned, digits_value}
use Rattle.hex.specs.Hex.{decode_of}
use Rattle.hex.specs.declared.error.FromHexError.{FromHexError}
use Rattle.hex.specs.declared.error.FromHexError.TheVariants.{InvalidHexCharacter, OddLength, InvalidStringLength, OutOfMemory}
use Rattle.job_packets.specs.HexWords.{Has, WritesBytes, WritesDigits, fault_of_hex_word}
use Rattle.job_packets.specs.Slips.{IsWordFault}
use Rattle.job_packets.specs.declared.slips.PacketWord.{PacketWord}

-- at most `most` digits write a number below 16 to that power, and so one of 32 bits
low_digits : (most : ℕ) (digits : List ℕ) → IsNumeral 16 digits → length digits ≤ most → digits_value 16 digits < 16 ^ most
low_digits most digits numeral short =
    let below : digits_value 16 digits < 16 ^ length digits = digits_value-lt 16 digits numeral.1 in
    let more : 16 ^ length digits ≤ 16 ^ most = pow-le-pow_right (omega arith) short in
    omega arith

low_word : (most : ℕ) (digits : List ℕ) → most ≤ 8 → IsNumeral 16 digits → length digits ≤ most → digits_value 16 digits < 2 ^ 32
low_word most digits small numeral short =
    let below : digits_value 16 digits < 16 ^ most = low_digits most digits numeral short in
    let more : 16 ^ most ≤ 16 ^ 8 = pow-le-pow_right (omega arith) small in
    omega arith

-- what a text without a plus parses to
plain : {E : Type 0} (word : List ℕ) (r : Result ℕ E) → get_or word 0 0 ≢ 43 → ParsesUnsigned 32 16 word r
    → OkIff r (IsNumeral 16 word × (digits_value 16 word < 2 ^ 32)) (digits_value 16 word)
plain {E} word r front parses =
    subst (λ (w : List ℕ). OkIff r (IsNumeral 16 w × (digits_value 16 w < 2 ^ 32)) (digits_value 16 w)) (without_leading_plus_none word front) parses

reads : {E : Type 0} (most : ℕ) (word : List ℕ) (r : Result ℕ E) → most ≤ 8 → length word ≤ most
    → OkIff r (IsNumeral 16 word × (digits_value 16 word < 2 ^ 32)) (digits_value 16 word)
    → MatchOption (result_ok r) ((n : ℕ) → ¬ WritesDigits most word n) (WritesDigits most word)
reads most word (Ok x) small short h = (h.0.0, short, h.1)
reads most word (Err e) small short h = λ n writes. h (writes.0, low_word most word small writes.0 writes.1)

stays_low : {E : Type 0} (most : ℕ) (word : List ℕ) (r : Result ℕ E) → length word ≤ most
    → OkIff r (IsNumeral 16 word × (digits_value 16 word < 2 ^ 32)) (digits_value 16 word)
    → IfSome (result_ok r) (λ n. n < 16 ^ most)
stays_low most word (Ok x) short h = subst (λ (n : ℕ). n < 16 ^ most) (sym h.1) (low_digits most word h.0.0 short)
stays_low most word (Err e) short h = tt

-- digits without a sign, at most `most`, are read
pub reads_digits : {E : Type 0} (most : ℕ) (word : List ℕ) (r : Result ℕ E) → most ≤ 8 → length word ≤ most → get_or word 0 0 ≢ 43
    → ParsesUnsigned 32 16 word r → MatchOption (result_ok r) ((n : ℕ) → ¬ WritesDigits most word n) (WritesDigits most word)
reads_digits most word r small short front parses = reads most word r small short (plain word r front parses)

pub digits_low : {E : Type 0} (most : ℕ) (word : List ℕ) (r : Result ℕ E) → length word ≤ most → get_or word 0 0 ≢ 43
    → ParsesUnsigned 32 16 word r → IfSome (result_ok r) (λ n. n < 16 ^ most)
digits_low most word r short front parses = stays_low most word r short (plain word r front parses)

-- a word that does not decode, and is no `-`, writes no bytes
no_bytes : (word : List ℕ) (refused : FromHexError) → word ≢ codes "-" → decode_of word ≡ Err refused → ¬ Has (WritesBytes word)
no_bytes word refused other fails (bytes, inl dash) = other dash.0
no_bytes word refused other fails (bytes, inr decoded) = let written = decoded.1 in cc (fails, written)

pub bytes_fault : (word : List ℕ) (whose : PacketWord) (refused : FromHexError) → word ≢ codes "-" → (refused ≡ OutOfMemory) ⊎ (decode_of word ≡ Err refused)
    → IsWordFault (Has (WritesBytes word)) (fault_of_hex_word whose refused)
bytes_fault word whose (InvalidHexCharacter c i) other (inl none) = cc
bytes_fault word whose (InvalidHexCharacter c i) other (inr fails) = inr (tt, no_bytes word (InvalidHexCharacter c i) other fails)
bytes_fault word whose OddLength other (inl none) = cc
bytes_fault word whose OddLength other (inr fails) = inr (tt, no_bytes word OddLength other fails)
bytes_fault word whose InvalidStringLength other (inl none) = cc
bytes_fault word whose InvalidStringLength other (inr fails) = inr (tt, no_bytes word InvalidStringLength other fails)
bytes_fault word whose OutOfMemory other why = inl refl
