-- A word decodes exactly if it is an even number of hexadecimal digits, and to what they write.
use Rattle.std.proofs.Common.{◌≡◌, ℕ, ◌+◌, ◌*◌, ◌%◌, ◌<◌, ◌≤◌, true, false, ltb, inl, inr, List, [], ◌∷◌, length, Some, Ok, refl, sym, ap, ◌∙◌, arith}
use Rattle.std.specs.Char.{digit_value}
use Rattle.std.specs.List.{AllPass}
use Rattle.std.specs.Str.Parse.{AllDigits}
use Rattle.std.proofs.lemmas.Bool.{agree_below_at, cases_lt, le-leb, lt-leb, ltb-true}
use Rattle.std.proofs.lemmas.List.Elements.{All-head, All-tail}
use Rattle.hex.specs.Hex.{decode_of, decode_pairs, hex_digit_value, is_hex_digit, pair_value}
use Rattle.hex.proofs.Pairs.{cons_byte, decode_pairs-ok_pair}
use Rattle.hex.proofs.HexLemmas.{decode_of-even, decode_of-ok, decode_of-same}
use Rattle.spw.specs.Line.{IsHex, bytes_written}

digit_reads : (c : ℕ) → digit_value c < 16 → hex_digit_value c ≡ Some (digit_value c)
digit_reads c below = grind (arith)

-- no code from 128 on is a digit
is_hex_digit-high : (c : ℕ) → 128 ≤ c → is_hex_digit c ≡ false
is_hex_digit-high c high =
    rw (le-leb 65 c (omega arith), lt-leb c 70 (omega arith), le-leb 97 c (omega arith), lt-leb c 102 (omega arith), le-leb 48 c (omega arith), lt-leb c 57 (omega arith)) refl

digit_below : (c : ℕ) → is_hex_digit c ≡ true → digit_value c < 16
digit_below c reads =
    elim (cases_lt c 128) [
      | inl low ↦ ltb-true (digit_value c) 16 (sym (agree_below_at is_hex_digit (λ d. ltb (digit_value d) 16) 128 c refl low) ∙ reads)
      | inr high ↦ cc (sym reads ∙ is_hex_digit-high c high)
    ]

AllDigits-from_pass : (word : List ℕ) → AllPass is_hex_digit word → AllDigits 16 word
AllDigits-from_pass [] pass = tt
AllDigits-from_pass (c ∷ word) pass =
    (digit_below c (All-head (λ d. is_hex_digit d ≡ true) c word pass), AllDigits-from_pass word (All-tail (λ d. is_hex_digit d ≡ true) c word pass))

decode_pairs-digits : (i : ℕ) (word : List ℕ) → length word % 2 ≡ 0 → AllDigits 16 word → decode_pairs i word ≡ Ok (bytes_written word)
unfolding decode_pairs
decode_pairs-digits i [] even digits = refl
decode_pairs-digits i (a ∷ []) even digits = absurd (omega arith)
decode_pairs-digits i (a ∷ b ∷ word) even digits =
    let pair : pair_value a b i ≡ Ok (digit_value a * 16 + digit_value b) = rw (digit_reads a digits.0, digit_reads b digits.1.0) refl in
    decode_pairs-ok_pair i a b (digit_value a * 16 + digit_value b) word pair
    ∙ ap (cons_byte (digit_value a * 16 + digit_value b)) (decode_pairs-digits (i + 2) word (omega arith) digits.1.1)

-- a hexadecimal word decodes to the bytes that it writes
pub decode_of-hex : (word : List ℕ) → IsHex word → decode_of word ≡ Ok (bytes_written word)
decode_of-hex word hex = decode_of-even word hex.0 ∙ decode_pairs-digits 0 word hex.0 hex.1

-- what decodes is a hexadecimal word, and the bytes that it writes
pub hex_from_decode : (word bytes : List ℕ) → decode_of word ≡ Ok bytes → IsHex word × (bytes ≡ bytes_written word)
hex_from_decode word bytes decoded =
    let parts = decode_of-ok word bytes decoded in
    let hex : IsHex word = (parts.0, AllDigits-from_pass word parts.1) in
    (hex, decode_of-same word bytes (bytes_written word) decoded (decode_of-hex word hex))
