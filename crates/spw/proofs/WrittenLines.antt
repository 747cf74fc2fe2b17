-- The line that writes a packet is read as that packet.
use Rattle.std.proofs.Common.{◌≡◌, ℕ, ◌<◌, ◌≤◌, false, not, eqb, List, [], ◌∷◌, ◌++◌, length, get_or, filter, refl, sym, ap, subst, ◌∙◌, arith, append_assoc, append-nil, zero, suc}
use Rattle.std.specs.Prelude.{All}
use Rattle.std.specs.Fmt.{decimal}
use Rattle.std.specs.List.{flat_map, slice_split, onto_first}
use Rattle.std.specs.Char.{digit_value}
use Rattle.std.specs.Str.Parse.{AllDigits}
use Rattle.std.proofs.lemmas.Bool.{ne_eqb}
use Rattle.std.proofs.lemmas.Fmt.{decimal_is_IsNumeral}
use Rattle.std.proofs.lemmas.List.Elements.{All-cons, All-head, All-tail}
use Rattle.std.proofs.lemmas.List.Splits.{slice_split-cons_yes, slice_split-cons_no}
use Rattle.hex.specs.Hex.{encode_upper, encode_with}
use Rattle.hex.proofs.HexLemmas.{decode_of-encode_upper}
use Rattle.spw.specs.Cargo.{Cargo}
use Rattle.spw.specs.Line.{IsHex, IsPacketLine, bytes_written, marker_word, words_of}
use Rattle.spw.specs.Written.{packet_line}
use Rattle.spw.specs.declared.lines.TheConstants.{PORTS}
use Rattle.spw.specs.declared.packets.End.{End}
use Rattle.spw.specs.declared.packets.End.TheVariants.{Eop, Eep}
use Rattle.spw.proofs.HexWords.{hex_from_decode}

-- no code of a word is a space
abbrev HasNoSpace : List ℕ → Type 0
HasNoSpace [] = Unit {0}
HasNoSpace (c ∷ word) = (eqb c 32 ≡ false) × HasNoSpace word

-- digits are no spaces
digit_is_no_space : (c : ℕ) → digit_value c < 16 → eqb c 32 ≡ false
digit_is_no_space c below = ne_eqb c 32 (λ e. let no : digit_value 32 < 16 = subst (λ x. digit_value x < 16) e below in absurd (omega (arith, no)))

digits_have_no_space : (base : ℕ) (word : List ℕ) → base ≤ 16 → AllDigits base word → HasNoSpace word
digits_have_no_space base [] few digits = tt
digits_have_no_space base (c ∷ word) few digits = (digit_is_no_space c (omega (arith, few, digits.0)), digits_have_no_space base word few digits.1)

-- a word, a space and more are split there
split_at_space : (word rest : List ℕ) → HasNoSpace word → slice_split (λ code. eqb code 32) (word ++ 32 ∷ rest) ≡ word ∷ slice_split (λ code. eqb code 32) rest
split_at_space [] rest h = slice_split-cons_yes (λ code. eqb code 32) 32 rest refl
split_at_space (c ∷ word) rest h = slice_split-cons_no (λ code. eqb code 32) c (word ++ 32 ∷ rest) h.0 ∙ ap (onto_first c) (split_at_space word rest h.1)

-- a marker is a word
split_marker : (end : End) → slice_split (λ code. eqb code 32) (marker_word end) ≡ marker_word end ∷ []
split_marker Eop = refl
split_marker Eep = refl

-- what is a list of bytes element by element is one at each place
bytes_at : (bytes : List ℕ) → All (λ byte. byte < 256) bytes → (i : ℕ) → get_or bytes i 0 < 256
bytes_at [] h i = omega arith
bytes_at (b ∷ bytes) h zero = All-head (λ byte. byte < 256) b bytes h
bytes_at (b ∷ bytes) h (suc i) = bytes_at bytes (All-tail (λ byte. byte < 256) b bytes h) i

-- the digits of some bytes are hexadecimal and write those bytes
digits_write : (bytes : List ℕ) → All (λ byte. byte < 256) bytes → IsHex (encode_upper bytes) × (bytes ≡ bytes_written (encode_upper bytes))
digits_write bytes h = hex_from_decode (encode_upper bytes) bytes (decode_of-encode_upper bytes (bytes_at bytes h))

-- the words between the port and the marker: the digits, if there are bytes
abbrev words_between : List ℕ → List (List ℕ)
words_between [] = []
words_between (b ∷ bytes) = encode_upper (b ∷ bytes) ∷ []

-- the pieces between the spaces
pieces : (d h m : List ℕ) → HasNoSpace d → HasNoSpace h → slice_split (λ code. eqb code 32) m ≡ m ∷ [] → slice_split (λ code. eqb code 32) ((d ++ 32 ∷ h) ++ 32 ∷ m) ≡ d ∷ h ∷ m ∷ []
pieces d h m first second last =
    ap (slice_split (λ code. eqb code 32)) (append_assoc d (32 ∷ h) (32 ∷ m))
    ∙ split_at_space d (h ++ 32 ∷ m) first
    ∙ ap (λ l. d ∷ l) (split_at_space h m second ∙ ap (λ l. h ∷ l) last)

-- a piece that is not empty is a word
word_is_kept : (word : List ℕ) (rest : List (List ℕ)) → 0 < length word → filter (λ w. not (eqb (length w) 0)) (word ∷ rest) ≡ word ∷ filter (λ w. not (eqb (length w) 0)) rest
word_is_kept word rest some =
    let e : eqb (length word) 0 ≡ false = ne_eqb (length word) 0 (λ e. absurd (omega (arith, some, e))) in
    rw e refl

-- a marker is not empty
marker_is_kept : (end : End) → filter (λ word. not (eqb (length word) 0)) (marker_word end ∷ []) ≡ marker_word end ∷ []
marker_is_kept Eop = refl
marker_is_kept Eep = refl

-- only the piece of no bytes is empty
kept : (d : List ℕ) (bytes : List ℕ) (end : End) → 0 < length d → filter (λ word. not (eqb (length word) 0)) (d ∷ encode_upper bytes ∷ marker_word end ∷ []) ≡ d ∷ (words_between bytes ++ marker_word end ∷ [])
unfolding encode_with
kept d [] end some = word_is_kept d ([] ∷ marker_word end ∷ []) some ∙ ap (λ l. d ∷ l) (marker_is_kept end)
kept d (b ∷ bytes) end some =
    word_is_kept d (encode_upper (b ∷ bytes) ∷ marker_word end ∷ []) some
    ∙ ap (λ l. d ∷ l) (word_is_kept (encode_upper (b ∷ bytes)) (marker_word end ∷ []) (omega arith) ∙ ap (λ l. encode_upper (b ∷ bytes) ∷ l) (marker_is_kept end))

-- the words of the line
words_are : (port : ℕ) (cargo : Cargo) → port < PORTS → All (λ byte. byte < 256) cargo.bytes → words_of (packet_line port cargo) ≡ decimal port ∷ (words_between cargo.bytes ++ marker_word cargo.end ∷ [])
words_are port cargo few bytes =
    let below : port < 32 = few in
    let numeral = decimal_is_IsNumeral port (omega (arith, below)) in
    let first : HasNoSpace (decimal port) = digits_have_no_space 10 (decimal port) (omega arith) numeral.0.1 in
    let hex = digits_write cargo.bytes bytes in
    let second : HasNoSpace (encode_upper cargo.bytes) = digits_have_no_space 16 (encode_upper cargo.bytes) (omega arith) hex.0.1 in
    ap (filter (λ word. not (eqb (length word) 0))) (pieces (decimal port) (encode_upper cargo.bytes) (marker_word cargo.end) first second (split_marker cargo.end))
    ∙ kept (decimal port) cargo.bytes cargo.end numeral.0.0

-- the words between are hexadecimal
between_is_hex : (bytes : List ℕ) → All (λ byte. byte < 256) bytes → All IsHex (words_between bytes)
between_is_hex [] h = λ k d lt. let no : ⊥ = omega (arith, lt) in absurd no
between_is_hex (b ∷ bytes) h = All-cons IsHex (encode_upper (b ∷ bytes)) [] (digits_write (b ∷ bytes) h).0 (λ k d lt. let no : ⊥ = omega (arith, lt) in absurd no)

-- and write the bytes
between_writes : (bytes : List ℕ) → All (λ byte. byte < 256) bytes → bytes ≡ flat_map bytes_written (words_between bytes)
between_writes [] h = refl
between_writes (b ∷ bytes) h = (digits_write (b ∷ bytes) h).1 ∙ sym (append-nil (bytes_written (encode_upper (b ∷ bytes))))

-- the line is read as the packet that it writes
pub line_is_read : (port : ℕ) (cargo : Cargo) → port < PORTS → All (λ byte. byte < 256) cargo.bytes → IsPacketLine (packet_line port cargo) port cargo
line_is_read port cargo few bytes =
    let below : port < 32 = few in
    let numeral = decimal_is_IsNumeral port (omega (arith, below)) in
    record {
      first = decimal port;
      between = words_between cargo.bytes;
      words = words_are port cargo few bytes;
      is_port = (numeral.0, rw (numeral.1) few);
      is_hex = between_is_hex cargo.bytes bytes;
      port_written = sym numeral.1;
      bytes_joined = between_writes cargo.bytes bytes;
    }
