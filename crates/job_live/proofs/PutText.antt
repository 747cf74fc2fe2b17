-- Digits that are put after a text.
use Rattle.std.proofs.Common.{◌≡◌, ◌<◌, ◌≤◌, ◌+◌, ℕ, List, [], ◌∷◌, ◌++◌, length, take, get_or, sym, ap, ◌∙◌, arith}
use Rattle.std.specs.Prelude.{◌/◌, ◌%◌, ◌^◌, decimal}
use Rattle.rmap.specs.Codes.{discard_code}
use Rattle.rmap.specs.declared.discard.Discard.{Discard}
use Rattle.rmap.specs.declared.discard.Discard.TheVariants.{Short, Protocol, Reply, HeaderCrc}
use Rattle.spw.specs.Fault.{line_fault_code}
use Rattle.spw.specs.declared.faults.LineFault.{LineFault}
use Rattle.spw.specs.declared.faults.LineFault.TheVariants.{NoPort, BadHex, BadMarker, TooLong, Memory}
use Rattle.job_parts.specs.BadLines.{bad_line_number}
use Rattle.job_parts.specs.declared.bad_lines.BadLine.{BadLine}
use Rattle.job_parts.specs.declared.bad_lines.BadLine.TheVariants.{Line, NoPort as NoSuchPort, NoEvent, NoRoom}
use Rattle.std.proofs.lemmas.Fmt.{decimal_digit, decimal_step}
use Rattle.std.proofs.lemmas.List.{append_assoc, append-nil, take_more}
use Rattle.hex.specs.Hex.{encode_upper, encode_with}
use Rattle.job_parts.proofs.HexText.{digits_both}

-- no byte
pub none_put : (text : List ℕ) → text ≡ text ++ encode_upper []
unfolding encode_with
none_put text = sym (append-nil text)

-- one byte more
pub more_put : (old mid new bytes digits : List ℕ) (k : ℕ) → k < length bytes → mid ≡ old ++ encode_upper (take k bytes) → digits ≡ encode_upper (get_or bytes k 0 ∷ [])
    → new ≡ mid ++ digits → new ≡ old ++ encode_upper (take (k + 1) bytes)
more_put old mid new bytes digits k below before is put =
    put ∙ ap (λ (l : List ℕ). l ++ digits) before ∙ ap (λ (l : List ℕ). (old ++ encode_upper (take k bytes)) ++ l) is
    ∙ append_assoc old (encode_upper (take k bytes)) (encode_upper (get_or bytes k 0 ∷ []))
    ∙ ap (λ (l : List ℕ). old ++ l) (sym (digits_both (take k bytes) (get_or bytes k 0 ∷ [])))
    ∙ ap (λ (l : List ℕ). old ++ encode_upper l) (sym (take_more bytes k 0 below))

-- numbers of one digit, of two, and of three
pub one_digit : (old new : List ℕ) (n : ℕ) → n < 10 → new ≡ old ++ (48 + n % 10) ∷ [] → new ≡ old ++ decimal n
one_digit old new n small put =
    let same : n % 10 ≡ n = omega (arith, small) in
    put ∙ ap (λ (d : ℕ). old ++ (48 + d) ∷ []) same ∙ ap (λ (l : List ℕ). old ++ l) (sym (decimal_digit n small))

two_of : (n : ℕ) → 10 ≤ n → n < 100 → (48 + n / 10) ∷ (48 + n % 10) ∷ [] ≡ decimal n
two_of n large small =
    let below : n / 10 < 10 = omega (arith, small) in
    let wide : n < 2 ^ 64 = omega (arith, small) in
    ap (λ (l : List ℕ). l ++ (48 + n % 10) ∷ []) (sym (decimal_digit (n / 10) below)) ∙ sym (decimal_step n large wide)

pub two_digits : (old new : List ℕ) (n : ℕ) → 10 ≤ n → n < 100 → new ≡ old ++ (48 + n / 10) ∷ (48 + n % 10) ∷ [] → new ≡ old ++ decimal n
two_digits old new n large small put = put ∙ ap (λ (l : List ℕ). old ++ l) (two_of n large small)

pub three_digits : (old new : List ℕ) (n : ℕ) → 100 ≤ n → n < 256 → new ≡ old ++ (48 + n / 100) ∷ (48 + n / 10 % 10) ∷ (48 + n % 10) ∷ [] → new ≡ old ++ decimal n
three_digits old new n large small put =
    let more : 10 ≤ n / 10 = omega (arith, large) in
    let few : n / 10 < 100 = omega (arith, small) in
    let enough : 10 ≤ n = omega (arith, large) in
    let wide : n < 2 ^ 64 = omega (arith, small) in
    let same : n / 100 ≡ n / 10 / 10 = omega arith in
    put ∙ ap (λ (d : ℕ). old ++ (48 + d) ∷ (48 + n / 10 % 10) ∷ (48 + n % 10) ∷ []) same
    ∙ ap (λ (l : List ℕ). old ++ (l ++ (48 + n % 10) ∷ [])) (two_of (n / 10) more few)
    ∙ ap (λ (l : List ℕ). old ++ l) (sym (decimal_step n enough wide))

-- a number of one digit that ends a line
pub code_put : (old new : List ℕ) (n : ℕ) → n < 10 → new ≡ old ++ (48 + n) ∷ 10 ∷ [] → new ≡ old ++ (decimal n ++ 10 ∷ [])
code_put old new n small put = put ∙ ap (λ (l : List ℕ). old ++ (l ++ 10 ∷ [])) (sym (decimal_digit n small))

-- nothing more
pub none_more : (text new : List ℕ) → new ≡ text → new ≡ text ++ []
none_more text new is = is ∙ sym (append-nil text)

-- a line of words, a number and its end
pub code_after : (old new : List ℕ) (n : ℕ) (begun words : List ℕ) → new ≡ old ++ (decimal n ++ 10 ∷ []) → old ≡ begun ++ words
    → new ≡ begun ++ (words ++ decimal n ++ 10 ∷ [])
code_after old new n begun words put is =
    put ∙ ap (λ (l : List ℕ). l ++ (decimal n ++ 10 ∷ [])) is ∙ append_assoc begun words (decimal n ++ 10 ∷ [])
    ∙ ap (λ (l : List ℕ). begun ++ l) (sym (append_assoc words (decimal n) (10 ∷ [])))

-- the number of a discard
pub small_discard : (discard : Discard) → discard_code discard < 10
small_discard Short = omega arith
small_discard Protocol = omega arith
small_discard Reply = omega arith
small_discard HeaderCrc = omega arith

-- the number of a line's fault
small_fault : (fault : LineFault) → line_fault_code fault < 10
small_fault NoPort = omega arith
small_fault BadHex = omega arith
small_fault BadMarker = omega arith
small_fault TooLong = omega arith
small_fault Memory = omega arith

pub small_number : (fault : BadLine) → bad_line_number fault < 10
small_number (Line fault) = small_fault fault
small_number NoSuchPort = omega arith
small_number NoEvent = omega arith
small_number NoRoom = omega arith
