-- Steps of a sum without carry are the sum of the steps, so each byte of a chunk can be taken by itself.
use Rattle.std.proofs.Common.{◌≡◌, ℕ, zero, suc, ◌+◌, ◌*◌, ◌/◌, ◌%◌, ◌<◌, ◌==◌, if◌then◌else◌, List, [], ◌∷◌, length, take, drop, fold, get_or, refl, sym, ap, ◌∙◌, arith}
use Rattle.std.specs.Prelude.{bit_xor}
use Rattle.std.specs.Int.Bits.{xor_assoc, xor_zero_r}
use Rattle.std.specs.Simd.{first_chunks}
use Rattle.std.proofs.lemmas.Nat.{xor_comm, xor_mod, xor_shr}
use Rattle.std.proofs.lemmas.List.{drop-drop, take-append-drop}
use Rattle.std.proofs.lemmas.List.Sums.{fold-append}
use Rattle.rcrc.specs.Crc.{shift, shifts, next_crc, crc_from}
use Rattle.rcrc.proofs.RemainderLemmas.{bit_cases}

-- ---- steps of a sum

-- what a step makes of the bit shifted out and of the others
abbrev pub step : ℕ → ℕ → ℕ
step bit rest = if bit == 1 then bit_xor rest 0xE0 else rest

add_left : (rest more : ℕ) → bit_xor (bit_xor rest more) 0xE0 ≡ bit_xor (bit_xor rest 0xE0) more
add_left rest more = xor_assoc rest more 0xE0 ∙ ap (bit_xor rest) (xor_comm more 0xE0) ∙ sym (xor_assoc rest 0xE0 more)

add_both : (rest more : ℕ) → bit_xor rest more ≡ bit_xor (bit_xor rest 0xE0) (bit_xor more 0xE0)
add_both rest more =
    sym (sym (xor_assoc (bit_xor rest 0xE0) more 0xE0) ∙ ap (λ x. bit_xor x 0xE0) (sym (add_left rest more))
    ∙ xor_assoc (bit_xor rest more) 0xE0 0xE0 ∙ xor_zero_r (bit_xor rest more))

step-xor : (a b p q : ℕ) → a < 2 → b < 2 → step (bit_xor a b) (bit_xor p q) ≡ bit_xor (step a p) (step b q)
step-xor a b p q x y =
    bit_cases (λ a. step (bit_xor a b) (bit_xor p q) ≡ bit_xor (step a p) (step b q))
    (bit_cases (λ b. step b (bit_xor p q) ≡ bit_xor p (step b q)) refl (xor_assoc p q 0xE0) b y)
    (bit_cases (λ b. step (bit_xor 1 b) (bit_xor p q) ≡ bit_xor (bit_xor p 0xE0) (step b q)) (add_left p q) (add_both p q) b y)
    a x

shift-xor : (a b : ℕ) → shift (bit_xor a b) ≡ bit_xor (shift a) (shift b)
shift-xor a b =
    ap (λ bit. step bit (bit_xor a b / 2)) (xor_mod a b 1)
    ∙ ap (step (bit_xor (a % 2) (b % 2))) (xor_shr a b 1)
    ∙ step-xor (a % 2) (b % 2) (a / 2) (b / 2) (omega arith) (omega arith)

pub shifts-xor : (n a b : ℕ) → shifts n (bit_xor a b) ≡ bit_xor (shifts n a) (shifts n b)
unfolding shifts
shifts-xor zero a b = refl
shifts-xor (suc n) a b = ap (shifts n) (shift-xor a b) ∙ shifts-xor n (shift a) (shift b)

pub shifts-add : (m n register : ℕ) → shifts (m + n) register ≡ shifts n (shifts m register)
unfolding shifts
shifts-add zero n register =
    let same : 0 + n ≡ n = omega arith in
    ap (λ steps. shifts steps register) same
shifts-add (suc m) n register =
    let more : suc m + n ≡ suc (m + n) = omega arith in
    ap (λ steps. shifts steps register) more ∙ shifts-add m n (shift register)

shifts_one_more : (n register : ℕ) → shifts (8 * suc n) register ≡ shifts (8 * n) (shifts 8 register)
shifts_one_more n register =
    let more : 8 * suc n ≡ 8 + 8 * n = omega arith in
    ap (λ steps. shifts steps register) more ∙ shifts-add 8 (8 * n) register

-- ---- each byte alone

pub crc_from-xor : (a b : ℕ) (bytes : List ℕ) → crc_from (bit_xor a b) bytes ≡ bit_xor (shifts (8 * length bytes) a) (crc_from b bytes)
unfolding shifts
crc_from-xor a b [] = refl
crc_from-xor a b (byte ∷ bytes) =
    ap (λ register. crc_from register bytes) (ap (shifts 8) (xor_assoc a b byte) ∙ shifts-xor 8 a (bit_xor b byte))
    ∙ crc_from-xor (shifts 8 a) (next_crc b byte) bytes
    ∙ ap (λ x. bit_xor x (crc_from (next_crc b byte) bytes)) (sym (shifts_one_more (length bytes) a))

crc_from-cons : (register byte : ℕ) (bytes : List ℕ) → crc_from register (byte ∷ bytes) ≡ bit_xor (crc_from 0 bytes) (shifts (8 * suc (length bytes)) (bit_xor register byte))
crc_from-cons register byte bytes =
    let mixed = bit_xor register byte in
    ap (λ x. crc_from x bytes) (sym (xor_zero_r (shifts 8 mixed)))
    ∙ crc_from-xor (shifts 8 mixed) 0 bytes
    ∙ xor_comm (shifts (8 * length bytes) (shifts 8 mixed)) (crc_from 0 bytes)
    ∙ ap (bit_xor (crc_from 0 bytes)) (sym (shifts_one_more (length bytes) mixed))

-- the sum of what the steps make of each byte
abbrev pub sum_of : List ℕ → ℕ
sum_of [] = 0
sum_of (byte ∷ bytes) = bit_xor (sum_of bytes) (shifts (8 * suc (length bytes)) byte)

crc_of-sum : (bytes : List ℕ) → crc_from 0 bytes ≡ sum_of bytes
crc_of-sum [] = refl
crc_of-sum (byte ∷ bytes) =
    crc_from-cons 0 byte bytes ∙ ap (λ x. bit_xor x (shifts (8 * suc (length bytes)) byte)) (crc_of-sum bytes)

-- the register is added to the first byte
pub crc_from-sum : (register byte : ℕ) (bytes : List ℕ) → crc_from register (byte ∷ bytes) ≡ sum_of (bit_xor register byte ∷ bytes)
crc_from-sum register byte bytes =
    crc_from-cons register byte bytes
    ∙ ap (λ x. bit_xor x (shifts (8 * suc (length bytes)) (bit_xor register byte))) (crc_of-sum bytes)

-- ---- chunks

-- eight bytes, each by itself
pub crc_from-chunk : (register : ℕ) (chunk : List ℕ) → length chunk ≡ 8 → crc_from register chunk ≡ sum_of (bit_xor register (get_or chunk 0 0) ∷ get_or chunk 1 0 ∷ get_or chunk 2 0 ∷ get_or chunk 3 0 ∷ get_or chunk 4 0 ∷ get_or chunk 5 0 ∷ get_or chunk 6 0 ∷ get_or chunk 7 0 ∷ [])
crc_from-chunk register (a ∷ b ∷ c ∷ d ∷ e ∷ f ∷ g ∷ h ∷ []) long = crc_from-sum register a (b ∷ c ∷ d ∷ e ∷ f ∷ g ∷ h ∷ [])
crc_from-chunk register (a ∷ b ∷ c ∷ d ∷ e ∷ f ∷ g ∷ h ∷ i ∷ more) long = absurd (omega (arith, long))
crc_from-chunk register [] long = absurd (omega (arith, long))
crc_from-chunk register (a ∷ []) long = absurd (omega (arith, long))
crc_from-chunk register (a ∷ b ∷ []) long = absurd (omega (arith, long))
crc_from-chunk register (a ∷ b ∷ c ∷ []) long = absurd (omega (arith, long))
crc_from-chunk register (a ∷ b ∷ c ∷ d ∷ []) long = absurd (omega (arith, long))
crc_from-chunk register (a ∷ b ∷ c ∷ d ∷ e ∷ []) long = absurd (omega (arith, long))
crc_from-chunk register (a ∷ b ∷ c ∷ d ∷ e ∷ f ∷ []) long = absurd (omega (arith, long))
crc_from-chunk register (a ∷ b ∷ c ∷ d ∷ e ∷ f ∷ g ∷ []) long = absurd (omega (arith, long))

-- chunk by chunk, and then the bytes that are left
pub crc_from-chunks : (n k crc : ℕ) (bytes : List ℕ) → crc_from (fold crc_from crc (first_chunks n k bytes)) (drop (k * n) bytes) ≡ crc_from crc bytes
crc_from-chunks n zero crc bytes =
    let none : 0 * n ≡ 0 = omega arith in
    ap (λ i. crc_from crc (drop i bytes)) none
crc_from-chunks n (suc k) crc bytes =
    let next = crc_from crc (take n bytes) in
    let more : suc k * n ≡ n + k * n = omega arith in
    let last = fold crc_from next (first_chunks n k (drop n bytes)) in
    ap (λ i. crc_from last (drop i bytes)) more
    ∙ ap (crc_from last) (sym (drop-drop (k * n) n bytes))
    ∙ crc_from-chunks n k next (drop n bytes)
    ∙ sym (fold-append next_crc crc (take n bytes) (drop n bytes))
    ∙ ap (crc_from crc) (take-append-drop n bytes)
