-- Hexadecimal digits in lanes, and their text.
use Rattle.std.proofs.Common.{◌≡◌, ℕ, zero, suc, ◌+◌, ◌-◌, ◌*◌, ◌/◌, ◌%◌, ◌^◌, ◌<◌, ◌≤◌, true, cond, eqb, ltb, List, [], ◌∷◌, ◌++◌, map, length, take, drop, replicate, get_or, refl, sym, ap, ap₂, ◌∙◌, arith, w8, Fits, append_assoc}
use Rattle.std.specs.Prelude.{bit_and, slice_index, All}
use Rattle.std.specs.List.{concat}
use Rattle.std.specs.Simd.{first_chunks}
use Rattle.std.specs.Simd.Lanes.{zip2, sel_l, top, Each1}
use Rattle.std.proofs.lemmas.Bool.{agree_below_at, eqb-true}
use Rattle.std.proofs.lemmas.List.{drop_more, drop_all, drop-drop, length-drop, get_or_append_left, get_or-append_right, take-append-drop}
use Rattle.std.proofs.lemmas.List.Elements.{All-cons, All-head, All-nil, All-tail}
use Rattle.hex.specs.Hex.{encode_upper, encode_with, upper_digits}
use Rattle.job_parts.specs.HexBlocks.{in_turn}

-- ---- digits in lanes

abbrev digit_of : ℕ → ℕ
digit_of number = slice_index upper_digits number

abbrev IsHalf : ℕ → Type 0
IsHalf number = number < 16

abbrev added : ℕ → ℕ → ℕ
added a b = (a + b) % 2 ^ 8

abbrev below : ℕ → ℕ → ℕ
below a b = cond (ltb a b) 255 0

abbrev down : ℕ → ℕ → ℕ
down a b = a / 2 ^ b

abbrev lane : ℕ → ℕ
lane number = added (added number 48) (cond (top 7 (below 9 number)) 7 0)

lane_is : (number : ℕ) → number < 16 → lane number ≡ digit_of number
lane_is number small = eqb-true _ _ (agree_below_at (λ k. eqb (lane k) (digit_of k)) (λ _. true) 16 number refl small)

pub lanes_are : (n : ℕ) (v : List ℕ) → length v ≡ n → All IsHalf v
    → zip2 added (zip2 added v (replicate n 48)) (sel_l (map (top 7) (zip2 below (replicate n 9) v)) (replicate n 7) (replicate n 0)) ≡ map digit_of v
lanes_are zero [] long small = refl
lanes_are zero (a ∷ v) long small = absurd (omega (arith, long))
lanes_are (suc n) [] long small = absurd (omega (arith, long))
lanes_are (suc n) (a ∷ v) long small =
    ap₂ (λ (d : ℕ) (ds : List ℕ). d ∷ ds) (lane_is a (All-head IsHalf a v small)) (lanes_are n v (omega (arith, long)) (All-tail IsHalf a v small))

-- ---- the halves of bytes

pub each_fits : (v : List ℕ) → ((i : ℕ) → get_or v i 0 < 256) → Each1 (Fits w8) v
each_fits [] small = tt
each_fits (a ∷ v) small = (record { fits = small 0 }, each_fits v (λ i. small (suc i)))

pub high_halves : (n : ℕ) (v : List ℕ) → length v ≡ n → Each1 (Fits w8) v → All IsHalf (zip2 down v (replicate n 4))
high_halves zero [] long fit = All-nil IsHalf
high_halves zero (a ∷ v) long fit = absurd (omega (arith, long))
high_halves (suc n) [] long fit = absurd (omega (arith, long))
high_halves (suc n) (a ∷ v) long fit =
    let small = fit.0.fits in
    All-cons IsHalf (a / 16) (zip2 down v (replicate n 4)) (omega (arith, small)) (high_halves n v (omega (arith, long)) fit.1)

low_half : (a : ℕ) → a < 256 → bit_and a 15 ≡ a % 16
low_half a small = eqb-true _ _ (agree_below_at (λ k. eqb (bit_and k 15) (k % 16)) (λ _. true) 256 a refl small)

pub low_halves : (n : ℕ) (v : List ℕ) → length v ≡ n → Each1 (Fits w8) v → All IsHalf (zip2 bit_and v (replicate n 15))
low_halves zero [] long fit = All-nil IsHalf
low_halves zero (a ∷ v) long fit = absurd (omega (arith, long))
low_halves (suc n) [] long fit = absurd (omega (arith, long))
low_halves (suc n) (a ∷ v) long fit =
    let half = low_half a fit.0.fits in
    All-cons IsHalf (bit_and a 15) (zip2 bit_and v (replicate n 15)) (omega (arith, half)) (low_halves n v (omega (arith, long)) fit.1)

-- ---- one of each in turn

-- k of each, from the place i on, where the second list begins at 16
abbrev pub picks : ℕ → ℕ → List ℕ → List ℕ
picks zero i both = []
picks (suc k) i both = get_or both i 0 ∷ get_or both (16 + i) 0 ∷ picks k (i + 1) both

turns_from : (k i : ℕ) (a b : List ℕ) → length a ≡ 16 → length b ≡ 16 → i + k ≡ 16 → picks k i (a ++ b) ≡ in_turn (drop i a) (drop i b)
turns_from zero i a b long same end = ap (λ (xs : List ℕ). in_turn xs (drop i b)) (sym (drop_all i a (omega (arith, long, end))))
turns_from (suc k) i a b long same end =
    let second : 16 + i - 16 ≡ i = omega arith in
    ap (λ x. x ∷ get_or (a ++ b) (16 + i) 0 ∷ picks k (i + 1) (a ++ b)) (get_or_append_left a b 0 i (omega (arith, long, end)))
    ∙ ap (λ y. get_or a i 0 ∷ y ∷ picks k (i + 1) (a ++ b)) (get_or-append_right a b 16 (16 + i) 0 long (omega arith) ∙ ap (λ j. get_or b j 0) second)
    ∙ ap (λ (rest : List ℕ). get_or a i 0 ∷ get_or b i 0 ∷ rest) (turns_from k (i + 1) a b long same (omega (arith, end)))
    ∙ sym (ap₂ in_turn (drop_more a i 0 (omega (arith, long, end))) (drop_more b i 0 (omega (arith, same, end))))

pub turns_picked : (a b : List ℕ) → length a ≡ 16 → length b ≡ 16 → picks 16 0 (a ++ b) ≡ in_turn a b
turns_picked a b long same = turns_from 16 0 a b long same refl

-- ---- the text of a block

text_in_turn : (n : ℕ) (v : List ℕ) → length v ≡ n → Each1 (Fits w8) v
    → in_turn (map digit_of (zip2 down v (replicate n 4))) (map digit_of (zip2 bit_and v (replicate n 15))) ≡ encode_upper v
unfolding encode_with
text_in_turn zero [] long fit = refl
text_in_turn zero (a ∷ v) long fit = absurd (omega (arith, long))
text_in_turn (suc n) [] long fit = absurd (omega (arith, long))
text_in_turn (suc n) (a ∷ v) long fit =
    ap₂ (λ (low : ℕ) (rest : List ℕ). digit_of (a / 16) ∷ digit_of low ∷ rest) (low_half a fit.0.fits) (text_in_turn n v (omega (arith, long)) fit.1)

pub block_text : (v high low : List ℕ) → length v ≡ 16 → Each1 (Fits w8) v → high ≡ map digit_of (zip2 down v (replicate 16 4))
    → low ≡ map digit_of (zip2 bit_and v (replicate 16 15)) → in_turn high low ≡ encode_upper v
block_text v high low long fit is_high is_low = ap₂ in_turn is_high is_low ∙ text_in_turn 16 v long fit

-- ---- the blocks of bytes, and what is after them

pub blocks_and_rest : (k : ℕ) (bytes : List ℕ) → k * 16 ≤ length bytes → concat (first_chunks 16 k bytes) ++ drop (k * 16) bytes ≡ bytes
blocks_and_rest zero bytes fits = refl
blocks_and_rest (suc k) bytes fits =
    let next : suc k * 16 ≡ 16 + k * 16 = omega arith in
    append_assoc (take 16 bytes) (concat (first_chunks 16 k (drop 16 bytes))) (drop (suc k * 16) bytes)
    ∙ ap (λ (rest : List ℕ). take 16 bytes ++ (concat (first_chunks 16 k (drop 16 bytes)) ++ rest)) (ap (λ j. drop j bytes) next ∙ sym (drop-drop (k * 16) 16 bytes))
    ∙ ap (λ (rest : List ℕ). take 16 bytes ++ rest) (blocks_and_rest k (drop 16 bytes) (omega (arith, fits, length-drop 16 bytes)))
    ∙ take-append-drop 16 bytes
