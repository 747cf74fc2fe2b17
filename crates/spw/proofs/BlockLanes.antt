-- Digits in lanes: the characters of a block, and the bytes that they write.
use Rattle.std.proofs.Common.{◌≡◌, ◌≢◌, ℕ, zero, suc, ◌+◌, ◌-◌, ◌*◌, ◌%◌, ◌^◌, ◌<◌, ◌≤◌, Bool, true, false, cond, eqb, leb, ltb, List, [], ◌∷◌, ◌++◌, map, length, take, drop, replicate, get_or, refl, sym, ap, ap₂, ◌∙◌, arith, w8, Fits}
use Rattle.std.specs.Prelude.{bit_and, bit_or}
use Rattle.std.specs.Char.{digit_value}
use Rattle.std.specs.Str.Parse.{AllDigits}
use Rattle.std.specs.Simd.Lanes.{zip2, sel_l, mask_l, top, Each1}
use Rattle.std.proofs.lemmas.Bool.{agree_below_at, eqb-true, leb-false, lt-leb}
use Rattle.std.proofs.lemmas.List.{drop_more, drop_all, length-drop, length-map, take_all, take-append-drop}
use Rattle.std.proofs.lemmas.Simd.{tops_compared, mask_l-mod}
use Rattle.spw.specs.Blocks.{at_even, at_odd}
use Rattle.spw.specs.Line.{bytes_written}
use Rattle.spw.proofs.DigitPairs.{digit_of, digit_of-small, of_digit_of, or_is_digit, of_or}

-- ---- the digits of characters

-- the operations on lanes
abbrev sub : ℕ → ℕ → ℕ
sub a b = (a + (2 ^ 8 - b)) % 2 ^ 8

abbrev add : ℕ → ℕ → ℕ
add a b = (a + b) % 2 ^ 8

abbrev up : ℕ → ℕ → ℕ
up a b = a * 2 ^ b % 2 ^ 8

abbrev below : ℕ → ℕ → ℕ
below a b = cond (ltb a b) 255 0

-- the smaller and the larger of two
abbrev least : ℕ → ℕ → ℕ
least a b = cond (top 7 (below a b)) a b

abbrev most : ℕ → ℕ → ℕ
most a b = cond (top 7 (below a b)) b a

-- what a lane makes of a character
abbrev lane : ℕ → ℕ
lane c =
    let number = add (most (add c 198) 6) 10 in
    let letter = add (least (sub (bit_and c 223) 65) 245) 10 in
    least (least number letter) 16

lane_reads : (c : ℕ) → c < 256 → lane c ≡ digit_of c
lane_reads c small = eqb-true _ _ (agree_below_at (λ d. eqb (lane d) (digit_of d)) (λ _. true) 256 c refl small)

abbrev leasts : List ℕ → List ℕ → List ℕ
leasts xs ys = sel_l (map (top 7) (zip2 below xs ys)) xs ys

abbrev raised : ℕ → List ℕ → List ℕ
raised n v = zip2 add v (replicate n 198)

abbrev numbers : ℕ → List ℕ → List ℕ
numbers n v =
    zip2 add (sel_l (map (top 7) (zip2 below (raised n v) (replicate n 6))) (replicate n 6) (raised n v)) (replicate n 10)

abbrev letters : ℕ → List ℕ → List ℕ
letters n v = zip2 add (leasts (zip2 sub (zip2 bit_and v (replicate n 223)) (replicate n 65)) (replicate n 245)) (replicate n 10)

abbrev lanes : ℕ → List ℕ → List ℕ
lanes n v = leasts (leasts (numbers n v) (letters n v)) (replicate n 16)

pub lanes_read : (n : ℕ) (v : List ℕ) → length v ≡ n → Each1 (Fits w8) v → lanes n v ≡ map digit_of v
lanes_read zero [] long fit = refl
lanes_read zero (c ∷ v) long fit = absurd (omega (arith, long))
lanes_read (suc n) [] long fit = absurd (omega (arith, long))
lanes_read (suc n) (c ∷ v) long fit = ap₂ (λ (d : ℕ) (ds : List ℕ). d ∷ ds) (lane_reads c fit.0.fits) (lanes_read n v (omega (arith, long)) fit.1)

-- ---- the places of a block

-- k characters, at each second place from i on
abbrev seconds : ℕ → ℕ → List ℕ → List ℕ
seconds zero i v = []
seconds (suc k) i v = get_or v i 0 ∷ seconds k (i + 2) v

two_more : (i : ℕ) (v : List ℕ) → i + 2 ≤ length v → drop i v ≡ get_or v i 0 ∷ get_or v (i + 1) 0 ∷ drop (i + 2) v
two_more i v long =
    let next : i + 1 + 1 ≡ i + 2 = omega arith in
    drop_more v i 0 (omega (arith, long))
    ∙ ap (λ (rest : List ℕ). get_or v i 0 ∷ rest) (drop_more v (i + 1) 0 (omega (arith, long)) ∙ ap (λ j. get_or v (i + 1) 0 ∷ drop j v) next)

even_from : (k i : ℕ) (v : List ℕ) → length v ≡ i + k * 2 → at_even (drop i v) ≡ seconds k i v
even_from zero i v long = ap at_even (drop_all i v (omega (arith, long)))
even_from (suc k) i v long =
    ap at_even (two_more i v (omega (arith, long))) ∙ ap (λ (rest : List ℕ). get_or v i 0 ∷ rest) (even_from k (i + 2) v (omega (arith, long)))

odd_from : (k i : ℕ) (v : List ℕ) → length v ≡ i + k * 2 → at_odd (drop i v) ≡ seconds k (i + 1) v
odd_from zero i v long = ap at_odd (drop_all i v (omega (arith, long)))
odd_from (suc k) i v long =
    let next : i + 2 + 1 ≡ i + 1 + 2 = omega arith in
    ap at_odd (two_more i v (omega (arith, long)))
    ∙ ap (λ (rest : List ℕ). get_or v (i + 1) 0 ∷ rest) (odd_from k (i + 2) v (omega (arith, long)) ∙ ap (λ j. seconds k j v) next)

pub evens_picked : (v : List ℕ) → length v ≡ 32 → seconds 16 0 v ≡ at_even v
evens_picked v long = sym (even_from 16 0 v long)

pub odds_picked : (v : List ℕ) → length v ≡ 32 → seconds 16 1 v ≡ at_odd v
odds_picked v long = sym (odd_from 16 0 v long)

-- ---- what all pairs have

abbrev highs : List ℕ → List ℕ
highs v = map digit_of (at_even v)

abbrev lows : List ℕ → List ℕ
lows v = map digit_of (at_odd v)

-- which lanes have the bit of a character that is no digit
abbrev marks : List ℕ → ℕ
marks xs = mask_l (map (leb 16) xs)

of_mask : (mark : Bool) (rest : ℕ) → cond mark 1 0 + 2 * rest ≡ 0 → (mark ≡ false) × (rest ≡ 0)
of_mask true rest none = absurd (omega (arith, none))
of_mask false rest none = (refl, omega (arith, none))

unmarked : (v : List ℕ) → length v % 2 ≡ 0 → marks (zip2 bit_or (highs v) (lows v)) ≡ 0 → AllDigits 16 v
unmarked [] even none = tt
unmarked (a ∷ []) even none = absurd (omega (arith, even))
unmarked (a ∷ b ∷ v) even none =
    let parts = of_mask (leb 16 (bit_or (digit_of a) (digit_of b))) (marks (zip2 bit_or (highs v) (lows v))) none in
    let own = of_or (digit_of a) (digit_of b) (leb-false 16 (bit_or (digit_of a) (digit_of b)) parts.0) in
    (of_digit_of a own.0, (of_digit_of b own.1, unmarked v (omega (arith, even)) parts.1))

no_marks : (v : List ℕ) → length v % 2 ≡ 0 → AllDigits 16 v → marks (zip2 bit_or (highs v) (lows v)) ≡ 0
no_marks [] even all = refl
no_marks (a ∷ []) even all = absurd (omega (arith, even))
no_marks (a ∷ b ∷ v) even all =
    let small = or_is_digit (digit_of a) (digit_of b) (digit_of-small a all.0) (digit_of-small b all.1.0) in
    let none = no_marks v (omega (arith, even)) all.1.1 in
    ap₂ (λ (mark : Bool) (rest : ℕ). cond mark 1 0 + 2 * rest) (lt-leb 16 (bit_or (digit_of a) (digit_of b)) small) none

-- the test of the lanes is whether one has a mark
marked_lanes : (n : ℕ) (xs : List ℕ) → length xs ≡ n → zip2 leb (replicate n 16) xs ≡ map (leb 16) xs
marked_lanes zero [] long = refl
marked_lanes zero (x ∷ xs) long = absurd (omega (arith, long))
marked_lanes (suc n) [] long = absurd (omega (arith, long))
marked_lanes (suc n) (x ∷ xs) long = ap (λ (ms : List Bool). leb 16 x ∷ ms) (marked_lanes n xs (omega (arith, long)))

bits_are_marks : (xs : List ℕ) → length xs ≡ 16 → mask_l (map (top 7) (zip2 (λ a b. cond (leb a b) 255 0) (replicate 16 16) xs)) % 2 ^ 64 ≡ marks xs
bits_are_marks xs long =
    ap (λ (ms : List Bool). mask_l ms % 2 ^ 64) (tops_compared w8 leb (replicate 16 16) xs ∙ marked_lanes 16 xs long)
    ∙ mask_l-mod (map (leb 16) xs) 64 (omega (arith, long, length-map {B = Bool} xs (leb 16)))

lanes_long : (n : ℕ) (v : List ℕ) → length v ≡ n * 2 → length (zip2 bit_or (highs v) (lows v)) ≡ n
lanes_long zero [] long = refl
lanes_long zero (a ∷ v) long = absurd (omega (arith, long))
lanes_long (suc n) [] long = absurd (omega (arith, long))
lanes_long (suc n) (a ∷ []) long = absurd (omega (arith, long))
lanes_long (suc n) (a ∷ b ∷ v) long = ap suc (lanes_long n v (omega (arith, long)))

bytes_in_lanes : (n : ℕ) (v : List ℕ) → length v ≡ n * 2 → AllDigits 16 v → zip2 add (zip2 up (highs v) (replicate n 4)) (lows v) ≡ bytes_written v
bytes_in_lanes zero [] long all = refl
bytes_in_lanes zero (a ∷ v) long all = absurd (omega (arith, long))
bytes_in_lanes (suc n) [] long all = absurd (omega (arith, long))
bytes_in_lanes (suc n) (a ∷ []) long all = absurd (omega (arith, long))
bytes_in_lanes (suc n) (a ∷ b ∷ v) long all =
    let byte : add (up (digit_of a) 4) (digit_of b) ≡ digit_value a * 16 + digit_value b = omega (arith, all.0, all.1.0) in
    ap₂ (λ (x : ℕ) (xs : List ℕ). x ∷ xs) byte (bytes_in_lanes n v (omega (arith, long)) all.1.1)

-- ---- a block

-- the characters of two vectors are those of the block
whole : (v : List ℕ) → length v ≡ 32 → take 16 v ++ take 16 (drop 16 v) ≡ v
whole v long = ap (λ (rest : List ℕ). take 16 v ++ rest) (take_all 16 (drop 16 v) (omega (arith, long, length-drop 16 v))) ∙ take-append-drop 16 v

module _ (v high low evens odds : List ℕ) (long : length v ≡ 32) (of_high : high ≡ map digit_of evens) (of_low : low ≡ map digit_of odds)
    (of_evens : evens ≡ at_even (take 16 v ++ take 16 (drop 16 v))) (of_odds : odds ≡ at_odd (take 16 v ++ take 16 (drop 16 v))) where
  high_is : high ≡ highs v
  high_is = of_high ∙ ap (map digit_of) (of_evens ∙ ap at_even (whole v long))

  low_is : low ≡ lows v
  low_is = of_low ∙ ap (map digit_of) (of_odds ∙ ap at_odd (whole v long))

  abbrev tested : List ℕ → List ℕ → ℕ
  tested hs ls = mask_l (map (top 7) (zip2 (λ a b. cond (leb a b) 255 0) (replicate 16 16) (zip2 bit_or hs ls))) % 2 ^ 64

  tested_is : tested high low ≡ marks (zip2 bit_or (highs v) (lows v))
  tested_is = ap₂ tested high_is low_is ∙ bits_are_marks (zip2 bit_or (highs v) (lows v)) (lanes_long 16 v (omega (arith, long)))

  pub block_marked : tested high low ≢ 0 → AllDigits 16 v → ⊥
  block_marked some all = some (tested_is ∙ no_marks v (omega (arith, long)) all)

  pub block_written : tested high low ≡ 0 → AllDigits 16 v × (zip2 add (zip2 up high (replicate 16 4)) low ≡ bytes_written v)
  block_written none =
      let all = unmarked v (omega (arith, long)) (sym tested_is ∙ none) in
      (all, ap₂ (λ (hs ls : List ℕ). zip2 add (zip2 up hs (replicate 16 4)) ls) high_is low_is ∙ bytes_in_lanes 16 v (omega (arith, long)) all)
