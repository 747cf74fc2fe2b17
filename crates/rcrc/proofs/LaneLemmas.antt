-- A block of bytes in lanes of two bytes: its words by few steps, and the CRC of their sum.
use Rattle.std.proofs.Common.{◌≡◌, ℕ, zero, suc, ◌+◌, ◌-◌, ◌*◌, ◌/◌, ◌%◌, ◌^◌, ◌<◌, ◌≤◌, true, eqb, List, [], ◌∷◌, map, length, take, drop, replicate, fold, get_or, refl, sym, ap, ◌∙◌, subst, arith, lit<, w8, w16, Fits}
use Rattle.std.specs.Prelude.{bit_xor}
use Rattle.std.specs.Int.Bits.{xor_assoc, xor_zero_r, xor_zero_l}
use Rattle.std.proofs.lemmas.Bool.{agree_below_at, eqb-true}
use Rattle.std.proofs.lemmas.Nat.{xor_comm, xor_mod, xor_shr, xor_of_8}
use Rattle.std.proofs.lemmas.List.{length-map, drop-drop, drop_all, take-append-drop}
use Rattle.std.proofs.lemmas.List.Sums.{fold-append}
use Rattle.std.proofs.lemmas.Simd.{length-chunk, chunk-fits}
use lib.Lanes.{zip2, Each1, number_l, digits_l}
use Rattle.rcrc.specs.Crc.{shift, shifts, next_crc, crc_from, crc_of}
use Rattle.rcrc.specs.Pairs.{next_pair, crc_of_pairs, HaveCrc, sums, steps_added}
use Rattle.rcrc.proofs.RemainderLemmas.{bit_cases, shifts_below}
use Rattle.rcrc.proofs.SumLemmas.{step, shifts-xor, shifts-add, crc_from-xor}

-- ---- sums without carry

xor_swap : (a b p q : ℕ) → bit_xor (bit_xor a b) (bit_xor p q) ≡ bit_xor (bit_xor a p) (bit_xor b q)
xor_swap a b p q =
    xor_assoc a b (bit_xor p q)
    ∙ ap (bit_xor a) (sym (xor_assoc b p q) ∙ ap (λ x. bit_xor x q) (xor_comm b p) ∙ xor_assoc p b q)
    ∙ sym (xor_assoc a p (bit_xor b q))

xor_right_swap : (a b c : ℕ) → bit_xor (bit_xor a b) c ≡ bit_xor (bit_xor a c) b
xor_right_swap a b c = xor_assoc a b c ∙ ap (bit_xor a) (xor_comm b c) ∙ sym (xor_assoc a c b)

xor_both : {p q r s : ℕ} → p ≡ q → r ≡ s → bit_xor p r ≡ bit_xor q s
xor_both {p} {q} {r} {s} first second = ap (λ x. bit_xor x r) first ∙ ap (bit_xor q) second

-- ---- steps

shifts_swap : (m n register : ℕ) → shifts m (shifts n register) ≡ shifts n (shifts m register)
shifts_swap m n register =
    let same : n + m ≡ m + n = omega arith in
    sym (shifts-add n m register) ∙ ap (λ k. shifts k register) same ∙ shifts-add m n register

shifts_none : (n : ℕ) → shifts n 0 ≡ 0
unfolding shifts
shifts_none zero = refl
shifts_none (suc n) = shifts_none n

-- what is added for a bit that is shifted out
abbrev added : ℕ → ℕ
added bit = step bit 0

shift_parts : (x : ℕ) → shift x ≡ bit_xor (x / 2) (added (x % 2))
shift_parts x =
    bit_cases (λ b. step b (x / 2) ≡ bit_xor (x / 2) (added b)) (sym (xor_zero_r (x / 2))) refl (x % 2) (omega arith)

-- what steps leave of the bits that stay, and what they make of the n bits that are shifted out, for p equal to 2^n
abbrev IsSplit : ℕ → ℕ → Type 0
IsSplit n p = (x : ℕ) → shifts n x ≡ bit_xor (x / p) (shifts n (x % p))

split_next : (n p q x : ℕ) → IsSplit n p → x / 2 / p ≡ x / q → x % q / 2 ≡ x / 2 % p → x % q % 2 ≡ x % 2
    → shifts (suc n) x ≡ bit_xor (x / q) (shifts (suc n) (x % q))
unfolding shifts
split_next n p q x split left out bit =
    let last = added (x % 2) in
    ap (shifts n) (shift_parts x) ∙ shifts-xor n (x / 2) last
    ∙ ap (λ y. bit_xor y (shifts n last)) (split (x / 2)) ∙ xor_assoc (x / 2 / p) (shifts n (x / 2 % p)) (shifts n last)
    ∙ xor_both left (sym (ap (shifts n) (shift_parts (x % q) ∙ xor_both out (ap added bit)) ∙ shifts-xor n (x / 2 % p) last))

split_1 : IsSplit 1 2
unfolding shifts
split_1 x =
    let none : x % 2 / 2 ≡ 0 = omega arith in
    let same : x % 2 % 2 ≡ x % 2 = omega arith in
    shift_parts x
    ∙ ap (bit_xor (x / 2)) (sym (shift_parts (x % 2) ∙ xor_both none (ap added same) ∙ xor_zero_l (added (x % 2))))

split_2 : IsSplit 2 4
split_2 x = split_next 1 2 4 x split_1 (omega arith) (omega arith) (omega arith)

split_3 : IsSplit 3 8
split_3 x = split_next 2 4 8 x split_2 (omega arith) (omega arith) (omega arith)

split_4 : IsSplit 4 16
split_4 x = split_next 3 8 16 x split_3 (omega arith) (omega arith) (omega arith)

split_5 : IsSplit 5 32
split_5 x = split_next 4 16 32 x split_4 (omega arith) (omega arith) (omega arith)

split_6 : IsSplit 6 64
split_6 x = split_next 5 32 64 x split_5 (omega arith) (omega arith) (omega arith)

split_7 : IsSplit 7 128
split_7 x = split_next 6 64 128 x split_6 (omega arith) (omega arith) (omega arith)

split_8 : IsSplit 8 256
split_8 x = split_next 7 128 256 x split_7 (omega arith) (omega arith) (omega arith)

-- ---- pairs and their bytes

next_below : (crc byte : ℕ) → crc < 256 → byte < 256 → next_crc crc byte < 256
next_below crc byte p q = shifts_below 8 (bit_xor crc byte) (xor_of_8 crc byte p q)

pub crc_from_bytes_below : (crc : ℕ) (bytes : List ℕ) → crc < 256 → Each1 (Fits w8) bytes → crc_from crc bytes < 256
crc_from_bytes_below crc [] below fits = below
crc_from_bytes_below crc (byte ∷ bytes) below fits =
    crc_from_bytes_below (next_crc crc byte) bytes (next_below crc byte below fits.0.fits) fits.1

-- a pair is its low byte and then its high byte
two_bytes : (crc pair low high : ℕ) → crc < 256 → pair % 256 ≡ low → pair / 256 ≡ high
    → next_pair crc pair ≡ next_crc (next_crc crc low) high
two_bytes crc pair low high below is_low is_high =
    let mixed = bit_xor crc pair in
    let none : crc / 256 ≡ 0 = omega arith in
    let all : crc % 256 ≡ crc = omega arith in
    let top : mixed / 256 ≡ high = xor_shr crc pair 8 ∙ xor_both none is_high ∙ xor_zero_l high in
    let bottom : mixed % 256 ≡ bit_xor crc low = xor_mod crc pair 8 ∙ xor_both all is_low in
    shifts-add 8 8 mixed
    ∙ ap (shifts 8) (split_8 mixed ∙ xor_both top (ap (shifts 8) bottom) ∙ xor_comm high (next_crc crc low))

-- twice as many
abbrev evens : ℕ → ℕ
evens zero = zero
evens (suc n) = suc (suc (evens n))

from_bytes : (n crc : ℕ) (bytes : List ℕ) → crc < 256 → length bytes ≡ evens n → Each1 (Fits w8) bytes
    → fold next_pair crc (digits_l 65536 n (number_l 256 bytes)) ≡ crc_from crc bytes
from_bytes zero crc [] below long fits = refl
from_bytes zero crc (a ∷ bytes) below long fits = absurd (omega (arith, long))
from_bytes (suc n) crc [] below long fits = absurd (omega (arith, long))
from_bytes (suc n) crc (a ∷ []) below long fits = absurd (omega (arith, long))
from_bytes (suc n) crc (a ∷ b ∷ bytes) below long fits =
    let m = number_l 256 bytes in
    let all = a + 256 * (b + 256 * m) in
    let p : a < 256 = fits.0.fits in
    let q : b < 256 = fits.1.0.fits in
    let rest : all / 65536 ≡ m = omega (arith, p, q) in
    let low : all % 65536 % 256 ≡ a = omega (arith, p, q) in
    let high : all % 65536 / 256 ≡ b = omega (arith, p, q) in
    let next = next_crc (next_crc crc a) b in
    ap (λ i. fold next_pair (next_pair crc (all % 65536)) (digits_l 65536 n i)) rest
    ∙ ap (λ r. fold next_pair r (digits_l 65536 n m)) (two_bytes crc (all % 65536) a b below low high)
    ∙ from_bytes n next bytes (next_below (next_crc crc a) b (next_below crc a below p) q) (omega (arith, long)) fits.1.1

from_pairs : (n crc : ℕ) (pairs : List ℕ) → crc < 256 → length pairs ≡ n → Each1 (Fits w16) pairs
    → crc_from crc (digits_l 256 (evens n) (number_l 65536 pairs)) ≡ fold next_pair crc pairs
from_pairs zero crc [] below long fits = refl
from_pairs zero crc (v ∷ pairs) below long fits = absurd (omega (arith, long))
from_pairs (suc n) crc [] below long fits = absurd (omega (arith, long))
from_pairs (suc n) crc (v ∷ pairs) below long fits =
    let m = number_l 65536 pairs in
    let all = v + 65536 * m in
    let p : v < 65536 = fits.0.fits in
    let a = all % 256 in
    let b = all / 256 % 256 in
    let rest : all / 256 / 256 ≡ m = omega (arith, p) in
    let low : v % 256 ≡ a = omega (arith, p) in
    let high : v / 256 ≡ b = omega (arith, p) in
    let next = next_crc (next_crc crc a) b in
    let fine : a < 256 = omega arith in
    let good : b < 256 = omega arith in
    ap (λ i. crc_from next (digits_l 256 (evens n) i)) rest
    ∙ from_pairs n next pairs (next_below (next_crc crc a) b (next_below crc a below fine) good) (omega (arith, long)) fits.1
    ∙ ap (λ r. fold next_pair r pairs) (sym (two_bytes crc v a b below low high))

length-digits : (p n x : ℕ) → length (digits_l p n x) ≡ n
length-digits p zero x = refl
length-digits p (suc n) x = ap suc (length-digits p n (x / p))

pub HaveCrc-bytes : (bytes : List ℕ) → length bytes ≡ 16 → Each1 (Fits w8) bytes → HaveCrc bytes (digits_l 65536 8 (number_l 256 bytes))
HaveCrc-bytes bytes long fits = record {
  lanes = length-digits 65536 8 (number_l 256 bytes);
  crc = from_bytes 8 0 bytes (lit< tt) long fits;
}

pub crc_of-pairs : (pairs : List ℕ) → length pairs ≡ 8 → Each1 (Fits w16) pairs → crc_of (digits_l 256 16 (number_l 65536 pairs)) ≡ crc_of_pairs pairs
crc_of-pairs pairs long fits = from_pairs 8 0 pairs (lit< tt) long fits

-- ---- the CRC of what is added up

pairs_from-map_shifts : (n crc : ℕ) (pairs : List ℕ) → fold next_pair (shifts n crc) (map (shifts n) pairs) ≡ shifts n (fold next_pair crc pairs)
pairs_from-map_shifts n crc [] = refl
pairs_from-map_shifts n crc (pair ∷ pairs) =
    ap (λ x. fold next_pair x (map (shifts n) pairs)) (ap (shifts 16) (sym (shifts-xor n crc pair)) ∙ shifts_swap 16 n (bit_xor crc pair))
    ∙ pairs_from-map_shifts n (next_pair crc pair) pairs

crc_of_pairs-map_shifts : (n : ℕ) (pairs : List ℕ) → crc_of_pairs (map (shifts n) pairs) ≡ shifts n (crc_of_pairs pairs)
crc_of_pairs-map_shifts n pairs =
    ap (λ crc. fold next_pair crc (map (shifts n) pairs)) (sym (shifts_none n)) ∙ pairs_from-map_shifts n 0 pairs

pairs_from-sums : (a b : ℕ) (x y : List ℕ) → length x ≡ length y → fold next_pair (bit_xor a b) (sums x y) ≡ bit_xor (fold next_pair a x) (fold next_pair b y)
pairs_from-sums a b [] [] e = refl
pairs_from-sums a b [] (q ∷ y) e = absurd (omega (arith, e))
pairs_from-sums a b (p ∷ x) [] e = absurd (omega (arith, e))
pairs_from-sums a b (p ∷ x) (q ∷ y) e =
    ap (λ crc. fold next_pair crc (sums x y)) (ap (shifts 16) (xor_swap a b p q) ∙ shifts-xor 16 (bit_xor a p) (bit_xor b q))
    ∙ pairs_from-sums (next_pair a p) (next_pair b q) x y (omega (arith, e))

length-sums : (x y : List ℕ) → length x ≡ length y → length (sums x y) ≡ length x
length-sums [] y e = refl
length-sums (p ∷ x) [] e = absurd (omega (arith, e))
length-sums (p ∷ x) (q ∷ y) e = ap suc (length-sums x y (omega (arith, e)))

-- some pairs and their CRC
abbrev Have : ℕ → List ℕ → Type 0
Have crc pairs = (length pairs ≡ 8) × (crc_of_pairs pairs ≡ crc)

Have-shifts : (n crc : ℕ) (pairs : List ℕ) → Have crc pairs → Have (shifts n crc) (map (shifts n) pairs)
Have-shifts n crc pairs h = (length-map pairs (shifts n) ∙ h.0, crc_of_pairs-map_shifts n pairs ∙ ap (shifts n) h.1)

Have-sums : (a b : ℕ) (x y : List ℕ) → Have a x → Have b y → Have (bit_xor a b) (sums x y)
Have-sums a b x y p q =
    (length-sums x y (p.0 ∙ sym q.0) ∙ p.0, pairs_from-sums 0 0 x y (p.0 ∙ sym q.0) ∙ xor_both p.1 q.1)

-- ---- a block as four words

-- sixteen bytes of a block, from a place on
abbrev pub word_at : ℕ → List ℕ → List ℕ
word_at i block = take 16 (drop i block)

split_word : (i crc : ℕ) (bytes : List ℕ) → crc_from (crc_from crc (word_at i bytes)) (drop (i + 16) bytes) ≡ crc_from crc (drop i bytes)
split_word i crc bytes =
    ap (crc_from (crc_from crc (word_at i bytes))) (sym (drop-drop 16 i bytes))
    ∙ sym (fold-append next_crc crc (word_at i bytes) (drop 16 (drop i bytes)))
    ∙ ap (crc_from crc) (take-append-drop 16 (drop i bytes))

four_words : (crc : ℕ) (block : List ℕ) → length block ≡ 64
    → crc_from (crc_from (crc_from (crc_from crc (word_at 0 block)) (word_at 16 block)) (word_at 32 block)) (word_at 48 block) ≡ crc_from crc block
four_words crc block long =
    let first = crc_from crc (word_at 0 block) in
    let second = crc_from first (word_at 16 block) in
    let third = crc_from second (word_at 32 block) in
    let none : drop 64 block ≡ [] = drop_all 64 block (omega (arith, long)) in
    ap (crc_from (crc_from third (word_at 48 block))) (sym none)
    ∙ split_word 48 third block ∙ split_word 32 second block ∙ split_word 16 first block ∙ split_word 0 crc block

one_step : (x : ℕ) → x < 256 → shifts 128 x ≡ shifts 1 x
unfolding shifts
one_step x below = eqb-true _ _ (agree_below_at (λ x. eqb (shifts 128 x) (shifts 1 x)) (λ _. true) 256 x refl below)

-- sixteen bytes more are one step more
after_word : (crc : ℕ) (bytes : List ℕ) → crc < 256 → length bytes ≡ 16 → crc_from crc bytes ≡ bit_xor (shifts 1 crc) (crc_of bytes)
after_word crc bytes below long =
    let steps : 8 * length bytes ≡ 128 = omega (arith, long) in
    ap (λ x. crc_from x bytes) (sym (xor_zero_r crc)) ∙ crc_from-xor crc 0 bytes
    ∙ ap (λ x. bit_xor x (crc_of bytes)) (ap (λ n. shifts n crc) steps ∙ one_step crc below)

step_more : (n x : ℕ) → shifts 1 (shifts n x) ≡ shifts (n + 1) x
step_more n x = sym (shifts-add n 1 x)

module _ (crc : ℕ) (block : List ℕ) (below : crc < 256) (long : length block ≡ 64) (bytes : (k : ℕ) → get_or block k 0 < 256) where
  block_fits : (k : ℕ) → Fits w8 (get_or block k 0)
  block_fits k = record { fits = bytes k }

  abbrev word_crc : ℕ → ℕ
  word_crc i = crc_of (word_at i block)

  on_block : crc_from crc block ≡ bit_xor (bit_xor (bit_xor (bit_xor (shifts 4 crc) (shifts 3 (word_crc 0))) (shifts 2 (word_crc 16))) (shifts 1 (word_crc 32))) (word_crc 48)
  on_block =
      let a = word_crc 0 in
      let b = word_crc 16 in
      let c = word_crc 32 in
      let d = word_crc 48 in
      let first = crc_from crc (word_at 0 block) in
      let second = crc_from first (word_at 16 block) in
      let third = crc_from second (word_at 32 block) in
      let fine : first < 256 = crc_from_bytes_below crc (word_at 0 block) below (chunk-fits w8 0 16 block block_fits) in
      let good : second < 256 = crc_from_bytes_below first (word_at 16 block) fine (chunk-fits w8 16 16 block block_fits) in
      let well : third < 256 = crc_from_bytes_below second (word_at 32 block) good (chunk-fits w8 32 16 block block_fits) in
      let one = after_word crc (word_at 0 block) below (length-chunk 0 16 block (omega (arith, long))) in
      let two = after_word first (word_at 16 block) fine (length-chunk 16 16 block (omega (arith, long)))
      ∙ ap (λ x. bit_xor (shifts 1 x) b) one
      ∙ ap (λ x. bit_xor x b) (shifts-xor 1 (shifts 1 crc) a ∙ xor_both (step_more 1 crc) refl) in
      let three = after_word second (word_at 32 block) good (length-chunk 32 16 block (omega (arith, long)))
      ∙ ap (λ x. bit_xor (shifts 1 x) c) two
      ∙ ap (λ x. bit_xor x c) (shifts-xor 1 (bit_xor (shifts 2 crc) (shifts 1 a)) b
      ∙ xor_both (shifts-xor 1 (shifts 2 crc) (shifts 1 a) ∙ xor_both (step_more 2 crc) (step_more 1 a)) refl) in
      sym (four_words crc block long)
      ∙ after_word third (word_at 48 block) well (length-chunk 48 16 block (omega (arith, long)))
      ∙ ap (λ x. bit_xor (shifts 1 x) d) three
      ∙ ap (λ x. bit_xor x d) (shifts-xor 1 (bit_xor (bit_xor (shifts 3 crc) (shifts 2 a)) (shifts 1 b)) c
      ∙ xor_both (shifts-xor 1 (bit_xor (shifts 3 crc) (shifts 2 a)) (shifts 1 b)
      ∙ xor_both (shifts-xor 1 (shifts 3 crc) (shifts 2 a) ∙ xor_both (step_more 3 crc) (step_more 2 a)) (step_more 1 b)) refl)

-- the pairs before a block and those of its words, by their steps, have the CRC of all
pub crc_of-added : (bytes block r a b c d : List ℕ) → Each1 (Fits w8) bytes → length block ≡ 64 → ((k : ℕ) → get_or block k 0 < 256)
    → HaveCrc bytes r → HaveCrc (word_at 0 block) a → HaveCrc (word_at 16 block) b → HaveCrc (word_at 32 block) c → HaveCrc (word_at 48 block) d
    → crc_of_pairs (steps_added r a b c d) ≡ crc_from (crc_of bytes) block
crc_of-added bytes block r a b c d good long fits hr ha hb hc hd =
    let first = Have-sums _ _ _ _ (Have-shifts 4 _ r (hr.lanes, hr.crc)) (Have-shifts 3 _ a (ha.lanes, ha.crc)) in
    let second = Have-sums _ _ _ _ first (Have-shifts 2 _ b (hb.lanes, hb.crc)) in
    let third = Have-sums _ _ _ _ second (Have-shifts 1 _ c (hc.lanes, hc.crc)) in
    (Have-sums _ _ _ d third (hd.lanes, hd.crc)).1
    ∙ sym (on_block (crc_of bytes) block (crc_from_bytes_below 0 bytes (lit< tt) good) long fits)

-- ---- the steps of a lane

-- shifts of a lane
abbrev down : ℕ → ℕ → ℕ
down a b = a / 2 ^ b

abbrev up : ℕ → ℕ → ℕ
up a b = a * 2 ^ b % 2 ^ 16

-- what is added for the bits that are shifted out, which are at the top of a lane
abbrev fed : ℕ → ℕ
fed out = bit_xor (bit_xor (down out 8) (down out 9)) (down out 10)

fed-xor : (a b : ℕ) → fed (bit_xor a b) ≡ bit_xor (fed a) (fed b)
fed-xor a b =
    xor_both (xor_both (xor_shr a b 8) (xor_shr a b 9) ∙ xor_swap (down a 8) (down b 8) (down a 9) (down b 9)) (xor_shr a b 10)
    ∙ xor_swap (bit_xor (down a 8) (down a 9)) (bit_xor (down b 8) (down b 9)) (down a 10) (down b 10)

fed_4 : (i : ℕ) → i < 16 → fed (i * 4096) ≡ shifts 4 i
unfolding shifts
fed_4 i below = eqb-true _ _ (agree_below_at (λ i. eqb (fed (i * 4096)) (shifts 4 i)) (λ _. true) 16 i refl below)

fed_3 : (i : ℕ) → i < 8 → fed (i * 8192) ≡ shifts 3 i
unfolding shifts
fed_3 i below = eqb-true _ _ (agree_below_at (λ i. eqb (fed (i * 8192)) (shifts 3 i)) (λ _. true) 8 i refl below)

fed_2 : (i : ℕ) → i < 4 → fed (i * 16384) ≡ shifts 2 i
unfolding shifts
fed_2 i below = eqb-true _ _ (agree_below_at (λ i. eqb (fed (i * 16384)) (shifts 2 i)) (λ _. true) 4 i refl below)

fed_1 : (i : ℕ) → i < 2 → fed (i * 32768) ≡ shifts 1 i
unfolding shifts
fed_1 i below = eqb-true _ _ (agree_below_at (λ i. eqb (fed (i * 32768)) (shifts 1 i)) (λ _. true) 2 i refl below)

steps_4 : (x : ℕ) → bit_xor (down x 4) (fed (up x 12)) ≡ shifts 4 x
steps_4 x =
    let out : up x 12 ≡ x % 16 * 4096 = omega arith in
    ap (λ y. bit_xor (x / 16) (fed y)) out ∙ ap (bit_xor (x / 16)) (fed_4 (x % 16) (omega arith)) ∙ sym (split_4 x)

steps_3 : (x : ℕ) → bit_xor (down x 3) (fed (up x 13)) ≡ shifts 3 x
steps_3 x =
    let out : up x 13 ≡ x % 8 * 8192 = omega arith in
    ap (λ y. bit_xor (x / 8) (fed y)) out ∙ ap (bit_xor (x / 8)) (fed_3 (x % 8) (omega arith)) ∙ sym (split_3 x)

steps_2 : (x : ℕ) → bit_xor (down x 2) (fed (up x 14)) ≡ shifts 2 x
steps_2 x =
    let out : up x 14 ≡ x % 4 * 16384 = omega arith in
    ap (λ y. bit_xor (x / 4) (fed y)) out ∙ ap (bit_xor (x / 4)) (fed_2 (x % 4) (omega arith)) ∙ sym (split_2 x)

steps_1 : (x : ℕ) → bit_xor (down x 1) (fed (up x 15)) ≡ shifts 1 x
steps_1 x =
    let out : up x 15 ≡ x % 2 * 32768 = omega arith in
    ap (λ y. bit_xor (x / 2) (fed y)) out ∙ ap (bit_xor (x / 2)) (fed_1 (x % 2) (omega arith)) ∙ sym (split_1 x)

-- the bits that are left of five lanes, those that are shifted out, and the steps of each, added up
abbrev left_of : ℕ → ℕ → ℕ → ℕ → ℕ
left_of r a b c = bit_xor (bit_xor (bit_xor (down r 4) (down a 3)) (down b 2)) (down c 1)

abbrev out_of : ℕ → ℕ → ℕ → ℕ → ℕ
out_of r a b c = bit_xor (bit_xor (bit_xor (up r 12) (up a 13)) (up b 14)) (up c 15)

abbrev steps_of : ℕ → ℕ → ℕ → ℕ → ℕ
steps_of r a b c = bit_xor (bit_xor (bit_xor (shifts 4 r) (shifts 3 a)) (shifts 2 b)) (shifts 1 c)

four_lanes : (r a b c : ℕ) → bit_xor (left_of r a b c) (fed (out_of r a b c)) ≡ steps_of r a b c
four_lanes r a b c =
    ap (bit_xor (left_of r a b c)) (fed-xor (bit_xor (bit_xor (up r 12) (up a 13)) (up b 14)) (up c 15))
    ∙ xor_swap (bit_xor (bit_xor (down r 4) (down a 3)) (down b 2)) (down c 1) (fed (bit_xor (bit_xor (up r 12) (up a 13)) (up b 14))) (fed (up c 15))
    ∙ xor_both (ap (bit_xor (bit_xor (bit_xor (down r 4) (down a 3)) (down b 2))) (fed-xor (bit_xor (up r 12) (up a 13)) (up b 14))
    ∙ xor_swap (bit_xor (down r 4) (down a 3)) (down b 2) (fed (bit_xor (up r 12) (up a 13))) (fed (up b 14))
    ∙ xor_both (ap (bit_xor (bit_xor (down r 4) (down a 3))) (fed-xor (up r 12) (up a 13))
    ∙ xor_swap (down r 4) (down a 3) (fed (up r 12)) (fed (up a 13)) ∙ xor_both (steps_4 r) (steps_3 a)) (steps_2 b)) (steps_1 c)

lane : (r a b c d : ℕ) → bit_xor (bit_xor (bit_xor (bit_xor (left_of r a b c) d) (down (out_of r a b c) 8)) (down (out_of r a b c) 9)) (down (out_of r a b c) 10) ≡ bit_xor (steps_of r a b c) d
lane r a b c d =
    let left = left_of r a b c in
    let out = out_of r a b c in
    ap (λ x. bit_xor x (down out 10)) (xor_assoc (bit_xor left d) (down out 8) (down out 9))
    ∙ xor_assoc (bit_xor left d) (bit_xor (down out 8) (down out 9)) (down out 10)
    ∙ xor_right_swap left d (fed out) ∙ ap (λ x. bit_xor x d) (four_lanes r a b c)

-- the same of vectors
abbrev xors : List ℕ → List ℕ → List ℕ
xors = zip2 bit_xor

abbrev lefts : ℕ → List ℕ → List ℕ → List ℕ → List ℕ → List ℕ → List ℕ
lefts n r a b c d =
    xors (xors (xors (xors (zip2 down r (replicate n 4)) (zip2 down a (replicate n 3))) (zip2 down b (replicate n 2))) (zip2 down c (replicate n 1))) d

abbrev outs : ℕ → List ℕ → List ℕ → List ℕ → List ℕ → List ℕ
outs n r a b c =
    xors (xors (xors (zip2 up r (replicate n 12)) (zip2 up a (replicate n 13))) (zip2 up b (replicate n 14))) (zip2 up c (replicate n 15))

abbrev lanes_made : ℕ → List ℕ → List ℕ → List ℕ → List ℕ → List ℕ → List ℕ
lanes_made n r a b c d =
    xors (xors (xors (lefts n r a b c d) (zip2 down (outs n r a b c) (replicate n 8))) (zip2 down (outs n r a b c) (replicate n 9))) (zip2 down (outs n r a b c) (replicate n 10))

pub lanes_are : (n : ℕ) (r a b c d : List ℕ) → length r ≡ n → lanes_made n r a b c d ≡ steps_added r a b c d
lanes_are n [] a b c d e = refl
lanes_are zero (u ∷ r) a b c d e = absurd (omega (arith, e))
lanes_are (suc n) (u ∷ r) [] b c d e = refl
lanes_are (suc n) (u ∷ r) (v ∷ a) [] c d e = refl
lanes_are (suc n) (u ∷ r) (v ∷ a) (w ∷ b) [] d e = refl
lanes_are (suc n) (u ∷ r) (v ∷ a) (w ∷ b) (x ∷ c) [] e = refl
lanes_are (suc n) (u ∷ r) (v ∷ a) (w ∷ b) (x ∷ c) (y ∷ d) e =
    ap (λ z. z ∷ lanes_made n r a b c d) (lane u v w x y)
    ∙ ap (λ (zs : List ℕ). bit_xor (steps_of u v w x) y ∷ zs) (lanes_are n r a b c d (omega (arith, e)))

-- ---- the first bytes

step_back_from : (k : ℕ) → k < 128 → shift (bit_xor ((128 + k) * 2 % 256) 0xC1) ≡ 128 + k
step_back_from k below =
    eqb-true _ _ (agree_below_at (λ k. eqb (shift (bit_xor ((128 + k) * 2 % 256) 0xC1)) (128 + k)) (λ _. true) 128 k refl below)

pub step_back : (crc : ℕ) → 128 ≤ crc → crc < 256 → shift (bit_xor (crc * 2 % 256) 0xC1) ≡ crc
step_back crc high below =
    let is : 128 + (crc - 128) ≡ crc = omega (arith, high) in
    subst (λ r. shift (bit_xor (r * 2 % 256) 0xC1) ≡ r) is (step_back_from (crc - 128) (omega (arith, high, below)))

zeros : crc_of (replicate 15 0) ≡ 0
unfolding shifts
zeros = refl

-- a byte before fifteen zeros
pub crc_of-alone : (byte : ℕ) → byte < 256 → crc_of (byte ∷ replicate 15 0) ≡ shift byte
unfolding shifts
crc_of-alone byte below =
    ap (λ x. crc_from x (replicate 15 0)) (sym (xor_zero_r (next_crc 0 byte))) ∙ crc_from-xor (next_crc 0 byte) 0 (replicate 15 0)
    ∙ xor_both (sym (shifts-add 8 120 (bit_xor 0 byte)) ∙ ap (shifts 128) (xor_zero_l byte) ∙ one_step byte below) zeros
    ∙ xor_zero_r (shift byte)
