-- The register over two bytes at a time: a pair is the number that has the first of them as its low byte.
use Rattle.std.specs.Prelude.{◌≡◌, ℕ, List, [], ◌∷◌, bit_xor, fold, length, map}
use Rattle.rcrc.specs.Crc.{shifts, crc_of}

-- the register after one more pair
abbrev pub next_pair : ℕ → ℕ → ℕ
next_pair register pair = shifts 16 (bit_xor register pair)

-- the register after some pairs, which starts at 0
abbrev pub crc_of_pairs : List ℕ → ℕ
crc_of_pairs pairs = fold next_pair 0 pairs

-- eight pairs that have the CRC of some bytes
pub record HaveCrc (bytes pairs : List ℕ) : Type 0 where
  pub lanes : length pairs ≡ 8
  pub crc : crc_of_pairs pairs ≡ crc_of bytes

-- the sums without carry of pairs of two lists
abbrev pub sums : List ℕ → List ℕ → List ℕ
sums [] q = []
sums (x ∷ p) [] = []
sums (x ∷ p) (y ∷ q) = bit_xor x y ∷ sums p q

-- what is before four words and the words, each after as many steps as words follow, added up
abbrev pub steps_added : List ℕ → List ℕ → List ℕ → List ℕ → List ℕ → List ℕ
steps_added before first second third fourth =
    sums (sums (sums (sums (map (shifts 4) before) (map (shifts 3) first)) (map (shifts 2) second)) (map (shifts 1) third)) fourth
