-- The first entry that is not whole.
use Rattle.std.proofs.Common.{◌≡◌, ◌<◌, ◌+◌, ℕ, zero, suc, List, [], ◌∷◌, length, Option, None, Some, Bool, true, false, refl, ap, ◌∙◌, arith}
use Rattle.std.specs.Prelude.{slice_index_or}
use Rattle.bank.specs.Records.{EntryValue, is_whole}
use Rattle.scrub.specs.Damage.{broken_place, place_with}

-- each entry before the place is whole
abbrev pub AreWholeBelow : List EntryValue → (place : ℕ) → Type 0
AreWholeBelow entries place = (k : ℕ) (e : EntryValue) → k < place → is_whole (slice_index_or entries k e) ≡ true

pub none_broken : (es : List EntryValue) → AreWholeBelow es (length es) → broken_place es ≡ None
none_broken [] whole = refl
none_broken (e ∷ es) whole =
    ap (λ (w : Bool). place_with w (broken_place es)) (whole 0 e (omega arith))
    ∙ ap (λ (r : Option ℕ). place_with true r) (none_broken es (λ k m low. whole (suc k) m (omega (arith, low))))

one_more : (place : ℕ) → place + 1 ≡ suc place
one_more place = omega arith

pub some_broken : (es : List EntryValue) (place : ℕ) (m : EntryValue) → place < length es → AreWholeBelow es place → is_whole (slice_index_or es place m) ≡ false
    → broken_place es ≡ Some place
some_broken [] place m low whole broken = absurd (omega (arith, low))
some_broken (e ∷ es) zero m low whole broken = ap (λ (w : Bool). place_with w (broken_place es)) broken
some_broken (e ∷ es) (suc place) m low whole broken =
    ap (λ (w : Bool). place_with w (broken_place es)) (whole 0 e (omega arith))
    ∙ ap (λ (r : Option ℕ). place_with true r) (some_broken es place m (omega (arith, low)) (λ k n below. whole (suc k) n (omega (arith, below))) broken)
    ∙ ap (λ (n : ℕ). Some n) (one_more place)

pub more_whole : (es : List EntryValue) (place : ℕ) (m : EntryValue) → place < length es → AreWholeBelow es place → is_whole (slice_index_or es place m) ≡ true
    → (k : ℕ) (e : EntryValue) → k < place + 1 → is_whole (slice_index_or es k e) ≡ true
more_whole [] place m low whole is k n below = absurd (omega (arith, low))
more_whole (e ∷ es) zero m low whole is zero n below = is
more_whole (e ∷ es) zero m low whole is (suc k) n below = absurd (omega (arith, below))
more_whole (e ∷ es) (suc place) m low whole is zero n below = whole 0 n (omega arith)
more_whole (e ∷ es) (suc place) m low whole is (suc k) n below =
    more_whole es place m (omega (arith, low)) (λ j i less. whole (suc j) i (omega (arith, less))) is k n (omega (arith, below))
