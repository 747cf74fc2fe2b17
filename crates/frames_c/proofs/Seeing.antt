-- Which changes of a reader are seen.
use Rattle.std.proofs.Common.{◌≡◌, ◌≢◌, ◌<◌, ℕ, ◌^◌, eqb, Bool, true, false, ◌&&◌, List, ◌∷◌, ◌++◌, refl, sym, ap, ◌∙◌, arith}
use Rattle.std.proofs.lemmas.Bool.{eq-eqb, ne_eqb}
use Rattle.frames.specs.Reading.{Reading}
use Rattle.frames_c.specs.Whole.{ChangesAreSeen, checked, complement_of_left, is_whole, state_sum, state_words}
use Rattle.sums.specs.Sums.{OneWordIsSeen, sum_from}

-- two counts have two complements
apart : (a b : ℕ) → a < 2 ^ 128 → b < 2 ^ 128 → b ≢ a → complement_of_left a ≢ complement_of_left b
apart a b low_a low_b other same = other (omega (arith, low_a, low_b, same))

none : (b : Bool) → b && false ≡ false
none true = refl
none false = refl

-- a sum that is another
other_sum : (left sum kept : ℕ) → kept ≢ sum → (eqb (complement_of_left left) (complement_of_left left) && eqb kept sum) ≡ false
other_sum left sum kept other =
    ap (λ (b : Bool). eqb (complement_of_left left) (complement_of_left left) && b) (ne_eqb kept sum other) ∙ none (eqb (complement_of_left left) (complement_of_left left))

pub seen : OneWordIsSeen → ChangesAreSeen
seen one_word = record {
  whole = λ r. ap (λ (b : Bool). b && eqb (state_sum r) (state_sum r)) (eq-eqb (complement_of_left r.left) (complement_of_left r.left) refl)
      ∙ eq-eqb (state_sum r) (state_sum r) refl;
  count = λ r left low low_left other.
      ap (λ (b : Bool). b && eqb (state_sum r) (state_sum r)) (ne_eqb (complement_of_left r.left) (complement_of_left left) (apart r.left left low low_left other));
  beside = λ r kept other. ap (λ (b : Bool). b && eqb (state_sum r) (state_sum r)) (ne_eqb kept (complement_of_left r.left) other);
  word = λ r changed before after a b low_a low_b other words words_changed.
      other_sum changed.left (state_sum changed) (state_sum r) (λ same.
      one_word 0 before after a b (omega arith) low_a low_b other (sym (ap (sum_from 0) words) ∙ same ∙ ap (sum_from 0) words_changed));
  summed = λ r kept other. other_sum r.left (state_sum r) kept other;
}
