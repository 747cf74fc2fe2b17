-- A change of one operation is seen.
use Rattle.std.proofs.Common.{◌≡◌, ◌≢◌, ◌<◌, ℕ, ◌^◌, List, [], ◌∷◌, ◌++◌, refl, sym, ap, ◌∙◌, inl, inr, append_assoc, arith}
use Rattle.std.specs.Prelude.{fold}
use Rattle.bver_op.specs.declared.op.Op.{Op}
use Rattle.sums.specs.Sums.{OneWordIsSeen, sum_from}
use Rattle.scrub.specs.Sums.{AreOperationWords, DifferInOneWord, after_op, head_sum_of, sum_of}

-- the words of a list of operations
words_of : List Op → List ℕ
words_of [] = []
words_of (o ∷ os) = head_sum_of o ∷ o.constant ∷ words_of os

words_join : (xs ys : List Op) → words_of (xs ++ ys) ≡ words_of xs ++ words_of ys
unfolding words_of
words_join [] ys = refl
words_join (o ∷ os) ys = ap (λ (ws : List ℕ). head_sum_of o ∷ o.constant ∷ ws) (words_join os ys)

by_words : (sum : ℕ) (os : List Op) → fold after_op sum os ≡ sum_from sum (words_of os)
unfolding words_of
by_words sum [] = refl
by_words sum (o ∷ os) = by_words (after_op sum o) os

-- the sum of a list that has the operation at a place, by words
placed : (before after : List Op) (o : Op) → sum_of (before ++ o ∷ after) ≡ sum_from 0 (words_of before ++ (head_sum_of o ∷ o.constant ∷ words_of after))
unfolding words_of
placed before after o = by_words 0 (before ++ o ∷ after) ∙ ap (sum_from 0) (words_join before (o ∷ after))

-- the same with its first word on the other side
placed_second : (before after : List Op) (o : Op) → sum_of (before ++ o ∷ after) ≡ sum_from 0 ((words_of before ++ head_sum_of o ∷ []) ++ (o.constant ∷ words_of after))
placed_second before after o =
    placed before after o ∙ ap (sum_from 0) (sym (append_assoc (words_of before) (head_sum_of o ∷ []) (o.constant ∷ words_of after)))

zero_small : 0 < 2 ^ 64
zero_small = omega arith

pub one_change : OneWordIsSeen → (before after : List Op) (a b : Op) → AreOperationWords a → AreOperationWords b → DifferInOneWord a b → sum_of (before ++ a ∷ after) ≢ sum_of (before ++ b ∷ after)
one_change law before after a b small_a small_b differ = elim differ [
  | inl heads ↦ λ same.
      law 0 (words_of before) (a.constant ∷ words_of after) (head_sum_of a) (head_sum_of b) zero_small small_a.0 small_b.0 heads.0
      (sym (placed before after a) ∙ same ∙ placed before after b
      ∙ ap (λ (n : ℕ). sum_from 0 (words_of before ++ (head_sum_of b ∷ n ∷ words_of after))) (sym heads.1))
  | inr constants ↦ λ same.
      law 0 (words_of before ++ head_sum_of a ∷ []) (words_of after) a.constant b.constant zero_small small_a.1 small_b.1 constants.1
      (sym (placed_second before after a) ∙ same ∙ placed_second before after b
      ∙ ap (λ (n : ℕ). sum_from 0 ((words_of before ++ n ∷ []) ++ (b.constant ∷ words_of after))) (sym constants.0))
]
