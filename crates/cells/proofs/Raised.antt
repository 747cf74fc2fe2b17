-- What a word is raised to, and one answer more.
use Rattle.std.proofs.Common.{◌≡◌, ◌≢◌, ℕ, ◌<◌, ◌≤◌, Bool, true, false, ◌&&◌, ◌==◌, List, [], ◌∷◌, ◌++◌, max, cond, refl, sym, subst, arith}
use Rattle.std.specs.Prelude.{All, count_by, nat_le}
use Rattle.std.proofs.lemmas.List.Sums.{sum_by_push}
use Rattle.std.proofs.lemmas.List.Elements.{All-push, All-weaker}
use Rattle.std.proofs.lemmas.Bool.{eq-eqb}
use Rattle.std.proofs.lemmas.Bool.Decides.{nat_tests}
use Rattle.std.proofs.Math.Bool.{false≢true}
use Rattle.machine.specs.declared.helpers.Helper.TheVariants as helpers
use Rattle.cells.specs.declared.logs.Answer.{Answer}
use Rattle.cells.specs.Logs.{answer_of_parts, IsUnder, is_raise}
use Rattle.cells.specs.Counting.{IsPeak}
use Rattle.cells.proofs.Counted.{AreAlike}

-- the peak of some answers is that of the same in another order
pub peak_alike : (word value : ℕ) (ds es : List Answer) → AreAlike ds es
    → ((P : Answer → Type 0) → All P ds → All P es) → IsPeak word value ds → IsPeak word value es
peak_alike word value ds es same facts h = record {
  under = facts (IsUnder word value) h.under;
  reached = λ p. let r = h.reached p in let e = same (λ d. cond (is_raise word value d) 1 0) in omega arith;
}

-- an answer of another word
pub peak_other : (word value : ℕ) (ds : List Answer) (d : Answer) → d.word ≢ word → IsPeak word value ds → IsPeak word value (ds ++ d ∷ [])
peak_other word value ds d apart h = record {
  under = All-push (IsUnder word value) ds d h.under (λ here. absurd (apart here));
  reached = λ p. let r = h.reached p in omega (arith, sum_by_push (λ d. cond (is_raise word value d) 1 0) ds d);
}

-- what is under a number is under a greater one
pub under_greater : (word found k : ℕ) (ds : List Answer) → All (IsUnder word found) ds → All (IsUnder word (max found k)) ds
under_greater word found k ds h = All-weaker (IsUnder word found) (IsUnder word (max found k)) (λ x f here. let u = f here in (omega arith, omega arith)) ds h

-- the answer of that word reaches its own argument
reaches : (word k : ℕ) (d : Answer) → d.word ≡ word → d.argument ≡ k → 0 < cond (is_raise word k d) 1 0
reaches word k d here there = both (d.word == word) (d.argument == k) (eq-eqb d.word word here) (eq-eqb d.argument k there)
  where
    both : (a b : Bool) → a ≡ true → b ≡ true → 0 < cond (a && b) 1 0
    both true true e f = omega arith
    both true false e f = absurd (false≢true f)
    both false b e f = absurd (false≢true e)

-- an answer of `count`
pub peak_counted : (word found : ℕ) (ds : List Answer) → IsPeak word found ds → IsPeak word found (ds ++ answer_of_parts helpers.Count word 0 found found ∷ [])
peak_counted word found ds h = record {
  under = All-push (IsUnder word found) ds (answer_of_parts helpers.Count word 0 found found) h.under (λ here. (omega arith, omega arith));
  reached = λ p. let r = h.reached p in omega (arith, r, sum_by_push (λ (x : Answer). cond (is_raise word found x) 1 0) ds (answer_of_parts helpers.Count word 0 found found));
}

-- an answer of `peak`, which raises the word to the greater of what was found and the argument
pub peak_raised : (word found k : ℕ) (ds : List Answer) → IsPeak word found ds
    → IsPeak word (max found k) (ds ++ answer_of_parts helpers.Peak word k (max found k) (max found k) ∷ [])
peak_raised word found k ds h = record {
  under = All-push (IsUnder word (max found k)) ds d (under_greater word found k ds h.under) (λ here. (omega arith, omega arith));
  reached = by_test (nat_le k found) refl;
}
  where
    d : Answer
    d = answer_of_parts helpers.Peak word k (max found k) (max found k)

    by_test : (b : Bool) → nat_le k found ≡ b → 0 < max found k → 0 < count_by (is_raise word (max found k)) (ds ++ d ∷ [])
    by_test true e p =
        let low : k ≤ found = grind (arith, nat_tests, e) in
        let same : max found k ≡ found = omega arith in
        let q : 0 < found = omega arith in
        let old : 0 < count_by (is_raise word (max found k)) ds = subst (λ (v : ℕ). 0 < count_by (is_raise word v) ds) (sym same) (h.reached q) in
        omega (arith, old, sum_by_push (λ (x : Answer). cond (is_raise word (max found k) x) 1 0) ds d)
    by_test false e p =
        let low : found < k = grind (arith, nat_tests, e) in
        let same : k ≡ max found k = omega arith in
        let new : 0 < cond (is_raise word (max found k) d) 1 0 = reaches word (max found k) d refl same in
        omega (arith, new, sum_by_push (λ (x : Answer). cond (is_raise word (max found k) x) 1 0) ds d)
