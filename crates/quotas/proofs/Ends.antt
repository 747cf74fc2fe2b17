-- The last of a list, and what is before it.
use Rattle.std.proofs.Common.{◌≡◌, ◌<◌, ◌^◌, ℕ, zero, suc, List, [], ◌∷◌, ◌++◌, length, refl, sym, ap, ap₂, ◌∙◌, arith, length-append}
use Rattle.std.specs.Prelude.{All}
use Rattle.std.proofs.lemmas.List.Elements.{All-cons, All-head, All-nil, All-tail}
use Rattle.machine.specs.declared.calls.Call.{Call}
use Rattle.machine.specs.Runs.{AreAnswered}
use Rattle.policy_table.specs.Meaning.{answers_in_turn}
use Rattle.sched.specs.Turns.{answers_of_calls}

pub no_end : {A : Type 0} (xs : List A) (a : A) → [] ≡ xs ++ a ∷ [] → ⊥
no_end xs a e = omega (arith, ap length e, length-append xs (a ∷ []))

last_of : {A : Type 0} → List A → A → A
last_of [] other = other
last_of (x ∷ xs) other = last_of xs x

last_is : {A : Type 0} (xs : List A) (a other : A) → last_of (xs ++ a ∷ []) other ≡ a
unfolding last_of
last_is [] a other = refl
last_is (x ∷ xs) a other = last_is xs a x

pub snoc_last : {A : Type 0} (xs ys : List A) (a b : A) → xs ++ a ∷ [] ≡ ys ++ b ∷ [] → a ≡ b
snoc_last xs ys a b e = sym (last_is xs a a) ∙ ap (λ zs. last_of zs a) e ∙ last_is ys b a

tail_of : {A : Type 0} → List A → List A
tail_of [] = []
tail_of (x ∷ xs) = xs

head_of : {A : Type 0} → List A → A → A
head_of [] other = other
head_of (x ∷ xs) other = x

pub snoc_front : {A : Type 0} (xs ys : List A) (a b : A) → xs ++ a ∷ [] ≡ ys ++ b ∷ [] → xs ≡ ys
unfolding tail_of head_of
snoc_front [] [] a b e = refl
snoc_front [] (y ∷ ys) a b e = absurd (no_end ys b (ap tail_of e))
snoc_front (x ∷ xs) [] a b e = absurd (no_end xs a (sym (ap tail_of e)))
snoc_front (x ∷ xs) (y ∷ ys) a b e = ap₂ (λ z zs. z ∷ zs) (ap (λ zs. head_of zs x) e) (snoc_front xs ys a b (ap tail_of e))

-- ---- answers of calls

pub answers_after : (calls : List Call) (c : Call) → answers_of_calls (calls ++ c ∷ []) ≡ answers_of_calls calls ++ c.answer ∷ []
answers_after [] c = refl
answers_after (d ∷ calls) c = ap (λ (answers : List ℕ). d.answer ∷ answers) (answers_after calls c)

-- calls are answered by their own answers
pub are_answered : (calls : List Call) → AreAnswered (answers_in_turn (answers_of_calls calls)) calls
are_answered [] = tt
are_answered (c ∷ calls) = (refl, are_answered calls)

pub words_answered : (answers : List ℕ) → All (λ answer. answer < 2 ^ 64) answers → (k : ℕ) → answers_in_turn answers k < 2 ^ 64
words_answered [] words k = omega arith
words_answered (a ∷ answers) words zero = All-head (λ answer. answer < 2 ^ 64) a answers words
words_answered (a ∷ answers) words (suc k) = words_answered answers (All-tail (λ answer. answer < 2 ^ 64) a answers words) k

pub front_words : (xs : List ℕ) (a : ℕ) → All (λ answer. answer < 2 ^ 64) (xs ++ a ∷ []) → All (λ answer. answer < 2 ^ 64) xs
front_words [] a words = All-nil (λ answer. answer < 2 ^ 64)
front_words (x ∷ xs) a words =
    All-cons (λ answer. answer < 2 ^ 64) x xs (All-head (λ answer. answer < 2 ^ 64) x (xs ++ a ∷ []) words) (front_words xs a (All-tail (λ answer. answer < 2 ^ 64) x (xs ++ a ∷ []) words))
