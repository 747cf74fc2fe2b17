-- Lists of beginnings of names of rows.
use Rattle.std.proofs.Common.{◌≡◌, ◌<◌, ◌++◌, ◌∷◌, ℕ, List, [], All, length, get_or, true, false, sym, subst}
use Rattle.std.proofs.lemmas.List.Elements.{All-append, All-cons, All-get_or, All-nil}
use Rattle.job_suite.specs.Rows.{is_beginning}

-- a list with a part with which no name begins
pub no_beginnings : (parts : List (List ℕ)) (place : ℕ) (part : List ℕ) → place < length parts → part ≡ get_or parts place part
    → is_beginning part ≡ false → ¬ All (λ p. is_beginning p ≡ true) parts
no_beginnings parts place part inside is none = λ all.
    let yes : is_beginning part ≡ true =
    subst (λ p. is_beginning p ≡ true) (sym is) (All-get_or (λ p. is_beginning p ≡ true) parts place part inside all) in
    cc (none, yes)

-- one more part
pub one_more_beginning : (parts : List (List ℕ)) (part : List ℕ) → All (λ p. is_beginning p ≡ true) parts → is_beginning part ≡ true
    → All (λ p. is_beginning p ≡ true) (parts ++ part ∷ [])
one_more_beginning parts part all is =
    All-append (λ p. is_beginning p ≡ true) parts (part ∷ []) all
    (All-cons (λ p. is_beginning p ≡ true) part [] is (All-nil (λ p. is_beginning p ≡ true)))
