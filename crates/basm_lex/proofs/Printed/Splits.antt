-- Texts that are cut at the place at which a test passes.
use Rattle.std.proofs.Common.{◌≡◌, suc, ◌+◌, Bool, true, false, List, [], ◌∷◌, ◌++◌, take, drop, refl, ap, ◌∙◌, arith}
use Rattle.std.specs.List.{after_first, before_first, onto_first, position_or_len, slice_split}

-- the test passes nowhere
abbrev pub AllFail : {X : Type 0} → (X → Bool) → List X → Type 0
AllFail p [] = Unit {0}
AllFail p (x ∷ xs) = (p x ≡ false) × AllFail p xs

pub fail_append : {X : Type 0} (p : X → Bool) (xs ys : List X) → AllFail p xs → AllFail p ys → AllFail p (xs ++ ys)
fail_append p [] ys fail more = more
fail_append p (x ∷ xs) ys fail more = (fail.0, fail_append p xs ys fail.1 more)

position_next : {X : Type 0} (p : X → Bool) (x : X) (xs : List X) → p x ≡ false → position_or_len p (x ∷ xs) ≡ suc (position_or_len p xs)
position_next p x xs fails = rw fails (omega arith)

position_here : {X : Type 0} (p : X → Bool) (x : X) (xs : List X) → p x ≡ true → position_or_len p (x ∷ xs) ≡ 0
position_here p x xs passes = rw passes

before_next : {X : Type 0} (p : X → Bool) (x : X) (xs : List X) → p x ≡ false → before_first p (x ∷ xs) ≡ x ∷ before_first p xs
before_next p x xs fails = ap (λ k. take k (x ∷ xs)) (position_next p x xs fails)

after_next : {X : Type 0} (p : X → Bool) (x : X) (xs : List X) → p x ≡ false → after_first p (x ∷ xs) ≡ after_first p xs
after_next p x xs fails =
    let one_more : position_or_len p (x ∷ xs) + 1 ≡ suc (position_or_len p xs + 1) = omega (arith, position_next p x xs fails) in
    ap (λ k. drop k (x ∷ xs)) one_more

-- ---- the part before, and the part after

pub before_none : {X : Type 0} (p : X → Bool) (xs : List X) → AllFail p xs → before_first p xs ≡ xs
before_none p [] fail = refl
before_none p (x ∷ xs) fail = before_next p x xs fail.0 ∙ ap (λ rest. x ∷ rest) (before_none p xs fail.1)

pub before_at : {X : Type 0} (p : X → Bool) (xs : List X) (y : X) (ys : List X) → AllFail p xs → p y ≡ true → before_first p (xs ++ y ∷ ys) ≡ xs
before_at p [] y ys fail pass = ap (λ k. take k (y ∷ ys)) (position_here p y ys pass)
before_at p (x ∷ xs) y ys fail pass = before_next p x (xs ++ y ∷ ys) fail.0 ∙ ap (λ rest. x ∷ rest) (before_at p xs y ys fail.1 pass)

pub after_none : {X : Type 0} (p : X → Bool) (xs : List X) → AllFail p xs → after_first p xs ≡ []
after_none p [] fail = refl
after_none p (x ∷ xs) fail = after_next p x xs fail.0 ∙ after_none p xs fail.1

pub after_at : {X : Type 0} (p : X → Bool) (xs : List X) (y : X) (ys : List X) → AllFail p xs → p y ≡ true → after_first p (xs ++ y ∷ ys) ≡ ys
after_at p [] y ys fail pass = ap (λ k. drop (k + 1) (y ∷ ys)) (position_here p y ys pass)
after_at p (x ∷ xs) y ys fail pass = after_next p x (xs ++ y ∷ ys) fail.0 ∙ after_at p xs y ys fail.1 pass

-- ---- all parts

pub split_none : {X : Type 0} (p : X → Bool) (xs : List X) → AllFail p xs → slice_split p xs ≡ xs ∷ []
split_none p [] fail = refl
split_none p (x ∷ xs) fail = rw fail.0 (ap (onto_first x) (split_none p xs fail.1))

pub split_at : {X : Type 0} (p : X → Bool) (xs : List X) (y : X) (ys : List X) → AllFail p xs → p y ≡ true → slice_split p (xs ++ y ∷ ys) ≡ xs ∷ slice_split p ys
split_at p [] y ys fail pass = rw pass
split_at p (x ∷ xs) y ys fail pass = rw fail.0 (ap (onto_first x) (split_at p xs y ys fail.1 pass))
