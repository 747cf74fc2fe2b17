-- Lists in arrays of eight, with one thing after them.
use Rattle.std.specs.Prelude.{◌≡◌, ◌≤◌, ℕ, ◌-◌, List, ◌++◌, length, replicate, take, drop}
use Rattle.std.proofs.Common.{sym, ap, ◌∙◌, arith}
use Rattle.std.proofs.lemmas.List.{length-take, take-append-drop}

-- a list of at most eight, with blanks up to eight
abbrev pub padded : {X : Type 0} → (blank : X) → List X → List X
padded blank xs = xs ++ replicate (8 - length xs) blank

-- there are eight, and all after the first `count` are blank
pub record IsPadded {X : Type 0} (blank : X) (count : ℕ) (xs : List X) : Type 0 where
  pub few : count ≤ 8
  pub len : length xs ≡ 8
  pub blanks : drop count xs ≡ replicate (8 - count) blank

-- `count` is how many are in front
pub length-front : {X : Type 0} (blank : X) (count : ℕ) (xs : List X) → IsPadded blank count xs → length (take count xs)
    ≡ count
length-front blank count xs h = let few = h.few in let len = h.len in omega (arith, length-take count xs)

-- with blanks up to eight, those in front are all of them
pub padded-front : {X : Type 0} (blank : X) (count : ℕ) (xs : List X) → IsPadded blank count xs
    → padded blank (take count xs) ≡ xs
padded-front blank count xs h =
    let len = length-front blank count xs h in
    let blanks : replicate (8 - length (take count xs)) blank ≡ drop count xs =
    ap (λ (n : ℕ). replicate (8 - n) blank) len ∙ sym h.blanks in
    rw blanks (take-append-drop count xs)
