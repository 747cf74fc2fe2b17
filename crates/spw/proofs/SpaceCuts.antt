-- A text at a space that was found.
use Rattle.std.proofs.Common.{◌≡◌, ◌<◌, ℕ, ◌+◌, ◌-◌, List, ◌∷◌, ◌++◌, length, get_or, take, drop, sym, ap, ap₂, ◌∙◌, subst, arith, eqb-true, refl}
use Rattle.std.specs.Prelude.{slice_range}
use Rattle.std.specs.Str.{IsUtf8, IsCharBoundary}
use Rattle.std.proofs.lemmas.List.{drop_more, get_or-drop, get_or-take, length-drop, length-take-le, take-append-drop}
use Rattle.std.proofs.lemmas.Str.{IsCharBoundary-after_ascii}
use Rattle.memchr.specs.Find.{Nowhere, NoneBefore, NoneAfter, Passes, is_byte}
use Rattle.spw.specs.Spaces.{HasNoSpace, IsCut}

-- the place of a space in a text
abbrev pub IsAtSpace : List ℕ → ℕ → Type 0
IsAtSpace text place = (place < length text) × Passes (is_byte 32) text place

-- a text without spaces
pub none_found : (text bytes : List ℕ) → bytes ≡ text → Nowhere (Passes (is_byte 32) bytes) 0 (length bytes) → HasNoSpace text
none_found text bytes same nowhere =
    let P : List ℕ → Type 0 = λ t. Nowhere (Passes (is_byte 32) t) 0 (length t) in
    let none = subst P same nowhere in
    λ i below is. none i (omega arith) below (rw is refl)

module _ (text bytes : List ℕ) (place : ℕ) (same : bytes ≡ text) (found : IsAtSpace bytes place) where
  placed : IsAtSpace text place
  placed = subst (λ (t : List ℕ). IsAtSpace t place) same found

  code : get_or text place 0 ≡ 32
  code = eqb-true (get_or text place 0) 32 placed.1

  -- the text can be cut after the space
  pub after_space : IsUtf8 text → IsCharBoundary text (place + 1)
  after_space utf8 = IsCharBoundary-after_ascii text place utf8 placed.0 (omega (arith, code))

  -- it is cut there
  pub space_cut : (before following : List ℕ) → before ≡ slice_range text 0 place → following ≡ drop (place + 1) text → IsCut text before following
  space_cut before following front back =
      let whole : place - 0 ≡ place = omega arith in
      sym (take-append-drop place text)
      ∙ ap₂ (λ (xs ys : List ℕ). xs ++ ys) (sym (front ∙ ap (λ n. take n text) whole))
      (drop_more text place 0 placed.0 ∙ ap₂ (λ (c : ℕ) (xs : List ℕ). c ∷ xs) code (sym back))

-- the first space is found there: none is before it
pub no_space_before : (text bytes : List ℕ) (place : ℕ) → bytes ≡ text → NoneBefore (Passes (is_byte 32) bytes) 0 (length bytes) place
    → (before : List ℕ) → before ≡ slice_range text 0 place → HasNoSpace before
no_space_before text bytes place same found before front =
    let none = subst (λ (t : List ℕ). NoneBefore (Passes (is_byte 32) t) 0 (length t) place) same found in
    let whole : place - 0 ≡ place = omega arith in
    subst HasNoSpace (sym (front ∙ ap (λ n. take n text) whole)) (λ i below is.
    let less : i < place = omega (arith, below, length-take-le place text (omega (arith, none.high))) in
    none.before i (omega arith) less (rw (sym (get_or-take place text i 0 less) ∙ is) refl))

-- the last space is found there: none is after it
pub no_space_after : (text bytes : List ℕ) (place : ℕ) → bytes ≡ text → NoneAfter (Passes (is_byte 32) bytes) 0 (length bytes) place
    → (following : List ℕ) → following ≡ drop (place + 1) text → HasNoSpace following
no_space_after text bytes place same found following back =
    let none = subst (λ (t : List ℕ). NoneAfter (Passes (is_byte 32) t) 0 (length t) place) same found in
    subst HasNoSpace (sym back) (λ i below is.
    let less : place + 1 + i < length text = omega (arith, below, length-drop (place + 1) text) in
    none.after (place + 1 + i) (omega arith) less (rw (sym (get_or-drop (place + 1) text i 0) ∙ is) refl))
