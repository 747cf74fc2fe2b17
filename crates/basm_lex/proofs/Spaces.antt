-- Texts without the spaces before or after them.
use Rattle.std.proofs.Common.{◌≡◌, ℕ, suc, ◌+◌, ◌≤◌, List, [], ◌∷◌, ◌++◌, length, get_or, take, map, true, false, not, cond, inl, inr, refl, sym, ap, ◌∙◌, subst, eqb-true, arith}
use Rattle.std.specs.Prelude.{◌≢◌, ◌==◌}
use Rattle.std.proofs.lemmas.Bool.{cases_Bool, cond_both, false_from_ne_true, true≢false}
use Rattle.std.specs.List.{before_first, position_or_len, slice_split}
use Rattle.basm_lex.specs.Lines.{is_comma, is_semicolon, without_leading_spaces, trailing_part, without_trailing_spaces, parts_between_commas, trimmed_text}

-- one space after a text
pub drop_one : (front : List ℕ) → without_trailing_spaces (front ++ 32 ∷ []) ≡ without_trailing_spaces front
drop_one [] = refl
drop_one (c ∷ cs) = ap (trailing_part c) (drop_one cs)

-- a text that does not end with a space
pub drop_none : (text : List ℕ) → ((front : List ℕ) → text ≢ front ++ 32 ∷ []) → without_trailing_spaces text ≡ text
drop_none [] ends = refl
drop_none (c ∷ []) ends =
    let P : List ℕ → Type 0 = λ t. t ≡ c ∷ [] in
    cond_both (c == 32) [] (c ∷ []) P (λ yes. absurd (ends [] (ap (λ x. x ∷ []) (eqb-true c 32 yes)))) (λ no. refl)
drop_none (c ∷ d ∷ ds) ends =
    ap (trailing_part c) (drop_none (d ∷ ds) (λ front same. ends (c ∷ front) (ap (λ xs. c ∷ xs) same)))

-- a text that does not begin with a space
pub skip_none : (text : List ℕ) → ((rest : List ℕ) → text ≢ 32 ∷ rest) → without_leading_spaces text ≡ text
skip_none [] begins = refl
skip_none (c ∷ cs) begins =
    let P : List ℕ → Type 0 = λ t. t ≡ c ∷ cs in
    cond_both (c == 32) (without_leading_spaces cs) (c ∷ cs) P (λ yes. absurd (begins cs (ap (λ x. x ∷ cs) (eqb-true c 32 yes)))) (λ no. refl)

-- a text that is not empty is separated
pub some_separated : (text : List ℕ) → (length text == 0) ≡ false → map trimmed_text (slice_split is_comma text) ≡ parts_between_commas text
some_separated [] some = absurd (true≢false some)
some_separated (c ∷ cs) some = refl

-- a text that does not begin with a semicolon keeps its first character
before_kept : (c : ℕ) (cs : List ℕ) → (c == 59) ≡ false → before_first is_semicolon (c ∷ cs) ≡ c ∷ before_first is_semicolon cs
before_kept c cs other =
    let n = position_or_len is_semicolon cs in
    ap (λ t. take (cond (not t) (1 + n) 0) (c ∷ cs)) other ∙ ap (λ k. take k (c ∷ cs)) (let same : 1 + n ≡ suc n = omega arith in same)

not_bare : (n : ℕ) → (suc n == 0) ≡ false
not_bare n = false_from_ne_true (suc n == 0) (λ same. let none = eqb-true (suc n) 0 same in absurd (omega (arith, none)))

-- the first character says whether a text begins with a comment
pub begins_bare : (text : List ℕ) (d : ℕ) → 1 ≤ length text → (get_or text 0 d == 59) ≡ (length (before_first is_semicolon text) == 0)
begins_bare [] d some = absurd (omega arith)
begins_bare (c ∷ cs) d some =
    let P : ℕ → Type 0 = λ e. (e == 59) ≡ (length (before_first is_semicolon (e ∷ cs)) == 0) in
    elim (cases_Bool (c == 59)) [
      | inl is ↦ subst P (sym (eqb-true c 59 is)) refl
      | inr other ↦ other ∙ sym (ap (λ xs. length xs == 0) (before_kept c cs other) ∙ not_bare (length (before_first is_semicolon cs)))
    ]

-- spaces before a text are before its comment
pub skip_first : (text : List ℕ) → without_leading_spaces (before_first is_semicolon text) ≡ before_first is_semicolon (without_leading_spaces text)
skip_first [] = refl
skip_first (c ∷ cs) =
    let P : ℕ → Type 0 = λ d. without_leading_spaces (before_first is_semicolon (d ∷ cs)) ≡ before_first is_semicolon (without_leading_spaces (d ∷ cs)) in
    elim (cases_Bool (c == 59)) [
      | inl is ↦ subst P (sym (eqb-true c 59 is)) refl
      | inr other ↦
          let kept = before_kept c cs other in
          let skipped : cond (c == 32) (without_leading_spaces (before_first is_semicolon cs)) (c ∷ before_first is_semicolon cs) ≡ before_first is_semicolon (cond (c == 32) (without_leading_spaces cs) (c ∷ cs)) =
          elim (c == 32) as (λ t. cond t (without_leading_spaces (before_first is_semicolon cs)) (c ∷ before_first is_semicolon cs) ≡ before_first is_semicolon (cond t (without_leading_spaces cs) (c ∷ cs))) [
            | true ↦ skip_first cs
            | false ↦ sym kept
          ] in
          ap without_leading_spaces kept ∙ skipped
    ]

pub code_before : (line begun : List ℕ) → begun ≡ without_leading_spaces line → without_leading_spaces (before_first is_semicolon line) ≡ before_first is_semicolon begun
code_before line begun same = skip_first line ∙ sym (ap (before_first is_semicolon) same)
