-- How the reader takes the word of a memory operand apart.
use Rattle.std.proofs.Common.{◌≡◌, ℕ, zero, suc, ◌<◌, ◌≤◌, ℤ, List, [], ◌∷◌, ◌++◌, length, get_or, refl, Some, None, Bor, inl, inr, sym, ap, ◌∙◌, subst, lit<, arith}
use Rattle.std.specs.Prelude.{◌≢◌, Option, MatchOption}
use Rattle.std.specs.Char.{digit_value}
use Rattle.std.specs.Str.Parse.{AllDigits}
use Rattle.std.proofs.lemmas.List.{append_cancel_right}
use Rattle.std.proofs.lemmas.Str.Pattern.{IsSplitOnceResult, split_after, split_parts}
use Rattle.bpf_parts.specs.Text.{register_text}
use Rattle.basm_lex.specs.Numbers.{WritesBackward, WritesDistance, WritesMagnitude}
use Rattle.bpf_parts.specs.declared.memory.MemoryOperand.{MemoryOperand}
use Rattle.basm_lex.specs.Operands.{WritesMemoryOperand}
use Rattle.basm_lex.proofs.RegisterTexts.{text_0, text_1, text_2, text_3, text_4, text_5, text_6, text_7, text_8, text_9, text_10}

-- the character is none of the text's
abbrev Lacks : ℕ → List ℕ → Type 0
Lacks c [] = Unit {0}
Lacks c (x ∷ xs) = (x ≢ c) × Lacks c xs

lacks_at : (c : ℕ) (xs : List ℕ) → Lacks c xs → (i : ℕ) → i < length xs → get_or xs i 0 ≢ c
lacks_at c [] free i below = absurd (omega arith)
lacks_at c (x ∷ xs) free zero below = free.0
lacks_at c (x ∷ xs) free (suc i) below = lacks_at c xs free.1 i (omega arith)

lacks_both : (c : ℕ) (xs ys : List ℕ) → Lacks c xs → Lacks c ys → Lacks c (xs ++ ys)
lacks_both c [] ys free rest = rest
lacks_both c (x ∷ xs) ys free rest = (free.0, lacks_both c xs ys free.1 rest)

lacks_none : (c : ℕ) (xs ys : List ℕ) → ¬ Lacks c (xs ++ c ∷ ys)
lacks_none c [] ys free = free.0 refl
lacks_none c (x ∷ xs) ys free = lacks_none c xs ys free.1

-- digits have no plus
numeral_lacks : (radix : ℕ) → radix ≤ 36 → (ds : List ℕ) → AllDigits radix ds → Lacks 43 ds
numeral_lacks radix small [] all = tt
numeral_lacks radix small (d ∷ ds) all =
    (λ same. let digit : 36 < radix = subst (λ x. digit_value x < radix) same all.0 in absurd (omega arith), numeral_lacks radix small ds all.1)

magnitude_lacks : (ds : List ℕ) (value : ℤ) → WritesMagnitude ds value → Lacks 43 ds
magnitude_lacks ds value (inl w) = numeral_lacks 10 (omega arith) ds w.0.1
magnitude_lacks ds value (inr p) =
    let digits = p.written.digits in
    let all : Lacks 43 digits = numeral_lacks 16 (omega arith) digits p.written.hexadecimal.0.1 in
    subst (λ x. Lacks 43 x) (sym p.written.prefix) (λ same. absurd (omega arith), (λ same. absurd (omega arith), all))

-- and the names of registers have no plus and no minus
short_name : (c d : ℕ) → c < 48 → 48 ≤ d → Lacks c (114 ∷ d ∷ [])
short_name c d low high = (λ same. absurd (omega arith), (λ same. absurd (omega arith), tt))

short_tail : (c : ℕ) → c < 48 → Lacks c (49 ∷ 48 ∷ [])
short_tail c low = (λ same. absurd (omega arith), (λ same. absurd (omega arith), tt))

register_lacks : (c : ℕ) → c < 48 → (n : ℕ) → n ≤ 10 → Lacks c (register_text n)
register_lacks c low zero most = subst (λ t. Lacks c t) (sym text_0) (short_name c 48 low (omega arith))
register_lacks c low (suc zero) most = subst (λ t. Lacks c t) (sym text_1) (short_name c 49 low (omega arith))
register_lacks c low (suc (suc zero)) most = subst (λ t. Lacks c t) (sym text_2) (short_name c 50 low (omega arith))
register_lacks c low (suc (suc (suc zero))) most = subst (λ t. Lacks c t) (sym text_3) (short_name c 51 low (omega arith))
register_lacks c low (suc (suc (suc (suc zero)))) most = subst (λ t. Lacks c t) (sym text_4) (short_name c 52 low (omega arith))
register_lacks c low (suc (suc (suc (suc (suc zero))))) most = subst (λ t. Lacks c t) (sym text_5) (short_name c 53 low (omega arith))
register_lacks c low (suc (suc (suc (suc (suc (suc zero)))))) most = subst (λ t. Lacks c t) (sym text_6) (short_name c 54 low (omega arith))
register_lacks c low (suc (suc (suc (suc (suc (suc (suc zero))))))) most = subst (λ t. Lacks c t) (sym text_7) (short_name c 55 low (omega arith))
register_lacks c low (suc (suc (suc (suc (suc (suc (suc (suc zero)))))))) most = subst (λ t. Lacks c t) (sym text_8) (short_name c 56 low (omega arith))
register_lacks c low (suc (suc (suc (suc (suc (suc (suc (suc (suc zero))))))))) most = subst (λ t. Lacks c t) (sym text_9) (short_name c 57 low (omega arith))
register_lacks c low (suc (suc (suc (suc (suc (suc (suc (suc (suc (suc zero)))))))))) most =
    subst (λ t. Lacks c t) (sym text_10) (λ same. absurd (omega arith), short_tail c low)
register_lacks c low (suc (suc (suc (suc (suc (suc (suc (suc (suc (suc (suc n))))))))))) most = absurd (omega arith)

-- the two parts of the text between the brackets
inside_is : (word inner : List ℕ) (place : MemoryOperand) → word ≡ 91 ∷ (inner ++ 93 ∷ []) → (w : WritesMemoryOperand word place) → inner ≡ register_text place.base ++ w.distance
inside_is word inner place outside w =
    let same : 91 ∷ (inner ++ 93 ∷ []) ≡ 91 ∷ ((register_text place.base ++ w.distance) ++ 93 ∷ []) = sym outside ∙ w.word_is in
    append_cancel_right inner (register_text place.base ++ w.distance) (93 ∷ []) (cc same)

split_at_sign : (sign : ℕ) → sign < 48 → (word inner digits : List ℕ) (place : MemoryOperand) (r : Option (Bor (List ℕ) × Bor (List ℕ))) → IsSplitOnceResult sign inner r
    → word ≡ 91 ∷ (inner ++ 93 ∷ []) → (w : WritesMemoryOperand word place) → w.distance ≡ sign ∷ digits → MatchOption r ⊥ (λ x. (x.0.now ≡ register_text place.base) × (x.1.now ≡ digits))
split_at_sign sign low word inner digits place r split outside w signed =
    split_after sign inner (register_text place.base) digits r split (omega arith) (inside_is word inner place outside w ∙ ap (λ d. register_text place.base ++ d) signed)
    (lacks_at sign (register_text place.base) (register_lacks sign low place.base w.is_base))

no_plus_in : (word inner : List ℕ) (place : MemoryOperand) → word ≡ 91 ∷ (inner ++ 93 ∷ []) → (w : WritesMemoryOperand word place) → (b : WritesBackward w.distance place.offset) → Lacks 43 inner
no_plus_in word inner place outside w b =
    subst (λ x. Lacks 43 x) (sym (inside_is word inner place outside w ∙ ap (λ d. register_text place.base ++ d) b.signed))
    (lacks_both 43 (register_text place.base) (45 ∷ b.digits) (register_lacks 43 (omega arith) place.base w.is_base) (λ same. absurd (omega (arith, same)), magnitude_lacks b.digits b.forward b.magnitude))

-- what is read after a plus
pub at_plus : (word inner : List ℕ) → word ≡ 91 ∷ (inner ++ 93 ∷ []) → (x : Bor (List ℕ) × Bor (List ℕ)) → IsSplitOnceResult 43 inner (Some x)
    → (place : MemoryOperand) → WritesMemoryOperand word place → (x.0.now ≡ register_text place.base) × WritesDistance (43 ∷ x.1.now) place.offset
at_plus word inner outside x split place w = elim w.writes [
  | inl f ↦
      let parts = split_at_sign 43 (omega arith) word inner f.digits place (Some x) split outside w f.signed in
      (parts.0, inl (record { digits = x.1.now; signed = refl; magnitude = subst (λ d. WritesMagnitude d place.offset) (sym parts.1) f.magnitude }))
  | inr b ↦
      let whole = split_parts 43 inner (Some x) split (lit< tt) in
      absurd (lacks_none 43 x.0.now x.1.now (subst (λ t. Lacks 43 t) whole.0 (no_plus_in word inner place outside w b)))
]

-- and after a minus, if there is no plus
pub at_minus : (word inner : List ℕ) → word ≡ 91 ∷ (inner ++ 93 ∷ []) → IsSplitOnceResult 43 inner None → (x : Bor (List ℕ) × Bor (List ℕ)) → IsSplitOnceResult 45 inner (Some x)
    → (place : MemoryOperand) → WritesMemoryOperand word place → (x.0.now ≡ register_text place.base) × WritesDistance (45 ∷ x.1.now) place.offset
at_minus word inner outside none x split place w = elim w.writes [
  | inl f ↦ absurd (split_at_sign 43 (omega arith) word inner f.digits place None none outside w f.signed)
  | inr b ↦
      let parts = split_at_sign 45 (omega arith) word inner b.digits place (Some x) split outside w b.signed in
      (parts.0, inr (record { digits = x.1.now; forward = b.forward; signed = refl; magnitude = subst (λ d. WritesMagnitude d b.forward) (sym parts.1) b.magnitude; negated = b.negated }))
]

-- one of them is there
pub some_sign : (word inner : List ℕ) → word ≡ 91 ∷ (inner ++ 93 ∷ []) → IsSplitOnceResult 43 inner None → IsSplitOnceResult 45 inner None
    → (place : MemoryOperand) → ¬ WritesMemoryOperand word place
some_sign word inner outside none neither place w = elim w.writes [
  | inl f ↦ split_at_sign 43 (omega arith) word inner f.digits place None none outside w f.signed
  | inr b ↦ split_at_sign 45 (omega arith) word inner b.digits place None neither outside w b.signed
]

-- the brackets themselves
pub in_brackets : (word rest : List ℕ) (r : Option (Bor (List ℕ))) → word ≡ 91 ∷ rest → MatchOption r ((front : List ℕ) → rest ≢ front ++ (93 ∷ [])) (λ x. rest ≡ x.now ++ (93 ∷ []))
    → MatchOption r ((inner : List ℕ) → word ≢ 91 ∷ (inner ++ 93 ∷ [])) (λ inner. word ≡ 91 ∷ (inner.now ++ 93 ∷ []))
in_brackets word rest None same ends = λ inner e. ends inner (let back : rest ≡ inner ++ 93 ∷ [] = cc (same, e) in back)
in_brackets word rest (Some x) same ends = same ∙ ap (λ t. 91 ∷ t) ends
