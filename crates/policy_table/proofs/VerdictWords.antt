-- The words of verdicts.
use Rattle.std.proofs.Common.{◌≡◌, ◌≢◌, ◌<◌, ℕ, List, length, get_or, decimal, refl, sym, ap, ◌∙◌, subst, inl, inr, arith}
use Rattle.std.proofs.lemmas.Bool.{cases_lt}
use Rattle.std.proofs.lemmas.Fmt.{decimal_digit, first_decimal, decimal_is_IsNumeral, decimal-digits_value}
use Rattle.std.proofs.lemmas.Str.Parse.{numerals_by_value, tells_digits}
use Rattle.std.specs.Str.Parse.{digits_value}
use Rattle.rmap.specs.declared.verdict.Verdict.{Verdict}
use Rattle.rmap.specs.declared.verdict.Verdict.TheVariants.{Authorised, InvalidKey, NotAuthorised, InvalidLogicalAddress}
use Rattle.rmap.specs.Verdict.{verdict_number, verdict_of}
use Rattle.policy_table.specs.Fields.{IsDigits, IsVerdictWord, WritesCount}

small : (v : Verdict) → verdict_number v < 13
small Authorised = omega arith
small InvalidKey = omega arith
small NotAuthorised = omega arith
small InvalidLogicalAddress = omega arith

-- the number of a verdict says which verdict it is
reported : (v : Verdict) → verdict_of (verdict_number v) ≡ v
reported Authorised = refl
reported InvalidKey = refl
reported NotAuthorised = refl
reported InvalidLogicalAddress = refl

-- the word of a verdict has no leading zero
pub no_leading_zero : (word : List ℕ) → 1 < length word → get_or word 0 0 ≡ 48 → (v : Verdict) → ¬ IsVerdictWord word v
no_leading_zero word more zero v is = elim (cases_lt 0 (verdict_number v)) [
  | inl some ↦
      let few = small v in
      let first = first_decimal (verdict_number v) some (omega (arith, few)) in
      absurd (omega (arith, zero, first, ap (λ (w : List ℕ). get_or w 0 0) is))
  | inr none ↦ absurd (omega (arith, more, ap length (is ∙ decimal_digit (verdict_number v) (omega (arith, none)))))
]

-- it is a decimal, of the verdict's number
pub is_decimal : (word : List ℕ) (v : Verdict) → IsVerdictWord word v → IsDigits word × (digits_value 10 word ≡ verdict_number v)
is_decimal word v is =
    let few = small v in
    let numeral = decimal_is_IsNumeral (verdict_number v) (omega (arith, few)) in
    subst (λ (w : List ℕ). IsDigits w × (digits_value 10 w ≡ verdict_number v)) (sym is) numeral

-- a decimal of the verdict's number is its word, if it has no leading zero
pub is_this_word : (word : List ℕ) (n : ℕ) (v : Verdict) → WritesCount word n → n ≡ verdict_number v → (get_or word 0 0 ≡ 48 → length word ≡ 1) → IsVerdictWord word v
is_this_word word n v writes same alone =
    let few = small v in
    let kept = writes.1 in
    let value : digits_value 10 word ≡ verdict_number v = omega (arith, few, kept, same) in
    sym (decimal-digits_value (numerals_by_value _ tells_digits) word writes.0.1 writes.0.0 alone (omega (arith, few, value))) ∙ ap decimal value

-- a number writes no verdict if it is not the number of the verdict that `verdict_of` gives for it
pub is_none : (word : List ℕ) (n : ℕ) → WritesCount word n → n ≢ verdict_number (verdict_of n) → (v : Verdict) → ¬ IsVerdictWord word v
is_none word n writes other v is =
    let few = small v in
    let kept = writes.1 in
    let value = (is_decimal word v is).1 in
    let same : n ≡ verdict_number v = omega (arith, few, kept, value) in
    other (same ∙ ap verdict_number (sym (reported v) ∙ ap verdict_of (sym same)))

-- a word is that of one verdict
pub one_verdict : (word : List ℕ) (a b : Verdict) → IsVerdictWord word a → IsVerdictWord word b → a ≡ b
one_verdict word a b h g =
    sym (reported a) ∙ ap verdict_of (sym (is_decimal word a h).1 ∙ (is_decimal word b g).1) ∙ reported b
