-- The fields of loops.
use Rattle.std.proofs.Common.{◌≡◌, ℕ, ◌<◌, ◌≤◌, ℤ, pos, List, [], ◌∷◌, map, length, get_or, Bool, true, false, ◌&&◌, inl, inr, refl, sym, ap, ◌∙◌, subst, true≢false, ne_eqb, arith}
use Rattle.std.specs.Prelude.{Option, Some, IfOk, Ok}
use Rattle.std.specs.Char.{digit_value, is_ascii_alphabetic}
use Rattle.std.specs.List.{list_all}
use Rattle.std.specs.declared.result.Result.{Result}
use Rattle.bpf.specs.declared.loops.Loop.{Loop}
use Rattle.bpf.specs.Program.{IsLoop}
use Rattle.basm_lex.specs.Names.{is_name, is_name_byte}
use Rattle.basm_lex.specs.Numbers.{IsDecimal, WritesNumber}
use Rattle.basm_lex.specs.Operands.{WritesRegister}
use Rattle.basm.specs.Relation.{Four, WritesEnd}
use Rattle.basm.proofs.OperandReadings.{both_of, one_value}
use Rattle.basm_lex.proofs.Readings.{first_same}

-- an end that is no name is a number
pub end_number : (names : List ℕ → Option ℕ) (word : List ℕ) (slot : ℕ) → is_name word ≡ false → WritesEnd names word slot → WritesNumber word (pos slot)
end_number names word slot other (inl named) = absurd (true≢false (sym named.0 ∙ other))
end_number names word slot other (inr number) = number

-- the four fields
four_of : {X : Type 0} (text : X → List ℕ) (xs : List X) (d : X) (P Q R S : List ℕ → Type 0) → Four (map text xs) P Q R S
    → P (text (get_or xs 0 d)) × Q (text (get_or xs 1 d)) × R (text (get_or xs 2 d)) × S (text (get_or xs 3 d))
four_of text [] d P Q R S w = absurd w
four_of text (a ∷ []) d P Q R S w = absurd w.1
four_of text (a ∷ b ∷ []) d P Q R S w = absurd w.1.1
four_of text (a ∷ b ∷ e ∷ []) d P Q R S w = absurd w.1.1.1
four_of text (a ∷ b ∷ e ∷ f ∷ []) d P Q R S w = (w.0, w.1.0, w.1.1.0, w.1.1.1)
four_of text (a ∷ b ∷ e ∷ f ∷ g ∷ xs) d P Q R S w = absurd w.1.1.1

pub loop_read : {X E : Type 0} (text : X → List ℕ) (xs : List X) (d : X) (names : List ℕ → Option ℕ) (l : Loop)
    (head back : Result ℕ E) (ends : Result (ℕ × ℕ) E) (bound register : Result ℕ E) (counts : Result (ℕ × ℕ) E) (r : Result ((ℕ × ℕ) × (ℕ × ℕ)) E)
    → IfOk head (λ x. IfOk back (λ y. ends ≡ Ok (x, y))) → IfOk bound (λ x. IfOk register (λ y. counts ≡ Ok (x, y))) → IfOk ends (λ x. IfOk counts (λ y. r ≡ Ok (x, y)))
    → (WritesEnd names (text (get_or xs 0 d)) l.head → head ≡ Ok l.head) → (WritesEnd names (text (get_or xs 1 d)) l.back → back ≡ Ok l.back)
    → (WritesNumber (text (get_or xs 2 d)) (pos l.bound) → bound ≡ Ok l.bound) → (WritesRegister (text (get_or xs 3 d)) l.register → register ≡ Ok l.register)
    → Four (map text xs) (λ a. WritesEnd names a l.head) (λ b. WritesEnd names b l.back) (λ c. WritesNumber c (pos l.bound)) (λ e. WritesRegister e l.register)
    → r ≡ Ok ((l.head, l.back), (l.bound, l.register))
loop_read text xs d names l head back ends bound register counts r p q s head_is back_is bound_is register_is w =
    let parts = four_of text xs d (λ a. WritesEnd names a l.head) (λ b. WritesEnd names b l.back) (λ c. WritesNumber c (pos l.bound)) (λ e. WritesRegister e l.register) w in
    both_of ends counts r (l.head, l.back) (l.bound, l.register) s
    (both_of head back ends l.head l.back p (head_is parts.0) (back_is parts.1))
    (both_of bound register counts l.bound l.register q (bound_is parts.2) (register_is parts.3))

pub same_loop : {E : Type 0} (head back bound register : ℕ) (l : Loop)
    → ◌≡◌ {A = Result ((ℕ × ℕ) × (ℕ × ℕ)) E} (Ok ((head, back), (bound, register))) (Ok ((l.head, l.back), (l.bound, l.register)))
    → ◌≡◌ {A = Result Loop E} (Ok (record { head = head; back = back; bound = bound; register = register })) (Ok l)
same_loop head back bound register l same =
    ap (λ x. Ok (record { head = x.0.0; back = x.0.1; bound = x.1.0; register = x.1.1 })) (one_value ((head, back), (bound, register)) ((l.head, l.back), (l.bound, l.register)) same)

-- the loop that is read is one of a program of `slots` slots
pub fitting : {E : Type 0} (slots given head back bound register : ℕ) (l : Loop)
    → ◌≡◌ {A = Result ((ℕ × ℕ) × (ℕ × ℕ)) E} (Ok ((head, back), (bound, register))) (Ok ((l.head, l.back), (l.bound, l.register)))
    → given ≡ slots → IsLoop slots l → IsLoop given (record { head = head; back = back; bound = bound; register = register })
fitting slots given head back bound register l same is_given is =
    let one = one_value ((head, back), (bound, register)) ((l.head, l.back), (l.bound, l.register)) same in
    let found : record { head = head; back = back; bound = bound; register = register } ≡ l =
    ap (λ x. record { head = x.0.0; back = x.0.1; bound = x.1.0; register = x.1.1 }) one in
    subst (λ s. IsLoop s (record { head = head; back = back; bound = bound; register = register })) (sym is_given) (subst (λ x. IsLoop slots x) (sym found) is)

pub four_long : {X : Type 0} (text : X → List ℕ) (xs : List X) (P Q R S : List ℕ → Type 0) → Four (map text xs) P Q R S → length xs ≡ 4
four_long text [] P Q R S w = absurd w
four_long text (a ∷ []) P Q R S w = absurd w.1
four_long text (a ∷ b ∷ []) P Q R S w = absurd w.1.1
four_long text (a ∷ b ∷ e ∷ []) P Q R S w = absurd w.1.1.1
four_long text (a ∷ b ∷ e ∷ f ∷ []) P Q R S w = refl
four_long text (a ∷ b ∷ e ∷ f ∷ g ∷ xs) P Q R S w = absurd w.1.1.1

-- a number begins with no letter
letter_high : (c : ℕ) → is_ascii_alphabetic c ≡ true → 65 ≤ c
letter_high c letter = grind arith

digit_low : (c : ℕ) → digit_value c < 10 → c < 58
digit_low c digit = grind arith

left_true : (a b : Bool) → (a && b) ≡ true → a ≡ true
left_true true b both = refl
left_true false b both = absurd (true≢false (sym both))

no_number : (word : List ℕ) (value : ℤ) → WritesNumber word value → is_name word ≡ true → ⊥
no_number [] value w name = true≢false (sym name)
no_number (c ∷ cs) value (inl w) name =
    let high : 65 ≤ c = letter_high c (left_true (is_ascii_alphabetic c) (list_all is_name_byte (c ∷ cs)) name) in
    let decimal : IsDecimal (c ∷ cs) = w.0.0 in
    let numeral = rw (ne_eqb c 45 (λ same. absurd (omega arith))) at decimal in
    let low : c < 58 = digit_low c numeral.1.0 in
    absurd (omega arith)
no_number (c ∷ cs) value (inr p) name =
    let high : 65 ≤ c = letter_high c (left_true (is_ascii_alphabetic c) (list_all is_name_byte (c ∷ cs)) name) in
    let same : c ≡ 48 = first_same c 48 cs (120 ∷ p.written.digits) p.written.prefix in
    absurd (omega arith)

pub end_named : (names : List ℕ → Option ℕ) (word : List ℕ) (slot : ℕ) → is_name word ≡ true → WritesEnd names word slot → names word ≡ Some slot
end_named names word slot name (inl named) = named.1
end_named names word slot name (inr number) = absurd (no_number word (pos slot) number name)
