-- The operands one by one, and what is read from two results.
use Rattle.std.proofs.Common.{◌≡◌, ℕ, ◌-◌, ℤ, List, [], ◌∷◌, map, length, get_or, take, drop, refl, sym, ap, subst, arith}
use Rattle.std.proofs.lemmas.List.{take_all}
use Rattle.std.specs.Borrow.{Bor}
use Rattle.std.specs.Prelude.{IfOk, Ok, Err}
use Rattle.std.specs.declared.result.Result.{Result}
use Rattle.std.proofs.lemmas.Result.{IfOk-at_ok}
use Rattle.bpf_parts.specs.declared.memory.Size.{Size}
use Rattle.bpf_parts.specs.declared.operation.Operand.TheVariants.{FromRegister, Immediate}
use Rattle.bpf_insn.specs.declared.insn.Insn.{Insn}
use Rattle.bpf_insn.specs.declared.insn.Insn.TheVariants.{Store}
use Rattle.bpf_parts.specs.declared.memory.MemoryOperand.{MemoryOperand}
use Rattle.basm.specs.Relation.{Four, Three, Two, texts}

two_at : {X : Type 0} (text : X → List ℕ) (xs : List X) (d : X) (P Q : List ℕ → Type 0) → Two (map text xs) P Q → P (text (get_or xs 0 d)) × Q (text (get_or xs 1 d))
two_at text [] d P Q w = absurd w
two_at text (a ∷ []) d P Q w = absurd w.1
two_at text (a ∷ b ∷ []) d P Q w = w
two_at text (a ∷ b ∷ c ∷ xs) d P Q w = absurd w.1

four_at : {X : Type 0} (text : X → List ℕ) (xs : List X) (d : X) (P Q R S : List ℕ → Type 0) → Four (map text xs) P Q R S
    → P (text (get_or xs 0 d)) × Three (map text (take (length xs - 1) (drop 1 xs))) Q R S
four_at text [] d P Q R S w = absurd w
four_at text (a ∷ xs) d P Q R S w =
    let rest : take (length (a ∷ xs) - 1) xs ≡ xs = take_all (length (a ∷ xs) - 1) xs (omega arith) in
    (w.0, subst (λ t. Three (map text t) Q R S) (sym rest) w.1)

pub three_at : {X : Type 0} (text : X → List ℕ) (xs : List X) (d : X) (P Q R : List ℕ → Type 0) → Three (map text xs) P Q R
    → P (text (get_or xs 0 d)) × Q (text (get_or xs 1 d)) × R (text (get_or xs 2 d))
three_at text [] d P Q R w = absurd w
three_at text (a ∷ []) d P Q R w = absurd w.1
three_at text (a ∷ b ∷ []) d P Q R w = absurd w.1.1
three_at text (a ∷ b ∷ c ∷ []) d P Q R w = (w.0, w.1.0, w.1.1)
three_at text (a ∷ b ∷ c ∷ e ∷ xs) d P Q R w = absurd w.1.1

pub three_from : {X : Type 0} (text : X → List ℕ) (xs : List X) (d : X) (P Q R : List ℕ → Type 0) → length xs ≡ 3
    → P (text (get_or xs 0 d)) → Q (text (get_or xs 1 d)) → R (text (get_or xs 2 d)) → Three (map text xs) P Q R
three_from text [] d P Q R three p q r = absurd (omega arith)
three_from text (a ∷ []) d P Q R three p q r = absurd (omega arith)
three_from text (a ∷ b ∷ []) d P Q R three p q r = absurd (omega arith)
three_from text (a ∷ b ∷ c ∷ []) d P Q R three p q r = (p, (q, r))
three_from text (a ∷ b ∷ c ∷ e ∷ xs) d P Q R three p q r = absurd (omega arith)

-- if the texts of lent words are none, so are the words
pub no_words : (words : List (Bor (List ℕ))) → texts words ≡ [] → words ≡ []
no_words [] none = refl
no_words (a ∷ words) none = absurd (cc none)

-- both results
pub both_of : {A B E : Type 0} (first : Result A E) (second : Result B E) (r : Result (A × B) E) (a : A) (b : B) → IfOk first (λ x. IfOk second (λ y. r ≡ Ok (x, y)))
    → first ≡ Ok a → second ≡ Ok b → r ≡ Ok (a, b)
both_of first second r a b h p q =
    IfOk-at_ok (λ y. r ≡ Ok (a, y)) q (IfOk-at_ok (λ x. IfOk second (λ y. r ≡ Ok (x, y))) p h)

pub two_read : {X A B E : Type 0} (text : X → List ℕ) (xs : List X) (d : X) (P Q : List ℕ → Type 0) (first : Result A E) (second : Result B E) (r : Result (A × B) E) (a : A) (b : B)
    → IfOk first (λ x. IfOk second (λ y. r ≡ Ok (x, y))) → (P (text (get_or xs 0 d)) → first ≡ Ok a) → (Q (text (get_or xs 1 d)) → second ≡ Ok b) → Two (map text xs) P Q → r ≡ Ok (a, b)
two_read text xs d P Q first second r a b h p q w =
    let parts = two_at text xs d P Q w in both_of first second r a b h (p parts.0) (q parts.1)

pub four_read : {X A B E : Type 0} (text : X → List ℕ) (xs : List X) (d : X) (P Q R S : List ℕ → Type 0) (first : Result A E) (second : Result B E) (r : Result (A × B) E) (a : A) (b : B)
    → IfOk first (λ x. IfOk second (λ y. r ≡ Ok (x, y))) → (P (text (get_or xs 0 d)) → first ≡ Ok a) → (Three (map text (take (length xs - 1) (drop 1 xs))) Q R S → second ≡ Ok b)
    → Four (map text xs) P Q R S → r ≡ Ok (a, b)
four_read text xs d P Q R S first second r a b h p q w =
    let parts = four_at text xs d P Q R S w in both_of first second r a b h (p parts.0) (q parts.1)

-- what is read is the value
value_in : {T E : Type 0} → T → Result T E → T
value_in other (Ok x) = x
value_in other (Err e) = other

pub one_value : {T E : Type 0} (x y : T) → ◌≡◌ {A = Result T E} (Ok x) (Ok y) → x ≡ y
unfolding value_in
one_value x y same = ap (value_in x) same

-- a store to the place that is read
pub stored_number : {E : Type 0} (size : Size) (x : MemoryOperand) (read : ℤ) (place : MemoryOperand) (value : ℤ) → ◌≡◌ {A = Result (MemoryOperand × ℤ) E} (Ok (x, read)) (Ok (place, value))
    → ◌≡◌ {A = Result Insn E} (Ok (Store size x (Immediate read))) (Ok (Store size place (Immediate value)))
stored_number size x read place value same =
    ap (λ pair. Ok (Store size pair.0 (Immediate pair.1))) (one_value (x, read) (place, value) same)

pub stored_register : {E : Type 0} (size : Size) (x : MemoryOperand) (read : ℕ) (place : MemoryOperand) (src : ℕ) → ◌≡◌ {A = Result (MemoryOperand × ℕ) E} (Ok (x, read)) (Ok (place, src))
    → ◌≡◌ {A = Result Insn E} (Ok (Store size x (FromRegister read))) (Ok (Store size place (FromRegister src)))
stored_register size x read place src same =
    ap (λ pair. Ok (Store size pair.0 (FromRegister pair.1))) (one_value (x, read) (place, src) same)
