-- The names of the registers.
use Rattle.std.proofs.Common.{◌≡◌, ℕ, zero, suc, ◌-◌, ◌≤◌, List, [], ◌∷◌, refl, sym, ap, ◌∙◌, arith}
use Rattle.std.specs.Prelude.{◌≢◌, codes}
use Rattle.std.specs.Fmt.{digits}
use Rattle.bpf_parts.specs.Text.{register_text}
use Rattle.basm_lex.specs.Operands.{WritesRegister}

pub text_0 : register_text 0 ≡ codes "r0"
unfolding digits
text_0 = refl

pub text_1 : register_text 1 ≡ codes "r1"
unfolding digits
text_1 = refl

pub text_2 : register_text 2 ≡ codes "r2"
unfolding digits
text_2 = refl

pub text_3 : register_text 3 ≡ codes "r3"
unfolding digits
text_3 = refl

pub text_4 : register_text 4 ≡ codes "r4"
unfolding digits
text_4 = refl

pub text_5 : register_text 5 ≡ codes "r5"
unfolding digits
text_5 = refl

pub text_6 : register_text 6 ≡ codes "r6"
unfolding digits
text_6 = refl

pub text_7 : register_text 7 ≡ codes "r7"
unfolding digits
text_7 = refl

pub text_8 : register_text 8 ≡ codes "r8"
unfolding digits
text_8 = refl

pub text_9 : register_text 9 ≡ codes "r9"
unfolding digits
text_9 = refl

pub text_10 : register_text 10 ≡ codes "r10"
unfolding digits
text_10 = refl

-- a word that is none of them
pub no_register : (word : List ℕ) → word ≢ codes "r0" → word ≢ codes "r1" → word ≢ codes "r2" → word ≢ codes "r3" → word ≢ codes "r4" → word ≢ codes "r5" → word ≢ codes "r6" → word ≢ codes "r7" → word ≢ codes "r8" → word ≢ codes "r9" → word ≢ codes "r10" → (n : ℕ) → WritesRegister word n → ⊥
no_register word h0 h1 h2 h3 h4 h5 h6 h7 h8 h9 h10 zero w = h0 (w.1 ∙ text_0)
no_register word h0 h1 h2 h3 h4 h5 h6 h7 h8 h9 h10 (suc zero) w = h1 (w.1 ∙ text_1)
no_register word h0 h1 h2 h3 h4 h5 h6 h7 h8 h9 h10 (suc (suc zero)) w = h2 (w.1 ∙ text_2)
no_register word h0 h1 h2 h3 h4 h5 h6 h7 h8 h9 h10 (suc (suc (suc zero))) w = h3 (w.1 ∙ text_3)
no_register word h0 h1 h2 h3 h4 h5 h6 h7 h8 h9 h10 (suc (suc (suc (suc zero)))) w = h4 (w.1 ∙ text_4)
no_register word h0 h1 h2 h3 h4 h5 h6 h7 h8 h9 h10 (suc (suc (suc (suc (suc zero))))) w = h5 (w.1 ∙ text_5)
no_register word h0 h1 h2 h3 h4 h5 h6 h7 h8 h9 h10 (suc (suc (suc (suc (suc (suc zero)))))) w = h6 (w.1 ∙ text_6)
no_register word h0 h1 h2 h3 h4 h5 h6 h7 h8 h9 h10 (suc (suc (suc (suc (suc (suc (suc zero))))))) w = h7 (w.1 ∙ text_7)
no_register word h0 h1 h2 h3 h4 h5 h6 h7 h8 h9 h10 (suc (suc (suc (suc (suc (suc (suc (suc zero)))))))) w = h8 (w.1 ∙ text_8)
no_register word h0 h1 h2 h3 h4 h5 h6 h7 h8 h9 h10 (suc (suc (suc (suc (suc (suc (suc (suc (suc zero))))))))) w = h9 (w.1 ∙ text_9)
no_register word h0 h1 h2 h3 h4 h5 h6 h7 h8 h9 h10 (suc (suc (suc (suc (suc (suc (suc (suc (suc (suc zero)))))))))) w = h10 (w.1 ∙ text_10)
no_register word h0 h1 h2 h3 h4 h5 h6 h7 h8 h9 h10 (suc (suc (suc (suc (suc (suc (suc (suc (suc (suc (suc n))))))))))) w = absurd (omega arith)

-- the number in a register's name
number_in : List ℕ → ℕ
number_in [] = 0
number_in (c ∷ []) = 0
number_in (c ∷ d ∷ []) = d - 48
number_in (c ∷ d ∷ e ∷ xs) = 10

number_in_text : (n : ℕ) → n ≤ 10 → number_in (register_text n) ≡ n
unfolding number_in
number_in_text zero low = ap number_in text_0
number_in_text (suc zero) low = ap number_in text_1
number_in_text (suc (suc zero)) low = ap number_in text_2
number_in_text (suc (suc (suc zero))) low = ap number_in text_3
number_in_text (suc (suc (suc (suc zero)))) low = ap number_in text_4
number_in_text (suc (suc (suc (suc (suc zero))))) low = ap number_in text_5
number_in_text (suc (suc (suc (suc (suc (suc zero)))))) low = ap number_in text_6
number_in_text (suc (suc (suc (suc (suc (suc (suc zero))))))) low = ap number_in text_7
number_in_text (suc (suc (suc (suc (suc (suc (suc (suc zero)))))))) low = ap number_in text_8
number_in_text (suc (suc (suc (suc (suc (suc (suc (suc (suc zero))))))))) low = ap number_in text_9
number_in_text (suc (suc (suc (suc (suc (suc (suc (suc (suc (suc zero)))))))))) low = ap number_in text_10
number_in_text (suc (suc (suc (suc (suc (suc (suc (suc (suc (suc (suc n))))))))))) low = absurd (omega arith)

-- a word names one register
pub one_register : (word : List ℕ) (m n : ℕ) → WritesRegister word m → WritesRegister word n → m ≡ n
one_register word m n v w = sym (number_in_text m v.0) ∙ ap number_in (sym v.1 ∙ w.1) ∙ number_in_text n w.0
