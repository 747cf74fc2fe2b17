-- How the mnemonic of a word is found.
use Rattle.std.proofs.Common.{◌≡◌, ℕ, ◌-◌, ◌≤◌, Bool, false, List, [], ◌∷◌, ◌++◌, length, get_or, take, drop, refl, sym, ap, ◌∙◌, rules, arith}
use Rattle.std.specs.List.{find}
use Rattle.std.specs.Str.{bytes_eq}
use Rattle.std.proofs.lemmas.List.{take_all}
use Rattle.basm_lex.specs.declared.mnemonics.Mnemonic.{Mnemonic}

-- words with one beginning are equal if their ends are
ends_equal : (first x y : List ℕ) → bytes_eq x y ≡ bytes_eq (first ++ x) (first ++ y)
ends_equal [] x y = refl
ends_equal (c ∷ first) x y = ends_equal first x y ∙ search rules

-- a word with the first piece is the whole if its end is the second
pub pieces_equal : (word rest first second whole : List ℕ) (n : ℕ) → word ≡ first ++ drop n word → rest ≡ drop n word → first ++ second ≡ whole
    → bytes_eq rest second ≡ bytes_eq word whole
pieces_equal word rest first second whole n front end joined =
    let word_is : first ++ rest ≡ word = ap (λ x. first ++ x) end ∙ sym front in
    ends_equal first rest second ∙ ap (λ x. bytes_eq x (first ++ second)) word_is ∙ ap (bytes_eq word) joined

-- if the first does not pass, the result is among the others
pub find_after : (test : Mnemonic → Bool) (rest all : List Mnemonic) (d : Mnemonic) → 1 ≤ length rest → test (get_or rest 0 d) ≡ false
    → find test rest ≡ find test all → find test (take (length rest - 1) (drop 1 rest)) ≡ find test all
find_after test [] all d some other same = absurd (omega arith)
find_after test (m ∷ rest) all d some other same =
    let passed : find test (m ∷ rest) ≡ find test rest = rw other in
    ap (find test) (take_all (length (m ∷ rest) - 1) rest (omega arith)) ∙ sym passed ∙ same
