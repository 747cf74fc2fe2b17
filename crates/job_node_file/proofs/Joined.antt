-- Texts that are added one after the other.
use Rattle.std.proofs.Common.{◌≡◌, ◌∙◌, ◌++◌, ℕ, List, ap}
use Rattle.std.proofs.lemmas.List.{append_assoc}

-- three
pub three : (old a b c one two all : List ℕ) → one ≡ old ++ a → two ≡ one ++ b → all ≡ two ++ c → all ≡ old ++ ((a ++ b) ++ c)
three old a b c one two all first second third =
    third ∙ ap (λ (l : List ℕ). l ++ c) (second ∙ ap (λ (l : List ℕ). l ++ b) first ∙ append_assoc old a b) ∙ append_assoc old (a ++ b) c

-- four
pub four : (old a b c d one two more all : List ℕ) → one ≡ old ++ a → two ≡ one ++ b → more ≡ two ++ c → all ≡ more ++ d
    → all ≡ old ++ (((a ++ b) ++ c) ++ d)
four old a b c d one two more all first second third fourth =
    fourth ∙ ap (λ (l : List ℕ). l ++ d) (three old a b c one two more first second third) ∙ append_assoc old ((a ++ b) ++ c) d
