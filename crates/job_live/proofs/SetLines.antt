-- Why the words of a line write no setting.
use Rattle.std.proofs.Common.{◌≡◌, ◌≤◌, ◌<◌, ℕ, List, [], ◌∷◌, Bor, codes, length, map, get_or, refl, sym, ap, subst, ◌∙◌, arith}
use Rattle.std.proofs.Common.{inl, inr}
use Rattle.job_parts.specs.declared.bad_lines.BadLine.{BadLine}
use Rattle.job_live.specs.Asks.{IsAskedBy}
use Rattle.job_live.specs.Settings.{AreNoBytes, AreSetWords, IsNoAddress, IsNoByte, IsNoSetting, WritesAddress, WritesByteDigits, WritesByteList}
use Rattle.job_live.specs.declared.asks.Asks.TheVariants.{Set}

-- the words at each place
pub same_words : (words : List (List ℕ)) (e f a b g h : List ℕ) → AreSetWords words e a b → AreSetWords words f g h
    → (f ≡ e) × (g ≡ a) × (h ≡ b)
same_words words e f a b g h one other =
    let both = sym other.words_are ∙ one.words_are in (
      ap (λ (l : List (List ℕ)). get_or l 1 []) both,
      ap (λ (l : List (List ℕ)). get_or l 2 []) both,
      ap (λ (l : List (List ℕ)). get_or l 3 []) both,
    )

-- a word that is no byte
pub unset_byte : (words : List (List ℕ)) (e a b : List ℕ) (fault : BadLine) → AreSetWords words e a b → IsNoByte e fault → IsNoSetting words fault
unset_byte words e a b fault are none =
    subst (λ (f : BadLine). IsNoSetting words f) (sym none.0) (record {
      extended = e;
      address = a;
      bytes = b;
      words_are = are;
      unwritten = λ setting written.
          none.1 (setting.extended, subst (λ (w : List ℕ). WritesByteDigits w setting.extended) (same_words words e written.extended a b written.address written.bytes are written.words_are).0 written.extended_written);
    })

-- a word that is no address
pub unset_address : (words : List (List ℕ)) (e a b : List ℕ) (fault : BadLine) → AreSetWords words e a b → IsNoAddress a fault → IsNoSetting words fault
unset_address words e a b fault are none =
    subst (λ (f : BadLine). IsNoSetting words f) (sym none.0) (record {
      extended = e;
      address = a;
      bytes = b;
      words_are = are;
      unwritten = λ setting written.
          none.1 (setting.address, subst (λ (w : List ℕ). WritesAddress w setting.address) (same_words words e written.extended a b written.address written.bytes are written.words_are).1 written.address_written);
    })

-- a word that is no bytes
pub unset_bytes : (words : List (List ℕ)) (e a b : List ℕ) (fault : BadLine) → AreSetWords words e a b → AreNoBytes b fault → IsNoSetting words fault
unset_bytes words e a b fault are (inl memory) = subst (λ (f : BadLine). IsNoSetting words f) (sym memory) tt
unset_bytes words e a b fault are (inr none) =
    subst (λ (f : BadLine). IsNoSetting words f) (sym none.0) (record {
      extended = e;
      address = a;
      bytes = b;
      words_are = are;
      unwritten = λ setting written.
          none.1 (setting.bytes.items, subst (λ (w : List ℕ). WritesByteList w setting.bytes.items) (same_words words e written.extended a b written.address written.bytes are written.words_are).2 written.bytes_written);
    })

-- a list of four
pub four_words : (words : List (Bor (List ℕ))) (d : Bor (List ℕ)) → 4 ≤ length words → length words < 5
    → map (λ word. word.now) words ≡ (get_or words 0 d).now ∷ (get_or words 1 d).now ∷ (get_or words 2 d).now ∷ (get_or words 3 d).now ∷ []
four_words [] d some few = absurd (omega (arith, some))
four_words (a ∷ []) d some few = absurd (omega (arith, some))
four_words (a ∷ b ∷ []) d some few = absurd (omega (arith, some))
four_words (a ∷ b ∷ e ∷ []) d some few = absurd (omega (arith, some))
four_words (a ∷ b ∷ e ∷ f ∷ []) d some few = refl
four_words (a ∷ b ∷ e ∷ f ∷ g ∷ words) d some few = absurd (omega (arith, few))

-- four words of a line that asks for a write
pub set_words : (words : List (List ℕ)) (first e a b : List ℕ) → words ≡ first ∷ e ∷ a ∷ b ∷ [] → IsAskedBy words Set → AreSetWords words e a b
set_words words first e a b are asked =
    let is : first ≡ codes "set" = ap (λ (l : List (List ℕ)). get_or l 0 []) (sym are ∙ asked.1) in
    record { words_are = are ∙ ap (λ (w : List ℕ). w ∷ e ∷ a ∷ b ∷ []) is }
