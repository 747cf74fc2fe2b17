-- The first line of a text, and the lines after it.
use Rattle.std.proofs.Common.{◌≡◌, ◌≢◌, ◌<◌, ◌≤◌, ℕ, zero, suc, ◌+◌, ◌-◌, Bool, true, false, cond, List, [], ◌∷◌, length, get_or, take, drop, refl, sym, ap, ap₂, ◌∙◌, subst, arith, eqb-true}
use Rattle.std.specs.Prelude.{◌==◌, slice_range}
use Rattle.std.specs.Str.{IsUtf8, IsCharBoundary}
use Rattle.std.specs.List.{onto_first}
use Rattle.std.proofs.lemmas.Bool.{false_from_ne_true}
use Rattle.std.proofs.lemmas.Str.{IsCharBoundary-after_ascii}
use Rattle.memchr.specs.Find.{Nowhere, NoneBefore, Passes, is_byte}
use Rattle.spw.specs.Line.{lines_of}

-- a line feed ends the first line, if none is before it
feed_cut : (end : ℕ) (text : List ℕ) → end < length text → ((i : ℕ) → i < end → (get_or text i 0 == 10) ≡ false) → (get_or text end 0 == 10) ≡ true
    → lines_of text ≡ take end text ∷ lines_of (drop (end + 1) text)
feed_cut end [] below none is = absurd (omega (arith, below))
feed_cut zero (byte ∷ bytes) below none is = rw is refl
feed_cut (suc end) (byte ∷ bytes) below none is =
    let next : suc (end + 1) ≡ suc end + 1 = omega arith in
    rw (none 0 (omega arith)) (ap (onto_first byte) (feed_cut end bytes (omega (arith, below)) (λ i less. none (suc i) (omega (arith, less))) is)
    ∙ ap (λ k. take (suc end) (byte ∷ bytes) ∷ lines_of (drop k (byte ∷ bytes))) next)

-- a text without line feeds is one line, if it is not empty
one_line : (byte : ℕ) (bytes : List ℕ) → ((i : ℕ) → i < suc (length bytes) → (get_or (byte ∷ bytes) i 0 == 10) ≡ false) → lines_of (byte ∷ bytes) ≡ (byte ∷ bytes) ∷ []
one_line byte [] none = rw (none 0 (omega arith)) refl
one_line byte (next ∷ bytes) none = rw (none 0 (omega arith)) (ap (onto_first byte) (one_line next bytes (λ i less. none (suc i) (omega (arith, less)))))

-- a line feed is found there, and none before it
abbrev pub Feeds : List ℕ → ℕ → Type 0
Feeds text end = NoneBefore (Passes (is_byte 10) text) 0 (length text) end × Passes (is_byte 10) text end

module _ (text bytes : List ℕ) (end : ℕ) (same : bytes ≡ text) (found : Feeds bytes end) where
  feeds : Feeds text end
  feeds = subst (λ (t : List ℕ). Feeds t end) same found

  -- a text is its first line, and the lines after its line feed
  pub line_cut : (line rest : List ℕ) → line ≡ slice_range text 0 end → rest ≡ drop (end + 1) text → lines_of text ≡ line ∷ lines_of rest
  line_cut line rest front following =
      let whole : end - 0 ≡ end = omega arith in
      feed_cut end text feeds.0.high (λ i less. false_from_ne_true (get_or text i 0 == 10) (feeds.0.before i (omega arith) less)) feeds.1
      ∙ ap₂ (λ (l r : List ℕ). l ∷ lines_of r) (sym (front ∙ ap (λ n. take n text) whole)) (sym following)

  -- the text can be cut after it
  pub after_feed : IsUtf8 text → IsCharBoundary text (end + 1)
  after_feed utf8 =
      let is = eqb-true (get_or text end 0) 10 feeds.1 in
      IsCharBoundary-after_ascii text end utf8 feeds.0.high (omega (arith, is))

-- no line feed ends a text, which is not empty
pub last_line : (text bytes rest : List ℕ) → bytes ≡ text → Nowhere (Passes (is_byte 10) bytes) 0 (length bytes) → rest ≡ [] → text ≢ [] → lines_of text ≡ text ∷ lines_of rest
last_line [] bytes rest same none empty some = absurd (some refl)
last_line (byte ∷ text) bytes rest same none empty some =
    let P : List ℕ → Type 0 = λ t. Nowhere (Passes (is_byte 10) t) 0 (length t) in
    let nowhere = subst P same none in
    one_line byte text (λ i less. false_from_ne_true (get_or (byte ∷ text) i 0 == 10) (nowhere i (omega arith) less)) ∙ ap (λ (l : List ℕ). (byte ∷ text) ∷ lines_of l) (sym empty)

-- a line feed ends one more line, and any other byte at most begins one
more_by : (feed : Bool) (byte : ℕ) (bytes : List ℕ) → length (cond feed ([] ∷ lines_of bytes) (onto_first byte (lines_of bytes))) ≤ suc (length (lines_of bytes))
more_by true byte bytes = omega arith
more_by false byte bytes = onto (lines_of bytes)
  where
    onto : (rest : List (List ℕ)) → length (onto_first byte rest) ≤ suc (length rest)
    onto [] = omega arith
    onto (line ∷ rest) = omega arith

-- a text has no more lines than bytes
pub few_lines : (text : List ℕ) → length (lines_of text) ≤ length text
few_lines [] = omega arith
few_lines (byte ∷ bytes) = omega (arith, more_by (byte == 10) byte bytes, few_lines bytes)
