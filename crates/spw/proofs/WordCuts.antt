-- The words on both sides of a space.
use Rattle.std.proofs.Common.{◌≡◌, ℕ, zero, suc, ◌<◌, Bool, true, false, cond, not, List, [], ◌∷◌, ◌++◌, length, filter, refl, sym, subst, ap, ◌∙◌, arith, eqb, append_assoc, append-nil, inl, inr}
use Rattle.std.specs.Prelude.{All}
use Rattle.std.specs.Char.{digit_value}
use Rattle.std.specs.Str.Parse.{AllDigits}
use Rattle.std.specs.List.{flat_map, onto_first, slice_split}
use Rattle.std.proofs.lemmas.Bool.{eqb-true, ne_eqb}
use Rattle.std.proofs.lemmas.List.Elements.{All-cons, All-head, All-nil, All-tail, filter-append}
use Rattle.std.proofs.lemmas.List.Splits.{slice_split-cons_no, length-slice_split}
use Rattle.spw.specs.Line.{words_of, IsHex, IsHexFault, WriteBytes, bytes_written}
use Rattle.spw.specs.Spaces.{HasNoSpace}
use Rattle.spw.specs.declared.faults.LineFault.{LineFault}

abbrev is_space : ℕ → Bool
is_space code = eqb code 32

abbrev is_word : List ℕ → Bool
is_word word = not (eqb (length word) 0)

-- ---- what stands on both sides of a space

-- one code more in front of parts that are joined
onto-append : (code : ℕ) (parts more : List (List ℕ)) → 0 < length parts → onto_first code (parts ++ more) ≡ onto_first code parts ++ more
onto-append code [] more some = absurd (omega (arith, some))
onto-append code (part ∷ parts) more some = refl

onto_both : (space : Bool) (code : ℕ) (parts more : List (List ℕ)) → 0 < length parts → {all : List (List ℕ)} → all ≡ parts ++ more
    → cond space ([] ∷ all) (onto_first code all) ≡ cond space ([] ∷ parts) (onto_first code parts) ++ more
onto_both true code parts more some joined = ap (λ (rest : List (List ℕ)). [] ∷ rest) joined
onto_both false code parts more some joined = ap (onto_first code) joined ∙ onto-append code parts more some

split-append : (front back : List ℕ) → slice_split is_space (front ++ 32 ∷ back) ≡ slice_split is_space front ++ slice_split is_space back
split-append [] back = refl
split-append (code ∷ front) back = onto_both (is_space code) code (slice_split is_space front) (slice_split is_space back) (omega (arith, length-slice_split is_space front)) (split-append front back)

-- a space parts the words
pub words_at_space : (front back : List ℕ) → words_of (front ++ 32 ∷ back) ≡ words_of front ++ words_of back
words_at_space front back =
    ap (filter is_word) (split-append front back) ∙ filter-append is_word (slice_split is_space front) (slice_split is_space back)

-- ---- a word alone

split_alone : (text : List ℕ) → HasNoSpace text → slice_split is_space text ≡ text ∷ []
split_alone [] none = refl
split_alone (code ∷ text) none =
    slice_split-cons_no is_space code text (ne_eqb code 32 (none 0 (omega arith)))
    ∙ ap (onto_first code) (split_alone text (λ i below. none (suc i) (omega (arith, below))))

-- a text without a space is a word, if it is not empty
pub word_alone : (text : List ℕ) → HasNoSpace text → eqb (length text) 0 ≡ false → words_of text ≡ text ∷ []
word_alone text none some = ap (filter is_word) (split_alone text none) ∙ rw some refl

-- the text is a word, and there is none, or it has none of its own
pub alone : (text : List ℕ) → HasNoSpace text → eqb (length text) 0 ≡ true → words_of text ≡ []
alone [] none empty = refl
alone (code ∷ text) none empty = absurd (omega (arith, eqb-true _ _ empty))

-- ---- the first word, where the first space stands behind it

pub first_is : (text word following : List ℕ) → text ≡ word ++ 32 ∷ following → HasNoSpace word → eqb (length word) 0 ≡ false → words_of text ≡ word ∷ words_of following
first_is text word following parts none some =
    ap words_of parts ∙ words_at_space word following ∙ ap (λ (words : List (List ℕ)). words ++ words_of following) (word_alone word none some)

pub first_is_none : (text word following : List ℕ) → text ≡ word ++ 32 ∷ following → eqb (length word) 0 ≡ true → words_of text ≡ words_of following
first_is_none text [] following parts empty = ap words_of parts
first_is_none text (code ∷ word) following parts empty = absurd (omega (arith, eqb-true _ _ empty))

-- ---- the last word, where the last space stands before it

pub last_is : (text before word : List ℕ) → text ≡ before ++ 32 ∷ word → HasNoSpace word → eqb (length word) 0 ≡ false → words_of text ≡ words_of before ++ word ∷ []
last_is text before word parts none some =
    ap words_of parts ∙ words_at_space before word ∙ ap (λ (words : List (List ℕ)). words_of before ++ words) (word_alone word none some)

pub last_is_none : (text before word : List ℕ) → text ≡ before ++ 32 ∷ word → eqb (length word) 0 ≡ true → words_of text ≡ words_of before
last_is_none text before [] parts empty = ap words_of parts ∙ words_at_space before [] ∙ append-nil (words_of before)
last_is_none text before (code ∷ word) parts empty = absurd (omega (arith, eqb-true _ _ empty))

-- ---- a text of digits is one word

no_space : (text : List ℕ) → AllDigits 16 text → HasNoSpace text
no_space [] all i below = absurd (omega (arith, below))
no_space (code ∷ text) all zero below = λ is. absurd (omega (arith, subst (λ c. digit_value c < 16) is all.0))
no_space (code ∷ text) all (suc i) below = no_space text all.1 i (omega (arith, below))

pub one_word : (text bytes : List ℕ) → IsHex text → bytes ≡ bytes_written text → WriteBytes (words_of text) bytes
one_word [] bytes hex written = (All-nil IsHex, written)
one_word (code ∷ text) bytes hex written =
    let alone = word_alone (code ∷ text) (no_space (code ∷ text) hex.1) (ne_eqb (length (code ∷ text)) 0 (λ e. absurd (omega (arith, e)))) in
    subst (λ (words : List (List ℕ)). WriteBytes words bytes) (sym alone)
    (All-cons IsHex (code ∷ text) [] hex (All-nil IsHex), written ∙ sym (append-nil (bytes_written (code ∷ text))))

-- ---- the bytes of the words, word by word

-- of the words of a text these are left, and the others wrote these bytes
pub record AreLeft (words left : List (List ℕ)) (bytes : List ℕ) : Type 0 where
  pub give : All IsHex left → All IsHex words
  pub keep : All IsHex words → All IsHex left
  pub joined : flat_map bytes_written words ≡ bytes ++ flat_map bytes_written left

pub all_left : (words : List (List ℕ)) → AreLeft words words []
all_left words = record { give = λ hex. hex; keep = λ hex. hex; joined = refl }

module _ {words left : List (List ℕ)} {bytes : List ℕ} (are : AreLeft words left bytes) where
  -- the next word writes its bytes
  pub one_written : (word : List ℕ) (later : List (List ℕ)) (more : List ℕ) → left ≡ word ∷ later → IsHex word → more ≡ bytes ++ bytes_written word
      → AreLeft words later more
  one_written word later more first hex joined =
      record {
        give = λ rest. are.give (subst (All IsHex) (sym first) (All-cons IsHex word later hex rest));
        keep = λ all. All-tail IsHex word later (subst (All IsHex) first (are.keep all));
        joined = are.joined ∙ ap (λ (rest : List (List ℕ)). bytes ++ flat_map bytes_written rest) first
            ∙ sym (append_assoc bytes (bytes_written word) (flat_map bytes_written later))
            ∙ ap (λ (front : List ℕ). front ++ flat_map bytes_written later) (sym joined);
      }

  -- the next word is not hexadecimal
  pub one_is_bad : (word : List ℕ) (later : List (List ℕ)) (fault : LineFault) → left ≡ word ∷ later → IsHexFault (IsHex word) fault
      → IsHexFault (All IsHex words) fault
  one_is_bad word later fault first (inl none) = inl none
  one_is_bad word later fault first (inr bad) = inr (bad.0, λ all. bad.1 (All-head IsHex word later (subst (All IsHex) first (are.keep all))))

  -- there is no other word
  pub all_written : left ≡ [] → WriteBytes words bytes
  all_written none = (
    are.give (subst (All IsHex) (sym none) (All-nil IsHex)),
    sym (are.joined ∙ ap (λ (rest : List (List ℕ)). bytes ++ flat_map bytes_written rest) none ∙ append-nil bytes),
  )
