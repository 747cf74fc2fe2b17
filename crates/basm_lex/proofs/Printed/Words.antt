-- The words of a printed line are its name and its operands.
use Rattle.std.proofs.Common.{◌≡◌, ℕ, ◌<◌, Bool, true, false, List, [], ◌∷◌, ◌++◌, length, map, refl, ap, ◌∙◌, arith, append-nil, append_assoc}
use Rattle.std.specs.Prelude.{◌==◌, not, codes}
use Rattle.std.specs.List.{after_first, before_first, slice_split}
use Rattle.std.proofs.lemmas.Bool.{and_parts}
use Rattle.bpf_insn.specs.Text.{more_operands, name_with_operands}
use Rattle.basm_lex.specs.Lines.{code_of, without_trailing_spaces, is_comma, is_semicolon, is_space, operands_of, rest_of_line, parts_between_commas, without_leading_spaces, trimmed_text, trailing_part, word_of}
use Rattle.basm_lex.specs.Printed.{AreWords, IsWord, is_plain}
use Rattle.basm_lex.proofs.Printed.Plain.{ArePlain, plain_word}
use Rattle.basm_lex.proofs.Printed.Splits.{AllFail, after_at, after_none, before_at, before_none, fail_append, split_at, split_none}

-- ---- no plain character is a space, a comma, a semicolon or a line feed

not_true : (b : Bool) → not b ≡ true → b ≡ false
not_true true h = absurd (cc)
not_true false h = refl

pub record Apart (c : ℕ) : Type 0 where
  pub line : (c == 10) ≡ false
  pub space : (c == 32) ≡ false
  pub comma : (c == 44) ≡ false
  pub semicolon : (c == 59) ≡ false

apart : (c : ℕ) → is_plain c ≡ true → Apart c
apart c plain =
    let line = and_parts (not (c == 10)) _ plain in
    let space = and_parts (not (c == 32)) _ line.1 in
    let comma = and_parts (not (c == 44)) (not (c == 59)) space.1 in
    record { line = not_true _ line.0; space = not_true _ space.0; comma = not_true _ comma.0; semicolon = not_true _ comma.1 }

-- a test that each plain character fails
abbrev IsMark : (ℕ → Bool) → Type 0
IsMark p = (c : ℕ) → is_plain c ≡ true → p c ≡ false

plain_fails : (p : ℕ → Bool) → IsMark p → (xs : List ℕ) → ArePlain xs → AllFail p xs
plain_fails p mark [] plain = tt
plain_fails p mark (x ∷ xs) plain =
    let parts = and_parts (is_plain x) _ plain in
    (mark x parts.0, plain_fails p mark xs parts.1)

word_fails : (p : ℕ → Bool) → IsMark p → (word : List ℕ) → IsWord word → AllFail p word
word_fails p mark word is = plain_fails p mark word (plain_word word is)

more_fails : (p : ℕ → Bool) → IsMark p → p 44 ≡ false → p 32 ≡ false → (xs : List (List ℕ)) → AreWords xs → AllFail p (more_operands xs)
more_fails p mark comma space [] words = tt
more_fails p mark comma space (x ∷ xs) words =
    (comma, (space, fail_append p x (more_operands xs) (word_fails p mark x words.0) (more_fails p mark comma space xs words.1)))

-- a name, a space, and what follows it
written_some : (name x : List ℕ) (xs : List (List ℕ)) → name_with_operands name (x ∷ xs) ≡ name ++ 32 ∷ (x ++ more_operands xs)
written_some name x xs = append_assoc (name ++ codes " ") x (more_operands xs) ∙ append_assoc name (codes " ") (x ++ more_operands xs)

written_fails : (p : ℕ → Bool) → IsMark p → p 44 ≡ false → p 32 ≡ false → (name : List ℕ) (xs : List (List ℕ)) → ArePlain name → AreWords xs
    → AllFail p (name_with_operands name xs)
written_fails p mark comma space name [] is words = plain_fails p mark name is
written_fails p mark comma space name (x ∷ xs) is words =
    let operands = fail_append p x (more_operands xs) (word_fails p mark x words.0) (more_fails p mark comma space xs words.1) in
    rw (written_some name x xs) (fail_append p name (32 ∷ (x ++ more_operands xs)) (plain_fails p mark name is) (space, operands))

-- ---- no space before or after

skip_plain : (c : ℕ) (cs : List ℕ) → is_plain c ≡ true → without_leading_spaces (c ∷ cs) ≡ c ∷ cs
skip_plain c cs plain = rw ((apart c plain).space)

-- a text that does not end with a space
pub record IsEnd (xs : List ℕ) : Type 0 where
  pub some : 0 < length xs
  pub kept : without_trailing_spaces xs ≡ xs

unless_some : (c : ℕ) (xs : List ℕ) → 0 < length xs → trailing_part c xs ≡ c ∷ xs
unless_some c [] some = absurd (omega arith)
unless_some c (x ∷ xs) some = refl

end_next : (c : ℕ) (xs : List ℕ) → IsEnd xs → IsEnd (c ∷ xs)
end_next c xs end =
    record { some = omega arith; kept = ap (trailing_part c) end.kept ∙ unless_some c xs end.some }

end_append : (xs ys : List ℕ) → IsEnd ys → IsEnd (xs ++ ys)
end_append [] ys end = end
end_append (x ∷ xs) ys end = end_next x (xs ++ ys) (end_append xs ys end)

word_end : (word : List ℕ) → IsWord word → IsEnd word
word_end [] is = absurd (cc)
word_end (c ∷ []) is =
    let parts = and_parts (is_plain c) true is in
    record { some = omega arith; kept = rw ((apart c parts.0).space) }
word_end (c ∷ d ∷ ds) is =
    let parts = and_parts (is_plain c) _ is in
    end_next c (d ∷ ds) (word_end (d ∷ ds) parts.1)

more_end : (x : List ℕ) (xs : List (List ℕ)) → IsWord x → AreWords xs → IsEnd (x ++ more_operands xs)
more_end x [] is words = rw (append-nil x) (word_end x is)
more_end x (y ∷ ys) is words =
    let next = end_append (codes ", ") (y ++ more_operands ys) (more_end y ys words.0 words.1) in
    end_append x (more_operands (y ∷ ys)) next

written_end : (name : List ℕ) (xs : List (List ℕ)) → IsWord name → AreWords xs → IsEnd (name_with_operands name xs)
written_end name [] is words = word_end name is
written_end name (x ∷ xs) is words =
    let next = end_next 32 (x ++ more_operands xs) (more_end x xs words.0 words.1) in
    rw (written_some name x xs) (end_append name (32 ∷ (x ++ more_operands xs)) next)

skip_word : (word rest : List ℕ) → IsWord word → without_leading_spaces (word ++ rest) ≡ word ++ rest
skip_word [] rest is = absurd (cc)
skip_word (c ∷ cs) rest is = skip_plain c (cs ++ rest) (and_parts (is_plain c) _ is).0

skip_written : (name : List ℕ) (xs : List (List ℕ)) → IsWord name → without_leading_spaces (name_with_operands name xs) ≡ name_with_operands name xs
skip_written name [] is = let kept = skip_word name [] is in rw (append-nil name) at kept
skip_written name (x ∷ xs) is = rw (written_some name x xs) (skip_word name (32 ∷ (x ++ more_operands xs)) is)

trimmed_word : (word : List ℕ) → IsWord word → trimmed_text word ≡ word
trimmed_word word is = ap without_trailing_spaces (skip_written word [] is) ∙ (word_end word is).kept

-- ---- the code of a printed line is the line

code_written : (name : List ℕ) (xs : List (List ℕ)) → IsWord name → AreWords xs → code_of (name_with_operands name xs) ≡ name_with_operands name xs
unfolding code_of
code_written name xs is words =
    let line = name_with_operands name xs in
    let no_comment = before_none is_semicolon line
    (written_fails is_semicolon (λ c plain. (apart c plain).semicolon) refl refl name xs (plain_word name is) words) in
    ap trimmed_text no_comment ∙ ap without_trailing_spaces (skip_written name xs is) ∙ (written_end name xs is words).kept

fails_space : (word : List ℕ) → IsWord word → AllFail is_space word
fails_space word is = word_fails is_space (λ c plain. (apart c plain).space) word is

pub word_written : (name : List ℕ) (xs : List (List ℕ)) → IsWord name → AreWords xs → word_of (name_with_operands name xs) ≡ name
unfolding word_of
word_written name [] is words = ap (before_first is_space) (code_written name [] is words) ∙ before_none is_space name (fails_space name is)
word_written name (x ∷ xs) is words =
    ap (before_first is_space) (code_written name (x ∷ xs) is words ∙ written_some name x xs)
    ∙ before_at is_space name 32 (x ++ more_operands xs) (fails_space name is) refl

-- ---- its operands

rest_none : (name : List ℕ) → IsWord name → rest_of_line (name_with_operands name []) ≡ []
unfolding rest_of_line
rest_none name is = ap (after_first is_space) (code_written name [] is tt) ∙ after_none is_space name (fails_space name is)

rest_some : (name x : List ℕ) (xs : List (List ℕ)) → IsWord name → AreWords (x ∷ xs) → rest_of_line (name_with_operands name (x ∷ xs)) ≡ x ++ more_operands xs
unfolding rest_of_line
rest_some name x xs is words =
    ap (after_first is_space) (code_written name (x ∷ xs) is words ∙ written_some name x xs)
    ∙ after_at is_space name 32 (x ++ more_operands xs) (fails_space name is) refl

-- operands with the space before them
abbrev spaced : List (List ℕ) → List (List ℕ)
spaced [] = []
spaced (x ∷ xs) = (32 ∷ x) ∷ spaced xs

split_operands : (x : List ℕ) (xs : List (List ℕ)) → AllFail is_comma x → AreWords xs → slice_split is_comma (x ++ more_operands xs) ≡ x ∷ spaced xs
split_operands x [] fails words = rw (append-nil x) (split_none is_comma x fails)
split_operands x (y ∷ ys) fails words =
    let next : AllFail is_comma (32 ∷ y) = (refl, word_fails is_comma (λ c plain. (apart c plain).comma) y words.0) in
    split_at is_comma x 44 (32 ∷ (y ++ more_operands ys)) fails refl ∙ ap (λ parts. x ∷ parts) (split_operands (32 ∷ y) ys next words.1)

trimmed_spaced : (xs : List (List ℕ)) → AreWords xs → map trimmed_text (spaced xs) ≡ xs
trimmed_spaced [] words = refl
trimmed_spaced (x ∷ xs) words = rw (trimmed_word x words.0, trimmed_spaced xs words.1)

separated_some : (x rest : List ℕ) → IsWord x → parts_between_commas (x ++ rest) ≡ map trimmed_text (slice_split is_comma (x ++ rest))
separated_some [] rest is = absurd (cc)
separated_some (c ∷ cs) rest is = refl

separated_operands : (x : List ℕ) (xs : List (List ℕ)) → AreWords (x ∷ xs) → parts_between_commas (x ++ more_operands xs) ≡ x ∷ xs
separated_operands x xs words =
    let fails = word_fails is_comma (λ c plain. (apart c plain).comma) x words.0 in
    separated_some x (more_operands xs) words.0
    ∙ ap (map trimmed_text) (split_operands x xs fails words.1)
    ∙ (rw (trimmed_word x words.0, trimmed_spaced xs words.1))

pub operands_written : (name : List ℕ) (xs : List (List ℕ)) → IsWord name → AreWords xs → operands_of (name_with_operands name xs) ≡ xs
operands_written name [] is words = ap parts_between_commas (rest_none name is)
operands_written name (x ∷ xs) is words = ap parts_between_commas (rest_some name x xs is words) ∙ separated_operands x xs words

-- ---- it has no line feed

pub written_one_line : (name : List ℕ) (xs : List (List ℕ)) → IsWord name → AreWords xs → AllFail (λ c. c == 10) (name_with_operands name xs)
written_one_line name xs is words = written_fails (λ c. c == 10) (λ c plain. (apart c plain).line) refl refl name xs (plain_word name is) words

-- a printed line is one line
pub line_split : (name : List ℕ) (xs : List (List ℕ)) (rest : List ℕ) → IsWord name → AreWords xs
    → slice_split (λ c. c == 10) (name_with_operands name xs ++ 10 ∷ rest) ≡ name_with_operands name xs ∷ slice_split (λ c. c == 10) rest
line_split name xs rest is are = split_at (λ c. c == 10) (name_with_operands name xs) 10 rest (written_one_line name xs is are) refl
