-- Words beside their complements.
use Rattle.std.proofs.Common.{◌≡◌, ◌<◌, ◌-◌, ◌^◌, ℕ, zero, suc, Bool, true, List, [], ◌∷◌, length, set, Result, Ok, Err, refl, ap, sym, ◌∙◌}
use Rattle.std.specs.Prelude.{map, replicate, IfOk, if◌then◌else◌, slice_index, slice_index_or}
use Rattle.std.proofs.lemmas.Bool.{eq-eqb}
use Rattle.std.proofs.lemmas.List.{get_or-map, length-map, map-set}
use Rattle.machine.specs.Sizes.{Maps}
use Rattle.machine.specs.declared.calls.Question.{Question}
use Rattle.machine.specs.declared.helpers.Helper.{Helper}
use Rattle.plain_cells.specs.Pairs.{IsPair, PairsValue, agree, complement, complements, greatest, kept_of_pair, pairs_after_question, answer_by_pairs, answer_of_pair, word_of_pair}
use Rattle.plain_cells.specs.Words.{same_words, answer_by_words, answer_of_word, with_word, key_word_at, word_after_question, words_after_question, zero_words}

pub ok_then : {X E : Type 0} {P Q : X → Type 0} (r : Result X E) → ((x : X) → P x → Q x) → IfOk r P → IfOk r Q
ok_then (Ok x) gives is = gives x is
ok_then (Err e) gives is = is

-- ---- zeros

complement_zeros : (n : ℕ) → map complement (replicate n 0) ≡ replicate n (complement 0)
complement_zeros zero = refl
complement_zeros (suc n) = ap (λ (l : List ℕ). complement 0 ∷ l) (complement_zeros n)

rows : (cells : List ℕ) → map (λ n. replicate n (complement 0)) cells ≡ map (λ row. map complement row) (map (λ n. replicate n 0) cells)
rows [] = refl
rows (n ∷ cells) = ap (λ (row : List ℕ). row ∷ map (λ m. replicate m (complement 0)) cells) (sym (complement_zeros n))
    ∙ ap (λ (rest : List (List ℕ)). map complement (replicate n 0) ∷ rest) (rows cells)

pub kept_zeros : (sizes : Maps) (kept : List (List ℕ)) → kept ≡ same_words sizes (2 ^ 64 - 1) → kept ≡ complements (zero_words sizes)
kept_zeros sizes kept is = is ∙ rows sizes.cells

-- ---- a pair

row_at : (words : List (List ℕ)) (m : ℕ) → m < length words → slice_index_or (complements words) m [] ≡ map complement (slice_index_or words m [])
row_at words m below = get_or-map (λ row. map complement row) words m [] [] below

pub pair_there : (p : PairsValue) (m k : ℕ) → p.kept ≡ complements p.words → m < length p.words → k < length (slice_index_or p.words m []) → IsPair p m k
pair_there p m k is map_there key_there = record {
  word_map = map_there;
  word_key = key_there;
  kept_map = rw (is, length-map p.words (λ (row : List ℕ). map complement row)) map_there;
  kept_key = rw (is, row_at p.words m map_there, length-map (slice_index_or p.words m []) complement) key_there;
}

kept_at : (words : List (List ℕ)) (m k : ℕ) → m < length words → k < length (slice_index_or words m []) → key_word_at (complements words) m k ≡ complement (key_word_at words m k)
kept_at words m k map_there key_there =
    ap (λ (row : List ℕ). slice_index row k) (row_at words m map_there) ∙ get_or-map complement (slice_index_or words m []) k 0 0 key_there

kept_with : (words : List (List ℕ)) (m k word : ℕ) → m < length words → with_word (complements words) m k (complement word) ≡ complements (with_word words m k word)
kept_with words m k word map_there =
    ap (λ (row : List ℕ). set (complements words) m (set row k (complement word))) (row_at words m map_there)
    ∙ ap (λ (row : List ℕ). set (complements words) m row) (sym (map-set complement (slice_index_or words m []) k word))
    ∙ sym (map-set (λ (row : List ℕ). map complement row) words m (set (slice_index_or words m []) k word))

-- a pair that agrees
agreed : (word kept : ℕ) → kept ≡ complement word → agree word kept ≡ true
agreed word kept is = eq-eqb kept (complement word) is

answered_agreed : (h : Helper) (word kept argument : ℕ) → agree word kept ≡ true → answer_of_pair h word kept argument ≡ answer_of_word h word argument
answered_agreed h word kept argument is = ap (λ (b : Bool). if b then answer_of_word h word argument else greatest) is

word_agreed : (h : Helper) (word kept argument : ℕ) → agree word kept ≡ true → word_of_pair h word kept argument ≡ word_after_question h word argument
word_agreed h word kept argument is = ap (λ (b : Bool). if b then word_after_question h word argument else word) is

kept_agreed : (h : Helper) (word kept argument : ℕ) → agree word kept ≡ true → kept_of_pair h word kept argument ≡ complement (word_after_question h word argument)
kept_agreed h word kept argument is = ap (λ (b : Bool). if b then complement (word_after_question h word argument) else kept) is

-- ---- of words beside their complements

module _ (p : PairsValue) (q : Question) (is : p.kept ≡ complements p.words) (map_there : q.map < length p.words) (key_there : q.key < length (slice_index_or p.words q.map [])) where
  agrees_there : agree (key_word_at p.words q.map q.key) (key_word_at (complements p.words) q.map q.key) ≡ true
  agrees_there = agreed _ _ (kept_at p.words q.map q.key map_there key_there)

  pub answered_whole : answer_by_pairs p q ≡ answer_by_words p.words q
  answered_whole =
      ap (λ (kept : List (List ℕ)). answer_of_pair q.helper (key_word_at p.words q.map q.key) (key_word_at kept q.map q.key) q.argument) is
      ∙ answered_agreed q.helper (key_word_at p.words q.map q.key) (key_word_at (complements p.words) q.map q.key) q.argument agrees_there

  pub words_whole : (pairs_after_question p q).words ≡ words_after_question p.words q
  words_whole =
      ap (λ (kept : List (List ℕ)). with_word p.words q.map q.key (word_of_pair q.helper (key_word_at p.words q.map q.key) (key_word_at kept q.map q.key) q.argument)) is
      ∙ ap (λ (w : ℕ). with_word p.words q.map q.key w) (word_agreed q.helper (key_word_at p.words q.map q.key) (key_word_at (complements p.words) q.map q.key) q.argument agrees_there)

  pub kept_words : (pairs_after_question p q).kept ≡ complements (words_after_question p.words q)
  kept_words =
      ap (λ (kept : List (List ℕ)). with_word kept q.map q.key (kept_of_pair q.helper (key_word_at p.words q.map q.key) (key_word_at kept q.map q.key) q.argument)) is
      ∙ ap (λ (w : ℕ). with_word (complements p.words) q.map q.key w) (kept_agreed q.helper (key_word_at p.words q.map q.key) (key_word_at (complements p.words) q.map q.key) q.argument agrees_there)
      ∙ kept_with p.words q.map q.key (word_after_question q.helper (key_word_at p.words q.map q.key) q.argument) map_there
