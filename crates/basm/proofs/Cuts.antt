-- The place at which the first line of a text ends.
use Rattle.std.proofs.Common.{◌≡◌, ℕ, suc, ◌+◌, ◌-◌, ◌<◌, false, List, [], ◌∷◌, ◌++◌, length, get_or, take, drop, refl, sym, ap, ◌∙◌, subst, arith, eqb-true}
use Rattle.std.specs.Prelude.{◌==◌, slice_range}
use Rattle.std.specs.List.{All}
use Rattle.std.specs.Str.{IsUtf8, IsCharBoundary}
use Rattle.std.proofs.Math.Seq.{split_at}
use Rattle.std.proofs.lemmas.Bool.{false_from_ne_true}
use Rattle.std.proofs.lemmas.List.{get_or-take, length-take, take_all}
use Rattle.std.proofs.lemmas.List.Elements.{All-from_get_or}
use Rattle.std.proofs.lemmas.List.Splits.{slice_split_at, slice_split_none}
use Rattle.std.proofs.lemmas.Str.{IsCharBoundary-after_ascii}
use Rattle.memchr.specs.Find.{Nowhere, NoneBefore, Passes, is_byte}
use Rattle.basm_lex.specs.Lines.{pieces_of}

-- no line feed among the first bytes
free_of_feeds : (text : List ℕ) (n : ℕ) → Nowhere (Passes (is_byte 10) text) 0 n → All (λ x. (x == 10) ≡ false) (take n text)
free_of_feeds text n none =
    All-from_get_or (λ x. (x == 10) ≡ false) (take n text) 0 (λ i below.
    let within : i < n = omega (arith, length-take n text) in
    let P : ℕ → Type 0 = λ x. (x == 10) ≡ false in
    subst P (sym (get_or-take n text i 0 within)) (false_from_ne_true (get_or text i 0 == 10) (none i (omega arith) within)))

-- a text without line feeds is one line
only_line : (text : List ℕ) → Nowhere (Passes (is_byte 10) text) 0 (length text) → pieces_of text ≡ text ∷ []
only_line text none =
    let P : List ℕ → Type 0 = λ t. All (λ x. (x == 10) ≡ false) t in
    slice_split_none (λ c. c == 10) text (subst P (take_all (length text) text (omega arith)) (free_of_feeds text (length text) none))

pub one_line : (text bytes : List ℕ) → bytes ≡ text → Nowhere (Passes (is_byte 10) bytes) 0 (length bytes) → pieces_of text ≡ text ∷ []
one_line text bytes same none =
    let P : List ℕ → Type 0 = λ t. Nowhere (Passes (is_byte 10) t) 0 (length t) in
    only_line text (subst P same none)

-- a line feed is there, and none before it
abbrev pub Feeds : List ℕ → ℕ → Type 0
Feeds text end = NoneBefore (Passes (is_byte 10) text) 0 (length text) end × Passes (is_byte 10) text end

module _ (text bytes : List ℕ) (end : ℕ) (same : bytes ≡ text) (found : Feeds bytes end) where
  feeds : Feeds text end
  feeds = subst (λ (t : List ℕ). Feeds t end) same found

  -- a text is its first line, and the lines after its line feed
  pub line_cut : (line rest : List ℕ) → line ≡ slice_range text 0 end → rest ≡ drop (end + 1) text → pieces_of text ≡ line ∷ pieces_of rest
  line_cut line rest front following =
      let next : suc end ≡ end + 1 = omega arith in
      let whole : end - 0 ≡ end = omega arith in
      let parts : text ≡ take end text ++ get_or text end 0 ∷ drop (end + 1) text = split_at text end 0 feeds.0.high ∙ ap (λ n. take end text ++ get_or text end 0 ∷ drop n text) next in
      let cut = slice_split_at (λ c. c == 10) (take end text) (get_or text end 0) (drop (end + 1) text) (free_of_feeds text end feeds.0.before) feeds.1 in
      ap pieces_of parts ∙ cut ∙ ap (λ l. l ∷ pieces_of (drop (end + 1) text)) (sym (front ∙ ap (λ n. take n text) whole)) ∙ ap (λ r. line ∷ pieces_of r) (sym following)

  -- the text can be cut after it
  pub after_feed : IsUtf8 text → IsCharBoundary text (end + 1)
  after_feed utf8 =
      let is = eqb-true (get_or text end 0) 10 feeds.1 in
      IsCharBoundary-after_ascii text end utf8 feeds.0.high (omega (arith, is))
