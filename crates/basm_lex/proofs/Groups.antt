-- The mnemonics of a word's group are all that can have the word.
use Rattle.std.proofs.Common.{◌≡◌, ℕ, zero, suc, ◌+◌, ◌-◌, ◌≤◌, Bool, true, false, not, ◌&&◌, eqb, leb, List, [], ◌∷◌, take, drop, Some, None, refl, sym, ap, ◌∙◌, subst, cond, arith}
use Rattle.std.specs.Prelude.{slice_range}
use Rattle.std.specs.List.{find, list_all}
use Rattle.std.specs.Str.{bytes_eq}
use Rattle.std.proofs.lemmas.Bool.{agree_below_at, and_parts, cond-false, false_from_ne_true, true≢false, leb-true, eq-eqb}
use Rattle.std.proofs.lemmas.Slice.Eq.{bytes_eq-Decides}
use Rattle.std.proofs.Math.Seq.{drop-nil}
use Rattle.basm_lex.specs.declared.mnemonics.Mnemonic.{Mnemonic}
use Rattle.basm_lex.specs.declared.mnemonics.TheConstants.{MNEMONICS}
use Rattle.basm_lex.specs.Mnemonics.{group_of, mnemonic_word, mnemonic_named, start_of}

-- whether the mnemonic's word is of another group
abbrev elsewhere : ℕ → Mnemonic → Bool
elsewhere group m = not (eqb (group_of (mnemonic_word m)) group)

-- whether all others come before the group or after it
abbrev stands : ℕ → Bool
stands group =
    (list_all (elsewhere group) (take (start_of group) MNEMONICS) && list_all (elsewhere group) (drop (start_of (suc group)) MNEMONICS))
    && (leb (start_of group) (start_of (suc group)) && leb (start_of (suc group)) 90)

all_stand : (group : ℕ) → group ≤ 208 → stands group ≡ true
all_stand group few = agree_below_at stands (λ _. true) 209 group refl (omega arith)

-- groups begin in their order, within the table
pub groups_rise : (group : ℕ) → group ≤ 208 → (start_of group ≤ start_of (suc group)) × (start_of (suc group) ≤ 90)
groups_rise group few =
    let parts = and_parts _ _ (and_parts _ _ (all_stand group few)).1 in
    (leb-true _ _ parts.0, leb-true _ _ parts.1)

module _ (group a b : ℕ) (few : group ≤ 208) (first : a ≡ start_of group) (next : b ≡ start_of (group + 1)) where
  after_group : b ≡ start_of (suc group)
  after_group = next ∙ ap start_of (let same : group + 1 ≡ suc group = omega arith in same)

  pub starts_rise : (a ≤ b) × (b ≤ 90)
  starts_rise =
      let rise = groups_rise group few in
      let order : a ≤ b = rw (first, after_group) rise.0 in
      let within : b ≤ 90 = rw after_group rise.1 in
      (order, within)

  pub between_starts : slice_range MNEMONICS a b ≡ slice_range MNEMONICS (start_of group) (start_of (suc group))
  between_starts = ap (λ x. slice_range MNEMONICS x b) first ∙ ap (slice_range MNEMONICS (start_of group)) after_group

-- a mnemonic of another group has another word
other_word : (word : List ℕ) (m : Mnemonic) → elsewhere (group_of word) m ≡ true → bytes_eq word (mnemonic_word m) ≡ false
other_word word m other =
    false_from_ne_true (bytes_eq word (mnemonic_word m)) (λ same.
    let is : word ≡ mnemonic_word m = (bytes_eq-Decides word (mnemonic_word m)).0 same in
    let P : List ℕ → Type 0 = λ w. not (eqb (group_of w) (group_of word)) ≡ true in
    true≢false (sym (subst P (sym is) other) ∙ ap not (eq-eqb _ _ refl)))

drop_rest : (a b : ℕ) (ms : List Mnemonic) → a ≤ b → drop (b - a) (drop a ms) ≡ drop b ms
drop_rest zero b ms order = ap (λ n. drop n ms) (let same : b - 0 ≡ b = omega arith in same)
drop_rest (suc a) zero ms order = absurd (omega arith)
drop_rest (suc a) (suc b) [] order = drop-nil (suc b - suc a)
drop_rest (suc a) (suc b) (m ∷ ms) order = ap (λ n. drop n (drop a ms)) (let same : suc b - suc a ≡ b - a = omega arith in same) ∙ drop_rest a b ms (omega arith)

module _ (word : List ℕ) where
  abbrev has : Mnemonic → Bool
  has m = bytes_eq word (mnemonic_word m)

  -- those of other groups that come before the rest do not matter
  following : (n : ℕ) (ms : List Mnemonic) → list_all (elsewhere (group_of word)) (take n ms) ≡ true → find has (drop n ms) ≡ find has ms
  following zero ms all = refl
  following (suc n) [] all = refl
  following (suc n) (m ∷ ms) all =
      let parts = and_parts _ _ all in
      following n ms parts.1 ∙ sym (cond-false (has m) (Some m) (find has ms) (other_word word m parts.0))

  none_of : (ms : List Mnemonic) → list_all (elsewhere (group_of word)) ms ≡ true → find has ms ≡ None
  none_of [] all = refl
  none_of (m ∷ ms) all =
      let parts = and_parts _ _ all in
      cond-false (has m) (Some m) (find has ms) (other_word word m parts.0) ∙ none_of ms parts.1

  -- and neither do those that come after it
  before : (n : ℕ) (ms : List Mnemonic) → list_all (elsewhere (group_of word)) (drop n ms) ≡ true → find has (take n ms) ≡ find has ms
  before zero ms all = sym (none_of ms all)
  before (suc n) [] all = refl
  before (suc n) (m ∷ ms) all = ap (λ o. cond (has m) (Some m) o) (before n ms all)

-- the first of a word's group that has it is the first of all
pub found_in_group : (word : List ℕ) (group : ℕ) (ms : List Mnemonic) → group ≡ group_of word → group ≤ 208
    → ms ≡ slice_range MNEMONICS (start_of group) (start_of (suc group))
    → find (λ m. bytes_eq word (mnemonic_word m)) ms ≡ mnemonic_named word
unfolding mnemonic_named
found_in_group word group ms is few part =
    let a = start_of group in
    let b = start_of (suc group) in
    let P : ℕ → Type 0 = λ g. (list_all (elsewhere g) (take a MNEMONICS) ≡ true) × (list_all (elsewhere g) (drop b MNEMONICS) ≡ true) in
    let others : P (group_of word) = subst P is (and_parts _ _ (and_parts _ _ (all_stand group few)).0) in
    let rise = groups_rise group few in
    let end : drop (b - a) (drop a MNEMONICS) ≡ drop b MNEMONICS = drop_rest a b MNEMONICS rise.0 in
    let Q : List Mnemonic → Type 0 = λ xs. list_all (elsewhere (group_of word)) xs ≡ true in
    ap (find (has word)) part ∙ before word (b - a) (drop a MNEMONICS) (subst Q (sym end) others.1) ∙ following word a MNEMONICS others.0
