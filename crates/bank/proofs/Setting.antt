-- Bytes that are put into pages, one after the other.
use Rattle.std.proofs.Common.{◌≡◌, ℕ, zero, suc, ◌+◌, ◌-◌, ◌*◌, ◌/◌, ◌%◌, ◌≤◌, ◌<◌, ◌++◌, ◌∷◌, [], List, length, get_or, set, take, drop, sym, ap, ◌∙◌, arith}
use Rattle.std.specs.List.{concat}
use Rattle.std.proofs.lemmas.Nat.{div-add-mod'}
use Rattle.std.proofs.lemmas.List.{append-nil, append_assoc, take_all, set-append_left, set-append_right, take_more, drop_more, length-append, length-take, length-drop, length-set, take-append-drop}
use Rattle.bank.specs.Effect.{overlaid}
use Rattle.bank.specs.Pages.{ArePages}
use Rattle.bank.proofs.Paging.{page, found, are_set}

-- another byte j of page k is another byte k * 4096 + j of the whole
set_in_page : (ps : List (List ℕ)) (k j b : ℕ) → ArePages ps → k < length ps → j < length (page ps k) → concat (set ps k (set (page ps k) j b)) ≡ set (concat ps) (k * 4096 + j) b
set_in_page [] k j b are below inside = absurd (omega arith)
set_in_page (p ∷ []) zero j b are below inside =
    let index : 0 * 4096 + j ≡ j = omega arith in
    append-nil (set p j b) ∙ sym (ap (λ (l : List ℕ). set l (0 * 4096 + j) b) (append-nil p) ∙ ap (λ (i : ℕ). set p i b) index)
set_in_page (p ∷ []) (suc k) j b are below inside = absurd (omega arith)
set_in_page (p ∷ q ∷ ps) zero j b are below inside =
    let index : 0 * 4096 + j ≡ j = omega arith in
    sym (ap (λ (i : ℕ). set (p ++ concat (q ∷ ps)) i b) index ∙ set-append_left p (concat (q ∷ ps)) j b inside)
set_in_page (p ∷ q ∷ ps) (suc zero) j b are below inside =
    let index : suc zero * 4096 + j - 4096 ≡ 0 * 4096 + j = omega arith in
    sym (set-append_right p (concat (q ∷ ps)) 4096 (suc zero * 4096 + j) b are.0 (omega arith)
    ∙ ap (λ (i : ℕ). p ++ set (concat (q ∷ ps)) i b) index
    ∙ ap (λ (l : List ℕ). p ++ l) (sym (set_in_page (q ∷ ps) zero j b are.1 (omega arith) inside)))
set_in_page (p ∷ q ∷ ps) (suc (suc k)) j b are below inside =
    let index : suc (suc k) * 4096 + j - 4096 ≡ suc k * 4096 + j = omega arith in
    sym (set-append_right p (concat (q ∷ ps)) 4096 (suc (suc k) * 4096 + j) b are.0 (omega arith)
    ∙ ap (λ (i : ℕ). p ++ set (concat (q ∷ ps)) i b) index
    ∙ ap (λ (l : List ℕ). p ++ l) (sym (set_in_page (q ∷ ps) (suc k) j b are.1 (omega arith) inside)))

-- another byte of the whole is another byte of its page
pub record IsPut (ps qs : List (List ℕ)) (n b : ℕ) : Type 0 where
  pub are : ArePages qs
  pub value : concat qs ≡ set (concat ps) n b

pub is_put : (ps : List (List ℕ)) (n b : ℕ) → ArePages ps → n < length (concat ps) → IsPut ps (set ps (n / 4096) (set (page ps (n / 4096)) (n % 4096) b)) n b
is_put ps n b are below =
    let k = n / 4096 in
    let j = n % 4096 in
    let at = found ps n are below in
    record {
      are = are_set ps k (set (page ps k) j b) are (length-set (page ps k) j b);
      value = set_in_page ps k j b are at.below at.inside ∙ ap (λ (i : ℕ). set (concat ps) i b) (div-add-mod' n 4096);
    }

-- none of the bytes are put yet
pub overlaid_none : (old bytes : List ℕ) (offset : ℕ) → overlaid offset old (take 0 bytes) ≡ old
overlaid_none old bytes offset =
    let index : offset + 0 ≡ offset = omega arith in
    ap (λ (l : List ℕ). l ++ drop (offset + 0) old) (append-nil (take offset old))
    ∙ ap (λ (i : ℕ). take offset old ++ drop i old) index
    ∙ take-append-drop offset old

-- one more byte is put
pub overlaid_more : (old bytes : List ℕ) (offset i : ℕ) → offset + i < length old → i < length bytes
    → set (overlaid offset old (take i bytes)) (offset + i) (get_or bytes i 0) ≡ overlaid offset old (take (i + 1) bytes)
overlaid_more old bytes offset i room below =
    let byte = get_or bytes i 0 in
    let some : List ℕ = take offset old ++ take i bytes in
    let few : length (take i bytes) ≡ i = omega (arith, length-take i bytes) in
    let more : length (take (i + 1) bytes) ≡ i + 1 = omega (arith, length-take (i + 1) bytes) in
    let front : length some ≡ offset + i = omega (arith, length-append (take offset old) (take i bytes), length-take offset old) in
    let next : offset + i + 1 ≡ offset + (i + 1) = omega arith in
    let none : offset + i - (offset + i) ≡ 0 = omega arith in
    let rest : List ℕ = drop (offset + (i + 1)) old in
    let following : drop (offset + length (take i bytes)) old ≡ get_or old (offset + i) 0 ∷ rest =
    ap (λ (n : ℕ). drop (offset + n) old) few ∙ drop_more old (offset + i) 0 room ∙ ap (λ (n : ℕ). get_or old (offset + i) 0 ∷ drop n old) next in
    ap (λ (l : List ℕ). set (some ++ l) (offset + i) byte) following
    ∙ set-append_right some (get_or old (offset + i) 0 ∷ rest) (offset + i) (offset + i) byte front (omega arith)
    ∙ ap (λ (n : ℕ). some ++ set (get_or old (offset + i) 0 ∷ rest) n byte) none
    ∙ sym (ap (λ (n : ℕ). take offset old ++ take (i + 1) bytes ++ drop (offset + n) old) more
    ∙ ap (λ (l : List ℕ). take offset old ++ l ++ rest) (take_more bytes i 0 below)
    ∙ simp append_assoc)

-- all bytes are put
pub overlaid_all : (old bytes : List ℕ) (offset i : ℕ) → length bytes ≤ i → overlaid offset old (take i bytes) ≡ overlaid offset old bytes
overlaid_all old bytes offset i all = ap (overlaid offset old) (take_all i bytes all)

-- putting bytes does not change the number of bytes
pub overlaid_long : (old bytes : List ℕ) (offset : ℕ) → offset + length bytes ≤ length old → length (overlaid offset old bytes) ≡ length old
overlaid_long old bytes offset inside =
    omega (arith, length-append (take offset old ++ bytes) (drop (offset + length bytes) old), length-append (take offset old) bytes, length-take offset old, length-drop (offset + length bytes) old)
