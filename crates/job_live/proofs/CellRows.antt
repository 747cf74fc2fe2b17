-- Lines of cells that are printed one after the other.
use Rattle.std.proofs.Common.{◌≡◌, ◌+◌, ℕ, List, [], ◌∷◌, ◌++◌, Option, sym, ap, subst, ◌∙◌, arith}
use Rattle.std.specs.Io.KnownBytes.{Appends}
use Rattle.std.specs.List.{flat_map, range_with_len}
use Rattle.std.proofs.KnownBytes.{Appends-trans}
use Rattle.std.proofs.lemmas.Grind.{flat_map-append}
use Rattle.std.proofs.lemmas.List.{append-nil, map-id}
use Rattle.std.proofs.lemmas.List.FromFn.{map-range_with_len_more}

-- one number more
range_more : (n : ℕ) → range_with_len 0 (n + 1) ≡ range_with_len 0 n ++ n ∷ []
range_more n =
    sym (map-id (range_with_len 0 (n + 1)))
    ∙ map-range_with_len_more (λ (x : ℕ). x) 0 n n (omega arith)
    ∙ ap (λ (l : List ℕ). l ++ n ∷ []) (map-id (range_with_len 0 n))

-- the text of one number more
pub rows_more : (row : ℕ → List ℕ) (n : ℕ)
    → flat_map row (range_with_len 0 (n + 1)) ≡ flat_map row (range_with_len 0 n) ++ row n
rows_more row n =
    ap (λ (l : List ℕ). flat_map row l) (range_more n)
    ∙ flat_map-append row (range_with_len 0 n) (n ∷ [])
    ∙ ap (λ (l : List ℕ). flat_map row (range_with_len 0 n) ++ l) (append-nil (row n))

-- After the texts of `n` numbers the next one was printed.
pub row_printed : (row : ℕ → List ℕ) (n : ℕ) (text : List ℕ) (old mid new : Option (List ℕ)) → text ≡ row n
    → Appends old mid (flat_map row (range_with_len 0 n)) → Appends mid new text
    → Appends old new (flat_map row (range_with_len 0 (n + 1)))
row_printed row n text old mid new is before reported =
    subst (λ (l : List ℕ). Appends old new l) (sym (rows_more row n))
    (Appends-trans old mid new _ _ before (subst (λ (l : List ℕ). Appends mid new l) is reported))
