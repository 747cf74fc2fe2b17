-- Rows that are printed one after the other.
use Rattle.std.proofs.Common.{◌≡◌, ◌≤◌, ◌<◌, ◌+◌, ◌++◌, ◌∙◌, ◌∷◌, ℕ, List, drop, get_or, length, ap, sym}
use Rattle.std.proofs.lemmas.List.{append-nil, append_assoc, drop_all, drop_more}
use Rattle.job_node_file.specs.Headers.{each_from}

module _ {X : Type 0} (text : ℕ → X → List ℕ) (items : List X) where
  -- with the rows of the items from a place on it is the whole
  abbrev pub RowsGoOn : (place : ℕ) → (so_far whole : List ℕ) → Type 0
  RowsGoOn place so_far whole = so_far ++ each_from text place (drop place items) ≡ whole

  -- the row of one item more
  pub rows_go_on : (place : ℕ) (so_far next whole : List ℕ) (item d : X) → place < length items → get_or items place d ≡ item
      → next ≡ so_far ++ text place item → RowsGoOn place so_far whole → RowsGoOn (place + 1) next whole
  rows_go_on place so_far next whole item d inside at grown on =
      let rest = each_from text (place + 1) (drop (place + 1) items) in
      let first : drop place items ≡ item ∷ drop (place + 1) items =
      drop_more items place d inside ∙ ap (λ (x : X). x ∷ drop (place + 1) items) at in
      ap (λ (l : List ℕ). l ++ rest) grown ∙ append_assoc so_far (text place item) rest
      ∙ ap (λ (l : List X). so_far ++ each_from text place l) (sym first) ∙ on

  -- no item is left
  pub rows_end : (place : ℕ) (so_far whole : List ℕ) → length items ≤ place → RowsGoOn place so_far whole → so_far ≡ whole
  rows_end place so_far whole past on =
      sym (append-nil so_far) ∙ ap (λ (l : List X). so_far ++ each_from text place l) (sym (drop_all place items past)) ∙ on
