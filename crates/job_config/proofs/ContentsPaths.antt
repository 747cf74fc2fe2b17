-- The paths of the files that banks begin with, read one after the other.
use Rattle.std.proofs.Common.{◌≡◌, ◌≤◌, ◌<◌, ◌+◌, ◌++◌, ◌∷◌, [], ℕ, List, Option, None, Some, drop, length, get_or, refl, ap, ◌∙◌, sym, subst, append_assoc, append-nil}
use Rattle.std.proofs.lemmas.List.{drop_all}
use Rattle.toml.specs.Data.{Items, item}
use Rattle.toml.specs.View.{items_view, view}
use Rattle.toml.specs.declared.value.Value.{Value}
use Rattle.toml.proofs.Views.{items_view-drop}
use Rattle.job_config.specs.ContentsNamed.{ArePathsIn, ArePathsWith, IsPathAdded, contents_name}

module _ (file : List ℕ) where
  -- the paths so far go on by those of the other banks
  abbrev pub PathsGoOn : (list : List Value) (index : ℕ) → List (List ℕ) → Type 0
  PathsGoOn list index paths = (others : List (List ℕ)) → ArePathsIn file (items_view (drop index list)) others
      → ArePathsIn file (items_view list) (paths ++ others)

  -- what the next bank adds is the first of the others, if it adds one
  with_next : (name : Option (List ℕ)) (rest : Items) (paths all others : List (List ℕ)) → IsPathAdded file name paths all
      → ArePathsIn file rest others
      → (next : List (List ℕ)) × ArePathsWith file name (ArePathsIn file rest) next × (paths ++ next ≡ all ++ others)
  with_next None rest paths all others is are = (others, are, ap (λ (p : List (List ℕ)). p ++ others) (sym is))
  with_next (Some name) rest paths all others added are =
      let (path, beside, is) = added in
      (path ∷ others, (beside, are), sym (append_assoc paths (path ∷ []) others) ∙ ap (λ (p : List (List ℕ)). p ++ others) (sym is))

  -- the next bank
  pub paths_go_further : (list : List Value) (index : ℕ) (paths all : List (List ℕ)) (value : Value) → index < length list
      → get_or list index value ≡ value → IsPathAdded file (contents_name (view value)) paths all → PathsGoOn list index paths
      → PathsGoOn list (index + 1) all
  paths_go_further list index paths all value in_list at_value added so_far = λ others are.
      let items : items_view (drop index list) ≡ item (view value) (items_view (drop (index + 1) list)) =
      items_view-drop list index value in_list ∙ ap (λ (v : Value). item (view v) (items_view (drop (index + 1) list))) at_value in
      let (next, begin, whole) = with_next (contents_name (view value)) (items_view (drop (index + 1) list)) paths all others added are in
      let step : ArePathsIn file (items_view (drop index list)) next = subst (λ (i : Items). ArePathsIn file i next) (sym items) begin in
      subst (λ (p : List (List ℕ)). ArePathsIn file (items_view list) p) whole (so_far next step)

  -- all banks
  pub paths_go_to_end : (list : List Value) (index : ℕ) (paths : List (List ℕ)) → length list ≤ index → PathsGoOn list index paths
      → ArePathsIn file (items_view list) paths
  paths_go_to_end list index paths past so_far =
      let none : drop index list ≡ [] = drop_all index list past in
      let end : ArePathsIn file (items_view (drop index list)) [] = subst (λ (l : List Value). ArePathsIn file (items_view l) []) (sym none) refl in
      subst (λ (p : List (List ℕ)). ArePathsIn file (items_view list) p) (append-nil paths) (so_far [] end)
