-- The steps on the table of programs keep its rule.
use Rattle.std.proofs.Common.{◌≡◌, ℕ, ◌≢◌, List, [], ◌∷◌, refl, subst, ⊎_elim}
use mathlib.Core.List.{IsPrefix}
use mathlib.Core.Option.{some}
use lib.ListN.{get_elem?}
use Rattle.atomic_table.proofs.Lists.{at_set, at_snoc}
use Rattle.left_right.specs.Register.{Admits, TurnsAt}
use Rattle.logbook.specs.Pages.{Book}
use Rattle.node_programs.specs.declared.publishes.Publish.{Publish}
use Rattle.publish.specs.Reached.{Reached}
use Rattle.publish.specs.PublishedViews.{IsInFamily, Sees}
use Rattle.lemmas.proofs.Prefixes.{prefix_self, prefix_trans}

-- a reader that saw nothing may come
pub admits : (family : Book) → Admits (IsInFamily family) []
admits family x published_views h = record {
  family = h.family;
  seen = λ j u e. ⊎_elim (h.seen j u) (λ (same : [] ≡ u). subst (λ (z : List Publish). IsPrefix z x.programs) same (x.programs, refl)) (at_snoc published_views [] u j e);
}

-- the first table, which only its publisher has
pub begins : (family : Book) (x : Reached) → x.family ≡ family → IsInFamily family x ([] ∷ [])
begins family x is = admits family x [] (record { family = is; seen = λ j u e. absurd (cc e) })

-- a reader looks
pub looks : (family : Book) (seat : ℕ) (v : List Publish) (x : Reached) → TurnsAt (IsInFamily family) seat v x x (Sees family)
looks family seat v x published_views h at = (
  x.programs,
  record {
    family = h.family;
    seen = λ j u e. ⊎_elim
        (λ (t : (j ≡ seat) × (x.programs ≡ u)). subst (λ (z : List Publish). IsPrefix z x.programs) t.1 (prefix_self x.programs))
        (λ (t : (j ≢ seat) × (get_elem? published_views j ≡ some u)). h.seen j u t.1)
        (at_set published_views seat j x.programs u e);
  },
  record { family = h.family; longer = h.seen seat v at; seen = refl },
)

-- the publisher shows a table with more programs
pub shows : (family : Book) (seat : ℕ) (v : List Publish) (x y : Reached) → y.family ≡ family → IsPrefix x.programs y.programs
    → TurnsAt (IsInFamily family) seat v x y (λ before old new after. after ≡ before)
shows family seat v x y is longer published_views h at = (
  v,
  record {
    family = is;
    seen = λ j u e. prefix_trans u x.programs y.programs
        (⊎_elim
        (λ (t : (j ≡ seat) × (v ≡ u)). subst (λ (z : List Publish). IsPrefix z x.programs) t.1 (h.seen seat v at))
        (λ (t : (j ≢ seat) × (get_elem? published_views j ≡ some u)). h.seen j u t.1)
        (at_set published_views seat j v u e))
        longer;
  },
  refl,
)
