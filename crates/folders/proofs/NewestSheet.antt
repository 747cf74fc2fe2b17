-- A sheet before all others is the file of its name, and hides no other.
use Rattle.std.proofs.Common.{◌≡◌, ◌≢◌, ℕ, List, ◌∷◌, Bool, true, false, refl, sym, ap, subst}
use Rattle.std.specs.Prelude.{Some, if◌then◌else◌}
use Rattle.std.specs.Bool.{Decides}
use Rattle.std.specs.Str.{bytes_eq}
use Rattle.std.proofs.lemmas.Slice.Eq.{bytes_eq-Decides}
use Rattle.folders.specs.Folders.{FolderValue, Sets, content_of}

-- names that differ are not taken for one
apart : (name other : List ℕ) (is_same : Bool) → Decides is_same (name ≡ other) → other ≢ name → is_same ≡ false
apart name other true reports differ = absurd (differ (sym (reports.0 refl)))
apart name other false reports differ = refl

pub newest_sets : (before after : FolderValue) (name bytes : List ℕ) → after ≡ (name, bytes) ∷ before → Sets before name bytes after
newest_sets before after name bytes is = subst (λ (sheets : FolderValue). Sets before name bytes sheets) (sym is) (record {
  newest = refl;
  own = ap (λ (is_same : Bool). if is_same then Some bytes else content_of before name) ((bytes_eq-Decides name name).1 refl);
  others = λ other differ. ap (λ (is_same : Bool). if is_same then Some bytes else content_of before other)
      (apart name other (bytes_eq name other) (bytes_eq-Decides name other) differ);
})
