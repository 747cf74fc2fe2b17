-- Beginnings of one list.
use Rattle.std.proofs.Common.{◌≡◌, ◌⊎◌, inl, inr, ℕ, zero, suc, ◌≤◌, List, [], ◌∷◌, length, Some, slice_get, ap, sym, subst, ◌∙◌}
use mathlib.Core.List.{IsPrefix}
use Rattle.node_programs.specs.declared.publishes.Publish.{Publish}
use Rattle.annals.specs.declared.deed.HistoryEntry.{HistoryEntry}
use Rattle.annals.specs.Publishes.{PublishesGrow, publishes_of}
use Rattle.annals.specs.Shown.{IsTakenAtMoment}
use Rattle.publish.specs.Reached.{Known, known}
pub use Rattle.lemmas.proofs.Prefixes.{prefix_same}
use Rattle.lemmas.proofs.Prefixes.{prefix_trans, prefix_whole, prefix_length}

-- what is in a beginning is in the whole, at the same place
pub prefix_get : {A : Type 0} (xs ys : List A) (k : ℕ) (x : A) → IsPrefix xs ys → slice_get xs k ≡ Some x → slice_get ys k ≡ Some x
prefix_get [] ys k x p h = absurd cc
prefix_get (y ∷ xs) [] k x p h = absurd (cc (p.1))
prefix_get (y ∷ xs) (z ∷ ys) zero x p h = cc (p.1, h)
prefix_get (y ∷ xs) (z ∷ ys) (suc k) x p h = prefix_get xs ys k x (p.0, cc (p.1)) h

-- a reader that learnt of programs which what it knew begins
pub learnt : (old new : Known) (reported programs : List Publish) → reported ≡ programs → IsPrefix old.programs programs → (length old.programs ≤ length reported → new ≡ known reported old.inside) → new.programs ≡ programs
learnt old new reported programs is begins longer =
    let less : length old.programs ≤ length reported = subst (λ (l : List Publish). length old.programs ≤ length l) (sym is) (prefix_length old.programs programs begins) in
    ap (λ (r : Known). r.programs) (longer less) ∙ is

-- two beginnings of one history: the one with fewer publishes has those that begin the other's
pub prefix_of_two : (xs ys : List HistoryEntry) → PublishesGrow → IsPrefix xs ys ⊎ IsPrefix ys xs → length (publishes_of xs) ≤ length (publishes_of ys) → IsPrefix (publishes_of xs) (publishes_of ys)
prefix_of_two xs ys grow (inl p) le = grow xs ys p
prefix_of_two xs ys grow (inr p) le = prefix_same (publishes_of xs) (publishes_of ys) (prefix_whole (publishes_of ys) (publishes_of xs) (grow ys xs p) le)

pub swapped : {A B : Type 0} → A ⊎ B → B ⊎ A
swapped (inl a) = inr a
swapped (inr b) = inl b

-- a moment after what somebody saw is one after what this one had seen before
pub taken_since : (known first reached : List HistoryEntry) (programs same : List Publish) → IsPrefix known first → programs ≡ same → IsTakenAtMoment first reached programs → IsTakenAtMoment known reached same
taken_since known first reached programs same begins is at = record {
  at = at.at;
  after = prefix_trans known first at.at begins at.after;
  before = at.before;
  seen = at.seen ∙ is;
}
