-- A list of which one element is written.
use Rattle.std.proofs.Common.{◌≡◌, ◌≢◌, ◌<◌, ℕ, List, length, Some, set, sym, ap, ◌∙◌}
use Rattle.std.specs.Prelude.{slice_get}
use Rattle.std.proofs.lemmas.Grind.{get_or-set_at}
use Rattle.std.proofs.lemmas.List.{get_or-set_other, length-set}
use Rattle.std.proofs.lemmas.Option.{get_or_from_slice_get, slice_get-get_or, slice_get_within}

-- what is at a place of a list of which one element was written
pub at_written : {A : Type 0} (xs : List A) (k j : ℕ) (old new x : A) → slice_get xs k ≡ Some old → j ≡ k → slice_get (set xs k new) j ≡ Some x → x ≡ new
at_written xs k j old new x at here found =
    sym (get_or_from_slice_get (set xs k new) j x old found) ∙ get_or-set_at xs k j new old here (slice_get_within xs k old at)

-- what is at another place was there before
pub at_other : {A : Type 0} (xs : List A) (k j : ℕ) (new x : A) → j ≢ k → slice_get (set xs k new) j ≡ Some x → slice_get xs j ≡ Some x
at_other xs k j new x other found =
    let inside : j < length (set xs k new) = slice_get_within (set xs k new) j x found in
    let below : j < length xs = rw (← length-set xs k new) inside in
    slice_get-get_or xs j x below ∙ ap (λ y. Some y) (sym (get_or-set_other xs k j new x other) ∙ get_or_from_slice_get (set xs k new) j x x found)
