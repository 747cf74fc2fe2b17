-- Slots into which an image is loaded, one more at a time.
use Rattle.std.proofs.Common.{◌≡◌, ◌≤◌, ◌<◌, ◌+◌, ◌++◌, ◌∷◌, [], ◌&&◌, not, ℕ, zero, suc, Bool, true, false, List, Some, arith, refl, sym, ap, subst, ◌∙◌, get_or, length, take}
use Rattle.std.specs.Prelude.{Decides, if◌then◌else◌, slice_get}
use Rattle.std.proofs.lemmas.Bool.{false≢true}
use Rattle.std.proofs.lemmas.List.{take_more}
use Rattle.std.proofs.lemmas.Option.{none-some, same_Some}
use Rattle.std.specs.List.{list_all, list_any}
use Rattle.bpf.specs.Program.{image_bytes}
use Rattle.bver.specs.Justified.{AcceptedValue}
use Rattle.node_programs.specs.Published.{generation_at, program_at}
use Rattle.node_programs.specs.declared.publishes.Publish.{Publish}
use Rattle.job_rehearse.specs.Loads.{AreLoaded, IsImageLoaded, ending_of}
use Rattle.job_rehearse.specs.declared.loads.LoadEnd.{LoadEnd}
use Rattle.job_rehearse.specs.declared.loads.LoadEnd.TheVariants.{InPart, Loaded, LockedOut, NotLoaded}

-- one more slot
pub one_more_slot : (image : List ℕ) (count : ℕ) (programs : List Publish) (slots : List ℕ) (loaded : List Bool) (slot : ℕ) (is : Bool)
    → AreLoaded image count programs slots loaded → Decides is (IsImageLoaded image count programs slot)
    → AreLoaded image count programs (slots ++ slot ∷ []) (loaded ++ is ∷ [])
one_more_slot image count programs [] [] slot is are one = (one, tt)
one_more_slot image count programs [] (b ∷ rest) slot is are one = absurd are
one_more_slot image count programs (s ∷ slots) [] slot is are one = absurd are
one_more_slot image count programs (s ∷ slots) (b ∷ rest) slot is are one = (are.0, one_more_slot image count programs slots rest slot is are.1 one)

-- before the first slot there is none
pub no_slot : (image : List ℕ) (count : ℕ) (programs : List Publish) (slots : List ℕ) (loaded : List Bool) → loaded ≡ [] → AreLoaded image count programs (take 0 slots) loaded
no_slot image count programs slots loaded is = subst (λ (l : List Bool). AreLoaded image count programs [] l) (sym is) tt

-- one more slot, at its place
pub slot_more : (image : List ℕ) (count : ℕ) (programs : List Publish) (slots : List ℕ) (k d slot : ℕ) (before loaded : List Bool) (is : Bool) → k < length slots → slot ≡ get_or slots k d
    → AreLoaded image count programs (take k slots) before → Decides is (IsImageLoaded image count programs slot) → loaded ≡ before ++ is ∷ []
    → AreLoaded image count programs (take (k + 1) slots) loaded
slot_more image count programs slots k d slot before loaded is below at are one more =
    subst (λ (l : List Bool). AreLoaded image count programs (take (k + 1) slots) l) (sym more)
    (subst (λ (s : List ℕ). AreLoaded image count programs s (before ++ is ∷ [])) (sym (take_more slots k d below))
    (one_more_slot image count programs (take k slots) before (get_or slots k d) is are (subst (λ (n : ℕ). Decides is (IsImageLoaded image count programs n)) at one)))

-- the loads ended as those of an image that is loaded
abbrev IsWhole : LoadEnd → Type 0
IsWhole Loaded = Unit {0}
IsWhole InPart = ⊥
IsWhole LockedOut = ⊥
IsWhole NotLoaded = ⊥

whole_by : (any all failed refused : Bool) → IsWhole (if refused then (if any then InPart else LockedOut) else (if all && not failed then Loaded else NotLoaded)) → all ≡ true
whole_by true all failed true is = absurd is
whole_by false all failed true is = absurd is
whole_by any true failed false is = refl
whole_by any false failed false is = absurd is

-- so each flag is set
all_set : (loaded : List Bool) (refused failed : Bool) → ending_of loaded refused failed ≡ Loaded → list_all (λ is. is) loaded ≡ true
all_set loaded refused failed is = whole_by (list_any (λ is. is) loaded) (list_all (λ is. is) loaded) failed refused (subst IsWhole (sym is) tt)

-- and the image is loaded into each slot
each_of : (image : List ℕ) (count : ℕ) (programs : List Publish) (slots : List ℕ) (loaded : List Bool) → AreLoaded image count programs slots loaded → list_all (λ is. is) loaded ≡ true
    → (number slot : ℕ) → slice_get slots number ≡ Some slot → IsImageLoaded image count programs slot
each_of image count programs [] loaded are all number slot at = absurd (none-some slot at)
each_of image count programs (s ∷ slots) [] are all number slot at = absurd are
each_of image count programs (s ∷ slots) (true ∷ rest) are all zero slot at = subst (λ n. IsImageLoaded image count programs n) (same_Some s slot at) (are.0.0 refl)
each_of image count programs (s ∷ slots) (true ∷ rest) are all (suc number) slot at = each_of image count programs slots rest are.1 all number slot at
each_of image count programs (s ∷ slots) (false ∷ rest) are all number slot at = absurd (false≢true all)

pub each_loaded : (image : List ℕ) (count : ℕ) (programs : List Publish) (slots : List ℕ) (loaded : List Bool) (refused failed : Bool) → AreLoaded image count programs slots loaded
    → ending_of loaded refused failed ≡ Loaded → (number slot : ℕ) → slice_get slots number ≡ Some slot → IsImageLoaded image count programs slot
each_loaded image count programs slots loaded refused failed are is = each_of image count programs slots loaded are (all_set loaded refused failed is)

-- ---- one slot

-- there is no such slot
pub not_there : (image : List ℕ) (count : ℕ) (programs : List Publish) (slot : ℕ) → 3 < slot → Decides false (IsImageLoaded image count programs slot)
not_there image count programs slot above = (
  λ e. absurd (false≢true e),
  λ is.
      let there : slot < 4 = is.there in
      absurd (omega (arith, above, there)),
)

-- its last program was published before
pub not_later : (image : List ℕ) (generation : ℕ) (programs : List Publish) (slot own : ℕ) → generation_at programs slot ≡ Some own → own ≤ generation
    → Decides false (IsImageLoaded image (generation + 1) programs slot)
not_later image generation programs slot own at before = (
  λ e. absurd (false≢true e),
  λ is.
      let same : is.generation ≡ own = same_Some is.generation own (sym is.is_generation ∙ at) in
      let later : generation + 1 ≤ is.generation = is.later in
      absurd (omega (arith, same, later, before)),
)

-- its last program was published after that, and is compared with the image
pub by_bytes : (image bytes : List ℕ) (generation : ℕ) (programs : List Publish) (slot own : ℕ) (program : AcceptedValue) (is : Bool)
    → slot ≤ 3 → generation_at programs slot ≡ Some own → generation < own → program_at programs slot ≡ Some program → bytes ≡ image_bytes program.program
    → Decides is (bytes ≡ image) → Decides is (IsImageLoaded image (generation + 1) programs slot)
by_bytes image bytes generation programs slot own program is low at later own_program spelled same = (
  λ e. record {
    there = omega (arith, low);
    generation = own;
    is_generation = at;
    later = omega (arith, later);
    program = program;
    is_program = own_program;
    begins_image = sym spelled ∙ same.0 e;
  },
  λ loaded. same.1 (spelled ∙ ap (λ (p : AcceptedValue). image_bytes p.program) (same_Some program loaded.program (sym own_program ∙ loaded.is_program)) ∙ loaded.begins_image),
)
