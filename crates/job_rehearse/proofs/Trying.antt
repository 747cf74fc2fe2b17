-- On which maps an image is tried, by what the steps before said.
use Rattle.std.proofs.Common.{◌≡◌, ◌≢◌, ℕ, Bool, true, false, List, refl, sym, subst, ◌∙◌, Result, Ok, Err}
use Rattle.std.specs.Prelude.{Decides}
use Rattle.std.proofs.lemmas.Bool.{false≢true}
use Rattle.bpf.specs.Program.{IsProgram, Program, image_bytes}
use Rattle.bpf.specs.Reading.{ReadsWhatSpells}
use Rattle.bpf.specs.declared.fault.ImageFault.{ImageFault}
use Rattle.bpf.specs.declared.fault.ImageFault.TheVariants as faults
use Rattle.bver.specs.Justified.{IsJustified}
use Rattle.bver.specs.Unjustified.{ReportsUnjustified}
use Rattle.bver_form.specs.declared.refusal.Refusal.TheVariants.{Memory}
use Rattle.bver_form.specs.declared.refusal.Refused.{Refused}
use Rattle.machine.specs.Sizes.{Maps}
use Rattle.job_rehearse.specs.Again.{IsAcceptable, IsFirstOfFour, IsForNone, eight_maps, lacks_memory, no_maps, one_map}
use Rattle.job_rehearse.specs.Again.{of_none, of_one, of_eight}

-- a program that the verifier accepts, and one that it refuses
pub justified_is : (p : Program) (maps : Maps) → IsJustified p maps → Decides true (IsJustified p maps)
justified_is p maps is = (λ e. is, λ h. refl)

pub unjustified_is : (p : Program) (maps : Maps) (refused : Refused) → ReportsUnjustified p maps refused → refused.code ≢ Memory → Decides false (IsJustified p maps)
unjustified_is p maps refused reports other = (λ e. absurd (false≢true e), λ h. absurd (reports other h))

-- the program that was read
only_that : (p image : Program) → ◌≡◌ {A = Result Program ImageFault} (Ok p) (Ok image) → p ≡ image
only_that p image is = cc is

-- bytes that are those of an image
pub acceptable_by : (bytes : List ℕ) (maps : Maps) (image : Program) (is : Bool) → IsProgram image × (bytes ≡ image_bytes image) → ReadsWhatSpells bytes (Ok image)
    → Decides is (IsJustified image maps) → Decides is (IsAcceptable bytes maps)
acceptable_by bytes maps image is found only known = (
  λ e. record { program = image; limits = found.0; spelled = found.1; justified = known.0 e },
  λ it. known.1 (subst (λ (p : Program). IsJustified p maps) (only_that it.program image (only it.program it.limits it.spelled)) it.justified),
)

-- bytes that are those of no image
none_of : (p : Program) (fault : ImageFault) → ◌≡◌ {A = Result Program ImageFault} (Ok p) (Err fault) → ⊥
none_of p fault is = cc is

unread : (bytes : List ℕ) (fault : ImageFault) → ReadsWhatSpells bytes (Err fault) → lacks_memory fault ≡ false → (p : Program) → IsProgram p → bytes ≡ image_bytes p → ⊥
unread bytes faults.Memory only kept p limits spelled = false≢true (sym kept)
unread bytes faults.Magic only kept p limits spelled = none_of p _ (only p limits spelled)
unread bytes faults.Version only kept p limits spelled = none_of p _ (only p limits spelled)
unread bytes faults.Length only kept p limits spelled = none_of p _ (only p limits spelled)
unread bytes faults.Count only kept p limits spelled = none_of p _ (only p limits spelled)
unread bytes faults.Budget only kept p limits spelled = none_of p _ (only p limits spelled)
unread bytes faults.Loop only kept p limits spelled = none_of p _ (only p limits spelled)
unread bytes (faults.Insn slot fault) only kept p limits spelled = none_of p _ (only p limits spelled)

pub unread_is : (bytes : List ℕ) (maps : Maps) (fault : ImageFault) → ReadsWhatSpells bytes (Err fault) → lacks_memory fault ≡ false → Decides false (IsAcceptable bytes maps)
unread_is bytes maps fault only kept = (λ e. absurd (false≢true e), λ it. absurd (unread bytes fault only kept it.program it.limits it.spelled))

-- ---- maps in turn

is_there : (bytes : List ℕ) (maps wanted_field : Maps) (is : Bool) → maps ≡ wanted_field → Decides is (IsAcceptable bytes maps) → is ≡ true → IsAcceptable bytes wanted_field
is_there bytes maps wanted_field is same known reported = subst (λ (m : Maps). IsAcceptable bytes m) same (known.0 reported)

is_not : (bytes : List ℕ) (maps wanted_field : Maps) (is : Bool) → maps ≡ wanted_field → Decides is (IsAcceptable bytes maps) → is ≡ false → ¬ IsAcceptable bytes wanted_field
is_not bytes maps wanted_field is same known reported = λ it. false≢true (sym reported ∙ known.1 (subst (λ (m : Maps). IsAcceptable bytes m) (sym same) it))

pub first_of_none : (bytes : List ℕ) (none : Maps) (is : Bool) → none ≡ no_maps → Decides is (IsAcceptable bytes none) → is ≡ true → IsFirstOfFour bytes none
first_of_none bytes none is same known reported = of_none (is_there bytes none no_maps is same known reported) same

pub first_of_one : (bytes : List ℕ) (none one : Maps) (is_none is : Bool) → none ≡ no_maps → Decides is_none (IsAcceptable bytes none) → is_none ≡ false
    → one ≡ one_map → Decides is (IsAcceptable bytes one) → is ≡ true → IsFirstOfFour bytes one
first_of_one bytes none one is_none is same_none known_none reported_none same known reported =
    of_one (is_not bytes none no_maps is_none same_none known_none reported_none) (is_there bytes one one_map is same known reported) same

pub first_of_eight : (bytes : List ℕ) (none one eight : Maps) (is_none is_one is : Bool) → none ≡ no_maps → Decides is_none (IsAcceptable bytes none) → is_none ≡ false
    → one ≡ one_map → Decides is_one (IsAcceptable bytes one) → is_one ≡ false → eight ≡ eight_maps → Decides is (IsAcceptable bytes eight) → is ≡ true → IsFirstOfFour bytes eight
first_of_eight bytes none one eight is_none is_one is same_none known_none reported_none same_one known_one reported_one same known reported =
    of_eight (is_not bytes none no_maps is_none same_none known_none reported_none) (is_not bytes one one_map is_one same_one known_one reported_one)
    (is_there bytes eight eight_maps is same known reported) same

pub first_of_all : (bytes : List ℕ) (none one eight : Maps) (is_none is_one is : Bool) → none ≡ no_maps → Decides is_none (IsAcceptable bytes none) → is_none ≡ false
    → one ≡ one_map → Decides is_one (IsAcceptable bytes one) → is_one ≡ false → eight ≡ eight_maps → Decides is (IsAcceptable bytes eight) → is ≡ false → IsForNone bytes
first_of_all bytes none one eight is_none is_one is same_none known_none reported_none same_one known_one reported_one same known reported = record {
  none = is_not bytes none no_maps is_none same_none known_none reported_none;
  one = is_not bytes one one_map is_one same_one known_one reported_one;
  eight = is_not bytes eight eight_maps is same known reported;
}
