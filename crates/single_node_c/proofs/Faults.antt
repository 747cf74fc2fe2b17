-- Why an image may not judge, and why no node is opened, by what the steps before reported.
use Rattle.std.proofs.Common.{◌≡◌, ℕ, List, refl, subst, sym, Result, Ok, Err, IfErr}
use Rattle.std.specs.Prelude.{MatchResult}
use Rattle.bpf.specs.declared.fault.ImageFault.{ImageFault}
use Rattle.bpf.specs.declared.fault.ImageFault.TheVariants as faults
use Rattle.bpf.specs.Reading.{FailsReading, image_reading}
use Rattle.bver.specs.Justified.{AcceptedValue}
use Rattle.machine.specs.Sizes.{Maps}
use Rattle.single_node_c.specs.Numbers.{maps_of}
use Rattle.single_node_c.specs.Opening.{AreMaps, IsAccepted, IsConfigFault, IsImageUnfit, IsUnfit, IsUnopened}
use Rattle.single_node_c.specs.Opening.{bad_config, bad_image, is_config, no_program, of_image, of_memory, unfit_of}
use Rattle.single_node_c.specs.declared.numbers.BankNumbers.{BankNumbers}
use Rattle.single_node_c.specs.declared.numbers.MapNumbers.{MapNumbers}
use Rattle.single_node_c.specs.declared.unfit.Unfit.{Unfit}

-- by the fault that reading the image reported
pub image_unfit : (maps : Maps) (bytes : List ℕ) (fault : ImageFault) → FailsReading fault (image_reading bytes)
    → IsImageUnfit maps bytes (unfit_of fault)
image_unfit maps bytes faults.Memory h = of_memory refl
image_unfit maps bytes faults.Magic h = of_image faults.Magic h refl
image_unfit maps bytes faults.Version h = of_image faults.Version h refl
image_unfit maps bytes faults.Length h = of_image faults.Length h refl
image_unfit maps bytes faults.Count h = of_image faults.Count h refl
image_unfit maps bytes faults.Budget h = of_image faults.Budget h refl
image_unfit maps bytes faults.Loop h = of_image faults.Loop h refl
image_unfit maps bytes (faults.Insn slot fault) h = of_image (faults.Insn slot fault) h refl

-- the maps are those of the numbers, and the image was looked at
pub numbers_unfit : (numbers : List MapNumbers) (image : List ℕ) (maps : Maps) → AreMaps numbers
    → maps ≡ maps_of numbers → (r : Result AcceptedValue Unfit)
    → MatchResult r (IsAccepted maps image) (IsImageUnfit maps image) → IfErr r (IsUnfit numbers image)
numbers_unfit numbers image maps are same (Ok a) h = tt
numbers_unfit numbers image maps are same (Err fault) h =
    bad_image are (subst (λ (m : Maps). IsImageUnfit m image fault) same h)

-- the program was accepted, and no node was made with it
pub config_unopened : {X : Type 0} (ports : ℕ) (banks : List BankNumbers) (numbers : List MapNumbers) (image : List ℕ)
    (factory : AcceptedValue) → AreMaps numbers → IsAccepted (maps_of numbers) image factory → (r : Result X Unfit)
    → IfErr r (IsConfigFault (is_config ports banks)) → IfErr r (IsUnopened ports banks numbers image)
config_unopened ports banks numbers image factory are accepted (Ok x) h = tt
config_unopened ports banks numbers image factory are accepted (Err fault) h = bad_config factory are accepted h

-- the program was not accepted
pub refused_unopened : {X : Type 0} (ports : ℕ) (banks : List BankNumbers) (numbers : List MapNumbers) (image : List ℕ)
    (fault : Unfit) → IsUnfit numbers image fault → (r : Result X Unfit) → r ≡ Err fault
    → IfErr r (IsUnopened ports banks numbers image)
refused_unopened {X} ports banks numbers image fault h r reported =
    subst (λ (q : Result X Unfit). IfErr q (IsUnopened ports banks numbers image)) (sym reported) (no_program h)
