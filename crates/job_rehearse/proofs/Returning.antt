-- The load of the new policy, and the way back after it, in the words of a rehearsal.
use Rattle.std.proofs.Common.{◌≡◌, ℕ, List, [], ◌∷◌, ◌++◌, Option, Some, None, option_map, codes, refl, ap, subst}
use Rattle.std.specs.Io.KnownBytes.{Appends}
use Rattle.std.proofs.lemmas.Option.{none-some}
use Rattle.job_parts.specs.declared.faults.Fault.{Fault}
use Rattle.job_parts.specs.declared.status.ExitStatus.{ExitStatus}
use Rattle.job_parts.specs.declared.status.ExitStatus.TheVariants.{Failed}
use Rattle.job_rehearse.specs.Loaders.{loader_text}
use Rattle.job_rehearse.specs.Loads.{Loads, StopsLoad}
use Rattle.job_rehearse.specs.Rehearsed.{LoadsNew, StaysOld, StopsBack, StopsThere, TriesBack, back_line, there_line}
use Rattle.job_rehearse.specs.Places.{IsBegunAt, loader_on}
use Rattle.job_rehearse.specs.declared.loads.LoadEnd.{LoadEnd}
use Rattle.job_rehearse.specs.declared.loads.LoadEnd.TheVariants.{InPart, Loaded, LockedOut, NotLoaded}
use Rattle.job_rehearse.specs.declared.loaders.LoadSender.{LoadSender}
use Rattle.job_rehearse.specs.declared.places.RehearsalNode.{RehearsalNode}
use Rattle.job_rehearse.specs.declared.policies.Policies.{Policies}
use Rattle.job_rehearse.specs.declared.steps.Rehearsing.{Rehearsing}

-- if nothing is printed, the new policy is loaded
pub loaded_unreported : {X : Type 0} (f : X → List ℕ) (reported : Option X) (ending : LoadEnd) → ((x : X) → reported ≡ Some x → ⊥) → option_map f reported ≡ there_line ending → ending ≡ Loaded
loaded_unreported f None Loaded others is = refl
loaded_unreported f None InPart others is = absurd (none-some _ is)
loaded_unreported f None LockedOut others is = absurd (none-some _ is)
loaded_unreported f None NotLoaded others is = absurd (none-some _ is)
loaded_unreported f (Some x) ending others is = absurd (others x refl)

-- the load of the bytes of the new policy's image, which ended so
pub loads_new : (place : RehearsalNode) (slots image : List ℕ) (named : Option LoadSender) (policies : Policies) (ending is : LoadEnd) (loader : LoadSender) (fresh after : Rehearsing) (old new : Option (List ℕ)) → image ≡ policies.new.items → ending ≡ is → loader ≡ loader_on place named → IsBegunAt place policies.program named fresh → Loads (codes "NEW") loader slots image ending fresh after old new → LoadsNew place slots named policies is after old new
loads_new place slots image named policies ending is loader fresh after old new bytes ended who begun loads =
    record {
      fresh = fresh;
      begun = begun;
      loads = subst (λ e. Loads (codes "NEW") (loader_on place named) slots policies.new.items e fresh after old new) ended
          (subst (λ (i : List ℕ). Loads (codes "NEW") (loader_on place named) slots i ending fresh after old new) bytes
          (subst (λ (l : LoadSender). Loads (codes "NEW") l slots image ending fresh after old new) who loads));
    }

-- a fault ended the load of the bytes of the new policy's image
pub stops_there : (place : RehearsalNode) (slots image : List ℕ) (named : Option LoadSender) (policies : Policies) (loader : LoadSender) (fresh : Rehearsing) (old new : Option (List ℕ)) (fault : Fault) → image ≡ policies.new.items → loader ≡ loader_on place named → IsBegunAt place policies.program named fresh → StopsLoad (codes "NEW") loader slots image fresh old new fault → StopsThere place slots named policies old new fault
stops_there place slots image named policies loader fresh old new fault bytes who begun stop =
    record {
      fresh = fresh;
      begun = begun;
      stop = subst (λ (i : List ℕ). StopsLoad (codes "NEW") (loader_on place named) slots i fresh old new fault) bytes
          (subst (λ (l : LoadSender). StopsLoad (codes "NEW") l slots image fresh old new fault) who stop);
    }

-- the new policy was not loaded, and that was printed
pub stays_old : (place : RehearsalNode) (slots : List ℕ) (named : Option LoadSender) (policies : Policies) (ending : LoadEnd) (after : Rehearsing) (old between new : Option (List ℕ)) (line who : List ℕ) (status : ExitStatus) → LoadsNew place slots named policies ending after old between → there_line ending ≡ Some line → who ≡ loader_text named → Appends between new (line ++ who ++ 10 ∷ []) → status ≡ Failed → StaysOld place slots named policies old new status
stays_old place slots named policies ending after old between new line who status there closed is printed failed =
    record {
      ending = ending;
      after = after;
      between = between;
      there = there;
      line = line;
      closed = closed;
      reported = subst (λ (w : List ℕ). Appends between new (line ++ w ++ 10 ∷ [])) is printed;
      failed = failed;
    }

-- after the load of the new policy a fault ended the load of the bytes of the old policy's image
pub stops_back : (place : RehearsalNode) (slots image : List ℕ) (named : Option LoadSender) (policies : Policies) (loader : LoadSender) (middle : Rehearsing) (old between new : Option (List ℕ)) (fault : Fault) → image ≡ policies.old.items → loader ≡ loader_on place named → LoadsNew place slots named policies Loaded middle old between → StopsLoad (codes "OLD") loader slots image middle between new fault → StopsBack place slots named policies old new fault
stops_back place slots image named policies loader middle old between new fault bytes who there stop =
    record {
      middle = middle;
      between = between;
      there = there;
      stop = subst (λ (i : List ℕ). StopsLoad (codes "OLD") (loader_on place named) slots i middle between new fault) bytes
          (subst (λ (l : LoadSender). StopsLoad (codes "OLD") l slots image middle between new fault) who stop);
    }

-- after it the load of the bytes of the old policy's image was tried, and how it ended was printed
pub tries_back : (place : RehearsalNode) (slots image : List ℕ) (named : Option LoadSender) (policies : Policies) (loader : LoadSender) (ending : LoadEnd) (middle after : Rehearsing) (old between following new : Option (List ℕ)) (line who : List ℕ) (status : ExitStatus) → image ≡ policies.old.items → loader ≡ loader_on place named → LoadsNew place slots named policies Loaded middle old between → Loads (codes "OLD") loader slots image ending middle after between following → (line, status) ≡ back_line ending → who ≡ loader_text named → Appends following new (line ++ who ++ 10 ∷ []) → TriesBack place slots named policies old new status
tries_back place slots image named policies loader ending middle after old between following new line who status bytes is there back reported text printed =
    record {
      ending = ending;
      middle = middle;
      after = after;
      between = between;
      following = following;
      there = there;
      back = subst (λ (i : List ℕ). Loads (codes "OLD") (loader_on place named) slots i ending middle after between following) bytes
          (subst (λ (l : LoadSender). Loads (codes "OLD") l slots image ending middle after between following) is back);
      reported = subst (λ (p : List ℕ × ExitStatus). Appends following new (p.0 ++ loader_text named ++ 10 ∷ [])) reported
          (subst (λ (w : List ℕ). Appends following new (line ++ w ++ 10 ∷ [])) text printed);
      status_is = ap (λ (p : List ℕ × ExitStatus). p.1) reported;
    }
