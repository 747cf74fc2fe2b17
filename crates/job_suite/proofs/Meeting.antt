-- From what the checks and the program of a node say of a packet to what the packet meets.
use Rattle.std.proofs.Common.{◌≡◌, ◌∙◌, ℕ, Option, Some, None, ap, subst, sym}
use Rattle.std.specs.Prelude.{option_map}
use Rattle.node_parts.specs.Slots.{slot_of}
use Rattle.rmap.specs.Checks.{HasPlace, body_line, header_check}
use Rattle.rmap.specs.Command.{CommandValue, command_kind, command_of, discard_of}
use Rattle.rmap.specs.Windows.{WindowsValue}
use Rattle.rmap.specs.declared.discard.Discard.{Discard}
use Rattle.rmap.specs.declared.places.Place.{Place}
use Rattle.rmap.specs.declared.status.Status.{Status}
use Rattle.spw.specs.Cargo.{Cargo}
use Rattle.job_suite.specs.Checks.{PassesHeader, IsStoppedBy, Meets, check_after, check_of_discard, check_of_fault, first_check}
use Rattle.job_suite.specs.Comings.{FitsWanted, FitsJudged, FitsStopped}
use Rattle.job_suite.specs.Judges.{HasJudgedAtPortZero, judge_of}
use Rattle.job_suite.specs.Trials.{HasCome, IsMet, IsTrialVerdict}
use Rattle.job_suite.specs.declared.checks.Check.{Check}
use Rattle.job_suite.specs.declared.comings.PacketOutcome.{PacketOutcome}
use Rattle.job_suite.specs.declared.comings.PacketOutcome.TheVariants as comings
use Rattle.job_suite.specs.declared.rows.Wanted.{Wanted}
use Rattle.job_suite.specs.declared.rows.Wanted.TheVariants.{Stopped, Brought, Judged, Spoilt, Whole}
use Rattle.job_suite.specs.declared.trials.Bench.{Bench}

-- a packet that is discarded meets the line of the reason
pub discarded : (w : WindowsValue) (p : Cargo) (reason : Discard) → discard_of p.bytes ≡ Some reason
    → first_check w p ≡ Some (check_of_discard reason)
discarded w p reason is = ap (λ (d : Option Discard). check_after d w p) is

-- a command meets the line that is the first of its header
pub stopped : (w : WindowsValue) (p : Cargo) (c : CommandValue) (check : Check) → discard_of p.bytes ≡ None → c ≡ command_of p
    → IsStoppedBy w c check → first_check w p ≡ Some check
stopped w p c check kept same is =
    ap (λ (d : Option Discard). check_after d w p) kept
    ∙ ap (λ (k : CommandValue). option_map check_of_fault (header_check k w)) (sym same) ∙ is

-- a command whose bytes have a place goes on
pub going_on : (w : WindowsValue) (p : Cargo) (c : CommandValue) (place : Place) → discard_of p.bytes ≡ None → c ≡ command_of p
    → HasPlace c w place → PassesHeader w p place
going_on w p c place kept same has = (kept, subst (λ (k : CommandValue). HasPlace k w place) same has)

-- the verdict on a packet that goes on
pub verdict_of : (b : Bench) (p : Cargo) (c : CommandValue) (place : Place) (verdict : ℕ) → PassesHeader b.windows p place → c ≡ command_of p
    → HasJudgedAtPortZero (judge_of b.judges (slot_of (command_kind c) place)) c verdict → IsTrialVerdict b p verdict
verdict_of b p c place verdict goes same answered = record {
  place = place;
  goes_on = goes;
  answered = subst (λ (k : CommandValue). HasJudgedAtPortZero (judge_of b.judges (slot_of (command_kind k) place)) k verdict) same answered;
}

-- a packet that comes to what is wanted meets it
stopped_meets : (b : Bench) (p : Cargo) (check : Check) (wanted : Wanted) → Meets b.windows p check → FitsStopped check wanted
    → IsMet b p wanted
stopped_meets b p check (Stopped line) meets fits = subst (λ (c : Check). Meets b.windows p c) fits meets
stopped_meets b p check Brought meets fits = absurd fits
stopped_meets b p check (Judged number) meets fits = absurd fits
stopped_meets b p check (Spoilt status) meets fits = absurd fits
stopped_meets b p check Whole meets fits = absurd fits

judged_meets : (b : Bench) (p : Cargo) (verdict : ℕ) (fault : Option Status) (wanted : Wanted) → IsTrialVerdict b p verdict
    → body_line (command_of p) ≡ fault → FitsJudged verdict fault wanted → IsMet b p wanted
judged_meets b p verdict fault (Stopped line) is body fits = absurd fits
judged_meets b p verdict fault Brought is body fits = record { verdict = verdict; is = is }
judged_meets b p verdict fault (Judged number) is body fits = subst (λ (v : ℕ). IsTrialVerdict b p v) fits is
judged_meets b p verdict fault (Spoilt status) is body fits = (subst (λ (v : ℕ). IsTrialVerdict b p v) fits.0 is, body ∙ fits.1)
judged_meets b p verdict fault Whole is body fits = (subst (λ (v : ℕ). IsTrialVerdict b p v) fits.0 is, body ∙ fits.1)

pub meets_wanted : (b : Bench) (p : Cargo) (received : PacketOutcome) (wanted : Wanted) → HasCome b p received → FitsWanted received wanted → IsMet b p wanted
meets_wanted b p (comings.Stopped check) wanted come fits = stopped_meets b p check wanted come fits
meets_wanted b p (comings.Judged verdict fault) wanted come fits = judged_meets b p verdict fault wanted come.0 come.1 fits
