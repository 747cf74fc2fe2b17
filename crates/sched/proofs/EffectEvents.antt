-- What an Effect of a port does to the world, by what the world's calls say.
use Rattle.std.proofs.Common.{◌≡◌, ℕ, List, Some, None, sym, subst}
use Rattle.std.specs.Prelude.{slice_set}
use Rattle.rmap.specs.declared.status.Status.{Status}
use Rattle.bank.specs.Records.{BankValue}
use Rattle.node_parts.specs.Pairs.{PairedCommandsFit, OwnStaysPaired, OthersStayPaired}
use Rattle.sched.specs.declared.event.Event.TheVariants.{Effect}
use Rattle.sched.specs.declared.event.Outcome.TheVariants.{Refused, Done}
use Rattle.sched.specs.Ends.{CanFinish, HasPortFinished}
use Rattle.sched.specs.Worlds.{PortValue, WorldValue, GoesOnLawfully, IsWorld, effect_due}
use Rattle.sched.proofs.Ending.{IsEffectDue, IsJudgedIn, effect_goes_on, effect_is_due, effect_refused}
use Rattle.sched.proofs.Events.{IsRead, below, read_again, there}
use Rattle.sched.proofs.Finishing.{can_finish, ends_at, finished_fits}

-- Effect, if none is due
pub effect_none : (old w : WorldValue) (place port : ℕ) (p : PortValue) → IsRead old w place port p → None ≡ effect_due p.run → GoesOnLawfully (Effect port) Refused old old
effect_none old w place port p is none =
    subst (λ (v : WorldValue). GoesOnLawfully (Effect port) Refused v v) is.is (effect_refused w port p (there old w place port p is) (below old w place port p is) none)

-- a port that was read, whose command has its verdict and ends by an Effect, read again to end it
pub record IsEffectDueAt (old w : WorldValue) (place port verdict : ℕ) (p q : PortValue) : Type 0 where
  pub first : IsRead old w place port p
  pub read : IsRead old w place port q
  pub due : Some verdict ≡ effect_due p.run

-- the command that is judged there
effect_due_there : (old w : WorldValue) (place port verdict : ℕ) (p q : PortValue) → IsEffectDueAt old w place port verdict p q → IsEffectDue q.run verdict
effect_due_there old w place port verdict p q is =
    let due = subst (λ (v : PortValue). Some verdict ≡ effect_due v.run) (sym (read_again old w place port p q is.first is.read)) is.due in
    effect_is_due q.run verdict due

-- it can end
pub effect_can : (old w : WorldValue) (place port verdict : ℕ) (p q : PortValue) → PairedCommandsFit → IsEffectDueAt old w place port verdict p q → IsWorld w → CanFinish w.windows w.banks port verdict q q.run
effect_can old w place port verdict p q law is fits =
    let due = effect_due_there old w place port verdict p q is in
    can_finish w port verdict q due.r law fits (there old w place port q is.read) due.run_is due.other

-- it ended
pub record IsEffectAt (old w : WorldValue) (place port verdict : ℕ) (p q r : PortValue) (new : List BankValue) (status : Status) (reply : List ℕ) : Type 0 where
  pub due : IsEffectDueAt old w place port verdict p q
  pub finished : HasPortFinished w.banks new port verdict q r q.run status reply

pub effect_world : (old w : WorldValue) (place port verdict : ℕ) (p q r : PortValue) (new : List BankValue) (status : Status) (reply : List ℕ) → OwnStaysPaired → OthersStayPaired → IsEffectAt old w place port verdict p q r new status reply → IsWorld w
    → IsWorld (record w { banks = new; ports = slice_set w.ports place r })
effect_world old w place port verdict p q r new status reply own others is fits =
    let due = effect_due_there old w place port verdict p q is.due in
    let end = ends_at w.banks new port verdict q r due.r status reply due.run_is is.finished in
    let made = finished_fits w port verdict q r due.r new status reply own others fits (there old w place port q is.due.read) end in
    subst (λ (k : ℕ). IsWorld (record w { banks = new; ports = slice_set w.ports k r })) (sym is.due.read.place_is) made

pub effect_ends : (old w : WorldValue) (place port verdict : ℕ) (p q r : PortValue) (new : List BankValue) (status : Status) (reply reported : List ℕ) → IsEffectAt old w place port verdict p q r new status reply → reported ≡ reply
    → GoesOnLawfully (Effect port) (Done status reported None) old (record w { banks = new; ports = slice_set w.ports place r })
effect_ends old w place port verdict p q r new status reply reported is same =
    let due = effect_due_there old w place port verdict p q is.due in
    let read = is.due.read in
    let end = ends_at w.banks new port verdict q r due.r status reply due.run_is is.finished in
    let judged : IsJudgedIn w port verdict q due.r = record { there = there old w place port q read; below = below old w place port q read; run_is = due.run_is; turn_is = due.turn_is } in
    let made = effect_goes_on w port verdict q r due.r new status reply judged end in
    let at_place = subst (λ (k : ℕ). GoesOnLawfully (Effect port) (Done status reply None) w (record w { banks = new; ports = slice_set w.ports k r })) (sym read.place_is) made in
    let of_old = subst (λ (v : WorldValue). GoesOnLawfully (Effect port) (Done status reply None) v (record w { banks = new; ports = slice_set w.ports place r })) read.is at_place in
    subst (λ (bytes : List ℕ). GoesOnLawfully (Effect port) (Done status bytes None) old (record w { banks = new; ports = slice_set w.ports place r })) (sym same) of_old
