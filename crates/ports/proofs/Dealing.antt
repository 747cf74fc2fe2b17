-- What became of one packet, by how far it came.
use Rattle.std.proofs.Common.{◌≡◌, ◌⊎◌, ℕ, ◌<◌, Bool, true, false, ◌&&◌, List, [], length, Option, None, sym, refl, ap₂, ◌∙◌, subst, inl, inr, arith}
use Rattle.std.proofs.lemmas.List.{append-nil}
use mathlib.Core.List.{IsPrefix}
use Rattle.spw.specs.Cargo.{Cargo}
use Rattle.rmap.specs.declared.discard.Discard.{Discard}
use Rattle.rmap.specs.declared.places.Place.{Place}
use Rattle.rmap.specs.declared.places.Place.TheVariants.{Bank, Staging, LoadResult, Control}
use Rattle.rmap.specs.declared.status.Status.{Status}
use Rattle.bank.specs.Records.{JudgedValue, has_room}
use Rattle.node_programs.specs.declared.publishes.Publish.{Publish}
use Rattle.node_parts.specs.Passes.{PassValue, IsPass}
use Rattle.node_parts.specs.declared.stop.Stop.TheVariants as stops
use Rattle.node_parts.specs.Steps.{IsStopped, IsUnread, IsJudgement}
use Rattle.node_parts.specs.Applied.{share_of}
use Rattle.node_parts.specs.Stagings.{IsStagingPlace}
use Rattle.node_parts.specs.Served.{EndsAtWindow, IsStagedAt}
use Rattle.annals.specs.declared.deed.HistoryEntry.{HistoryEntry}
use Rattle.annals.specs.Banks.{takes}
use Rattle.annals.specs.Chains.{Due}
use Rattle.annals.specs.Shown.{IsTakenAtMoment}
use Rattle.target.specs.Loads.{AsksForLoad}
use Rattle.target.specs.Passes.{PortPass}
use Rattle.ports.specs.Due.{Judging, stand, standing, IsBanked, IsWindowEnd, HasFinished, HasLoadEnd, HasMet, HasDealt}
use Rattle.lemmas.proofs.Prefixes.{prefix_trans}
use Rattle.ports.specs.Due.Deed.{Dropped, Answered, Judged}

pub stopped : (h after : PortPass) (f : List HistoryEntry) (p : Cargo) (d : Discard) (reply : List ℕ) → IsStopped (stops.Discarded d) p h.pass.windows reply → after.pass ≡ h.pass → after.asked ≡ h.asked → HasDealt p (standing h f) (standing after f) reply true
stopped h after f p d reply is same line = record {
  deed = Dropped;
  dealt = record { discard = d; discarded = is.0; same = ap₂ (λ x y. stand x y f) same line };
  reply_is = is.1;
  dropped_is = refl;
}

pub answered : (h after : PortPass) (f : List HistoryEntry) (p : Cargo) (status : Status) (reply : List ℕ) → IsStopped (stops.Answered status) p h.pass.windows reply → after.pass ≡ h.pass → after.asked ≡ h.asked → HasDealt p (standing h f) (standing after f) reply false
answered h after f p status reply is same line = record {
  deed = Answered reply;
  dealt = record { answered = inl (status, is); same = ap₂ (λ x y. stand x y f) same line };
  reply_is = refl;
  dropped_is = refl;
}

pub unread : (h after : PortPass) (f : List HistoryEntry) (p : Cargo) (reply : List ℕ) → IsUnread p h.pass.windows reply → after.pass ≡ h.pass → after.asked ≡ h.asked → HasDealt p (standing h f) (standing after f) reply false
unread h after f p reply is same line = record {
  deed = Answered reply;
  dealt = record { answered = inr is; same = ap₂ (λ x y. stand x y f) same line };
  reply_is = refl;
  dropped_is = refl;
}

-- a command that was judged in a run, left an entry or not, and published or not
judging_of : (h between : PassValue) (p : Cargo) (j : JudgedValue) (reply : List ℕ) (entered : Bool) (loaded : Option Publish) → IsJudgement h between p j → Judging
judging_of h between p j reply entered loaded is =
    record { judged = j; program = is.program; calls = is.calls; entered = entered; loaded = loaded; reply = reply }

judged_so : (h after : PortPass) (between : PassValue) (f seen reached : List HistoryEntry) (p : Cargo) (j : JudgedValue) (reply : List ℕ) (entered : Bool) (loaded : Option Publish) → IsTakenAtMoment f seen between.programs → (is : IsJudgement h.pass between p j) → IsBanked (judging_of h.pass between p j reply entered loaded is) (stand between h.asked seen) (standing after reached) ⊎ IsWindowEnd (judging_of h.pass between p j reply entered loaded is) (stand between h.asked seen) (standing after reached) → HasDealt p (standing h f) (standing after reached) reply false
unfolding judging_of
judged_so h after between f seen reached p j reply entered loaded moment is end = record {
  deed = Judged (judging_of h.pass between p j reply entered loaded is);
  dealt = record { between = between; reached = seen; moment = moment; judgement = is; program = refl; calls = refl; ended = end };
  reply_is = refl;
  dropped_is = refl;
}

pub banked : (h between after : PortPass) (f seen reached : List HistoryEntry) (p : Cargo) (j : JudgedValue) (k : ℕ) (reply : List ℕ) → IsTakenAtMoment f seen between.pass.programs → IsJudgement h.pass between.pass p j → between.asked ≡ h.asked → j.place ≡ Bank k
    → HasFinished seen reached between.pass after.pass between.asked after.asked j reply → HasDealt p (standing h f) (standing after reached) reply false
unfolding judging_of
banked h between after f seen reached p j k reply moment is line at end =
    let own : HasFinished seen reached between.pass after.pass h.asked after.asked j reply = subst (λ (l : List Due). HasFinished seen reached between.pass after.pass l after.asked j reply) line end in
    let entered = takes own.before (share_of between.pass j.place) j && has_room own.before.bank j.port in
    judged_so h after between.pass f seen reached p j reply entered None moment is (inl (record { number = k; place = at; ended = own; entered = refl; loaded = refl }))

begins_itself : (xs : List Publish) → IsPrefix xs xs
begins_itself xs = ([], append-nil xs)

links_itself : (xs : List HistoryEntry) → IsPrefix xs xs
links_itself xs = ([], append-nil xs)

-- a place of the staging is no control write
no_control : (place own : Place) → place ≡ own → (place ≡ Staging) ⊎ (place ≡ LoadResult) → own ≡ Control → ⊥
no_control place own same (inl bytes) at = cc (same, bytes, at)
no_control place own same (inr loaded) at = cc (same, loaded, at)

windowed : (h between after : PortPass) (f seen : List HistoryEntry) (p : Cargo) (j : JudgedValue) (result : Status) (reply : List ℕ) → IsTakenAtMoment f seen between.pass.programs → IsJudgement h.pass between.pass p j → after.asked ≡ h.asked
    → EndsAtWindow j.place between.pass after.pass between.pass.programs between.pass.programs j result reply → (j.place ≡ Control → ⊥) → HasDealt p (standing h f) (standing after seen) reply false
unfolding judging_of
windowed h between after f seen p j result reply moment is line end other =
    let programs = between.pass.programs in
    judged_so h after between.pass f seen seen p j reply false None moment is (inr (record { old = programs; new = programs; begins = begins_itself programs; result = result; ended = end; entered = refl; asks_for = (refl, line); front = links_itself seen; moment = λ at. absurd (other at) }))

pub staged : (h between after : PortPass) (f seen : List HistoryEntry) (p : Cargo) (j : JudgedValue) (place : Place) (result : Status) (reply : List ℕ) → IsTakenAtMoment f seen between.pass.programs → IsJudgement h.pass between.pass p j → between.asked ≡ h.asked → place ≡ j.place → IsStagingPlace place
    → IsStagedAt between.pass after.pass j result reply → after.asked ≡ between.asked → HasDealt p (standing h f) (standing after seen) reply false
staged h between after f seen p j place result reply moment is line same at end still =
    let programs = between.pass.programs in
    windowed h between after f seen p j result reply moment is (still ∙ line) (subst (λ x. EndsAtWindow x between.pass after.pass programs programs j result reply) same (elim at [
      | inl bytes ↦ subst (λ x. EndsAtWindow x between.pass after.pass programs programs j result reply) (sym bytes) (end, refl)
      | inr loaded ↦ subst (λ x. EndsAtWindow x between.pass after.pass programs programs j result reply) (sym loaded) (end, refl)
    ])) (no_control place j.place same at)

pub loaded : (h between after : PortPass) (f seen reached : List HistoryEntry) (p : Cargo) (j : JudgedValue) (reply : List ℕ) → IsTakenAtMoment f seen between.pass.programs → IsJudgement h.pass between.pass p j → between.asked ≡ h.asked → j.place ≡ Control
    → HasLoadEnd seen reached between.pass after.pass between.asked after.asked j reply → HasDealt p (standing h f) (standing after reached) reply false
unfolding judging_of
loaded h between after f seen reached p j reply moment is line at end =
    judged_so h after between.pass f seen reached p j reply false end.loaded moment is (inr (record {
      old = end.old;
      new = end.new;
      begins = end.begins;
      result = end.result;
      ended = subst (λ place. EndsAtWindow place between.pass after.pass end.old end.new j end.result reply) (sym at) end.ended;
      entered = refl;
      asks_for = subst (λ (l : List Due). AsksForLoad between.pass.port end.loaded end.old end.new l after.asked) line end.asks_for;
      front = prefix_trans seen end.moment.met reached end.moment.seen end.moment.goes;
      moment = λ _. subst (λ (l : List Due). HasMet between.pass.port seen reached end.old end.new l after.asked) line end.moment;
    }))

-- a bank that a judged command has as its place is one of the node's
pub below : (h between : PassValue) (p : Cargo) (j : JudgedValue) (k banks : ℕ) → IsPass h → IsJudgement h between p j → j.place ≡ Bank k → length h.shares ≡ banks → k < banks
below h between p j k banks pass is at count =
    let inside : k < length h.windows.banks = (is.judged_for.placed.inside k at).below in
    let shares = pass.shares in
    omega (arith, inside, shares, count)
