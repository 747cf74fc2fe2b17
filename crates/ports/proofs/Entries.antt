-- The entries of a worker's commands in the history of the node's banks.
use Rattle.std.proofs.Common.{◌≡◌, ◌⊎◌, ℕ, Bool, true, false, ◌&&◌, List, [], ◌∷◌, Option, Some, None, sym, refl, ap, ◌∙◌, subst, inl, inr}
use Rattle.std.specs.Prelude.{IfSome, IfNone, MatchBool, if◌then◌else◌}
use Rattle.std.proofs.lemmas.Bool.{cases_Bool, and_parts}
use mathlib.Core.List.{IsPrefix}
use Rattle.spw.specs.Cargo.{Cargo}
use Rattle.bank.specs.declared.bank.Applied.{Applied}
use Rattle.bank.specs.Records.{BankValue, ShareValue, JudgedValue, has_room, number_left}
use Rattle.node_programs.specs.declared.publishes.Publish.{Publish}
use Rattle.node_parts.specs.Passes.{PassValue}
use Rattle.node_parts.specs.Applied.{share_of}
use Rattle.annals.specs.declared.deed.HistoryEntry.{HistoryEntry}
use Rattle.annals.specs.Banks.{IsDoneAtBank, takes}
use Rattle.annals.specs.Publishes.{publishes_of}
use Rattle.target.specs.Finished.{IsDoneAfter}
use Rattle.ports.specs.Due.{Judging, Deed, Standing, stand, Worked, IsBanked, IsWindowEnd, IsJudgedInRun, judgings}
use Rattle.ports.specs.Due.Deed.{Dropped, Answered, Judged}
use Rattle.ports.specs.Laws.{HasEntered, IsByPublished, IsByShown, EntriesFollow}
use Rattle.ports.proofs.Following.{dealt_stays, judged_by, judged_shown}
use Rattle.lemmas.proofs.Prefixes.{prefix_same, prefix_trans}

-- whatever the publishes are that those begin which the port had seen, the command was judged by one of them
abbrev pub IsJudgedAfter : ℕ → Judging → PassValue → Type 0
IsJudgedAfter port j h = (published : List Publish) → IsPrefix h.programs published → IsByPublished published port j

pub left_some : (b : BankValue) (share : ShareValue) (j : JudgedValue) → has_room b j.port ≡ true → number_left b share j ≡ Some share.number
left_some b share j room = ap (λ r. if r then Some share.number else None) room

left_none : (b : BankValue) (share : ShareValue) (j : JudgedValue) → has_room b j.port ≡ false → number_left b share j ≡ None
left_none b share j room = ap (λ r. if r then Some share.number else None) room

not_both : (a b : Bool) → a ≡ true → (a && b) ≡ false → b ≡ false
not_both true b e no_both = no_both
not_both false b e no_both = absurd cc

-- a command that left an entry was done, with the port's share of its place
pub done_after : (j : Judging) (h after : Standing) (is : IsBanked j h after) → j.entered ≡ true
    → IsDoneAfter h.pass.programs is.ended.before.chain.number h.front after.front (share_of h.pass j.judged.place) j.judged is.ended.result j.reply
done_after j h after is left =
    let share = share_of h.pass j.judged.place in let before = is.ended.before in let end = is.ended.finished in
    let parts = and_parts (takes before share j.judged) (has_room before.bank j.judged.port) (sym is.entered ∙ left) in
    let number = (end.applied parts.0).number ∙ left_some before.bank share j.judged parts.1 in
    subst (λ (o : Option ℕ). IfSome o (λ n. IsDoneAfter h.pass.programs before.chain.number h.front after.front share j.judged is.ended.result j.reply)) number end.done

-- a command that was done after what somebody saw was done after what this one had seen before
pub done_since : (bank : ℕ) (known first reached : List HistoryEntry) (share : ShareValue) (j : JudgedValue) (result : Applied) (reply : List ℕ) → IsPrefix known first → IsDoneAtBank bank first reached share j result reply → IsDoneAtBank bank known reached share j result reply
done_since bank known first reached share j result reply begins done = record {
  place = done.place;
  last = record { before = done.last.before; next = done.last.next; log = done.last.log; seen = prefix_trans known first done.last.before begins done.last.seen };
  status = done.status;
  numbers = done.numbers;
  reply_is = done.reply_is;
}

-- a moment before what somebody saw is one before what this one saw later
pub shown_before : (known seen later : List HistoryEntry) (j : Judging) → IsPrefix seen later → IsByShown known seen j → IsByShown known later j
shown_before known seen later j begins is = record { at = is.at; after = is.after; before = prefix_trans is.at seen later is.before begins; shown = is.shown }

pub shown_begins : (known seen : List HistoryEntry) (j : Judging) → IsByShown known seen j → IsPrefix known seen
shown_begins known seen j is = prefix_trans known is.at seen is.after is.before

-- so it is in the history after the program that judged it
unfoldable pub entered : (port : ℕ) (known : List HistoryEntry) (j : Judging) (h after : Standing) → IsJudgedAfter port j h.pass → IsByShown known h.front j → IsBanked j h after → j.entered ≡ true → HasEntered port known after.front j
unfolding done_since done_after
entered port known j h after by moment is left = let following = done_after j h after is left in record {
  bank = is.ended.before.chain.number;
  share = share_of h.pass j.judged.place;
  result = is.ended.result;
  done = done_since is.ended.before.chain.number known h.front after.front (share_of h.pass j.judged.place) j.judged is.ended.result j.reply (shown_begins known h.front j moment) following.done;
  by = by (publishes_of following.done.last.before) following.published;
  moment = shown_before known h.front following.done.last.before j following.done.last.seen moment;
}

-- one that left none added nothing
not_entered : (j : Judging) (h after : Standing) → IsBanked j h after → j.entered ≡ false → after.front ≡ h.front
not_entered j h after is none =
    let share = share_of h.pass j.judged.place in let before = is.ended.before in let end = is.ended.finished in
    let room = has_room before.bank j.judged.port in
    let number : is.ended.result.number ≡ None = elim (cases_Bool (takes before share j.judged)) [
      | inl took ↦
          (end.applied took).number ∙ left_none before.bank share j.judged (not_both (takes before share j.judged) room took (sym is.entered ∙ none))
      | inr misfit ↦ (end.refused misfit).number
    ] in
    subst (λ (o : Option ℕ). IfNone o (after.front ≡ h.front)) number end.none

-- what a judged command did to the history that its port knows
step : (port : ℕ) (known : List HistoryEntry) (j : Judging) (h after : Standing) → IsJudgedAfter port j h.pass → IsByShown known h.front j → IsBanked j h after ⊎ IsWindowEnd j h after → MatchBool j.entered (HasEntered port known after.front j) (IsPrefix known after.front)
step port known j h after by moment (inl banked) = elim (cases_Bool j.entered) [
  | inl left ↦ subst (λ b. MatchBool b (HasEntered port known after.front j) (IsPrefix known after.front)) (sym left) (entered port known j h after by moment banked left)
  | inr none ↦ subst (λ b. MatchBool b (HasEntered port known after.front j) (IsPrefix known after.front)) (sym none)
      (prefix_trans known h.front after.front (shown_begins known h.front j moment) (prefix_same h.front after.front (not_entered j h after banked none)))
]
step port known j h after by moment (inr windowed) =
    subst (λ b. MatchBool b (HasEntered port known after.front j) (IsPrefix known after.front)) (sym windowed.entered)
    (prefix_trans known h.front after.front (shown_begins known h.front j moment) windowed.front)

-- the history that a port knows may have begun earlier
entered_since : (port : ℕ) (known first reached : List HistoryEntry) (j : Judging) → IsPrefix known first → HasEntered port first reached j → HasEntered port known reached j
unfolding done_since
entered_since port known first reached j begins is = record {
  bank = is.bank;
  share = is.share;
  result = is.result;
  done = done_since is.bank known first reached is.share j.judged is.result j.reply begins is.done;
  by = is.by;
  moment = record { at = is.moment.at; after = prefix_trans known first is.moment.at begins is.moment.after; before = is.moment.before; shown = is.moment.shown };
}

follow_since : (port : ℕ) (known first : List HistoryEntry) (js : List Judging) (reached : List HistoryEntry) → IsPrefix known first → EntriesFollow port first js reached → EntriesFollow port known js reached
follow_since port known first [] reached begins is = prefix_trans known first reached begins is
follow_since port known first (j ∷ js) reached begins is = by j.entered is (follow_since port known first js reached begins) where
  by : (b : Bool) → MatchBool b ((between : List HistoryEntry) × HasEntered port first between j × EntriesFollow port between js reached) (EntriesFollow port first js reached)
      → (EntriesFollow port first js reached → EntriesFollow port known js reached)
      → MatchBool b ((between : List HistoryEntry) × HasEntered port known between j × EntriesFollow port between js reached) (EntriesFollow port known js reached)
  by true here later = (here.0, entered_since port known first here.0 j begins here.1, here.2)
  by false here later = later here

-- one judged command before the others
follows : (entered : Bool) (port : ℕ) (j : Judging) (js : List Judging) (known between reached : List HistoryEntry) → MatchBool entered (HasEntered port known between j) (IsPrefix known between)
    → EntriesFollow port between js reached
    → MatchBool entered ((l : List HistoryEntry) × HasEntered port known l j × EntriesFollow port l js reached) (EntriesFollow port known js reached)
follows true port j js known between reached here rest = (between, here, rest)
follows false port j js known between reached here rest = follow_since port known between js reached here rest

pub entries_follow : (h after : Standing) (ps : List Cargo) (ds : List Deed) → Worked h ps ds after → EntriesFollow h.pass.port h.front (judgings ds) after.front
entries_follow h after [] [] w = prefix_same h.front after.front (ap (λ (x : Standing). x.front) w)
entries_follow h after [] (d ∷ ds) w = absurd w
entries_follow h after (p ∷ ps) [] w = absurd w
entries_follow h after (p ∷ ps) (Dropped ∷ ds) w =
    subst (λ (x : Standing). EntriesFollow x.pass.port x.front (judgings ds) after.front) w.1.same (entries_follow w.0 after ps ds w.2)
entries_follow h after (p ∷ ps) (Answered reply ∷ ds) w =
    subst (λ (x : Standing). EntriesFollow x.pass.port x.front (judgings ds) after.front) w.1.same (entries_follow w.0 after ps ds w.2)
entries_follow h after (p ∷ ps) (Judged j ∷ ds) w =
    let port = (dealt_stays (Judged j) p h w.0 w.1).port in
    let rest = subst (λ (n : ℕ). EntriesFollow n w.0.front (judgings ds) after.front) port (entries_follow w.0 after ps ds w.2) in
    follows j.entered h.pass.port j (judgings ds) h.front w.0.front after.front
    (step h.pass.port h.front j (stand w.1.between h.asked w.1.reached) w.0 (λ published begins. judged_by j p h w.0 published w.1 begins) (judged_shown j p h w.0 w.1) w.1.ended) rest
