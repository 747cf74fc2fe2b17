-- What a packet leaves of a port.
use Rattle.std.proofs.Common.{◌≡◌, ◌⊎◌, ◌∙◌, ℕ, List, length, Option, Some, None, sym, refl, ap, subst, inl, inr}
use Rattle.std.proofs.lemmas.List.{length-set}
use mathlib.Core.List.{IsPrefix}
use Rattle.rmap.specs.declared.places.Place.{Place}
use Rattle.rmap.specs.declared.places.Place.TheVariants.{Bank, Staging, LoadResult, Control}
use Rattle.rmap.specs.declared.status.Status.{Status}
use Rattle.rmap.specs.Command.{command_of}
use Rattle.bank.specs.Answer.{judged_line}
use Rattle.bank.specs.Records.{ShareValue, JudgedValue}
use Rattle.node_programs.specs.declared.publishes.Publish.{Publish}
use Rattle.node_parts.specs.Passes.{PassValue}
use Rattle.node_parts.specs.Applied.{with_share}
use Rattle.node_parts.specs.Loaded.{EndsAs, IsLoadEnd}
use Rattle.node_parts.specs.Served.{EndsAtWindow, IsStagedAt}
use Rattle.annals.specs.declared.deed.HistoryEntry.{HistoryEntry}
use Rattle.annals.specs.Chains.{Due, done_for}
use Rattle.annals.specs.Publishes.{publishes_of}
use Rattle.target.specs.Loads.{HasAskedForLoad}
use Rattle.target.specs.Passes.{PortPass}
use Rattle.ports.specs.Due.{Judging, Standing, HasFinished, HasLoadEnd, HasMet, IsBanked, IsWindowEnd}
use Rattle.lemmas.proofs.Prefixes.{prefix_same}

-- a port as it was, except for its shares, its staging, and the programs that it may have seen more
pub record Keeps (h after : PassValue) : Type 0 where
  pub port : after.port ≡ h.port
  pub windows : after.windows ≡ h.windows
  pub seat : after.seat ≡ h.seat
  pub programs : IsPrefix h.programs after.programs
  pub count : length after.shares ≡ length h.shares

pub keeps_same : (h after : PassValue) → after ≡ h → Keeps h after
keeps_same h after same = record {
  port = ap (λ (x : PassValue). x.port) same;
  windows = ap (λ (x : PassValue). x.windows) same;
  seat = ap (λ (x : PassValue). x.seat) same;
  programs = prefix_same h.programs after.programs (ap (λ (x : PassValue). x.programs) same);
  count = ap (λ (x : PassValue). length x.shares) same;
}

share_keeps : (h : PassValue) (place : Place) (share : ShareValue) → Keeps h (with_share h place share)
share_keeps h (Bank k) share = record { port = refl; windows = refl; seat = refl; programs = prefix_same h.programs h.programs refl; count = length-set h.shares k share }
share_keeps h Staging share = keeps_same h h refl
share_keeps h LoadResult share = keeps_same h h refl
share_keeps h Control share = keeps_same h h refl

finish_keeps : (known reached : List HistoryEntry) (h after : PassValue) (asked asks : List Due) (j : JudgedValue) (reply : List ℕ) → HasFinished known reached h after asked asks j reply → Keeps h after
finish_keeps known reached h after asked asks j reply end =
    subst (λ x. Keeps h x) (sym end.finished.shares) (share_keeps h j.place end.finished.share)

staged_keeps : (h after : PassValue) (j : JudgedValue) (result : Status) (reply : List ℕ) → IsStagedAt h after j result reply → Keeps h after
staged_keeps h after j result reply end = record {
  port = ap (λ (x : PassValue). x.port) end.rest;
  windows = ap (λ (x : PassValue). x.windows) end.rest;
  seat = ap (λ (x : PassValue). x.seat) end.rest;
  programs = prefix_same h.programs after.programs (ap (λ (x : PassValue). x.programs) end.rest);
  count = ap (λ (x : PassValue). length x.shares) end.rest;
}

load_keeps : (line : Option Status) (h after : PassValue) (old new : List Publish) (j : JudgedValue) (result : Status) → EndsAs line h after old new j result → Keeps h after
load_keeps (Some status) h after old new j result end = keeps_same h after end.1
load_keeps None h after old new j result (inl loaded) = let same = loaded.holder_after in record {
  port = ap (λ (x : PassValue). x.port) same;
  windows = ap (λ (x : PassValue). x.windows) same;
  seat = ap (λ (x : PassValue). x.seat) same;
  programs = loaded.published.keeps;
  count = ap (λ (x : PassValue). length x.shares) same;
}
load_keeps None h after old new j result (inr refused) = let same = refused.holder_after in record {
  port = ap (λ (x : PassValue). x.port) same;
  windows = ap (λ (x : PassValue). x.windows) same;
  seat = ap (λ (x : PassValue). x.seat) same;
  programs = prefix_same h.programs after.programs (ap (λ (x : PassValue). x.programs) same);
  count = ap (λ (x : PassValue). length x.shares) same;
}

-- a load leaves the port its shares
pub load_count : (h after : PassValue) (old new : List Publish) (j : JudgedValue) (result : Status) (reply : List ℕ) → IsLoadEnd h after old new j result reply → length after.shares ≡ length h.shares
load_count h after old new j result reply end = (load_keeps _ h after old new j result end.ended).count

-- a load, before and after which the port learnt what was published and what it did
pub load_met : (known met reached : List HistoryEntry) (p0 p1 p2 p3 : PortPass) (d0 d1 d2 : List Publish) (j : JudgedValue) (result : Status) (reply : List ℕ) → p1 ≡ p0 → p3 ≡ p2 → d1 ≡ d0 → IsPrefix p1.pass.programs d1
    → IsLoadEnd p1.pass p2.pass d1 d2 j result reply → HasAskedForLoad p1.pass.port d1 d2 p1.asked p2.asked → IsPrefix known met → publishes_of met ≡ d0 → done_for p0.pass.port met ≡ p0.asked
    → IsPrefix met reached → publishes_of reached ≡ d2 → done_for p2.pass.port reached ≡ p2.asked → HasLoadEnd known reached p0.pass p3.pass p0.asked p3.asked j reply
load_met known met reached p0 p1 p2 p3 d0 d1 d2 j result reply same_1 same_3 same_d begins ended asks seen published did goes publishes does =
    let port : p2.pass.port ≡ p1.pass.port = (load_keeps (judged_line (command_of j.packet) j.verdict) p1.pass p2.pass d1 d2 j result ended.ended).port in
    let moment : HasMet p1.pass.port known reached d1 d2 p1.asked p2.asked = record {
      met = met;
      seen = seen;
      published = published ∙ sym same_d;
      did = subst (λ (p : PortPass). done_for p.pass.port met ≡ p.asked) (sym same_1) did;
      goes = goes;
      publishes = publishes;
      does = ap (λ (k : ℕ). done_for k reached) (sym port) ∙ does;
    } in
    let here : HasLoadEnd known reached p1.pass p2.pass p1.asked p2.asked j reply = record {
      old = d1;
      new = d2;
      begins = begins;
      result = result;
      ended = ended;
      loaded = asks.0;
      asks_for = asks.1;
      moment = moment;
    } in
    subst (λ (p : PortPass). HasLoadEnd known reached p0.pass p.pass p0.asked p.asked j reply) (sym same_3)
    (subst (λ (p : PortPass). HasLoadEnd known reached p.pass p2.pass p.asked p2.asked j reply) same_1 here)

window_keeps : (place : Place) (h after : PassValue) (old new : List Publish) (j : JudgedValue) (result : Status) (reply : List ℕ) → EndsAtWindow place h after old new j result reply → Keeps h after
window_keeps (Bank k) h after old new j result reply end = absurd end
window_keeps Staging h after old new j result reply end = staged_keeps h after j result reply end.0
window_keeps LoadResult h after old new j result reply end = staged_keeps h after j result reply end.0
window_keeps Control h after old new j result reply end = load_keeps _ h after old new j result end.ended

-- how a judged command ends leaves the port as it was, except for its shares, its staging and its programs
pub end_keeps : (judging : Judging) (between after : Standing) → IsBanked judging between after ⊎ IsWindowEnd judging between after → Keeps between.pass after.pass
end_keeps judging between after (inl banked) = finish_keeps between.front after.front between.pass after.pass between.asked after.asked judging.judged judging.reply banked.ended
end_keeps judging between after (inr windowed) = window_keeps judging.judged.place between.pass after.pass windowed.old windowed.new judging.judged windowed.result judging.reply windowed.ended
