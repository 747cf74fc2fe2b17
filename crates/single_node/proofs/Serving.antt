-- What a packet leaves of a node of one thread.
use Rattle.std.proofs.Common.{◌≡◌, ◌≢◌, ◌<◌, ◌⊎◌, inl, inr, ℕ, List, length, Option, None, Some, sym, ap, ◌∙◌, subst}
use mathlib.Core.List.{IsPrefix}
use Rattle.spw.specs.Cargo.{Cargo}
use Rattle.rmap.specs.declared.places.Place.{Place}
use Rattle.rmap.specs.declared.places.Place.TheVariants.{Bank, Staging, LoadResult, Control}
use Rattle.rmap.specs.declared.status.Status.{Status}
use Rattle.rmap.specs.declared.status.Status.TheVariants.{Success}
use Rattle.bank.specs.Records.{BankValue, JudgedValue, ShareValue}
use Rattle.bver.specs.Justified.{AcceptedValue}
use Rattle.node_programs.specs.declared.publishes.Publish.{Publish}
use Rattle.node_programs.specs.Histories.{longer_history}
use Rattle.node_programs.specs.Published.{sizes_of}
use Rattle.node_parts.specs.declared.served.Served.{Served}
use Rattle.node_parts.specs.declared.served.Served.TheVariants.{Stopped, Unread, Done, Window}
use Rattle.node_parts.specs.Applied.{with_share}
use Rattle.node_parts.specs.Loaded.{EndsAs}
use Rattle.node_parts.specs.Pairs.{IsPaired}
use Rattle.node_parts.specs.Passes.{PassValue}
use Rattle.node_parts.specs.Served.{EndsAtWindow, IsAnswered, IsStagedAt, PartsValue}
use Rattle.node_parts.specs.Steps.{IsJudgement}
use Rattle.single_node.specs.Judging.{EndsJudged, IsLastJudgement, ServesAt}
use Rattle.single_node.specs.Nodes.{IsInformed}
use Rattle.single_node.specs.Serving.{AreKeptOrLonger, AsksCells, IsByLast, IsServedDetail}
use Rattle.node_programs.proofs.Shelves.{sizes_stay}
use Rattle.node_parts.proofs.Loadings.{prefix_longer, prefix_same}

-- ---- what a packet is answered

-- the record of a command that was judged and ended
pub judged_and_ended : (served : Served) (g v : ℕ) (p : Cargo) (words following : List (List ℕ)) (old new : PartsValue) (h between after : PassValue) (judged : JudgedValue) (reply : List ℕ)
    → IsLastJudgement old.programs words following h between p judged → EndsJudged served old new between after judged reply → g ≡ judged.generation → v ≡ judged.verdict
    → ServesAt served g v p words following old new h after reply
judged_and_ended (Stopped stop) g v p words following old new h between after judged reply last ended gen verd = absurd ended
judged_and_ended Unread g v p words following old new h between after judged reply last ended gen verd = absurd ended
judged_and_ended (Done result) g v p words following old new h between after judged reply last ended gen verd =
    record { judged = judged; between = between; last = last; ended = ended; generation_is = gen; verdict_is = verd }
judged_and_ended (Window status) g v p words following old new h between after judged reply last ended gen verd =
    record { judged = judged; between = between; last = last; ended = ended; generation_is = gen; verdict_is = verd }

pub answered : (served : Served) (g v : ℕ) (p : Cargo) (words following : List (List ℕ)) (old new : PartsValue) (h after : PassValue) (reply : List ℕ) → ServesAt served g v p words following old new h after reply → IsAnswered served p old new h after reply
answered (Stopped stop) g v p words following old new h after reply s = (s.stopped, s.untouched)
answered Unread g v p words following old new h after reply s = absurd s
answered (Done result) g v p words following old new h after reply s = record {
  judged = s.judged;
  between = s.between;
  number = s.ended.number;
  before = s.ended.before;
  following = s.ended.following;
  judgement = s.last.judgement;
  place = s.ended.place;
  bank = s.ended.bank;
  node = s.ended.node;
  ended = s.ended.applied;
}
answered (Window status) g v p words following old new h after reply s = record {
  judged = s.judged;
  between = s.between;
  judgement = s.last.judgement;
  banks = s.ended.0;
  ended = s.ended.1;
}

pub by_last : (served : Served) (g v : ℕ) (p : Cargo) (words following : List (List ℕ)) (old new : PartsValue) (h after : PassValue) (reply : List ℕ) → (s : ServesAt served g v p words following old new h after reply)
    → IsByLast served p old new h after reply (answered served g v p words following old new h after reply s)
unfolding answered
by_last (Stopped stop) g v p words following old new h after reply s = tt
by_last Unread g v p words following old new h after reply s = absurd s
by_last (Done result) g v p words following old new h after reply s = s.last.by_last
by_last (Window status) g v p words following old new h after reply s = s.last.by_last

pub reported : (served : Served) (g v : ℕ) (p : Cargo) (words following : List (List ℕ)) (old new : PartsValue) (h after : PassValue) (reply : List ℕ) → (s : ServesAt served g v p words following old new h after reply)
    → IsServedDetail g v served p old new h after reply (answered served g v p words following old new h after reply s)
unfolding answered
reported (Stopped stop) g v p words following old new h after reply s = (s.generation_is, s.verdict_is)
reported Unread g v p words following old new h after reply s = absurd s
reported (Done result) g v p words following old new h after reply s = (s.generation_is, s.verdict_is)
reported (Window status) g v p words following old new h after reply s = (s.generation_is, s.verdict_is)

pub cells : (served : Served) (g v : ℕ) (p : Cargo) (words following : List (List ℕ)) (old new : PartsValue) (h after : PassValue) (reply : List ℕ) → (s : ServesAt served g v p words following old new h after reply)
    → AsksCells (sizes_of old.programs) served p old new h after reply (answered served g v p words following old new h after reply s) words following
unfolding answered
cells (Stopped stop) g v p words following old new h after reply s = s.not_asked
cells Unread g v p words following old new h after reply s = absurd s
cells (Done result) g v p words following old new h after reply s = s.last.cells
cells (Window status) g v p words following old new h after reply s = s.last.cells

-- ---- the list of what was published

-- the list is the old one, or has one publish more, which is then what the port knows
abbrev pub Grows : (old new : List Publish) → Type 0
Grows old new = (new ≡ old) ⊎ ((slot : ℕ) × (program : AcceptedValue) × (new ≡ longer_history old slot program))

grows_as : (line : Option Status) (holder after : PassValue) (old new : List Publish) (j : JudgedValue) (status : Status) → EndsAs line holder after old new j status → Grows old new
grows_as (Some s) holder after old new j status end = inl end.2
grows_as None holder after old new j status end = elim end [
  | inl loaded ↦ inr (loaded.published.slot, loaded.published.program, loaded.published.extends)
  | inr refused ↦ inl refused.same
]

kept_as : (line : Option Status) (holder after : PassValue) (old new : List Publish) (j : JudgedValue) (status : Status) → EndsAs line holder after old new j status → status ≢ Success → new ≡ old
kept_as (Some s) holder after old new j status end other = end.2
kept_as None holder after old new j status end other = elim end [
  | inl loaded ↦ absurd (other loaded.status)
  | inr refused ↦ refused.same
]

grows_at : (place : Place) (holder after : PassValue) (old new : List Publish) (j : JudgedValue) (status : Status) (reply : List ℕ) → EndsAtWindow place holder after old new j status reply → Grows old new
grows_at (Bank k) holder after old new j status reply end = absurd end
grows_at Staging holder after old new j status reply end = inl end.1
grows_at LoadResult holder after old new j status reply end = inl end.1
grows_at Control holder after old new j status reply end = grows_as _ holder after old new j status end.ended

kept_at : (place : Place) (holder after : PassValue) (old new : List Publish) (j : JudgedValue) (status : Status) (reply : List ℕ) → EndsAtWindow place holder after old new j status reply → status ≢ Success → new ≡ old
kept_at (Bank k) holder after old new j status reply end other = absurd end
kept_at Staging holder after old new j status reply end other = end.1
kept_at LoadResult holder after old new j status reply end other = end.1
kept_at Control holder after old new j status reply end other = kept_as _ holder after old new j status end.ended other

pub kept_or_longer : (served : Served) (g v : ℕ) (p : Cargo) (words following : List (List ℕ)) (old new : PartsValue) (h after : PassValue) (reply : List ℕ) → ServesAt served g v p words following old new h after reply → AreKeptOrLonger served old.programs new.programs
kept_or_longer (Stopped stop) g v p words following old new h after reply s =
    let same = ap (λ (x : PartsValue). x.programs) s.untouched.node in record { kept = λ other. same; longer = inl same }
kept_or_longer Unread g v p words following old new h after reply s = absurd s
kept_or_longer (Done result) g v p words following old new h after reply s =
    let same = ap (λ (x : PartsValue). x.programs) s.ended.node in record { kept = λ other. same; longer = inl same }
kept_or_longer (Window status) g v p words following old new h after reply s = record {
  kept = λ other. kept_at s.judged.place s.between after old.programs new.programs s.judged status reply s.ended.1 (λ e. other (ap Window e));
  longer = grows_at s.judged.place s.between after old.programs new.programs s.judged status reply s.ended.1;
}

-- ---- ports stay informed

-- the factory program stays the first
pub sizes_kept : (old new : List Publish) → 0 < length old → Grows old new → sizes_of new ≡ sizes_of old
sizes_kept old new some grows = elim grows [
  | inl same ↦ ap sizes_of same
  | inr more ↦ ap sizes_of more.2 ∙ sizes_stay old _ some
]

-- what begins a list begins a longer one
pub informed_grows : (old new : List Publish) (h : PassValue) → 0 < length old → Grows old new → IsInformed old h → IsInformed new h
informed_grows old new h some grows is = elim grows [
  | inl same ↦ subst (λ (l : List Publish). IsInformed l h) (sym same) is
  | inr more ↦ subst (λ (l : List Publish). IsInformed l h) (sym more.2) (record {
    begins = prefix_longer h.programs old _ is.begins;
    sizes = is.sizes ∙ sym (sizes_stay old _ some);
  })
]

-- a port whose list and seat are those of an informed one
same_informed : (l : List Publish) (h after : PassValue) → after.programs ≡ h.programs → after.seat.sizes ≡ h.seat.sizes → IsInformed l h → IsInformed l after
same_informed l h after programs sizes is = record { begins = subst (λ (x : List Publish). IsPrefix x l) (sym programs) is.begins; sizes = sizes ∙ is.sizes }

-- a run leaves the port informed
pub run_informed : (l : List Publish) (words following : List (List ℕ)) (h between : PassValue) (p : Cargo) (j : JudgedValue) → IsLastJudgement l words following h between p j → IsInformed l h → IsInformed l between
run_informed l words following h between p j last is = record {
  begins = prefix_same between.programs l (sym last.knows);
  sizes = ap (λ (x : PassValue). x.seat.sizes) last.judgement.asked ∙ is.sizes;
}

load_informed : (line : Option Status) (h after : PassValue) (old new : List Publish) (j : JudgedValue) (status : Status) → 0 < length old → EndsAs line h after old new j status → IsInformed old h → IsInformed new after
load_informed (Some s) h after old new j status some end is =
    subst (λ (l : List Publish). IsInformed l after) (sym end.2) (subst (λ (x : PassValue). IsInformed old x) (sym end.1) is)
load_informed None h after old new j status some end is = elim end [
  | inl loaded ↦ record {
    begins = prefix_same after.programs new (sym loaded.published.learnt);
    sizes = ap (λ (x : PassValue). x.seat.sizes) loaded.holder_after ∙ is.sizes ∙ sym (sizes_stay old _ some) ∙ ap sizes_of (sym loaded.published.extends);
  }
  | inr refused ↦ subst (λ (l : List Publish). IsInformed l after) (sym refused.same)
      (same_informed old h after (ap (λ (x : PassValue). x.programs) refused.holder_after) (ap (λ (x : PassValue). x.seat.sizes) refused.holder_after) is)
]

staged_informed : (l m : List Publish) (h after : PassValue) (j : JudgedValue) (status : Status) (reply : List ℕ) → IsStagedAt h after j status reply → m ≡ l → IsInformed l h → IsInformed m after
staged_informed l m h after j status reply end same is =
    subst (λ (x : List Publish). IsInformed x after) (sym same)
    (same_informed l h after (ap (λ (x : PassValue). x.programs) end.rest) (ap (λ (x : PassValue). x.seat.sizes) end.rest) is)

window_informed : (place : Place) (h after : PassValue) (old new : List Publish) (j : JudgedValue) (status : Status) (reply : List ℕ) → 0 < length old → EndsAtWindow place h after old new j status reply → IsInformed old h → IsInformed new after
window_informed (Bank k) h after old new j status reply some end is = absurd end
window_informed Staging h after old new j status reply some end is = staged_informed old new h after j status reply end.0 end.1 is
window_informed LoadResult h after old new j status reply some end is = staged_informed old new h after j status reply end.0 end.1 is
window_informed Control h after old new j status reply some end is = load_informed _ h after old new j status some end.ended is

share_informed : (l : List Publish) (h : PassValue) (place : Place) (share : ShareValue) → IsInformed l h → IsInformed l (with_share h place share)
share_informed l h (Bank k) share is = record { begins = is.begins; sizes = is.sizes }
share_informed l h Staging share is = is
share_informed l h LoadResult share is = is
share_informed l h Control share is = is

-- whatever becomes of a packet, its port stays informed
pub stays_informed : (served : Served) (g v : ℕ) (p : Cargo) (words following : List (List ℕ)) (old new : PartsValue) (h after : PassValue) (reply : List ℕ) → 0 < length old.programs → ServesAt served g v p words following old new h after reply → IsInformed old.programs h → IsInformed new.programs after
stays_informed (Stopped stop) g v p words following old new h after reply some s is =
    subst (λ (x : PartsValue). IsInformed x.programs after) (sym s.untouched.node) (subst (λ (x : PassValue). IsInformed old.programs x) (sym s.untouched.holder_after) is)
stays_informed Unread g v p words following old new h after reply some s is = absurd s
stays_informed (Done result) g v p words following old new h after reply some s is =
    let between = run_informed old.programs words following h s.between p s.judged s.last is in
    subst (λ (x : PartsValue). IsInformed x.programs after) (sym s.ended.node)
    (subst (λ (x : PassValue). IsInformed old.programs x) (sym s.ended.applied.shares) (share_informed old.programs s.between s.judged.place _ between))
stays_informed (Window status) g v p words following old new h after reply some s is =
    window_informed s.judged.place s.between after old.programs new.programs s.judged status reply some s.ended.1 (run_informed old.programs words following h s.between p s.judged s.last is)

-- ---- banks and ports stay paired

-- a run leaves the port paired
pub run_paired : (banks : List BankValue) (h between : PassValue) (p : Cargo) (j : JudgedValue) → IsJudgement h between p j → IsPaired banks h → IsPaired banks between
run_paired banks h between p j is paired =
    subst (λ (x : PassValue). IsPaired banks x) (sym is.asked) (record { count = paired.count; windows = paired.windows; shares = paired.shares })
