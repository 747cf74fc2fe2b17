-- What a packet does to banks and ports that are paired.
use Rattle.std.proofs.Common.{◌≡◌, ◌≢◌, ℕ, List, Bool, true, false, set, Option, Some, None, refl, sym, ap, ◌∙◌, subst, inl, inr}
use Rattle.std.specs.Prelude.{slice_get}
use Rattle.std.proofs.lemmas.Bool.{cases_eq}
use Rattle.spw.specs.Cargo.{Cargo}
use Rattle.rmap.specs.declared.places.Place.{Place}
use Rattle.rmap.specs.declared.places.Place.TheVariants.{Bank, Staging, LoadResult, Control}
use Rattle.rmap.specs.declared.status.Status.{Status}
use Rattle.bank.specs.declared.bank.Applied.{Applied}
use Rattle.bank.specs.Laws.{ExtentsStay}
use Rattle.bank.specs.Records.{BankValue, ShareValue, JudgedValue, fits, after_command, next_share}
use Rattle.node_programs.specs.declared.publishes.Publish.{Publish}
use Rattle.node_parts.specs.declared.served.Served.{Served}
use Rattle.node_parts.specs.declared.served.Served.TheVariants.{Stopped, Unread, Done, Window}
use Rattle.node_parts.specs.Passes.{PassValue}
use Rattle.node_parts.specs.Applied.{share_of, with_share, IsApplied, IsEndedAtBank, IsRefused}
use Rattle.node_parts.specs.Loaded.{EndsAs}
use Rattle.node_parts.specs.Served.{Ending, PartsValue, IsServed, IsAnswered, IsDone, IsUntouched, IsStagedAt, EndsAtWindow}
use Rattle.node_parts.specs.Steps.{IsJudgement}
use Rattle.node_parts.specs.Pairs.{ArePaired, IsPaired}
use Rattle.node_parts.specs.Keeping.{AnsweredAreServed, LeavesAllPaired}
use Rattle.node_parts.proofs.Pairings.{own_stays_paired, others_stay_paired, pair_set, judged_paired, judged_fits, staged_paired, loaded_paired}
use Rattle.lemmas.proofs.Places.{at_written, at_other}

-- what was done, and another word for how it ended
ended_by : (E F : Ending) (old new : PartsValue) (h after : PassValue) (p : Cargo) (result : Applied) (reply : List ℕ) → (done : IsDone E old new h after p result reply)
    → F done.before done.following (share_of done.between done.judged.place) done.between after done.judged result reply → IsDone F old new h after p result reply
ended_by E F old new h after p result reply done ended = record {
  judged = done.judged;
  between = done.between;
  number = done.number;
  before = done.before;
  following = done.following;
  judgement = done.judgement;
  place = done.place;
  bank = done.bank;
  node = done.node;
  ended = ended;
}

-- the command was applied
done_applied : (old new : PartsValue) (h after : PassValue) (p : Cargo) (result : Applied) (reply : List ℕ) → IsPaired old.banks h → (done : IsDone IsEndedAtBank old new h after p result reply) → IsApplied done.before done.following (share_of done.between done.judged.place) done.between after done.judged result reply
done_applied old new h after p result reply paired done =
    done.ended.applied (judged_fits old.banks h done.between p done.judged done.number done.before done.judgement paired done.place done.bank)

-- if banks and port are paired no command is refused
answered : (served : Served) (p : Cargo) (old new : PartsValue) (h after : PassValue) (reply : List ℕ)
    → IsServed served p old new h after reply → IsPaired old.banks h → IsAnswered served p old new h after reply
answered (Stopped stop) p old new h after reply s paired = s
answered Unread p old new h after reply s paired = s
answered (Window status) p old new h after reply s paired = s
answered (Done result) p old new h after reply done paired =
    ended_by IsEndedAtBank IsApplied old new h after p result reply done (done_applied old new h after p result reply paired done)

-- a command that fits was not refused
never_refused : (old new : PartsValue) (h after : PassValue) (p : Cargo) (result : Applied) (reply : List ℕ) → IsPaired old.banks h → (done : IsDone IsApplied old new h after p result reply) → fits done.before (share_of done.between done.judged.place) done.judged ≡ false → IsRefused done.before done.following done.between after done.judged result reply
never_refused old new h after p result reply paired done unfit =
    let fit = judged_fits old.banks h done.between p done.judged done.number done.before done.judgement paired done.place done.bank in
    let clash : true ≡ false = sym fit ∙ unfit in
    absurd cc

pub served : AnsweredAreServed
served (Stopped stop) p old new h after reply s paired = s
served Unread p old new h after reply s paired = s
served (Window status) p old new h after reply s paired = s
served (Done result) p old new h after reply done paired =
    ended_by IsApplied IsEndedAtBank old new h after p result reply done
    (record { applied = λ fit. done.ended; refused = never_refused old new h after p result reply paired done })

untouched : (old new : PartsValue) (h after other : PassValue) → IsUntouched old new h after → IsPaired old.banks other → IsPaired new.banks other
untouched old new h after other same paired = subst (λ (x : PartsValue). IsPaired x.banks other) (sym same.node) paired

at_staging : (banks : List BankValue) (h after : PassValue) (j : JudgedValue) (status : Status) (reply : List ℕ) → IsStagedAt h after j status reply → IsPaired banks h → IsPaired banks after
at_staging banks h after j status reply end paired =
    subst (λ (x : PassValue). IsPaired banks x) (sym end.rest) (staged_paired banks h after.staging paired)

-- a load leaves a port paired, however it ends
at_load : (line : Option Status) (banks : List BankValue) (h after : PassValue) (old new : List Publish) (j : JudgedValue) (status : Status) → EndsAs line h after old new j status → IsPaired banks h → IsPaired banks after
at_load (Some s) banks h after old new j status end paired =
    subst (λ (x : PassValue). IsPaired banks x) (sym end.1) paired
at_load None banks h after old new j status end paired = elim end [
  | inl loaded ↦ subst (λ (x : PassValue). IsPaired banks x) (sym loaded.holder_after) (loaded_paired banks h _ _ paired)
  | inr refused ↦ subst (λ (x : PassValue). IsPaired banks x) (sym refused.holder_after) (loaded_paired banks h _ _ paired)
]

-- a command to the boot window leaves a port paired
at_window : (place : Place) (banks : List BankValue) (h after : PassValue) (old new : List Publish) (j : JudgedValue) (status : Status) (reply : List ℕ) → EndsAtWindow place h after old new j status reply → IsPaired banks h → IsPaired banks after
at_window (Bank k) banks h after old new j status reply end paired = absurd end
at_window Staging banks h after old new j status reply end paired = at_staging banks h after j status reply end.0 paired
at_window LoadResult banks h after old new j status reply end paired = at_staging banks h after j status reply end.0 paired
at_window Control banks h after old new j status reply end paired = at_load _ banks h after old new j status end.ended paired

-- a packet leaves the port at which it came in paired
stays_paired : ExtentsStay → (served : Served) (p : Cargo) (old new : PartsValue) (h after : PassValue) (reply : List ℕ)
    → IsServed served p old new h after reply → IsPaired old.banks h → IsPaired new.banks after
stays_paired keeps (Stopped stop) p old new h after reply s paired =
    subst (λ x. IsPaired new.banks x) (sym s.1.holder_after) (untouched old new h after h s.1 paired)
stays_paired keeps Unread p old new h after reply s paired =
    subst (λ x. IsPaired new.banks x) (sym s.1.holder_after) (untouched old new h after h s.1 paired)
stays_paired keeps (Done result) p old new h after reply done paired =
    let end = done_applied old new h after p result reply paired done in
    let share = share_of done.between done.judged.place in
    let port = done.judgement.judged_for.port_of ∙ sym (ap (λ (x : PassValue). x.port) done.judgement.asked) in
    let own = own_stays_paired keeps old.banks done.between done.number done.judged done.before (judged_paired old.banks h done.between p done.judged done.judgement paired) port done.place done.bank in
    let banks : new.banks ≡ set old.banks done.number (after_command done.before share done.judged) = ap (λ (x : PartsValue). x.banks) done.node ∙ ap (λ b. set old.banks done.number b) end.bank in
    subst (λ x. IsPaired new.banks x) (sym end.shares) (subst (λ l. IsPaired l (with_share done.between done.judged.place (next_share done.before share done.judged))) (sym banks) own)
stays_paired keeps (Window status) p old new h after reply s paired =
    let between = judged_paired old.banks h s.between p s.judged s.judgement paired in
    subst (λ banks. IsPaired banks after) (sym s.banks) (at_window s.judged.place old.banks s.between after old.programs new.programs s.judged status reply s.ended between)

-- a command of another port leaves a port paired, whether it was applied or not
after_paired : ExtentsStay → (old new : PartsValue) (h after other : PassValue) (p : Cargo) (result : Applied) (reply : List ℕ) (done : IsDone IsEndedAtBank old new h after p result reply) (fit : Bool) → fits done.before (share_of done.between done.judged.place) done.judged ≡ fit → other.port ≢ h.port → IsPaired old.banks other → IsPaired (set old.banks done.number done.following) other
after_paired keeps old new h after other p result reply done true fit apart paired =
    let share = share_of done.between done.judged.place in
    let far : other.port ≢ done.judged.port = λ e. apart (e ∙ done.judgement.judged_for.port_of) in
    subst (λ b. IsPaired (set old.banks done.number b) other) (sym (done.ended.applied fit).bank) (others_stay_paired keeps old.banks other done.number share done.judged done.before paired far done.bank)
after_paired keeps old new h after other p result reply done false fit apart paired =
    subst (λ b. IsPaired (set old.banks done.number b) other) (sym (done.ended.refused fit).bank) (pair_set old.banks done.number done.before done.before other done.bank refl paired (paired.shares done.number done.before done.bank))

-- and every other
others_paired : ExtentsStay → (served : Served) (p : Cargo) (old new : PartsValue) (h after : PassValue) (reply : List ℕ)
    → IsServed served p old new h after reply → (other : PassValue) → other.port ≢ h.port
    → IsPaired old.banks other → IsPaired new.banks other
others_paired keeps (Stopped stop) p old new h after reply s other apart paired = untouched old new h after other s.1 paired
others_paired keeps Unread p old new h after reply s other apart paired = untouched old new h after other s.1 paired
others_paired keeps (Done result) p old new h after reply done other apart paired =
    subst (λ (x : PartsValue). IsPaired x.banks other) (sym done.node) (after_paired keeps old new h after other p result reply done (fits done.before (share_of done.between done.judged.place) done.judged) refl apart paired)
others_paired keeps (Window status) p old new h after reply s other apart paired =
    subst (λ banks. IsPaired banks other) (sym s.banks) paired

-- a load leaves the port its number and its shares
kept_at_load : (line : Option Status) (h after : PassValue) (old new : List Publish) (j : JudgedValue) (status : Status) → EndsAs line h after old new j status → (after.port ≡ h.port) × (after.shares ≡ h.shares)
kept_at_load (Some s) h after old new j status end = (ap (λ (x : PassValue). x.port) end.1, ap (λ (x : PassValue). x.shares) end.1)
kept_at_load None h after old new j status end = elim end [
  | inl loaded ↦ (ap (λ (x : PassValue). x.port) loaded.holder_after, ap (λ (x : PassValue). x.shares) loaded.holder_after)
  | inr refused ↦ (ap (λ (x : PassValue). x.port) refused.holder_after, ap (λ (x : PassValue). x.shares) refused.holder_after)
]

-- a command to the boot window leaves the port its number
port_at_window : (place : Place) (h after : PassValue) (old new : List Publish) (j : JudgedValue) (status : Status) (reply : List ℕ) → EndsAtWindow place h after old new j status reply → after.port ≡ h.port
port_at_window (Bank k) h after old new j status reply end = absurd end
port_at_window Staging h after old new j status reply end = ap (λ (x : PassValue). x.port) end.0.rest
port_at_window LoadResult h after old new j status reply end = ap (λ (x : PassValue). x.port) end.0.rest
port_at_window Control h after old new j status reply end = (kept_at_load _ h after old new j status end.ended).0

-- another share leaves the port its number
port_of_share : (h : PassValue) (place : Place) (share : ShareValue) → (with_share h place share).port ≡ h.port
port_of_share h (Bank k) share = refl
port_of_share h Staging share = refl
port_of_share h LoadResult share = refl
port_of_share h Control share = refl

-- a run leaves the port its number
port_of_run : (h between : PassValue) (p : Cargo) (j : JudgedValue) → IsJudgement h between p j → between.port ≡ h.port
port_of_run h between p j is = ap (λ (x : PassValue). x.port) is.asked

-- whatever becomes of a packet, the port keeps its number
same_port : (served : Served) (p : Cargo) (old new : PartsValue) (h after : PassValue) (reply : List ℕ) → IsAnswered served p old new h after reply → after.port ≡ h.port
same_port (Stopped stop) p old new h after reply s = ap (λ (x : PassValue). x.port) s.1.holder_after
same_port Unread p old new h after reply s = ap (λ (x : PassValue). x.port) s.1.holder_after
same_port (Done result) p old new h after reply s =
    ap (λ (x : PassValue). x.port) s.ended.shares ∙ port_of_share s.between _ _ ∙ port_of_run h s.between p s.judged s.judgement
same_port (Window status) p old new h after reply s =
    port_at_window s.judged.place s.between after old.programs new.programs s.judged status reply s.ended ∙ port_of_run h s.between p s.judged s.judgement

-- banks and all ports stay paired, whichever of them the packet came in at
pub all_stay_paired : ExtentsStay → LeavesAllPaired
all_stay_paired keeps served p old new h after reply s passes k paired at =
    let own = paired.each k h at in
    let same = same_port served p old new h after reply (answered served p old new h after reply s own) in
    record {
      each = λ i x found. elim (cases_eq i k) [
        | inl here ↦ subst (λ (y : PassValue). IsPaired new.banks y) (sym (at_written passes k i h after x at here found)) (stays_paired keeps served p old new h after reply s own)
        | inr apart ↦
            let stood = at_other passes k i after x apart found in
            let far : x.port ≢ h.port = λ e. apart (sym (paired.ports i x stood) ∙ e ∙ paired.ports k h at) in
            others_paired keeps served p old new h after reply s x far (paired.each i x stood)
      ];
      ports = λ i x found. elim (cases_eq i k) [
        | inl here ↦ ap (λ (y : PassValue). y.port) (at_written passes k i h after x at here found) ∙ same ∙ paired.ports k h at ∙ sym here
        | inr apart ↦ paired.ports i x (at_other passes k i after x apart found)
      ];
    }
