-- What is known of a port's acts in the list by what became of its packets. So far the port did no more than it asked
-- for.
use Rattle.std.proofs.Common.{◌≡◌, ◌+◌, ◌≤◌, ◌⊎◌, ℕ, true, List, [], ◌∷◌, ◌++◌, length, Option, Some, None, refl, sym, ap, subst, ◌∙◌, inl, inr, arith, length-append}
use Rattle.std.proofs.lemmas.Bool.{cases_lt}
use mathlib.Core.List.{IsPrefix}
use Rattle.spw.specs.Cargo.{Cargo}
use Rattle.rmap.specs.declared.places.Place.{Place}
use Rattle.rmap.specs.declared.places.Place.TheVariants as places
use Rattle.rmap.specs.declared.status.Status.{Status}
use Rattle.rmap.specs.Command.{command_of}
use Rattle.rmap.specs.Reply.{reply_of}
use Rattle.bank.specs.Answer.{judged_line}
use Rattle.bank.specs.Records.{JudgedValue, entry_of}
use Rattle.node_programs.specs.declared.publishes.Publish.{Publish}
use Rattle.node_parts.specs.Applied.{share_of}
use Rattle.node_parts.specs.Loaded.{EndsAs, HasLoaded}
use Rattle.node_parts.specs.Passes.{PassValue}
use Rattle.node_parts.specs.Served.{EndsAtWindow}
use Rattle.annals.specs.declared.deed.Act.{Act}
use Rattle.annals.specs.declared.deed.Act.TheVariants.{Leaves, Publishes}
use Rattle.annals.specs.declared.deed.Deed.TheVariants.{Does}
use Rattle.annals.specs.declared.deed.HistoryEntry.{HistoryEntry}
use Rattle.annals.specs.Chains.{Due, chain_of, done_for, link, owner_of}
use Rattle.annals.specs.Publishes.{publishes_chain}
use Rattle.annals.specs.Shown.{AreListed, shown_in}
use Rattle.target.specs.Loads.{AsksForLoad}
use Rattle.ports.specs.Due.{Deed, HasMet, IsBanked, IsJudgedInRun, IsWindowEnd, Judging, Standing, Worked, stand}
use Rattle.ports.specs.Due.Deed.{Dropped, Answered, Judged}
use Rattle.sched.specs.Looking.{Node}
use Rattle.lawful.specs.Alone.{AreDealtInFull, IsJudgedInFull}
use Rattle.lawful.proofs.Placing.{AreLoadsPlaced, IsLoadPlaced, IsPlaced, placed_by}
use Rattle.lawful.proofs.Alone.{Laws, bank_is, one_counted, worked_front}
use Rattle.lawful.proofs.Entering.{IsDoneAt, asks_one, done_at, finished_front}
use Rattle.lawful.proofs.Growing.{taken_longer}
use Rattle.lawful.proofs.Links.{done_few, done_one, front_of, published_few, seen_count, size_more}
use Rattle.lemmas.proofs.Prefixes.{prefix_length, prefix_shorter, prefix_trans}

-- ---- where the next command of a port is taken

-- the next command that is judged is taken at a moment that is not before that place of the list
abbrev pub IsFrom : (place : ℕ) (s last : Standing) (ps : List Cargo) (ds : List Deed) → Worked s ps ds last → Type 0
IsFrom place s last [] [] w = Unit {0}
IsFrom place s last [] (d ∷ ds) w = Unit {0}
IsFrom place s last (p ∷ ps) [] w = Unit {0}
IsFrom place s last (p ∷ ps) (Dropped ∷ ds) w = IsFrom place w.0 last ps ds w.2
IsFrom place s last (p ∷ ps) (Answered reply ∷ ds) w = IsFrom place w.0 last ps ds w.2
IsFrom place s last (p ∷ ps) (Judged j ∷ ds) w = place ≤ length w.1.moment.at

-- what is so of whichever command comes next
abbrev pub IsSoOfNext : (place : ℕ) (last s : Standing) → Type 0
IsSoOfNext place last s = (j : Judging) (p : Cargo) (after : Standing) (is : IsJudgedInRun j p s after) → IsPrefix after.front last.front → place ≤ length is.moment.at

pub from_by : (place : ℕ) (s last : Standing) (ps : List Cargo) (ds : List Deed) (w : Worked s ps ds last) → IsSoOfNext place last s → IsFrom place s last ps ds w
from_by place s last [] [] w all = tt
from_by place s last [] (d ∷ ds) w all = tt
from_by place s last (p ∷ ps) [] w all = tt
from_by place s last (p ∷ ps) (Dropped ∷ ds) w all = from_by place w.0 last ps ds w.2 (subst (IsSoOfNext place last) (sym w.1.same) all)
from_by place s last (p ∷ ps) (Answered reply ∷ ds) w all = from_by place w.0 last ps ds w.2 (subst (IsSoOfNext place last) (sym w.1.same) all)
from_by place s last (p ∷ ps) (Judged j ∷ ds) w all = all j p w.0 w.1 (worked_front w.0 last ps ds w.2)

pub from_less : (place fewer : ℕ) (s last : Standing) (ps : List Cargo) (ds : List Deed) (w : Worked s ps ds last) → fewer ≤ place → IsFrom place s last ps ds w → IsFrom fewer s last ps ds w
from_less place fewer s last [] [] w few from = tt
from_less place fewer s last [] (d ∷ ds) w few from = tt
from_less place fewer s last (p ∷ ps) [] w few from = tt
from_less place fewer s last (p ∷ ps) (Dropped ∷ ds) w few from = from_less place fewer w.0 last ps ds w.2 few from
from_less place fewer s last (p ∷ ps) (Answered reply ∷ ds) w few from = from_less place fewer w.0 last ps ds w.2 few from
from_less place fewer s last (p ∷ ps) (Judged j ∷ ds) w few from = omega (arith, few, from)

-- it is taken after all that the port knows
pub from_front : (place : ℕ) (s last : Standing) (ps : List Cargo) (ds : List Deed) (w : Worked s ps ds last) → place ≤ length s.front → IsFrom place s last ps ds w
from_front place s last ps ds w few = from_by place s last ps ds w (λ j p after is begins.
    let more = prefix_length s.front is.moment.at is.moment.after in omega (arith, few, more))

-- what a port knows when a command was taken begins what it knows when that ended
pub reached_front : (j : Judging) (p : Cargo) (s after : Standing) (is : IsJudgedInRun j p s after) → IsPrefix is.reached after.front
reached_front j p s after is = elim is.ended [
  | inl banked ↦
      let it = banked.ended in
      finished_front it.result.number is.between.programs it.before.chain.number is.reached after.front (share_of is.between j.judged.place) j.judged it.result j.reply it.finished.done it.finished.none
  | inr windowed ↦ windowed.front
]

-- the moment at which a command was taken is in the list
pub moment_stands : (j : Judging) (p : Cargo) (s after : Standing) (whole : List HistoryEntry) (is : IsJudgedInRun j p s after) → IsPrefix after.front whole → IsPrefix is.moment.at whole
moment_stands j p s after whole is begins =
    prefix_trans is.moment.at is.reached whole is.moment.before (prefix_trans is.reached after.front whole (reached_front j p s after is) begins)

-- readers then see all that the port knew
pub moment_sees : (j : Judging) (p : Cargo) (s after : Standing) (whole : List HistoryEntry) (is : IsJudgedInRun j p s after) → AreListed whole → IsPrefix after.front whole → length s.pass.programs ≤ shown_in is.moment.at
moment_sees j p s after whole is listed begins =
    let many = seen_count is.moment.at (listed is.moment.at (moment_stands j p s after whole is begins)) in
    let seen = ap length is.moment.seen in
    let longer = prefix_length s.pass.programs is.between.programs (taken_longer j p s after is) in
    omega (arith, many, seen, longer)

-- it is taken not before readers see what the port knows
pub from_seen : (place : ℕ) (whole : List HistoryEntry) (s last : Standing) (ps : List Cargo) (ds : List Deed) (w : Worked s ps ds last) → AreListed whole → IsPrefix last.front whole
    → ((at : List HistoryEntry) → IsPrefix at whole → length s.pass.programs ≤ shown_in at → place ≤ length at) → IsFrom place s last ps ds w
from_seen place whole s last ps ds w listed begins all = from_by place s last ps ds w (λ j p after is front.
    let stands = prefix_trans after.front last.front whole front begins in
    all is.moment.at (moment_stands j p s after whole is stands) (moment_sees j p s after whole is listed stands))

-- ---- how a judged command ended

-- at a bank, if it left its entry
pub record LeavesEntry (j : Judging) (p : Cargo) (s after : Standing) (is : IsJudgedInRun j p s after) : Type 0 where
  pub banked : IsBanked j (stand is.between s.asked is.reached) after
  pub left : j.entered ≡ true

-- in the boot window, with no publish
pub record PublishesNone (j : Judging) (p : Cargo) (s after : Standing) (is : IsJudgedInRun j p s after) : Type 0 where
  pub windowed : IsWindowEnd j (stand is.between s.asked is.reached) after
  pub none : j.loaded ≡ None

-- in the boot window, with a publish, which is in the list
pub record PublishesOne (q : ℕ) (whole : List HistoryEntry) (j : Judging) (p : Cargo) (s after : Standing) (is : IsJudgedInRun j p s after) : Type 0 where
  pub windowed : IsWindowEnd j (stand is.between s.asked is.reached) after
  pub publish : Publish
  pub some : j.loaded ≡ Some publish
  pub placed : IsPlaced q whole is.reached windowed.old publish

abbrev pub HasEnded : (q : ℕ) (whole : List HistoryEntry) (j : Judging) (p : Cargo) (s after : Standing) → IsJudgedInRun j p s after → Type 0
HasEnded q whole j p s after is = LeavesEntry j p s after is ⊎ (PublishesNone j p s after is ⊎ PublishesOne q whole j p s after is)

pub ended : (q : ℕ) (whole : List HistoryEntry) (j : Judging) (p : Cargo) (s after : Standing) (is : IsJudgedInRun j p s after) → IsJudgedInFull s after j → IsLoadPlaced q whole j p s after is → HasEnded q whole j p s after is
ended q whole j p s after is full placed = elim is.ended [
  | inl banked ↦ inl (record { banked = banked; left = full.entered (bank_is j.judged.place banked.number banked.place) })
  | inr windowed ↦ inr (by windowed j.loaded refl)
]
  where
    by : (windowed : IsWindowEnd j (stand is.between s.asked is.reached) after) (loaded : Option Publish) → j.loaded ≡ loaded → PublishesNone j p s after is ⊎ PublishesOne q whole j p s after is
    by windowed None none = inl (record { windowed = windowed; none = none })
    by windowed (Some publish) some = inr (record { windowed = windowed; publish = publish; some = some; placed = placed publish windowed some })

-- ---- loads

longer : (old : List Publish) (x : Publish) → length (old ++ x ∷ []) ≡ length old + 1
longer old x = size_more old x

-- what was published is no less than was there before
not_same : (old new : List Publish) (x : Publish) → new ≡ old ++ x ∷ [] → new ≡ old → ⊥
not_same old new x more same = let one = ap length more in let none = ap length same in let size = longer old x in absurd (omega (arith, one, none, size))

-- the end of a load that published: nothing stopped it
pub record IsLoadOf (old after : PassValue) (before new : List Publish) (j : JudgedValue) (result : Status) (reply : List ℕ) (x : Publish) : Type 0 where
  pub place : j.place ≡ places.Control
  pub line : judged_line (command_of j.packet) j.verdict ≡ None
  pub loaded : HasLoaded old after before new j result
  pub reply_is : reply ≡ reply_of (command_of j.packet) result []
  pub programs : after.programs ≡ before ++ x ∷ []

load_by : (line : Option Status) (old after : PassValue) (before new : List Publish) (j : JudgedValue) (result : Status) (reply : List ℕ) (x : Publish) → j.place ≡ places.Control
    → judged_line (command_of j.packet) j.verdict ≡ line → EndsAs line old after before new j result → reply ≡ reply_of (command_of j.packet) result [] → new ≡ before ++ x ∷ [] → IsLoadOf old after before new j result reply x
load_by (Some status) old after before new j result reply x at line end reply_is more = absurd (not_same before new x more end.2)
load_by None old after before new j result reply x at line (inl end) reply_is more = record {
  place = at;
  line = line;
  loaded = end;
  reply_is = reply_is;
  programs = end.published.learnt ∙ more;
}
load_by None old after before new j result reply x at line (inr end) reply_is more = absurd (not_same before new x more end.same)

load_of : (place : Place) (old after : PassValue) (before new : List Publish) (j : JudgedValue) (result : Status) (reply : List ℕ) (x : Publish) → j.place ≡ place
    → EndsAtWindow place old after before new j result reply → new ≡ before ++ x ∷ [] → IsLoadOf old after before new j result reply x
load_of (places.Bank k) old after before new j result reply x at end more = absurd end
load_of places.Staging old after before new j result reply x at end more = absurd (not_same before new x more end.1)
load_of places.LoadResult old after before new j result reply x at end more = absurd (not_same before new x more end.1)
load_of places.Control old after before new j result reply x at end more =
    load_by (judged_line (command_of j.packet) j.verdict) old after before new j result reply x at refl end.ended end.reply more

asks_some : (port : ℕ) (loaded : Option Publish) (x : Publish) (old new : List Publish) (asked after : List Due) → loaded ≡ Some x → AsksForLoad port loaded old new asked after → AsksForLoad port (Some x) old new asked after
asks_some port loaded x old new asked after is asks = subst (λ (o : Option Publish). AsksForLoad port o old new asked after) is asks

-- where a load's publish is, by what its port knows of the history
place_of_load : (q : ℕ) (whole : List HistoryEntry) (j : Judging) (p : Cargo) (s after : Standing) (is : IsJudgedInRun j p s after) → s.pass.port ≡ q → IsPrefix after.front whole → IsLoadPlaced q whole j p s after is
place_of_load q whole j p s after is port front = λ publish it some.
    let asks = asks_some is.between.port j.loaded publish it.old it.new s.asked after.asked some it.asks_for in
    let load = load_of j.judged.place is.between after.pass it.old it.new j.judged it.result j.reply publish refl it.ended asks.0 in
    let own : is.between.port ≡ q = ap (λ (x : PassValue). x.port) is.judgement.asked ∙ port in
    let moment = subst (λ (i : ℕ). HasMet i is.reached after.front it.old it.new s.asked after.asked) own (it.moment load.place) in
    placed_by q whole is.reached moment.met after.front it.old it.new s.asked after.asked publish moment.seen moment.published moment.did moment.goes moment.publishes moment.does
    (subst (λ (i : ℕ). AsksForLoad i (Some publish) it.old it.new s.asked after.asked) own asks) front

pub loads_placed : Laws → (q : ℕ) (whole : List HistoryEntry) (s last : Standing) (ps : List Cargo) (ds : List Deed) (w : Worked s ps ds last) → s.pass.port ≡ q → IsPrefix last.front whole → AreLoadsPlaced q whole s ps ds last w
loads_placed laws q whole s last [] [] w port begins = tt
loads_placed laws q whole s last [] (d ∷ ds) w port begins = tt
loads_placed laws q whole s last (p ∷ ps) [] w port begins = tt
loads_placed laws q whole s last (p ∷ ps) (Dropped ∷ ds) w port begins = loads_placed laws q whole w.0 last ps ds w.2 (ap (λ (y : Standing). y.pass.port) w.1.same ∙ port) begins
loads_placed laws q whole s last (p ∷ ps) (Answered reply ∷ ds) w port begins = loads_placed laws q whole w.0 last ps ds w.2 (ap (λ (y : Standing). y.pass.port) w.1.same ∙ port) begins
loads_placed laws q whole s last (p ∷ ps) (Judged j ∷ ds) w port begins =
    let front = prefix_trans w.0.front last.front whole (worked_front w.0 last ps ds w.2) begins in (
      place_of_load q whole j p s w.0 w.1 port front,
      loads_placed laws q whole w.0 last ps ds w.2 ((one_counted laws.counts (Judged j) p s w.0 w.1).port ∙ port) begins,
    )

pub one_loaded : (q : ℕ) (whole : List HistoryEntry) (j : Judging) (p : Cargo) (s after : Standing) (is : IsJudgedInRun j p s after) (one : PublishesOne q whole j p s after is)
    → IsLoadOf is.between after.pass one.windowed.old one.windowed.new j.judged one.windowed.result j.reply one.publish
one_loaded q whole j p s after is one =
    let it = one.windowed in
    let asks = asks_some is.between.port j.loaded one.publish it.old it.new s.asked after.asked one.some it.asks_for in
    load_of j.judged.place is.between after.pass it.old it.new j.judged it.result j.reply one.publish refl it.ended asks.0

-- ---- acts

-- what a command did that left an entry or published: it is in the list after all that the port knew when it was taken
pub record HasActed (q : ℕ) (whole : List HistoryEntry) (j : Judging) (p : Cargo) (s after : Standing) (is : IsJudgedInRun j p s after) : Type 0 where
  pub before : List HistoryEntry
  pub item : HistoryEntry
  pub act : Act
  pub deed : item.deed ≡ Does act
  pub own : owner_of act ≡ q
  pub stands : IsPrefix (before ++ item ∷ []) whole
  pub seen : IsPrefix is.reached before
  pub asked : length after.asked ≡ length s.asked + 1

abbrev pub entry_acted : (q k : ℕ) (whole : List HistoryEntry) (j : Judging) (p : Cargo) (s after : Standing) (is : IsJudgedInRun j p s after) (done : IsDoneAt k j (stand is.between s.asked is.reached) after) → s.pass.port ≡ q → IsPrefix after.front whole
    → length after.asked ≡ length s.asked + 1 → HasActed q whole j p s after is
entry_acted q k whole j p s after is done port begins asked = record {
  before = done.before;
  item = link k (length (chain_of k done.before)) (Does (Leaves (entry_of done.share j.judged done.status))) done.next;
  act = Leaves (entry_of done.share j.judged done.status);
  deed = refl;
  own = is.judgement.judged_for.port_of ∙ port;
  stands = subst (λ (l : List HistoryEntry). IsPrefix l whole) done.log begins;
  seen = done.seen;
  asked = asked;
}

-- for a load its port asked for one more
pub load_asked : (q : ℕ) (whole : List HistoryEntry) (j : Judging) (p : Cargo) (s after : Standing) (is : IsJudgedInRun j p s after) → PublishesOne q whole j p s after is → length after.asked ≡ length s.asked + 1
load_asked q whole j p s after is one =
    let it = one.windowed in
    let asks = asks_some is.between.port j.loaded one.publish it.old it.new s.asked after.asked one.some it.asks_for in
    ap length asks.1 ∙ length-append s.asked ((publishes_chain, Publishes (is.between.port, one.publish)) ∷ [])

abbrev pub load_acted : (q : ℕ) (whole : List HistoryEntry) (j : Judging) (p : Cargo) (s after : Standing) (is : IsJudgedInRun j p s after) → PublishesOne q whole j p s after is → HasActed q whole j p s after is
load_acted q whole j p s after is one = record {
  before = one.placed.before;
  item = one.placed.item;
  act = Publishes (q, one.publish);
  deed = one.placed.deed;
  own = refl;
  stands = one.placed.stands;
  seen = one.placed.seen;
  asked = load_asked q whole j p s after is one;
}

-- after a load the next command is taken not before the place of its publish
pub from_publish : (q : ℕ) (whole : List HistoryEntry) (j : Judging) (p : Cargo) (s after last : Standing) (is : IsJudgedInRun j p s after) (one : PublishesOne q whole j p s after is) (ps : List Cargo) (ds : List Deed) (w : Worked after ps ds last)
    → AreListed whole → IsPrefix last.front whole → IsFrom (length one.placed.before + 1) after last ps ds w
from_publish q whole j p s after last is one ps ds w listed begins =
    from_seen (length one.placed.before + 1) whole after last ps ds w listed begins (λ at stands many.
    let load = one_loaded q whole j p s after is one in
    let size = ap length load.programs ∙ longer one.windowed.old one.publish in
    let met = ap length one.placed.met in
    let low = listed at stands in
    elim (cases_lt (length one.placed.before) (length at)) [
      | inl more ↦ omega (arith, more)
      | inr few ↦
          let here = prefix_shorter at one.placed.before whole stands (front_of one.placed.before whole one.placed.item one.placed.stands) few in
          let less = published_few at one.placed.before here in
          absurd (omega (arith, size, met, low, less, many))
    ])

-- Before the moment at which a command is taken its port did no more than it asked for before that command. It is so if
-- it is so after the command.
judged_few : (q : ℕ) (whole x : List HistoryEntry) (s last after : Standing) (j : Judging) (p : Cargo) (ps : List Cargo) (ds : List Deed) (is : IsJudgedInRun j p s after) (w : Worked after ps ds last) → AreListed whole → IsPrefix last.front whole
    → s.pass.port ≡ q → IsPrefix after.front whole → IsPrefix x whole → length x ≤ length is.moment.at → HasEnded q whole j p s after is
    → ((y : List HistoryEntry) → IsPrefix y whole → IsFrom (length y) after last ps ds w → length (done_for q y) ≤ length after.asked) → length (done_for q x) ≤ length s.asked
judged_few q whole x s last after j p ps ds is w listed begins port front stands from end rest = by end
  where
    known : IsPrefix x is.reached
    known = prefix_trans x is.moment.at is.reached (prefix_shorter x is.moment.at whole stands (moment_stands j p s after whole is front) from) is.moment.before

    -- by an act of this command, after which the rest was done
    acted : (it : HasActed q whole j p s after is) → IsFrom (length it.before + 1) after last ps ds w → length (done_for q x) ≤ length s.asked
    acted it later =
        let y = it.before ++ it.item ∷ [] in
        let size : length y ≡ length it.before + 1 = size_more it.before it.item in
        let few_later = rest y it.stands (from_less (length it.before + 1) (length y) after last ps ds w (omega (arith, size)) later) in
        let one = done_one q it.before it.item it.act it.deed it.own in
        let few = done_few q x it.before (prefix_trans x is.reached it.before known it.seen) in
        let asked = it.asked in
        omega (arith, few_later, one, few, asked)

    by : HasEnded q whole j p s after is → length (done_for q x) ≤ length s.asked
    by (inl entry) =
        let k = entry.banked.number in
        let middle = stand is.between s.asked is.reached in
        let done = done_at k j middle after entry.banked entry.banked.place entry.left in
        let it = entry_acted q k whole j p s after is done port front (asks_one j middle after entry.banked entry.left) in
        let size = ap length done.log ∙ size_more done.before (link k (length (chain_of k done.before)) (Does (Leaves (entry_of done.share j.judged done.status))) done.next) in
        acted it (from_front (length done.before + 1) after last ps ds w (omega (arith, size)))
    by (inr (inl quiet)) =
        let asks = subst (λ (o : Option Publish). AsksForLoad is.between.port o quiet.windowed.old quiet.windowed.new s.asked after.asked) quiet.none quiet.windowed.asks_for in
        let same = ap length asks.1 in
        let few = prefix_length x is.reached known in
        let size = prefix_length is.reached after.front quiet.windowed.front in
        let few_later = rest x stands (from_front (length x) after last ps ds w (omega (arith, few, size))) in
        omega (arith, same, few_later)
    by (inr (inr one)) = acted (load_acted q whole j p s after is one) (from_publish q whole j p s after last is one ps ds w listed begins)

-- At a place of the list at which the next command is not yet taken, a port did no more than it asked for.
pub acts_few : Laws → (n : Node) (q : ℕ) (whole x : List HistoryEntry) (s last : Standing) (ps : List Cargo) (ds : List Deed) (w : Worked s ps ds last) → AreListed whole → IsPrefix last.front whole → length (done_for q whole) ≤ length last.asked
    → s.pass.port ≡ q → AreDealtInFull n s ps ds last w → AreLoadsPlaced q whole s ps ds last w → IsPrefix x whole → IsFrom (length x) s last ps ds w → length (done_for q x) ≤ length s.asked
acts_few laws n q whole x s last [] [] w listed begins did port full placed stands from =
    let few = done_few q x whole stands in let same = ap (λ (y : Standing). length y.asked) w in omega (arith, few, did, same)
acts_few laws n q whole x s last [] (d ∷ ds) w listed begins did port full placed stands from = absurd w
acts_few laws n q whole x s last (p ∷ ps) [] w listed begins did port full placed stands from = absurd w
acts_few laws n q whole x s last (p ∷ ps) (Dropped ∷ ds) w listed begins did port full placed stands from =
    let same = ap (λ (y : Standing). length y.asked) w.1.same in
    let rest = acts_few laws n q whole x w.0 last ps ds w.2 listed begins did (ap (λ (y : Standing). y.pass.port) w.1.same ∙ port) full.1 placed stands from in
    omega (arith, same, rest)
acts_few laws n q whole x s last (p ∷ ps) (Answered reply ∷ ds) w listed begins did port full placed stands from =
    let same = ap (λ (y : Standing). length y.asked) w.1.same in
    let rest = acts_few laws n q whole x w.0 last ps ds w.2 listed begins did (ap (λ (y : Standing). y.pass.port) w.1.same ∙ port) full.1 placed stands from in
    omega (arith, same, rest)
acts_few laws n q whole x s last (p ∷ ps) (Judged j ∷ ds) w listed begins did port full placed stands from =
    let front = prefix_trans w.0.front last.front whole (worked_front w.0 last ps ds w.2) begins in
    let own = (one_counted laws.counts (Judged j) p s w.0 w.1).port ∙ port in
    judged_few q whole x s last w.0 j p ps ds w.1 w.2 listed begins port front stands from (ended q whole j p s w.0 w.1 full.0 placed.0)
    (λ y stands_y from_y. acts_few laws n q whole y w.0 last ps ds w.2 listed begins did own full.1 placed.1 stands_y from_y)
