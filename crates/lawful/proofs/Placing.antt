-- Where the publish of a load is: between a moment and a later one, if only that was published and the port did only
-- that.
use Rattle.std.proofs.Common.{◌≡◌, ◌==◌, ◌+◌, ◌≤◌, ◌⊎◌, ℕ, List, [], ◌∷◌, ◌++◌, length, Some, refl, sym, ap, subst, ◌∙◌, inl, inr, arith, append_assoc, eqb-true, length-append}
use Rattle.std.proofs.lemmas.Bool.{cases_Bool}
use Rattle.std.proofs.lemmas.Bool.Decides.{nat_tests}
use mathlib.Core.List.{IsPrefix}
use Rattle.node_programs.specs.declared.publishes.Publish.{Publish}
use Rattle.annals.specs.declared.deed.Act.{Act}
use Rattle.annals.specs.declared.deed.Act.TheVariants.{Publishes}
use Rattle.annals.specs.declared.deed.Deed.{Deed}
use Rattle.annals.specs.declared.deed.Deed.TheVariants.{Opens, Does, Asks, Shows}
use Rattle.annals.specs.declared.deed.HistoryEntry.{HistoryEntry}
use Rattle.annals.specs.Chains.{Due, done_for, owner_of}
use Rattle.annals.specs.Publishes.{publishes_chain, publishes_of}
use Rattle.target.specs.Loads.{AsksForLoad}
use Rattle.spw.specs.Cargo.{Cargo}
use Rattle.ports.specs.Due.{Deed as Dealt, IsJudgedInRun, IsWindowEnd, Judging, Standing, Worked, stand}
use Rattle.ports.specs.Due.Deed.{Dropped, Answered, Judged}
use Rattle.lawful.proofs.Links.{IsNoneOf, count_published, done_append, done_joined, does, none_asks, none_opens, none_other, none_shows, published_one, published_prefix}
use Rattle.lemmas.proofs.Prefixes.{prefix_self, prefix_trans, prefix_whole}

-- an act of that owner
record IsActOf (q : ℕ) (d : Deed) : Type 0 where
  act : Act
  is : d ≡ Does act
  own : owner_of act ≡ q

its : (q : ℕ) (d : Deed) → IsActOf q d ⊎ IsNoneOf q d
its q (Opens x) = inr (none_opens q (Opens x) x refl)
its q (Does a) = elim (cases_Bool (owner_of a == q)) [
  | inl same ↦ inl (record { act = a; is = refl; own = eqb-true (owner_of a) q same })
  | inr apart ↦ inr (none_other q (Does a) a refl (λ eq. absurd (grind (arith, nat_tests, apart, eq))))
]
its q (Asks x) = inr (none_asks q (Asks x) x refl)
its q Shows = inr (none_shows q Shows refl)

-- what is no act of that owner leaves what the owner did
none_of : (q : ℕ) (l : HistoryEntry) (ls : List HistoryEntry) → IsNoneOf q l.deed → done_for q (l ∷ ls) ≡ done_for q ls
none_of q l ls none = done_joined q l.chain l.deed [] (done_for q ls) ∙ ap (λ (ds : List Due). ds ++ done_for q ls) (none l.chain)

due_same : (x y : Due) (xs ys : List Due) → x ∷ xs ≡ y ∷ ys → x ≡ y
due_same x y xs ys same = cc same

none_same : (x : Due) (xs : List Due) → [] ≡ x ∷ xs → ⊥
none_same x xs same = cc same

-- a link whose act is the only one
record IsThatPublish (q : ℕ) (x : Publish) (l : HistoryEntry) : Type 0 where
  chain : l.chain ≡ publishes_chain
  deed : l.deed ≡ Does (Publishes (q, x))

that_publish : (q : ℕ) (x : Publish) (l : HistoryEntry) (ls : List HistoryEntry) → IsActOf q l.deed → done_for q (l ∷ ls) ≡ (publishes_chain, Publishes (q, x)) ∷ [] → IsThatPublish q x l
that_publish q x l ls its_act only =
    let first : (l.chain, its_act.act) ∷ done_for q ls ≡ (publishes_chain, Publishes (q, x)) ∷ [] = sym (does q l.chain l.deed its_act.act (done_for q ls) its_act.is its_act.own) ∙ only in
    let same = due_same (l.chain, its_act.act) (publishes_chain, Publishes (q, x)) (done_for q ls) [] first in
    record { chain = ap (λ (d : Due). d.0) same; deed = its_act.is ∙ ap (λ (d : Due). Does d.1) same }

one_link : (l : HistoryEntry) (ls : List HistoryEntry) → length (publishes_of (l ∷ ls)) ≡ length (publishes_of (l ∷ [])) + length (publishes_of ls)
one_link l ls = count_published (l ∷ []) ls

some_first : (q : ℕ) (x : Publish) (l : HistoryEntry) (ls : List HistoryEntry) → done_for q (l ∷ ls) ≡ (publishes_chain, Publishes (q, x)) ∷ [] → (done_for q ls ≡ (publishes_chain, Publishes (q, x)) ∷ [] → 1 ≤ length (publishes_of ls))
    → IsActOf q l.deed ⊎ IsNoneOf q l.deed → 1 ≤ length (publishes_of (l ∷ ls))
some_first q x l ls only rest (inl mine) =
    let that = that_publish q x l ls mine only in
    let one : publishes_of (l ∷ []) ≡ x ∷ [] = published_one [] l q x that.chain that.deed in
    let size = ap length one in
    let all = one_link l ls in
    omega (arith, size, all)
some_first q x l ls only rest (inr none) =
    let more = rest (sym (none_of q l ls none) ∙ only) in let all = one_link l ls in omega (arith, more, all)

-- who published had something published
some_published : (q : ℕ) (x : Publish) (ls : List HistoryEntry) → done_for q ls ≡ (publishes_chain, Publishes (q, x)) ∷ [] → 1 ≤ length (publishes_of ls)
some_published q x [] only = absurd (none_same (publishes_chain, Publishes (q, x)) [] only)
some_published q x (l ∷ ls) only = some_first q x l ls only (λ rest. some_published q x ls rest) (its q l.deed)

-- the publish, and what is before it
pub record IsFound (q : ℕ) (x : Publish) (pre post : List HistoryEntry) : Type 0 where
  pub before : List HistoryEntry
  pub item : HistoryEntry
  pub chain : item.chain ≡ publishes_chain
  pub deed : item.deed ≡ Does (Publishes (q, x))
  pub begins : IsPrefix (before ++ item ∷ []) (pre ++ post)
  pub seen : IsPrefix pre before
  pub met : publishes_of before ≡ publishes_of pre

find_first : (q : ℕ) (x : Publish) (pre : List HistoryEntry) (l : HistoryEntry) (ls : List HistoryEntry) → done_for q (l ∷ ls) ≡ (publishes_chain, Publishes (q, x)) ∷ [] → length (publishes_of (l ∷ ls)) ≡ 1
    → (done_for q ls ≡ (publishes_chain, Publishes (q, x)) ∷ [] → length (publishes_of ls) ≡ 1 → IsFound q x (pre ++ l ∷ []) ls) → IsActOf q l.deed ⊎ IsNoneOf q l.deed → IsFound q x pre (l ∷ ls)
find_first q x pre l ls only many rest (inl mine) =
    let that = that_publish q x l ls mine only in
    record {
      before = pre;
      item = l;
      chain = that.chain;
      deed = that.deed;
      begins = (ls, append_assoc pre (l ∷ []) ls);
      seen = prefix_self pre;
      met = refl;
    }
find_first q x pre l ls only many rest (inr none) =
    let further = sym (none_of q l ls none) ∙ only in
    let some = some_published q x ls further in
    let all = one_link l ls in
    let it = rest further (omega (arith, many, some, all)) in
    let more = count_published pre (l ∷ []) in
    let same : publishes_of pre ≡ publishes_of (pre ++ l ∷ []) =
    prefix_whole (publishes_of pre) (publishes_of (pre ++ l ∷ [])) (published_prefix pre (pre ++ l ∷ []) (l ∷ [], refl)) (omega (arith, many, some, all, more)) in
    record {
      before = it.before;
      item = it.item;
      chain = it.chain;
      deed = it.deed;
      begins = (it.begins.0, it.begins.1 ∙ append_assoc pre (l ∷ []) ls);
      seen = prefix_trans pre (pre ++ l ∷ []) it.before (l ∷ [], refl) it.seen;
      met = it.met ∙ sym same;
    }

pub find : (q : ℕ) (x : Publish) (pre post : List HistoryEntry) → done_for q post ≡ (publishes_chain, Publishes (q, x)) ∷ [] → length (publishes_of post) ≡ 1 → IsFound q x pre post
find q x pre [] only many = absurd (none_same (publishes_chain, Publishes (q, x)) [] only)
find q x pre (l ∷ ls) only many = find_first q x pre l ls only many (λ further few. find q x (pre ++ l ∷ []) ls further few) (its q l.deed)

-- ---- the place of a load

-- the publish of that port is in the list right after those that the load met, and after all that the port knew then
pub record IsPlaced (port : ℕ) (whole known : List HistoryEntry) (old : List Publish) (publish : Publish) : Type 0 where
  pub before : List HistoryEntry
  pub item : HistoryEntry
  pub chain : item.chain ≡ publishes_chain
  pub deed : item.deed ≡ Does (Publishes (port, publish))
  pub stands : IsPrefix (before ++ item ∷ []) whole
  pub seen : IsPrefix known before
  pub met : publishes_of before ≡ old

-- what a command published, if it did, is at its place in the list
abbrev pub IsLoadPlaced : (port : ℕ) (whole : List HistoryEntry) (j : Judging) (p : Cargo) (h after : Standing) → IsJudgedInRun j p h after → Type 0
IsLoadPlaced port whole j p h after is =
    (publish : Publish) (windowed : IsWindowEnd j (stand is.between h.asked is.reached) after)
    → j.loaded ≡ Some publish → IsPlaced port whole is.reached windowed.old publish

-- the same of what became of some packets
abbrev pub AreLoadsPlaced : (port : ℕ) (whole : List HistoryEntry) (h : Standing) (ps : List Cargo) (ds : List Dealt) (after : Standing)
    → Worked h ps ds after → Type 0
AreLoadsPlaced port whole h [] [] after worked = Unit {0}
AreLoadsPlaced port whole h [] (d ∷ ds) after worked = Unit {0}
AreLoadsPlaced port whole h (p ∷ ps) [] after worked = Unit {0}
AreLoadsPlaced port whole h (p ∷ ps) (Dropped ∷ ds) after worked = AreLoadsPlaced port whole worked.0 ps ds after worked.2
AreLoadsPlaced port whole h (p ∷ ps) (Answered reply ∷ ds) after worked = AreLoadsPlaced port whole worked.0 ps ds after worked.2
AreLoadsPlaced port whole h (p ∷ ps) (Judged j ∷ ds) after worked =
    IsLoadPlaced port whole j p h worked.0 worked.1 × AreLoadsPlaced port whole worked.0 ps ds after worked.2

append_same : {A : Type 0} (xs ys zs : List A) → xs ++ ys ≡ xs ++ zs → ys ≡ zs
append_same [] ys zs same = same
append_same (x ∷ xs) ys zs same = append_same xs ys zs (cc same)

-- a load of which is known at which moment it met what was published, and what had been published and done at a later
-- one
pub placed_by : (port : ℕ) (whole known met reached : List HistoryEntry) (old new : List Publish) (asked asks : List Due) (publish : Publish) → IsPrefix known met → publishes_of met ≡ old → done_for port met ≡ asked → IsPrefix met reached
    → publishes_of reached ≡ new → done_for port reached ≡ asks → AsksForLoad port (Some publish) old new asked asks → IsPrefix reached whole → IsPlaced port whole known old publish
placed_by port whole known met reached old new asked asks publish seen met_is did goes reached_is does_now load stands =
    let due : Due = (publishes_chain, Publishes (port, publish)) in
    let all : done_for port met ++ done_for port goes.0 ≡ done_for port met ++ due ∷ [] =
    sym (done_append port met goes.0) ∙ (ap (done_for port) goes.1 ∙ (does_now ∙ (load.1 ∙ ap (λ (ds : List Due). ds ++ due ∷ []) (sym did)))) in
    let only = append_same (done_for port met) (done_for port goes.0) (due ∷ []) all in
    let count = count_published met goes.0 in
    let whole_count = ap (λ (ls : List HistoryEntry). length (publishes_of ls)) goes.1 in
    let new_count = ap length reached_is ∙ (ap length load.0 ∙ length-append old (publish ∷ [])) in
    let old_count = ap length met_is in
    let it = find port publish met goes.0 only (omega (arith, count, whole_count, new_count, old_count)) in
    record {
      before = it.before;
      item = it.item;
      chain = it.chain;
      deed = it.deed;
      stands = prefix_trans (it.before ++ it.item ∷ []) reached whole (subst (λ (ls : List HistoryEntry). IsPrefix (it.before ++ it.item ∷ []) ls) goes.1 it.begins) stands;
      seen = prefix_trans known met it.before seen it.seen;
      met = it.met ∙ met_is;
    }
