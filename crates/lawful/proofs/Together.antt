-- What threads did at fresh ports side by side is a lawful history, apart from what cells answered: link by link of the
-- list.
use Rattle.std.proofs.Common.{◌≡◌, ◌==◌, ◌+◌, ◌<◌, ◌≤◌, ◌⊎◌, ℕ, Bool, true, false, cond, List, [], ◌∷◌, ◌++◌, length, map, Option, Some, None, refl, sym, ap, subst, ◌∙◌, inl, inr, arith, append_assoc, eqb-true}
use Rattle.std.proofs.lemmas.Bool.{cases_Bool, cases_lt}
use Rattle.std.proofs.lemmas.Bool.Decides.{nat_tests}
use Rattle.std.proofs.lemmas.List.{append-nil, length-map, take_all}
use mathlib.Core.List.{IsPrefix}
use Rattle.spw.specs.Cargo.{Cargo}
use Rattle.bpf.specs.Program.{Program}
use Rattle.node_programs.specs.declared.publishes.Publish.{Publish}
use Rattle.annals.specs.declared.deed.Act.{Act}
use Rattle.annals.specs.declared.deed.Act.TheVariants.{Publishes}
use Rattle.annals.specs.declared.deed.Deed.{Deed as LinkDeed}
use Rattle.annals.specs.declared.deed.Deed.TheVariants.{Opens, Does, Asks, Shows}
use Rattle.annals.specs.declared.deed.HistoryEntry.{HistoryEntry}
use Rattle.annals.specs.Banks.{with_entry}
use Rattle.annals.specs.Chains.{Due, done_for, instrument, owner_of}
use Rattle.annals.specs.Publishes.{publishes_chain, publishes_of, with_publish}
use Rattle.annals.specs.Shown.{shown_in, shown_of, shows}
use Rattle.ports.specs.Due.{Deed, Standing}
use Rattle.ports.specs.Due.Deed.{Dropped, Answered as Replied, Judged}
use Rattle.sched.specs.Agreement.{slot_and_program}
use Rattle.sched.specs.History.{History, Start, opened}
use Rattle.sched.specs.Looking.{Node, staging}
use Rattle.lawful.specs.Happenings.{Happening, HappenBy, happened_at}
use Rattle.lawful.specs.Together.{Account, AreServedTogether, HaveLawfulHistory, ThreadsAreLawful, published_first}
use Rattle.lawful.proofs.Accounts.{from_front, from_publish, load_acted, loads_placed, moment_stands}
use Rattle.lawful.proofs.Alone.{Laws, worked_front}
use Rattle.lawful.proofs.Growing.{taken_longer}
use Rattle.lawful.proofs.Idling.{IsKnown}
use Rattle.lawful.proofs.Keeping.{StaysElsewhere, elsewhere_same}
use Rattle.lawful.proofs.Links.{not_same, IsNoneOf, at_place, done_few, done_own, done_prefix, done_same, entries_same, front_of, longer_has, none_asks, none_opens, none_other, none_shows, published_few, published_one, published_same, seen_is, seen_same, shown_one, shown_same, size_more}
use Rattle.lawful.proofs.Settling.{all_settled}
use Rattle.lawful.proofs.Stepping.{entry_step, from_entry, idle_not, later_not, port_further, publish_step, show_step, shown_not}
use Rattle.lawful.proofs.Worlds.{IsBeginning, IsBegun, IsCommon, IsIdleBy, IsPort, IsPortAt, IsToEnter, IsToPublish, IsToShow, IsUnpublished, IsWaiting, IsWorld, enter_acted, entry_at, front_open, port_moved, waits_for}
use Rattle.lemmas.proofs.Prefixes.{prefix_length, prefix_same, prefix_trans, prefix_whole}

-- ---- what ports wait for

-- that port waits for that from now on
abbrev set_wait : ℕ → Option ℕ → (ℕ → Option ℕ) → ℕ → Option ℕ
set_wait q wait waits r = cond (r == q) wait (waits r)

set_here : (q : ℕ) (wait : Option ℕ) (waits : ℕ → Option ℕ) → set_wait q wait waits q ≡ wait
set_here q wait waits = let same : (q == q) ≡ true = grind (arith, nat_tests) in ap (λ (b : Bool). cond b wait (waits q)) same

set_there : (q r : ℕ) (wait : Option ℕ) (waits : ℕ → Option ℕ) → (r ≡ q → ⊥) → set_wait q wait waits r ≡ waits r
set_there q r wait waits other = let apart : (r == q) ≡ false = grind (arith, nat_tests, other) in ap (λ (b : Bool). cond b wait (waits r)) apart

none_some : (x : Option ℕ) (k : ℕ) → x ≡ None → x ≡ Some k → ⊥
none_some x k none some = cc (none, some)

some_number : (x : Option ℕ) (j k : ℕ) → x ≡ Some j → x ≡ Some k → j ≡ k
some_number x j k a b = cc (a, b)

-- whose act a deed is
abbrev deed_owner : LinkDeed → ℕ
deed_owner (Opens x) = 0
deed_owner (Does act) = owner_of act
deed_owner (Asks x) = 0
deed_owner Shows = 0

same_owner : (q r : ℕ) (a b : Publish) → Does (Publishes (q, a)) ≡ Does (Publishes (r, b)) → r ≡ q
same_owner q r a b eq = sym (ap deed_owner eq)

-- ---- one link

-- all ports after that link
record HaveStepped (n : Node) (accounts : ℕ → Account) (whole : List HistoryEntry) (firsts : List Publish) (pre : List HistoryEntry) (l : HistoryEntry) : Type 0 where
  after : History
  waits : ℕ → Option ℕ
  world : IsWorld n accounts whole firsts false (pre ++ l ∷ []) after waits

-- ---- the programs that the node begins with

-- after as many were published, those come first
all_begun : (firsts : List Publish) (pre : List HistoryEntry) → IsBeginning firsts pre ⊎ IsBegun firsts pre → length firsts ≤ length (publishes_of pre) → IsPrefix firsts (publishes_of pre)
all_begun firsts pre (inl x) many = prefix_same firsts (publishes_of pre) (prefix_whole (publishes_of pre) firsts x.programs many)
all_begun firsts pre (inr x) many = x.programs

-- and by then the instrument did all that it does
all_did : (firsts : List Publish) (pre : List HistoryEntry) → IsBeginning firsts pre ⊎ IsBegun firsts pre → length firsts ≤ length (publishes_of pre) → length (done_for instrument pre) ≡ length firsts
all_did firsts pre (inl x) many = x.did ∙ ap length (prefix_whole (publishes_of pre) firsts x.programs many)
all_did firsts pre (inr x) many = x.did

-- what the instrument does next is the publish of the next of those
record IsNextFirst (firsts : List Publish) (done : List Publish) (x : Due) : Type 0 where
  next : Publish
  is : x ≡ published_first next
  begins : IsPrefix (done ++ next ∷ []) firsts

due_same : (x y : Due) (xs ys : List Due) → x ∷ xs ≡ y ∷ ys → x ≡ y
due_same x y xs ys same = cc same

dues_same : (x y : Due) (xs ys : List Due) → x ∷ xs ≡ y ∷ ys → xs ≡ ys
dues_same x y xs ys same = cc same

next_first : (firsts done : List Publish) (dues : List Due) (x : Due) → IsPrefix done firsts → IsPrefix (dues ++ x ∷ []) (map published_first firsts) → length dues ≡ length done → IsNextFirst firsts done x
next_first [] done dues x begins stands same = absurd (let few = prefix_length (dues ++ x ∷ []) [] stands in let size = size_more dues x in omega (arith, few, size))
next_first (f ∷ fs) [] [] x begins stands same = record { next = f; is = due_same x (published_first f) stands.0 (map published_first fs) stands.1; begins = (fs, refl) }
next_first (f ∷ fs) [] (d ∷ dues) x begins stands same = absurd (omega (arith, same))
next_first (f ∷ fs) (e ∷ done) [] x begins stands same = absurd (omega (arith, same))
next_first (f ∷ fs) (e ∷ done) (d ∷ dues) x begins stands same =
    let rest = next_first fs done dues x (begins.0, cc (begins.1)) (stands.0, dues_same d (published_first f) ((dues ++ x ∷ []) ++ stands.0) (map published_first fs) stands.1) (omega (arith, same)) in
    let head : e ≡ f = cc (begins.1) in
    record { next = rest.next; is = rest.is; begins = (rest.begins.0, cc (head, rest.begins.1)) }

module _ (laws : Laws) (n : Node) (accounts : ℕ → Account) (whole : List HistoryEntry) (served : AreServedTogether n accounts whole) where
  abbrev firsts_all : List Publish
  firsts_all = served.factory ∷ served.firsts

  -- as many as the node begins with, and the factory program
  firsts_count : length firsts_all ≡ length n.firsts + 1
  firsts_count = let many = length-map served.firsts slot_and_program in let same = ap length served.firsts_are in omega (arith, many, same)

  -- of a history that published nothing they are all that is known
  firsts_known : (h : History) → IsUnpublished n h → IsKnown n h firsts_all
  firsts_known h fresh = record {
    shown = λ slot. laws.agrees n Start firsts_all slot (served.program, served.firsts_are) ∙ ap (λ (x : Program × ℕ). Some x) (sym (fresh.programs slot));
    count = (let many = firsts_count in let count = fresh.count in omega (arith, many, count));
    sizes = served.sizes;
  }

  begins : (q : ℕ) → q < n.ports → IsPrefix (accounts q).last.front whole
  begins q there = (served.each q there).begins

  did : (q : ℕ) → q < n.ports → length (done_for q whole) ≤ length (accounts q).last.asked
  did q there = let same = ap length (served.each q there).did in omega (arith, same)

  module _ (pre : List HistoryEntry) (l : HistoryEntry) (stands : IsPrefix (pre ++ l ∷ []) whole) (h : History) (waits : ℕ → Option ℕ) (world : IsWorld n accounts whole firsts_all true pre h waits) where
    few_pre : shown_in pre ≤ length (publishes_of pre)
    few_pre = served.listed pre (front_of pre whole l stands)

    further : (r : ℕ) (there : r < n.ports) → IsNoneOf r l.deed → ((number : ℕ) → waits r ≡ Some number → shown_in pre ≤ number → IsToShow n whole r (accounts r) pre h → shown_in (pre ++ l ∷ []) ≤ number)
        → IsPort n whole r (accounts r) false (pre ++ l ∷ []) h (waits r)
    further r there none unseen =
        port_further laws n whole r (accounts r) pre l served.listed stands (begins r there) (did r there) h (waits r) none unseen (world.ports r there)

    -- if readers see no more, each port that waits still waits
    still_unseen : shows l.deed ≡ 0 → (r : ℕ) (number : ℕ) → waits r ≡ Some number → shown_in pre ≤ number → IsToShow n whole r (accounts r) pre h → shown_in (pre ++ l ∷ []) ≤ number
    still_unseen quiet r number is low x = let same = shown_same pre l quiet in omega (arith, same, low)

    -- ---- a link that does nothing

    common_same : shows l.deed ≡ 0 → with_entry l.deed [] ≡ [] → IsCommon n (pre ++ l ∷ []) h
    common_same quiet no_entry =
        let same = shown_same pre l quiet in
        let seen = seen_same pre l few_pre quiet in
        record {
          lawful = world.common.lawful;
          known = λ some. subst (λ (ps : List Publish). IsKnown n h ps) (sym seen) (world.common.known (omega (arith, some, same)));
          fresh = λ none. world.common.fresh (omega (arith, none, same));
          banks = λ k bank at. world.common.banks k bank at ∙ sym (entries_same k pre l no_entry);
          nowhere = world.common.nowhere;
        }

    opening_same : IsNoneOf instrument l.deed → with_publish l.deed [] ≡ [] → IsBeginning firsts_all (pre ++ l ∷ []) ⊎ IsBegun firsts_all (pre ++ l ∷ [])
    opening_same none no_publish =
        let acts = ap length (done_same instrument pre l none) in
        let programs = published_same pre l no_publish in
        elim world.opening [
          | inl x ↦ inl (record { programs = subst (λ (ps : List Publish). IsPrefix ps firsts_all) (sym programs) x.programs; did = acts ∙ (x.did ∙ sym (ap length programs)) })
          | inr x ↦ inr (record { programs = subst (λ (ps : List Publish). IsPrefix firsts_all ps) (sym programs) x.programs; did = acts ∙ x.did })
        ]

    pending_same : shows l.deed ≡ 0 → with_publish l.deed [] ≡ [] → (number : ℕ) → shown_in (pre ++ l ∷ []) ≤ number → number < length (publishes_of (pre ++ l ∷ [])) → length n.firsts < number → IsWaiting n waits number
    pending_same quiet no_publish number low high some =
        let same = shown_same pre l quiet in
        let programs = ap length (published_same pre l no_publish) in
        world.pending number (omega (arith, low, same)) (omega (arith, high, programs)) some

    quiet_link : shows l.deed ≡ 0 → with_entry l.deed [] ≡ [] → with_publish l.deed [] ≡ [] → ((r : ℕ) → IsNoneOf r l.deed) → HaveStepped n accounts whole firsts_all pre l
    quiet_link quiet no_entry no_publish none = record {
      after = h;
      waits = waits;
      world = record {
        common = common_same quiet no_entry;
        ports = λ r there. further r there (none r) (still_unseen quiet r);
        pending = pending_same quiet no_publish;
        opening = opening_same (none instrument) no_publish;
      };
    }

    -- ---- a port's act

    module _ (q : ℕ) (there : q < n.ports) (act : Act) (is : l.deed ≡ Does act) (own : owner_of act ≡ q) where
      not_theirs : (r : ℕ) → (r ≡ q → ⊥) → IsNoneOf r l.deed
      not_theirs r other = none_other r l.deed act is (λ same. other (sym same ∙ own))

      not_instrument : instrument ≡ q → ⊥
      not_instrument same = let few = served.few in absurd (omega (arith, few, there, same))

      does_quiet : shows l.deed ≡ 0
      does_quiet = ap shows is

      -- all other ports, if what that port did left a history that goes on
      others_on : (after : History) → StaysElsewhere n q h after → (r : ℕ) → r < n.ports → (r ≡ q → ⊥) → IsPort n whole r (accounts r) false (pre ++ l ∷ []) after (waits r)
      others_on after stays r there_r other =
          port_moved n whole q r (accounts r) false (pre ++ l ∷ []) h after (waits r) stays other (further r there_r (not_theirs r other) (still_unseen does_quiet r))

      entered : IsToEnter n whole q (accounts q) pre h → None ≡ waits q → HaveStepped n accounts whole firsts_all pre l
      entered x none =
          let a = accounts q in
          let done = entry_at n whole q a x.open_at x.entry in
          let place = x.place in
          let high : length done.before ≤ length pre = elim (cases_lt (length pre) (length done.before)) [
            | inl less ↦ absurd (later_not laws n whole q a pre l served.listed stands (begins q there) (did q there) x.open_at act is own x.acts (enter_acted n whole q a x.open_at x.entry (front_open n whole q a x.open_at (begins q there))) (from_entry laws n whole q a pre l served.listed stands (begins q there) (did q there) x.open_at x.entry) less)
            | inr few ↦ few
          ] in
          let it = entry_step laws n whole q a pre l served.listed stands (begins q there) (did q there) h x there served.banks world.common (omega (arith, place, high)) in
          let no_publish : with_publish l.deed [] ≡ [] = entry_publishes x place high in
          record {
            after = it.after;
            waits = waits;
            world = record {
              common = it.common;
              ports = λ r there_r. elim (cases_Bool (r == q)) [
                | inl same ↦ subst (λ (i : ℕ). IsPort n whole i (accounts i) false (pre ++ l ∷ []) it.after (waits i)) (sym (eqb-true r q same)) (record { at = it.port.at; wait_is = it.port.wait_is ∙ none })
                | inr apart ↦ others_on it.after it.elsewhere r there_r (not_same r q apart)
              ];
              pending = pending_same does_quiet no_publish;
              opening = opening_same (not_theirs instrument not_instrument) no_publish;
            };
          }
        where
          entry_publishes : (x : IsToEnter n whole q (accounts q) pre h) → length pre ≤ length (entry_at n whole q (accounts q) x.open_at x.entry).before → length (entry_at n whole q (accounts q) x.open_at x.entry).before ≤ length pre → with_publish l.deed [] ≡ []
          entry_publishes x low high =
              let it = enter_acted n whole q (accounts q) x.open_at x.entry (front_open n whole q (accounts q) x.open_at (begins q there)) in
              let that = at_place it.before pre whole it.item l it.stands stands (omega (arith, low, high)) in
              ap (λ (i : HistoryEntry). with_publish i.deed []) (sym that.item)

      published_now : IsToPublish n whole q (accounts q) pre h → None ≡ waits q → HaveStepped n accounts whole firsts_all pre l
      published_now x none =
          let a = accounts q in
          let o = x.open_at in
          let place = x.place in
          let it = load_acted q whole o.j o.p o.s o.after o.is x.one in
          let high : length x.one.placed.before ≤ length pre = elim (cases_lt (length pre) (length x.one.placed.before)) [
            | inl less ↦ absurd (later_not laws n whole q a pre l served.listed stands (begins q there) (did q there) o act is own x.acts it (from_publish q whole o.j o.p o.s o.after a.last o.is x.one o.ps o.ds o.worked served.listed (begins q there)) less)
            | inr few ↦ few
          ] in
          let same : length x.one.placed.before ≡ length pre = omega (arith, place, high) in
          let shown = publish_step laws n whole q a pre l served.listed stands (begins q there) (did q there) h x same in
          let that = at_place it.before pre whole it.item l it.stands stands same in
          let number = length x.one.windowed.old in
          let met : publishes_of pre ≡ x.one.windowed.old = ap publishes_of (sym that.front) ∙ x.one.placed.met in
          let met_count = ap length met in
          let one : publishes_of (pre ++ l ∷ []) ≡ publishes_of pre ++ x.one.publish ∷ [] =
          published_one pre l q x.one.publish (ap (λ (i : HistoryEntry). i.chain) (sym that.item) ∙ x.one.placed.chain) (ap (λ (i : HistoryEntry). i.deed) (sym that.item) ∙ x.one.placed.deed) in
          let more = ap length one ∙ size_more (publishes_of pre) x.one.publish in
          let quiet = shown_same pre l does_quiet in
          let no_entry : with_entry l.deed [] ≡ [] = ap (λ (i : HistoryEntry). with_entry i.deed []) (sym that.item) ∙ ap (λ (d : LinkDeed). with_entry d []) x.one.placed.deed in
          let next = set_wait q (Some number) waits in
          let acts = ap length (done_same instrument pre l (not_theirs instrument not_instrument)) in
          let some : length n.firsts < number = old_some x in
          let many : length firsts_all ≤ length (publishes_of pre) = (let count = firsts_count in omega (arith, count, met_count, some)) in
          record {
            after = h;
            waits = next;
            world = record {
              common = common_same does_quiet no_entry;
              ports = λ r there_r. elim (cases_Bool (r == q)) [
                | inl here ↦ subst (λ (i : ℕ). IsPort n whole i (accounts i) false (pre ++ l ∷ []) h (next i)) (sym (eqb-true r q here)) (record { at = inr (inr (inr shown.0)); wait_is = ap (λ (i : ℕ). Some i) shown.1 ∙ sym (set_here q (Some number) waits) })
                | inr apart ↦
                    let other : r ≡ q → ⊥ = not_same r q apart in
                    subst (λ (w : Option ℕ). IsPort n whole r (accounts r) false (pre ++ l ∷ []) h w) (sym (set_there q r (Some number) waits other)) (others_on h (elsewhere_same n q h) r there_r other)
              ];
              pending = λ m low below positive. elim (cases_lt m (length (publishes_of pre))) [
                | inl was ↦
                    let waiting = world.pending m (omega (arith, low, quiet)) was positive in
                    let other : waiting.port ≡ q → ⊥ = λ eq. absurd (none_some (waits q) m (sym none) (subst (λ (i : ℕ). waits i ≡ Some m) eq waiting.is)) in
                    record { port = waiting.port; there = waiting.there; is = set_there q waiting.port (Some number) waits other ∙ waiting.is }
                | inr last ↦
                    let this : number ≡ m = omega (arith, last, below, more, met_count) in
                    record { port = q; there = there; is = set_here q (Some number) waits ∙ ap (λ (i : ℕ). Some i) this }
              ];
              opening = inr (record {
                programs = prefix_trans firsts_all (publishes_of pre) (publishes_of (pre ++ l ∷ [])) (all_begun firsts_all pre world.opening many) (x.one.publish ∷ [], sym one);
                did = acts ∙ all_did firsts_all pre world.opening many;
              });
            };
          }
        where
          old_some : (x : IsToPublish n whole q (accounts q) pre h) → length n.firsts < length x.one.windowed.old
          old_some x =
              let o = x.open_at in
              let longer = prefix_length o.is.between.programs x.one.windowed.old x.one.windowed.begins in
              let knows = prefix_length o.s.pass.programs o.is.between.programs (taken_longer o.j o.p o.s o.after o.is) in
              let some = o.mine.some in
              omega (arith, longer, knows, some)

      acted : HaveStepped n accounts whole firsts_all pre l
      acted = by (world.ports q there).at (world.ports q there).wait_is
        where
          by : (at : IsPortAt n whole q (accounts q) true pre h) → waits_for n whole q (accounts q) true pre h at ≡ waits q → HaveStepped n accounts whole firsts_all pre l
          by (inl x) wait = absurd (idle_not laws n whole q (accounts q) pre l served.listed stands (begins q there) (did q there) h act is own x)
          by (inr (inl x)) wait = entered x wait
          by (inr (inr (inl x))) wait = published_now x wait
          by (inr (inr (inr x))) wait = absurd (shown_not laws n whole q (accounts q) pre l served.listed stands (begins q there) (did q there) h act is own x)

    -- ---- an act of nobody's port

    -- the instrument publishes the programs that the node begins with, before all others, and does nothing else
    opened_by_instrument : (act : Act) → l.deed ≡ Does act → owner_of act ≡ instrument → HaveStepped n accounts whole firsts_all pre l
    opened_by_instrument act is own = elim world.opening [
      | inr begun ↦ absurd (let all = begun.did in let more = count in let fewer = few_acts in omega (arith, all, more, fewer))
      | inl beginning ↦
          let next = next_first firsts_all (publishes_of pre) (done_for instrument pre) (l.chain, act) beginning.programs in_firsts beginning.did in
          let chain : l.chain ≡ publishes_chain = ap (λ (d : Due). d.0) next.is in
          let deed : l.deed ≡ Does (Publishes (instrument, next.next)) = is ∙ ap (λ (d : Due). Does d.1) next.is in
          let quiet : shows l.deed ≡ 0 = ap shows deed in
          let no_entry : with_entry l.deed [] ≡ [] = ap (λ (d : LinkDeed). with_entry d []) deed in
          let one : publishes_of (pre ++ l ∷ []) ≡ publishes_of pre ++ next.next ∷ [] = published_one pre l instrument next.next chain deed in
          let begin : IsPrefix (publishes_of (pre ++ l ∷ [])) firsts_all = subst (λ (ps : List Publish). IsPrefix ps firsts_all) (sym one) next.begins in
          let size = ap length one ∙ size_more (publishes_of pre) next.next in
          record {
            after = h;
            waits = waits;
            world = record {
              common = common_same quiet no_entry;
              ports = λ r there. further r there (none_other r l.deed act is (λ same. let few = served.few in absurd (omega (arith, few, there, same, own)))) (still_unseen quiet r);
              pending = λ m low below some. absurd (let few = prefix_length (publishes_of (pre ++ l ∷ [])) firsts_all begin in let many = firsts_count in omega (arith, below, some, few, many));
              opening = inl (record { programs = begin; did = (let before = beginning.did in let more = count in omega (arith, before, more, size)) });
            };
          }
    ]
      where
        acts : done_for instrument (pre ++ l ∷ []) ≡ done_for instrument pre ++ (l.chain, act) ∷ []
        acts = done_own instrument pre l act is own

        in_whole : IsPrefix (done_for instrument (pre ++ l ∷ [])) (map published_first firsts_all)
        in_whole = subst (λ (ds : List Due). IsPrefix (done_for instrument (pre ++ l ∷ [])) ds) served.opening (done_prefix instrument (pre ++ l ∷ []) whole stands)

        in_firsts : IsPrefix (done_for instrument pre ++ (l.chain, act) ∷ []) (map published_first firsts_all)
        in_firsts = subst (λ (ds : List Due). IsPrefix ds (map published_first firsts_all)) acts in_whole

        count : length (done_for instrument (pre ++ l ∷ [])) ≡ length (done_for instrument pre) + 1
        count = ap length acts ∙ size_more (done_for instrument pre) (l.chain, act)

        few_acts : length (done_for instrument (pre ++ l ∷ [])) ≤ length firsts_all
        few_acts =
            let few = prefix_length (done_for instrument (pre ++ l ∷ [])) (map published_first firsts_all) in_whole in
            let many = length-map firsts_all published_first in
            omega (arith, few, many)

    acted_elsewhere : (act : Act) → l.deed ≡ Does act → n.ports ≤ owner_of act → HaveStepped n accounts whole firsts_all pre l
    acted_elsewhere act is past = elim (cases_Bool (owner_of act == instrument)) [
      | inl same ↦ opened_by_instrument act is (eqb-true (owner_of act) instrument same)
      | inr apart ↦
          let other : owner_of act ≡ instrument → ⊥ = not_same (owner_of act) instrument apart in
          let none = ap length (served.others (owner_of act) past other) in
          let few = done_few (owner_of act) (pre ++ l ∷ []) whole stands in
          let one = ap length (done_own (owner_of act) pre l act is refl) ∙ size_more (done_for (owner_of act) pre) (l.chain, act) in
          absurd (omega (arith, none, few, one))
    ]

    -- ---- readers see one more

    module _ (is : l.deed ≡ Shows) where
      none_does : (r : ℕ) → IsNoneOf r l.deed
      none_does r = none_shows r l.deed is

      no_publish : with_publish l.deed [] ≡ []
      no_publish = ap (λ (d : LinkDeed). with_publish d []) is

      no_entry_left : with_entry l.deed [] ≡ []
      no_entry_left = ap (λ (d : LinkDeed). with_entry d []) is

      one_more : shown_in (pre ++ l ∷ []) ≡ shown_in pre + 1
      one_more = shown_one pre l is

      programs_same : length (publishes_of (pre ++ l ∷ [])) ≡ length (publishes_of pre)
      programs_same = ap length (published_same pre l no_publish)

      few_now : shown_in (pre ++ l ∷ []) ≤ length (publishes_of (pre ++ l ∷ []))
      few_now = served.listed (pre ++ l ∷ []) stands

      waits_later : (number : ℕ) → shown_in (pre ++ l ∷ []) ≤ number → number < length (publishes_of (pre ++ l ∷ [])) → length n.firsts < number → IsWaiting n waits number
      waits_later number low below some = let more = one_more in let same = programs_same in world.pending number (omega (arith, low, more)) (omega (arith, below, same)) some

      -- a program that the node begins with: no port waits for it
      first_shown : shown_in pre ≤ length n.firsts → HaveStepped n accounts whole firsts_all pre l
      first_shown low =
          let unpublished = world.common.fresh low in
          let more = one_more in
          record {
            after = h;
            waits = waits;
            world = record {
              common = record {
                lawful = world.common.lawful;
                known = λ some. subst (λ (ps : List Publish). IsKnown n h ps) (sym (all_seen low some)) (firsts_known h unpublished);
                fresh = λ _. unpublished;
                banks = λ k bank at. world.common.banks k bank at ∙ sym (entries_same k pre l no_entry_left);
                nowhere = world.common.nowhere;
              };
              ports = λ r there. further r there (none_does r) (λ number waits_is unseen x. some_number_waits r there number waits_is x (omega (arith, low, more)));
              pending = waits_later;
              opening = opening_same (none_does instrument) no_publish;
            };
          }
        where
          -- after the last of them is seen, all are seen, and nothing else
          all_seen : shown_in pre ≤ length n.firsts → length n.firsts < shown_in (pre ++ l ∷ []) → shown_of (pre ++ l ∷ []) ≡ firsts_all
          all_seen low some =
              let more = one_more in
              let many = firsts_count in
              let few = few_now in
              let same = programs_same in
              let begun : IsPrefix firsts_all (publishes_of pre) = all_begun firsts_all pre world.opening (omega (arith, many, few, same, some)) in
              seen_is (pre ++ l ∷ []) firsts_all (subst (λ (ps : List Publish). IsPrefix firsts_all ps) (sym (published_same pre l no_publish)) begun) (omega (arith, more, many, low, some))

          first_by : (r number : ℕ) → waits r ≡ Some number → shown_in (pre ++ l ∷ []) ≤ length n.firsts + 1 → (at : IsPortAt n whole r (accounts r) true pre h) → waits_for n whole r (accounts r) true pre h at ≡ waits r → shown_in (pre ++ l ∷ []) ≤ number
          first_by r number waits_is one (inl y) wait = absurd (none_some (waits r) number (sym wait) waits_is)
          first_by r number waits_is one (inr (inl y)) wait = absurd (none_some (waits r) number (sym wait) waits_is)
          first_by r number waits_is one (inr (inr (inl y))) wait = absurd (none_some (waits r) number (sym wait) waits_is)
          first_by r number waits_is one (inr (inr (inr y))) wait =
              let same = some_number (waits r) (length y.one.windowed.old) number (sym wait) waits_is in
              let o = y.open_at in
              let longer = prefix_length o.is.between.programs y.one.windowed.old y.one.windowed.begins in
              let knows = prefix_length o.s.pass.programs o.is.between.programs (taken_longer o.j o.p o.s o.after o.is) in
              let some = o.mine.some in
              omega (arith, same, longer, knows, some, one)

          -- a port waits for none of them
          some_number_waits : (r : ℕ) (there : r < n.ports) (number : ℕ) → waits r ≡ Some number → IsToShow n whole r (accounts r) pre h → shown_in (pre ++ l ∷ []) ≤ length n.firsts + 1 → shown_in (pre ++ l ∷ []) ≤ number
          some_number_waits r there number waits_is x one = first_by r number waits_is one (world.ports r there).at (world.ports r there).wait_is

      -- two ports wait for two programs
      waits_apart : (q r : ℕ) (x : IsToShow n whole q (accounts q) pre h) (y : IsToShow n whole r (accounts r) pre h) → length x.one.windowed.old ≡ length y.one.windowed.old → r ≡ q
      waits_apart q r x y same =
          let ax = load_acted q whole x.open_at.j x.open_at.p x.open_at.s x.open_at.after x.open_at.is x.one in
          let ay = load_acted r whole y.open_at.j y.open_at.p y.open_at.s y.open_at.after y.open_at.is y.one in
          let met_x = ap length x.one.placed.met in
          let met_y = ap length y.one.placed.met in
          let that = at_place ax.before ay.before whole ax.item ay.item ax.stands ay.stands (no_other ax.before ay.before q r x.one.publish y.one.publish ax.item ay.item x.one.placed.chain x.one.placed.deed y.one.placed.chain y.one.placed.deed ax.stands ay.stands (omega (arith, met_x, met_y, same))) in
          same_owner q r x.one.publish y.one.publish (sym x.one.placed.deed ∙ (ap (λ (i : HistoryEntry). i.deed) that.item ∙ y.one.placed.deed))
        where
          -- if as many publishes are before a publish as before another, it is that one
          not_before : (b c : List HistoryEntry) (q : ℕ) (a : Publish) (i : HistoryEntry) → i.chain ≡ publishes_chain → i.deed ≡ Does (Publishes (q, a)) → IsPrefix (b ++ i ∷ []) whole → IsPrefix c whole → length (publishes_of b) ≡ length (publishes_of c) → length c ≤ length b
          not_before b c q a i chain deed b_stands c_stands same_count = elim (cases_lt (length b) (length c)) [
            | inl less ↦
                let few = published_few (b ++ i ∷ []) c (longer_has b c whole i b_stands c_stands less) in
                let one = ap length (published_one b i q a chain deed) ∙ size_more (publishes_of b) a in
                absurd (omega (arith, few, one, same_count))
            | inr high ↦ high
          ]

          no_other : (b c : List HistoryEntry) (q r : ℕ) (a d : Publish) (i k : HistoryEntry) → i.chain ≡ publishes_chain → i.deed ≡ Does (Publishes (q, a)) → k.chain ≡ publishes_chain → k.deed ≡ Does (Publishes (r, d)) → IsPrefix (b ++ i ∷ []) whole → IsPrefix (c ++ k ∷ []) whole
              → length (publishes_of b) ≡ length (publishes_of c) → length b ≡ length c
          no_other b c q r a d i k chain_i deed_i chain_k deed_k b_stands c_stands same_count =
              let low = not_before b c q a i chain_i deed_i b_stands (front_of c whole k c_stands) same_count in
              let high = not_before c b r d k chain_k deed_k c_stands (front_of b whole i b_stands) (sym same_count) in
              omega (arith, low, high)

      -- a later program: the port that waits for it goes on
      next_shown : length n.firsts < shown_in pre → HaveStepped n accounts whole firsts_all pre l
      next_shown some =
          let few = few_now in
          let more = one_more in
          let same = programs_same in
          let waiting = world.pending (shown_in pre) (omega arith) (omega (arith, few, more, same)) some in
          by waiting.port waiting.there waiting.is (world.ports waiting.port waiting.there).at (world.ports waiting.port waiting.there).wait_is
        where
          port_by : (q r : ℕ) (x : IsToShow n whole q (accounts q) pre h) → length x.one.windowed.old ≡ shown_in pre → (number : ℕ) → waits r ≡ Some number → number ≡ shown_in pre → (at : IsPortAt n whole r (accounts r) true pre h)
              → waits_for n whole r (accounts r) true pre h at ≡ waits r → r ≡ q
          port_by q r x number_is number is_r here (inl y) wait = absurd (none_some (waits r) number (sym wait) is_r)
          port_by q r x number_is number is_r here (inr (inl y)) wait = absurd (none_some (waits r) number (sym wait) is_r)
          port_by q r x number_is number is_r here (inr (inr (inl y))) wait = absurd (none_some (waits r) number (sym wait) is_r)
          port_by q r x number_is number is_r here (inr (inr (inr y))) wait =
              let same = some_number (waits r) (length y.one.windowed.old) number (sym wait) is_r in
              waits_apart q r x y (omega (arith, same, number_is, here))

          -- which port waits for that number
          same_port : (q r : ℕ) (there : r < n.ports) (x : IsToShow n whole q (accounts q) pre h) → length x.one.windowed.old ≡ shown_in pre → (number : ℕ) → waits r ≡ Some number → number ≡ shown_in pre → r ≡ q
          same_port q r there x number_is number is_r here = port_by q r x number_is number is_r here (world.ports r there).at (world.ports r there).wait_is

          by : (q : ℕ) (there : q < n.ports) → waits q ≡ Some (shown_in pre) → (at : IsPortAt n whole q (accounts q) true pre h) → waits_for n whole q (accounts q) true pre h at ≡ waits q → HaveStepped n accounts whole firsts_all pre l
          by q there is_q (inl x) wait = absurd (none_some (waits q) (shown_in pre) (sym wait) is_q)
          by q there is_q (inr (inl x)) wait = absurd (none_some (waits q) (shown_in pre) (sym wait) is_q)
          by q there is_q (inr (inr (inl x))) wait = absurd (none_some (waits q) (shown_in pre) (sym wait) is_q)
          by q there is_q (inr (inr (inr x))) wait =
              let number_is = some_number (waits q) (length x.one.windowed.old) (shown_in pre) (sym wait) is_q in
              let more = one_more in
              let it = show_step laws n whole q (accounts q) pre l served.listed stands (begins q there) (did q there) h x there is world.common number_is in
              let next = set_wait q None waits in
              let unseen : (r : ℕ) → r < n.ports → (r ≡ q → ⊥) → (number : ℕ) → waits r ≡ Some number → shown_in pre ≤ number → IsToShow n whole r (accounts r) pre h → shown_in (pre ++ l ∷ []) ≤ number =
              λ r there_r other number is_r low y. elim (cases_lt (shown_in pre) number) [
                | inl less ↦ omega (arith, less, more)
                | inr high ↦ absurd (other (same_port q r there_r x number_is number is_r (omega (arith, low, high))))
              ] in
              record {
                after = it.after;
                waits = next;
                world = record {
                  common = it.common;
                  ports = λ r there_r. elim (cases_Bool (r == q)) [
                    | inl here ↦ subst (λ (i : ℕ). IsPort n whole i (accounts i) false (pre ++ l ∷ []) it.after (next i)) (sym (eqb-true r q here)) (record { at = it.port.at; wait_is = it.port.wait_is ∙ sym (set_here q None waits) })
                    | inr apart ↦
                        let other : r ≡ q → ⊥ = not_same r q apart in
                        subst (λ (w : Option ℕ). IsPort n whole r (accounts r) false (pre ++ l ∷ []) it.after w) (sym (set_there q r None waits other))
                        (port_moved n whole q r (accounts r) false (pre ++ l ∷ []) h it.after (waits r) it.elsewhere other (further r there_r (none_does r) (unseen r there_r other)))
                  ];
                  pending = λ m low below positive.
                      let waiting = waits_later m low below positive in
                      let other : waiting.port ≡ q → ⊥ = λ eq. (
                      let same = some_number (waits q) (shown_in pre) m is_q (subst (λ (i : ℕ). waits i ≡ Some m) eq waiting.is) in
                      absurd (omega (arith, same, low, more))) in
                      record { port = waiting.port; there = waiting.there; is = set_there q waiting.port None waits other ∙ waiting.is };
                  opening = opening_same (none_does instrument) no_publish;
                };
              }

      shown_link : HaveStepped n accounts whole firsts_all pre l
      shown_link = elim (cases_lt (length n.firsts) (shown_in pre)) [
        | inl some ↦ next_shown some
        | inr none ↦ first_shown (omega (arith, none))
      ]

    -- all ports after the link
    step : HaveStepped n accounts whole firsts_all pre l
    step = by l.deed refl
      where
        by : (d : LinkDeed) → l.deed ≡ d → HaveStepped n accounts whole firsts_all pre l
        by (Opens x) is = quiet_link (ap shows is) (ap (λ (d : LinkDeed). with_entry d []) is) (ap (λ (d : LinkDeed). with_publish d []) is) (λ r. none_opens r l.deed x is)
        by (Asks x) is = quiet_link (ap shows is) (ap (λ (d : LinkDeed). with_entry d []) is) (ap (λ (d : LinkDeed). with_publish d []) is) (λ r. none_asks r l.deed x is)
        by Shows is = shown_link is
        by (Does act) is = elim (cases_lt (owner_of act) n.ports) [
          | inl there ↦ acted (owner_of act) there act is refl
          | inr past ↦ acted_elsewhere act is past
        ]

  -- ---- all links

  -- all ports after the list, each of which did all that it does
  walk : (pre post : List HistoryEntry) (h : History) (waits : ℕ → Option ℕ) → pre ++ post ≡ whole → IsWorld n accounts whole firsts_all false pre h waits → (after : History) × (waiting : ℕ → Option ℕ) × IsWorld n accounts whole firsts_all true whole after waiting
  walk pre [] h waits all world =
      let here : pre ≡ whole = sym (append-nil pre) ∙ all in
      let it = all_settled laws n accounts whole firsts_all pre h waits served.listed ([], all) begins world in
      (it.0, waits, subst (λ (xs : List HistoryEntry). IsWorld n accounts whole firsts_all true xs it.0 waits) here it.1)
  walk pre (l ∷ post) h waits all world =
      let all_on : (pre ++ l ∷ []) ++ post ≡ whole = append_assoc pre (l ∷ []) post ∙ all in
      let stands : IsPrefix (pre ++ l ∷ []) whole = (post, all_on) in
      let it = all_settled laws n accounts whole firsts_all pre h waits served.listed (front_of pre whole l stands) begins world in
      let on = step pre l stands it.0 waits it.1 in
      walk (pre ++ l ∷ []) post on.after on.waits all_on on.world

  -- a port at the beginning
  fresh_port : (q : ℕ) → q < n.ports → IsPort n whole q (accounts q) false [] Start None
  fresh_port q there =
      let beside = served.each q there in
      let a = accounts q in
      record {
        at = inl (record {
          s = a.first;
          ps = a.packets;
          ds = a.deeds;
          idle = record {
            worked = beside.worked;
            full = beside.in_full;
            placed = loads_placed laws q whole a.first a.last a.packets a.deeds beside.worked beside.port_is beside.begins;
            from = from_front 0 a.first a.last a.packets a.deeds beside.worked (omega arith);
            still_is = tt;
            mine = record {
              port_is = beside.port_is;
              windows = beside.fresh.windows;
              some = (let count = ap length beside.fresh.programs in let many = length-map beside.fresh.firsts slot_and_program in let same = ap length beside.fresh.firsts_are in omega (arith, count, many, same));
            };
            happened = [];
            here = record { command = refl; staging_is = sym beside.fresh.staging_is; happened = refl };
            acts = sym (ap length beside.asked);
            so_far = λ rest by. by;
          };
        });
        wait_is = refl;
      }

  fresh_world : IsWorld n accounts whole firsts_all false [] Start (λ q. None)
  fresh_world = record {
    common = record {
      lawful = tt;
      known = λ some. absurd (omega (arith, some));
      fresh = λ none. record { programs = λ slot. refl; count = refl };
      banks = λ k bank at. refl;
      nowhere = λ q past. record { nothing = refl; closed = refl };
    };
    ports = fresh_port;
    pending = λ number low below some. absurd (omega (arith, below));
    opening = inl (record { programs = (firsts_all, refl); did = refl });
  }

  -- ---- the end

  -- a port after the list did all
  record IsDoneAt (q : ℕ) (h : History) : Type 0 where
    happened : HappenBy q (accounts q).packets (accounts q).deeds (happened_at q h)
    closed : opened h q ≡ None
    staging_is : staging n h q ≡ (accounts q).last.pass.staging

  done_port : (q : ℕ) → q < n.ports → (h : History) (wait : Option ℕ) → IsPort n whole q (accounts q) true whole h wait → IsDoneAt q h
  done_port q there h wait port = by port.at
    where
      idle_end : (s : Standing) (ps : List Cargo) (ds : List Deed) → IsIdleBy n whole q (accounts q) true whole h s ps ds → IsDoneAt q h
      idle_end s [] [] x = record {
        happened = subst (λ (hs : List Happening). HappenBy q (accounts q).packets (accounts q).deeds hs) (append-nil x.happened ∙ sym x.here.happened) (x.so_far [] refl);
        closed = x.here.command;
        staging_is = x.here.staging_is ∙ sym (ap (λ (y : Standing). y.pass.staging) x.worked);
      }
      idle_end s [] (d ∷ ds) x = absurd x.still_is
      idle_end s (p ∷ ps) [] x = absurd x.still_is
      idle_end s (p ∷ ps) (Dropped ∷ ds) x = absurd x.still_is
      idle_end s (p ∷ ps) (Replied reply ∷ ds) x = absurd x.still_is
      idle_end s (p ∷ ps) (Judged j ∷ ds) x =
          let w = x.worked in
          let front = prefix_trans w.0.front (accounts q).last.front whole (worked_front w.0 (accounts q).last ps ds w.2) (begins q there) in
          let few = prefix_length w.1.moment.at whole (moment_stands j p s w.0 whole w.1 front) in
          let from = x.from in
          absurd (omega (arith, few, from))

      by : IsPortAt n whole q (accounts q) true whole h → IsDoneAt q h
      by (inl x) = idle_end x.s x.ps x.ds x.idle
      by (inr (inl x)) =
          let it = enter_acted n whole q (accounts q) x.open_at x.entry (front_open n whole q (accounts q) x.open_at (begins q there)) in
          let few = prefix_length (it.before ++ it.item ∷ []) whole it.stands in
          let size = size_more it.before it.item in
          let place = x.place in
          absurd (omega (arith, few, size, place))
      by (inr (inr (inl x))) =
          let o = x.open_at in
          let it = load_acted q whole o.j o.p o.s o.after o.is x.one in
          let few = prefix_length (it.before ++ it.item ∷ []) whole it.stands in
          let size = size_more it.before it.item in
          let place = x.place in
          absurd (omega (arith, few, size, place))
      by (inr (inr (inr x))) =
          let all = served.shown in
          let unseen = x.unseen in
          let o = x.open_at in
          let act = load_acted q whole o.j o.p o.s o.after o.is x.one in
          let few = published_few (act.before ++ act.item ∷ []) whole act.stands in
          let one = ap length (published_one act.before act.item q x.one.publish x.one.placed.chain x.one.placed.deed) ∙ size_more (publishes_of act.before) x.one.publish in
          let met = ap length x.one.placed.met in
          absurd (omega (arith, all, unseen, few, one, met))

  together : HaveLawfulHistory n accounts whole
  together =
      let end = walk [] whole Start (λ q. None) refl fresh_world in
      let h = end.0 in
      let world = end.2 in
      let common = world.common in
      let all = served.shown in
      let some : length n.firsts < shown_in whole = (let one = begun_whole world.opening in omega (arith, one, all)) in
      let seen : shown_of whole ≡ publishes_of whole = take_all (shown_in whole) (publishes_of whole) all in
      let known : IsKnown n h (publishes_of whole) = subst (λ (ps : List Publish). IsKnown n h ps) seen (common.known some) in
      record {
        history = h;
        lawful = common.lawful;
        happened = λ q there. (done_port q there h (end.1 q) (world.ports q there)).happened;
        elsewhere = λ q past. (common.nowhere q past).nothing;
        closed = λ q. elim (cases_lt q n.ports) [
          | inl there ↦ (done_port q there h (end.1 q) (world.ports q there)).closed
          | inr past ↦ (common.nowhere q past).closed
        ];
        entries_are = common.banks;
        programs = known.shown;
        count = known.count;
        stagings = λ q there. (done_port q there h (end.1 q) (world.ports q there)).staging_is;
      }
    where
      -- the instrument published the programs that the node begins with
      begun_whole : IsBeginning firsts_all whole ⊎ IsBegun firsts_all whole → length n.firsts < length (publishes_of whole)
      begun_whole (inl x) =
          let all = ap length served.opening in
          let many = length-map firsts_all published_first in
          let count = firsts_count in
          let acts = x.did in
          omega (arith, all, many, count, acts)
      begun_whole (inr x) = let few = prefix_length firsts_all (publishes_of whole) x.programs in let count = firsts_count in omega (arith, few, count)

pub threads_are_lawful : Laws → ThreadsAreLawful
threads_are_lawful laws = λ n accounts whole served. together laws n accounts whole served
