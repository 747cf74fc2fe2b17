-- What was asked for in lines, and what was done.
use Rattle.std.proofs.Common.{◌≡◌, ◌≢◌, ℕ, ◌+◌, ◌==◌, Bool, true, false, cond, List, [], ◌∷◌, ◌++◌, length, refl, ap, sym, ◌∙◌, subst, arith, append_assoc, length-append}
use Rattle.std.specs.Prelude.{map}
use Rattle.std.specs.List.{filter}
use Rattle.std.proofs.lemmas.List.{append-nil, map-append}
use Rattle.std.proofs.lemmas.List.Elements.{filter-append}
use Rattle.std.proofs.lemmas.Bool.Decides.{nat_tests}
use mathlib.Core.List.{IsPrefix}
use Rattle.bank.specs.Records.{EntryValue, numbers_of}
use Rattle.annals.specs.declared.deed.Act.{Act}
use Rattle.annals.specs.declared.deed.Act.TheVariants.{Leaves, Sets, Rotates, Publishes}
use Rattle.annals.specs.declared.deed.Deed.{Deed}
use Rattle.annals.specs.declared.deed.Deed.TheVariants.{Opens, Does, Asks, Shows}
use Rattle.annals.specs.declared.deed.HistoryEntry.{HistoryEntry}
use Rattle.annals.specs.Chains.{AreAskedBefore, Due, IsDue, asked_by, asked_in, at_bank, at_chain, chain_of, done_for, left_in, line_chain_of, link, owner_of, with_asked, with_done, with_left}
use Rattle.annals.specs.Banks.{entries_in, entries_of, numbers_at, with_entry}
use Rattle.lemmas.proofs.Prefixes.{prefix_trans, prefix_self, prefix_whole, prefix_length}

-- ---- chains

-- what begins a history has a chain that begins the history's
pub chain_prefix : (c : ℕ) (xs ys : List HistoryEntry) → IsPrefix xs ys → IsPrefix (chain_of c xs) (chain_of c ys)
chain_prefix c xs ys p = (chain_of c p.0, sym (filter-append (λ (l : HistoryEntry). l.chain == c) xs p.0) ∙ ap (chain_of c) p.1)

pub chain_snoc : (c : ℕ) (log : List HistoryEntry) (e : HistoryEntry) → chain_of c (log ++ e ∷ []) ≡ chain_of c log ++ cond (e.chain == c) (e ∷ []) []
chain_snoc c log e = filter-append (λ (l : HistoryEntry). l.chain == c) log (e ∷ [])

pub own_snoc : (c : ℕ) (log : List HistoryEntry) (e : HistoryEntry) → e.chain ≡ c → chain_of c (log ++ e ∷ []) ≡ chain_of c log ++ e ∷ []
own_snoc c log e is =
    let same : (e.chain == c) ≡ true = grind (arith, nat_tests, is) in
    chain_snoc c log e ∙ ap (λ (b : Bool). chain_of c log ++ cond b (e ∷ []) []) same

-- what is whole stays so in each beginning that has it
pub between_same : (c : ℕ) (own v log : List HistoryEntry) → IsPrefix own v → IsPrefix v log → chain_of c own ≡ chain_of c log → chain_of c v ≡ chain_of c log
between_same c own v log begins pre same =
    let low = prefix_length (chain_of c own) (chain_of c v) (chain_prefix c own v begins) in
    prefix_whole (chain_of c v) (chain_of c log) (chain_prefix c v log pre) (omega (arith, low, ap length same))

-- ---- what was asked for

asked_joined : (d : Deed) (xs ys : List Due) → with_asked d (xs ++ ys) ≡ with_asked d xs ++ ys
asked_joined (Opens x) xs ys = refl
asked_joined (Does a) xs ys = refl
asked_joined (Asks x) xs ys = refl
asked_joined Shows xs ys = refl

asked_append : (ls ms : List HistoryEntry) → asked_in (ls ++ ms) ≡ asked_in ls ++ asked_in ms
asked_append [] ms = refl
asked_append (l ∷ ls) ms = ap (with_asked l.deed) (asked_append ls ms) ∙ asked_joined l.deed (asked_in ls) (asked_in ms)

pub asked_prefix : (owner : ℕ) (xs ys : List HistoryEntry) → IsPrefix xs ys → IsPrefix (asked_by owner xs) (asked_by owner ys)
asked_prefix owner xs ys p =
    let c = chain_prefix (line_chain_of owner) xs ys p in
    (asked_in c.0, sym (asked_append (chain_of (line_chain_of owner) xs) c.0) ∙ ap asked_in c.1)

-- a line that asks for one more
pub asked_more : (owner place next : ℕ) (log : List HistoryEntry) (due : Due) → asked_by owner (log ++ link (line_chain_of owner) place (Asks due) next ∷ []) ≡ asked_by owner log ++ due ∷ []
asked_more owner place next log due =
    ap asked_in (own_snoc (line_chain_of owner) log (link (line_chain_of owner) place (Asks due) next) refl)
    ∙ asked_append (chain_of (line_chain_of owner) log) (link (line_chain_of owner) place (Asks due) next ∷ [])

-- ---- what was done

done_joined : (owner chain : ℕ) (d : Deed) (xs ys : List Due) → with_done owner chain d (xs ++ ys) ≡ with_done owner chain d xs ++ ys
done_joined owner chain (Opens x) xs ys = refl
done_joined owner chain (Does a) xs ys = here (owner_of a == owner) where
  here : (b : Bool) → cond b ((chain, a) ∷ (xs ++ ys)) (xs ++ ys) ≡ cond b ((chain, a) ∷ xs) xs ++ ys
  here true = refl
  here false = refl
done_joined owner chain (Asks x) xs ys = refl
done_joined owner chain Shows xs ys = refl

pub done_append : (owner : ℕ) (ls ms : List HistoryEntry) → done_for owner (ls ++ ms) ≡ done_for owner ls ++ done_for owner ms
done_append owner [] ms = refl
done_append owner (l ∷ ls) ms = ap (with_done owner l.chain l.deed) (done_append owner ls ms) ∙ done_joined owner l.chain l.deed (done_for owner ls) (done_for owner ms)

pub done_prefix : (owner : ℕ) (xs ys : List HistoryEntry) → IsPrefix xs ys → IsPrefix (done_for owner xs) (done_for owner ys)
done_prefix owner xs ys p = (done_for owner p.0, sym (done_append owner xs p.0) ∙ ap (done_for owner) p.1)

-- an act of the line's owner
pub done_more : (owner chain place next : ℕ) (log : List HistoryEntry) (a : Act) → owner_of a ≡ owner → done_for owner (log ++ link chain place (Does a) next ∷ []) ≡ done_for owner log ++ (chain, a) ∷ []
done_more owner chain place next log a is =
    let same : (owner_of a == owner) ≡ true = grind (arith, nat_tests, is) in
    done_append owner log (link chain place (Does a) next ∷ []) ∙ ap (λ (b : Bool). done_for owner log ++ cond b ((chain, a) ∷ []) []) same

-- ---- at one chain

pub acts_append : (k : ℕ) (xs ys : List Due) → at_chain k (xs ++ ys) ≡ at_chain k xs ++ at_chain k ys
acts_append k xs ys =
    ap (map (λ (d : Due). d.1)) (filter-append (λ (d : Due). d.0 == k) xs ys)
    ∙ map-append (λ (d : Due). d.1) (filter (λ (d : Due). d.0 == k) xs) (filter (λ (d : Due). d.0 == k) ys)

acts_own : (k : ℕ) (a : Act) (ds : List Due) → at_chain k ((k, a) ∷ ds) ≡ a ∷ at_chain k ds
acts_own k a ds =
    let same : (k == k) ≡ true = grind (arith, nat_tests) in
    ap (λ (b : Bool). map (λ (d : Due). d.1) (cond b ((k, a) ∷ filter (λ (d : Due). d.0 == k) ds) (filter (λ (d : Due). d.0 == k) ds))) same

acts_other : (k chain : ℕ) (a : Act) (ds : List Due) → k ≢ chain → at_chain k ((chain, a) ∷ ds) ≡ at_chain k ds
acts_other k chain a ds not =
    let other : (chain == k) ≡ false = grind (arith, nat_tests, not) in
    ap (λ (b : Bool). map (λ (d : Due). d.1) (cond b ((chain, a) ∷ filter (λ (d : Due). d.0 == k) ds) (filter (λ (d : Due). d.0 == k) ds))) other

left_joined : (a : Act) (xs ys : List EntryValue) → with_left a (xs ++ ys) ≡ with_left a xs ++ ys
left_joined (Leaves e) xs ys = refl
left_joined (Sets x) xs ys = refl
left_joined (Rotates x) xs ys = refl
left_joined (Publishes x) xs ys = refl

pub left_append : (xs ys : List Act) → left_in (xs ++ ys) ≡ left_in xs ++ left_in ys
left_append [] ys = refl
left_append (a ∷ xs) ys = ap (with_left a) (left_append xs ys) ∙ left_joined a (left_in xs) (left_in ys)

pub at_append : (k : ℕ) (xs ys : List Due) → at_bank k (xs ++ ys) ≡ at_bank k xs ++ at_bank k ys
at_append k xs ys = ap left_in (acts_append k xs ys) ∙ left_append (at_chain k xs) (at_chain k ys)

pub at_own : (k : ℕ) (e : EntryValue) (ds : List Due) → at_bank k ((k, Leaves e) ∷ ds) ≡ e ∷ at_bank k ds
at_own k e ds = ap left_in (acts_own k (Leaves e) ds)

pub at_other : (k chain : ℕ) (a : Act) (ds : List Due) → k ≢ chain → at_bank k ((chain, a) ∷ ds) ≡ at_bank k ds
at_other k chain a ds not = ap left_in (acts_other k chain a ds not)

-- ---- what a chain has of one owner

-- the act of a deed, if it is one of that owner, before those
abbrev with_act : ℕ → Deed → List Act → List Act
with_act owner (Opens x) acts = acts
with_act owner (Does a) acts = cond (owner_of a == owner) (a ∷ acts) acts
with_act owner (Asks x) acts = acts
with_act owner Shows acts = acts

-- the acts of that owner among those deeds
acts_in : ℕ → List HistoryEntry → List Act
acts_in owner [] = []
acts_in owner (l ∷ ls) = with_act owner l.deed (acts_in owner ls)

own_acts : (owner k chain : ℕ) (d : Deed) (ds : List Due) (acts : List Act) → chain ≡ k → at_chain k ds ≡ acts → at_chain k (with_done owner chain d ds) ≡ with_act owner d acts
own_acts owner k chain (Opens x) ds acts is same = same
own_acts owner k chain (Does a) ds acts is same = here (owner_of a == owner) where
  here : (b : Bool) → at_chain k (cond b ((chain, a) ∷ ds) ds) ≡ cond b (a ∷ acts) acts
  here true = ap (λ (n : ℕ). at_chain k ((n, a) ∷ ds)) is ∙ (acts_own k a ds ∙ ap (λ (xs : List Act). a ∷ xs) same)
  here false = same
own_acts owner k chain (Asks x) ds acts is same = same
own_acts owner k chain Shows ds acts is same = same

other_acts : (owner k chain : ℕ) (d : Deed) (ds : List Due) → k ≢ chain → at_chain k (with_done owner chain d ds) ≡ at_chain k ds
other_acts owner k chain (Opens x) ds not = refl
other_acts owner k chain (Does a) ds not = here (owner_of a == owner) where
  here : (b : Bool) → at_chain k (cond b ((chain, a) ∷ ds) ds) ≡ at_chain k ds
  here true = acts_other k chain a ds not
  here false = refl
other_acts owner k chain (Asks x) ds not = refl
other_acts owner k chain Shows ds not = refl

-- what somebody did at a chain are the acts of that owner in it
acts_at : (owner k : ℕ) (log : List HistoryEntry) → at_chain k (done_for owner log) ≡ acts_in owner (chain_of k log)
unfolding acts_in
acts_at owner k [] = refl
acts_at owner k (l ∷ ls) = here (l.chain == k) refl (acts_at owner k ls) where
  here : (b : Bool) → (l.chain == k) ≡ b → at_chain k (done_for owner ls) ≡ acts_in owner (chain_of k ls)
      → at_chain k (with_done owner l.chain l.deed (done_for owner ls)) ≡ acts_in owner (cond b (l ∷ chain_of k ls) (chain_of k ls))
  here true is rest =
      let same : l.chain ≡ k = grind (arith, nat_tests, is) in
      own_acts owner k l.chain l.deed (done_for owner ls) (acts_in owner (chain_of k ls)) same rest
  here false is rest =
      let not : k ≢ l.chain = λ same. absurd (grind (arith, nat_tests, is, same)) in
      other_acts owner k l.chain l.deed (done_for owner ls) not ∙ rest

-- the entries of a port
abbrev pub by_port : ℕ → List EntryValue → List EntryValue
by_port port entries = filter (λ (e : EntryValue). e.port == port) entries

-- if no act of the instrument leaves an entry, those of an owner are those of a port
left_of : (owner : ℕ) (d : Deed) (acts : List Act) (es : List EntryValue) → left_in acts ≡ by_port owner es → left_in (with_act owner d acts) ≡ by_port owner (with_entry d es)
left_of owner (Opens x) acts es same = same
left_of owner (Does (Leaves e)) acts es same = here (e.port == owner) where
  here : (b : Bool) → left_in (cond b (Leaves e ∷ acts) acts) ≡ cond b (e ∷ by_port owner es) (by_port owner es)
  here true = ap (λ (xs : List EntryValue). e ∷ xs) same
  here false = same
left_of owner (Does (Sets x)) acts es same = here (owner_of (Sets x) == owner) where
  here : (b : Bool) → left_in (cond b (Sets x ∷ acts) acts) ≡ by_port owner es
  here true = same
  here false = same
left_of owner (Does (Rotates x)) acts es same = here (owner_of (Rotates x) == owner) where
  here : (b : Bool) → left_in (cond b (Rotates x ∷ acts) acts) ≡ by_port owner es
  here true = same
  here false = same
left_of owner (Does (Publishes x)) acts es same = here (owner_of (Publishes x) == owner) where
  here : (b : Bool) → left_in (cond b (Publishes x ∷ acts) acts) ≡ by_port owner es
  here true = same
  here false = same
left_of owner (Asks x) acts es same = same
left_of owner Shows acts es same = same

left_by : (owner : ℕ) (ls : List HistoryEntry) → left_in (acts_in owner ls) ≡ by_port owner (entries_in ls)
unfolding acts_in
left_by owner [] = refl
left_by owner (l ∷ ls) = left_of owner l.deed (acts_in owner ls) (entries_in ls) (left_by owner ls)

-- what a port left at a bank are its entries in the bank's chain
pub done_at : (port k : ℕ) (log : List HistoryEntry) → at_bank k (done_for port log) ≡ by_port port (entries_of k log)
done_at port k log = ap left_in (acts_at port k log) ∙ left_by port (chain_of k log)

pub done_numbers : (port k : ℕ) (log : List HistoryEntry) → numbers_at k (done_for port log) ≡ numbers_of port (entries_of k log)
done_numbers port k log = ap (map (λ (e : EntryValue). e.number)) (done_at port k log)

pub numbers_append : (k : ℕ) (xs ys : List Due) → numbers_at k (xs ++ ys) ≡ numbers_at k xs ++ numbers_at k ys
numbers_append k xs ys =
    ap (map (λ (e : EntryValue). e.number)) (at_append k xs ys) ∙ map-append (λ (e : EntryValue). e.number) (at_bank k xs) (at_bank k ys)

pub numbers_prefix : (k : ℕ) (xs ys : List Due) → IsPrefix xs ys → IsPrefix (numbers_at k xs) (numbers_at k ys)
numbers_prefix k xs ys p = (numbers_at k p.0, sym (numbers_append k xs p.0) ∙ ap (numbers_at k) p.1)

-- ---- what is due

-- what follows is nothing, or has an act at the chain
none_there : (k : ℕ) (a : Act) (more rest ends : List Due) → at_chain k more ≡ [] → more ++ rest ≡ (k, a) ∷ ends → more ≡ []
none_there k a [] rest ends none is = refl
none_there k a (d ∷ ds) rest ends none is =
    let first : d ≡ (k, a) = cc is in
    let some : at_chain k ((k, a) ∷ ds) ≡ [] = subst (λ (x : Due). at_chain k (x ∷ ds) ≡ []) first none in
    absurd (cc (sym (acts_own k a ds) ∙ some))

nothing_more : (xs more : List Act) → xs ++ more ≡ xs → more ≡ []
nothing_more xs [] is = refl
nothing_more xs (m ∷ ms) is = absurd (omega (arith, ap length is, length-append xs (m ∷ ms)))

drop_front : {A : Type 0} (xs ys zs : List A) → xs ++ ys ≡ xs ++ zs → ys ≡ zs
drop_front [] ys zs is = is
drop_front (x ∷ xs) ys zs is = drop_front xs ys zs (cc is)

-- if the chain is whole, nobody did what is due there
pub none_more : (owner k : ℕ) (a : Act) (v log : List HistoryEntry) → IsPrefix v log → chain_of k v ≡ chain_of k log → IsPrefix (done_for owner log) (asked_by owner log)
    → asked_by owner v ≡ done_for owner v ++ (k, a) ∷ [] → done_for owner log ≡ done_for owner v
none_more owner k a v log pre same asked due =
    let done = done_prefix owner v log pre in
    let ahead = asked_prefix owner v log pre in
    let here : at_chain k (done_for owner log) ≡ at_chain k (done_for owner v) =
    acts_at owner k log ∙ (ap (acts_in owner) (sym same) ∙ sym (acts_at owner k v)) in
    let none : at_chain k done.0 ≡ [] =
    nothing_more (at_chain k (done_for owner v)) (at_chain k done.0) (sym (acts_append k (done_for owner v) done.0) ∙ (ap (at_chain k) done.1 ∙ here)) in
    let long : done_for owner v ++ (done.0 ++ asked.0) ≡ asked_by owner log = append_assoc' (done_for owner v) done.0 asked.0 ∙ (ap (λ (ds : List Due). ds ++ asked.0) done.1 ∙ asked.1) in
    let wide : asked_by owner log ≡ done_for owner v ++ ((k, a) ∷ ahead.0) = sym ahead.1 ∙ (ap (λ (ds : List Due). ds ++ ahead.0) due ∙ sym (append_assoc' (done_for owner v) ((k, a) ∷ []) ahead.0)) in
    let empty : done.0 ≡ [] = none_there k a done.0 asked.0 ahead.0 none (drop_front (done_for owner v) (done.0 ++ asked.0) ((k, a) ∷ ahead.0) (long ∙ wide)) in
    sym done.1 ∙ (ap (λ (ds : List Due). done_for owner v ++ ds) empty ∙ append-nil (done_for owner v))
  where
    append_assoc' : (xs ys zs : List Due) → xs ++ (ys ++ zs) ≡ (xs ++ ys) ++ zs
    append_assoc' xs ys zs = sym (append_assoc xs ys zs)

-- a deed that did nothing
abbrev pub LeavesNone : HistoryEntry → Type 0
LeavesNone e = (owner : ℕ) → done_for owner (e ∷ []) ≡ []

same_done : (owner : ℕ) (log : List HistoryEntry) (e : HistoryEntry) → done_for owner (e ∷ []) ≡ [] → done_for owner (log ++ e ∷ []) ≡ done_for owner log
same_done owner log e none = done_append owner log (e ∷ []) ∙ (ap (λ (ds : List Due). done_for owner log ++ ds) none ∙ append-nil (done_for owner log))

snoc_prefix : (log : List HistoryEntry) (e : HistoryEntry) → IsPrefix log (log ++ e ∷ [])
snoc_prefix log e = (e ∷ [], refl)

-- what did nothing keeps the order
pub none_asked : (log : List HistoryEntry) (e : HistoryEntry) → LeavesNone e → AreAskedBefore log → AreAskedBefore (log ++ e ∷ [])
none_asked log e none asked = λ owner.
    rw (same_done owner log e (none owner)) (prefix_trans (done_for owner log) (asked_by owner log) (asked_by owner (log ++ e ∷ [])) (asked owner) (asked_prefix owner log (log ++ e ∷ []) (snoc_prefix log e)))

does_asked : (log v : List HistoryEntry) (chain place next : ℕ) (a : Act) → IsPrefix v log → chain_of chain v ≡ chain_of chain log → IsDue chain (Does a) v → AreAskedBefore log
    → AreAskedBefore (log ++ link chain place (Does a) next ∷ [])
does_asked log v chain place next a pre same due asked = λ owner. by owner (owner_of a == owner) refl where
  e : HistoryEntry
  e = link chain place (Does a) next

  by : (owner : ℕ) (b : Bool) → (owner_of a == owner) ≡ b → IsPrefix (done_for owner (log ++ e ∷ [])) (asked_by owner (log ++ e ∷ []))
  by owner true is =
      let own : owner_of a ≡ owner = grind (arith, nat_tests, is) in
      let mine : asked_by owner v ≡ done_for owner v ++ (chain, a) ∷ [] = subst (λ (p : ℕ). asked_by p v ≡ done_for p v ++ (chain, a) ∷ []) own due in
      let more : done_for owner log ≡ done_for owner v = none_more owner chain a v log pre same (asked owner) mine in
      let all : done_for owner (log ++ e ∷ []) ≡ asked_by owner v = done_more owner chain place next log a own ∙ (ap (λ (ds : List Due). ds ++ (chain, a) ∷ []) more ∙ sym mine) in
      rw all (prefix_trans (asked_by owner v) (asked_by owner log) (asked_by owner (log ++ e ∷ [])) (asked_prefix owner v log pre) (asked_prefix owner log (log ++ e ∷ []) (snoc_prefix log e)))
  by owner false is =
      let none : done_for owner (e ∷ []) ≡ [] = ap (λ (b : Bool). cond b ((chain, a) ∷ []) []) is in
      rw (same_done owner log e none) (prefix_trans (done_for owner log) (asked_by owner log) (asked_by owner (log ++ e ∷ [])) (asked owner) (asked_prefix owner log (log ++ e ∷ []) (snoc_prefix log e)))

-- a deed that is due keeps the order
pub still_asked : (log v : List HistoryEntry) (chain place next : ℕ) (deed : Deed) → IsPrefix v log → chain_of chain v ≡ chain_of chain log → IsDue chain deed v → AreAskedBefore log
    → AreAskedBefore (log ++ link chain place deed next ∷ [])
still_asked log v chain place next (Opens x) pre same due asked = none_asked log (link chain place (Opens x) next) (λ owner. refl) asked
still_asked log v chain place next (Does a) pre same due asked = does_asked log v chain place next a pre same due asked
still_asked log v chain place next (Asks x) pre same due asked = none_asked log (link chain place (Asks x) next) (λ owner. refl) asked
still_asked log v chain place next Shows pre same due asked = absurd due

-- ---- a line that asks and does

-- of two lists that begin each other
both_begin : {A : Type 0} (xs ys : List A) → IsPrefix xs ys → IsPrefix ys xs → xs ≡ ys
both_begin xs ys p q = prefix_whole xs ys p (prefix_length ys xs q)

-- if the line has asked for one more, that one is due
pub asks_next : (owner place next : ℕ) (own before left reached : List HistoryEntry) (due : Due) → AreAskedBefore before → chain_of (line_chain_of owner) before ≡ chain_of (line_chain_of owner) own
    → IsPrefix (asked_by owner own) (done_for owner left) → IsPrefix left before → reached ≡ before ++ link (line_chain_of owner) place (Asks due) next ∷ []
    → asked_by owner reached ≡ done_for owner reached ++ due ∷ []
asks_next owner place next own before left reached due asked same all pre is =
    let mine : asked_by owner before ≡ asked_by owner own = ap asked_in same in
    let low : IsPrefix (asked_by owner before) (done_for owner before) =
    rw mine (prefix_trans (asked_by owner own) (done_for owner left) (done_for owner before) all (done_prefix owner left before pre)) in
    let even : done_for owner before ≡ asked_by owner before = both_begin (done_for owner before) (asked_by owner before) (asked owner) low in
    let e = link (line_chain_of owner) place (Asks due) next in
    let stays : done_for owner reached ≡ done_for owner before = ap (done_for owner) is ∙ same_done owner before e refl in
    ap (asked_by owner) is ∙ (asked_more owner place next before due ∙ ap (λ (ds : List Due). ds ++ due ∷ []) (sym even ∙ sym stays))

-- and after it was done, all that the line asked for was done
pub all_left : (owner chain place next : ℕ) (reached before after : List HistoryEntry) (a : Act) → owner_of a ≡ owner → AreAskedBefore before → IsPrefix reached before
    → chain_of chain reached ≡ chain_of chain before → asked_by owner reached ≡ done_for owner reached ++ (chain, a) ∷ []
    → after ≡ before ++ link chain place (Does a) next ∷ [] → IsPrefix (asked_by owner reached) (done_for owner after)
all_left owner chain place next reached before after a own asked pre same due is =
    let more : done_for owner before ≡ done_for owner reached = none_more owner chain a reached before pre same (asked owner) due in
    let all : done_for owner after ≡ asked_by owner reached = ap (done_for owner) is ∙ (done_more owner chain place next before a own ∙ (ap (λ (ds : List Due). ds ++ (chain, a) ∷ []) more ∙ sym due)) in
    rw all (prefix_self (asked_by owner reached))
