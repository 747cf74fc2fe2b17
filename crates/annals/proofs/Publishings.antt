-- The publishes in a history.
use Rattle.std.proofs.Common.{◌≡◌, ◌==◌, ℕ, Bool, true, false, cond, List, [], ◌∷◌, ◌++◌, refl, ap, sym, ◌∙◌, subst}
use Rattle.std.specs.Prelude.{map}
use Rattle.std.proofs.lemmas.List.{append-nil}
use mathlib.Core.List.{IsPrefix}
use Rattle.node_programs.specs.declared.publishes.Publish.{Publish}
use Rattle.bank.specs.Records.{EntryValue}
use Rattle.annals.specs.declared.deed.Act.{Act}
use Rattle.annals.specs.declared.deed.Act.TheVariants.{Leaves, Sets, Rotates, Publishes}
use Rattle.annals.specs.declared.deed.Deed.{Deed}
use Rattle.annals.specs.declared.deed.Deed.TheVariants.{Opens, Does, Asks, Shows}
use Rattle.annals.specs.declared.deed.HistoryEntry.{HistoryEntry}
use Rattle.annals.specs.Chains.{Due, at_bank, at_chain, chain_of, left_in, link, IsFirstOfChain}
use Rattle.annals.specs.Publishes.{EntriesAreNoLoads, LoadsAreListed, LoadsAreNoEntries, loads_in, published_in, with_published, with_publish, publishes_in, publishes_of, publishes_chain}
use Rattle.annals.proofs.Dues.{acts_append, at_append, chain_prefix, own_snoc}

with_publishes : (d : Deed) (ps qs : List Publish) → with_publish d (ps ++ qs) ≡ with_publish d ps ++ qs
with_publishes (Opens x) ps qs = refl
with_publishes (Does (Leaves e)) ps qs = refl
with_publishes (Does (Sets x)) ps qs = refl
with_publishes (Does (Rotates x)) ps qs = refl
with_publishes (Does (Publishes x)) ps qs = refl
with_publishes (Asks x) ps qs = refl
with_publishes Shows ps qs = refl

publishes_append : (ls ms : List HistoryEntry) → publishes_in (ls ++ ms) ≡ publishes_in ls ++ publishes_in ms
publishes_append [] ms = refl
publishes_append (l ∷ ls) ms = ap (λ (ps : List Publish). with_publish l.deed ps) (publishes_append ls ms) ∙ with_publishes l.deed (publishes_in ls) (publishes_in ms)

-- what begins a list of deeds has the publishes that begin the list's
pub publishes_prefix : (ls ms : List HistoryEntry) → IsPrefix ls ms → IsPrefix (publishes_in ls) (publishes_in ms)
publishes_prefix ls ms p = (publishes_in p.0, sym (publishes_append ls p.0) ∙ ap publishes_in p.1)

pub publishes_begin : (xs ys : List HistoryEntry) → IsPrefix xs ys → IsPrefix (publishes_of xs) (publishes_of ys)
publishes_begin xs ys p = publishes_prefix (chain_of publishes_chain xs) (chain_of publishes_chain ys) (chain_prefix publishes_chain xs ys p)

-- a publish that was added to a chain is one more
pub publishes_more : (c : ℕ) (old before log : List HistoryEntry) (place next by : ℕ) (publish : Publish)
    → chain_of c before ≡ chain_of c old
    → log ≡ before ++ link c place (Does (Publishes (by, publish))) next ∷ []
    → publishes_in (chain_of c log) ≡ publishes_in (chain_of c old) ++ publish ∷ []
publishes_more c old before log place next by publish same more =
    let l = link c place (Does (Publishes (by, publish))) next in
    ap (λ (ls : List HistoryEntry). publishes_in (chain_of c ls)) more
    ∙ (ap publishes_in (own_snoc c before l refl)
    ∙ (publishes_append (chain_of c before) (l ∷ [])
    ∙ ap (λ (ls : List HistoryEntry). publishes_in ls ++ publish ∷ []) same))

-- a chain that begins has no publish except what its first deed is
pub first_publishes : (c : ℕ) (v w : List HistoryEntry) (e : HistoryEntry) → e.chain ≡ c → IsFirstOfChain v w e → publishes_in (chain_of c w) ≡ with_publish e.deed []
first_publishes c v w e chain f =
    let none : chain_of c f.added.before ≡ [] = subst (λ (k : ℕ). chain_of k f.added.before ≡ []) chain f.none in
    let is : chain_of c w ≡ e ∷ [] = ap (chain_of c) f.added.log ∙ (own_snoc c f.added.before e chain ∙ ap (λ (l : List HistoryEntry). l ++ e ∷ []) none) in
    ap publishes_in is

-- ---- what lines ask for

published_joined : (a : Act) (ps qs : List Publish) → with_published a (ps ++ qs) ≡ with_published a ps ++ qs
published_joined (Leaves x) ps qs = refl
published_joined (Sets x) ps qs = refl
published_joined (Rotates x) ps qs = refl
published_joined (Publishes x) ps qs = refl

published_append : (xs ys : List Act) → published_in (xs ++ ys) ≡ published_in xs ++ published_in ys
published_append [] ys = refl
published_append (a ∷ xs) ys = ap (with_published a) (published_append xs ys) ∙ published_joined a (published_in xs) (published_in ys)

loads_append : (xs ys : List Due) → loads_in (xs ++ ys) ≡ loads_in xs ++ loads_in ys
loads_append xs ys = ap published_in (acts_append publishes_chain xs ys) ∙ published_append (at_chain publishes_chain xs) (at_chain publishes_chain ys)

pub entries_no_loads : EntriesAreNoLoads
entries_no_loads bank dues entry =
    loads_append dues ((bank, Leaves entry) ∷ []) ∙ (ap (λ (ps : List Publish). loads_in dues ++ ps) (none (bank == publishes_chain)) ∙ append-nil (loads_in dues))
  where
    none : (b : Bool) → published_in (map (λ (d : Due). d.1) (cond b ((bank, Leaves entry) ∷ []) [])) ≡ []
    none true = refl
    none false = refl

pub loads_listed : LoadsAreListed
loads_listed owner dues publish = loads_append dues ((publishes_chain, Publishes (owner, publish)) ∷ [])

pub loads_no_entries : LoadsAreNoEntries
loads_no_entries bank line publish =
    let d : Due = (publishes_chain, Publishes (line.port, publish)) in
    at_append bank line.asked (d ∷ []) ∙ (ap (λ (es : List EntryValue). at_bank bank line.asked ++ es) (none (publishes_chain == bank)) ∙ append-nil (at_bank bank line.asked))
  where
    none : (b : Bool) → left_in (map (λ (d : Due). d.1) (cond b ((publishes_chain, Publishes (line.port, publish)) ∷ []) [])) ≡ []
    none true = refl
    none false = refl
