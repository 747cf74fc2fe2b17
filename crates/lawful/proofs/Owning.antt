-- A bank's chain that has entries of only one port: its entries, their numbers, and its memory.
use Rattle.std.proofs.Common.{◌≡◌, ◌==◌, ◌+◌, ◌≤◌, ℕ, suc, zero, Bool, true, cond, List, [], ◌∷◌, ◌++◌, map, length, Some, refl, sym, ap, subst, ◌∙◌, length-append, arith}
use Rattle.std.specs.Prelude.{fold, filter}
use Rattle.std.specs.List.{range_with_len}
use Rattle.std.proofs.lemmas.List.Elements.{filter-append}
use mathlib.Core.List.{IsPrefix}
use Rattle.bank.specs.Effect.{Memory}
use Rattle.bank.specs.Records.{EntryValue, after_entry, numbers_of, replay}
use Rattle.annals.specs.declared.deed.Act.TheVariants.{Leaves, Sets, Rotates, Publishes}
use Rattle.annals.specs.declared.deed.Deed.{Deed}
use Rattle.annals.specs.declared.deed.Deed.TheVariants.{Opens, Does, Asks, Shows}
use Rattle.annals.specs.declared.deed.HistoryEntry.{HistoryEntry}
use Rattle.annals.specs.Banks.{after_deed, after_link, entries_in, entries_of, memory_after, with_entry, zeros}
use Rattle.annals.specs.Chains.{chain_of, link}
use Rattle.node_parts.specs.declared.config.BankConfig.{BankConfig}
use Rattle.sched.specs.Looking.{first_memory}
use Rattle.lawful.specs.Alone.{AreDeedsOf, IsDeedOf, IsOwnBank, IsOwnChain}
use Rattle.lawful.proofs.Keeping.{itself}

-- ---- lists

pub range_length : (start n : ℕ) → length (range_with_len start n) ≡ n
range_length start zero = refl
range_length start (suc n) = ap suc (range_length (start + 1) n)

with_joined : (d : Deed) (xs ys : List EntryValue) → with_entry d (xs ++ ys) ≡ with_entry d xs ++ ys
with_joined (Opens x) xs ys = refl
with_joined (Does (Leaves e)) xs ys = refl
with_joined (Does (Sets x)) xs ys = refl
with_joined (Does (Rotates x)) xs ys = refl
with_joined (Does (Publishes x)) xs ys = refl
with_joined (Asks x) xs ys = refl
with_joined Shows xs ys = refl

entries_append : (ls ms : List HistoryEntry) → entries_in (ls ++ ms) ≡ entries_in ls ++ entries_in ms
entries_append [] ms = refl
entries_append (l ∷ ls) ms = ap (with_entry l.deed) (entries_append ls ms) ∙ with_joined l.deed (entries_in ls) (entries_in ms)

chain_prefix : (c : ℕ) (xs ys : List HistoryEntry) → IsPrefix xs ys → IsPrefix (chain_of c xs) (chain_of c ys)
chain_prefix c xs ys p = (chain_of c p.0, sym (filter-append (λ (l : HistoryEntry). l.chain == c) xs p.0) ∙ ap (chain_of c) p.1)

-- what begins a list has entries that begin the list's
pub entries_prefix : (k : ℕ) (xs ys : List HistoryEntry) → IsPrefix xs ys → IsPrefix (entries_of k xs) (entries_of k ys)
entries_prefix k xs ys p =
    let q = chain_prefix k xs ys p in
    (entries_in q.0, sym (entries_append (chain_of k xs) q.0) ∙ ap entries_in q.1)

chain_last : (k place next : ℕ) (before : List HistoryEntry) (e : EntryValue) → chain_of k (before ++ link k place (Does (Leaves e)) next ∷ []) ≡ chain_of k before ++ link k place (Does (Leaves e)) next ∷ []
chain_last k place next before e =
    let l = link k place (Does (Leaves e)) next in
    let here : chain_of k (l ∷ []) ≡ l ∷ [] = ap (λ (b : Bool). cond b (l ∷ []) []) (itself k) in
    filter-append (λ (x : HistoryEntry). x.chain == k) before (l ∷ []) ∙ ap (λ (ls : List HistoryEntry). chain_of k before ++ ls) here

-- an entry that was left at the bank is the last of its entries
pub entry_last : (k place next : ℕ) (before : List HistoryEntry) (e : EntryValue) → entries_of k (before ++ link k place (Does (Leaves e)) next ∷ []) ≡ entries_of k before ++ e ∷ []
entry_last k place next before e =
    ap entries_in (chain_last k place next before e) ∙ entries_append (chain_of k before) (link k place (Does (Leaves e)) next ∷ [])

pub not_begun : (e : EntryValue) (opening : ℕ × ℕ × ℕ) → Does (Leaves e) ≡ Opens opening → ⊥
not_begun e opening same = cc (same)

-- ---- entries of one port

-- a deed that is an entry of the port
record IsThatEntry (port : ℕ) (d : Deed) : Type 0 where
  entry : EntryValue
  is : d ≡ Does (Leaves entry)
  own : entry.port ≡ port

that_entry : (port : ℕ) (d : Deed) → IsDeedOf port d → IsThatEntry port d
that_entry port (Opens x) is = absurd is
that_entry port (Does (Leaves e)) is = record { entry = e; is = refl; own = is }
that_entry port (Does (Sets x)) is = absurd is
that_entry port (Does (Rotates x)) is = absurd is
that_entry port (Does (Publishes x)) is = absurd is
that_entry port (Asks x) is = absurd is
that_entry port Shows is = absurd is

own_front : (port : ℕ) (xs ys : List HistoryEntry) → AreDeedsOf port (xs ++ ys) → AreDeedsOf port xs
own_front port [] ys own = tt
own_front port (x ∷ xs) ys own = (own.0, own_front port xs ys own.1)

-- as many entries as deeds
own_count : (port : ℕ) (ls : List HistoryEntry) → AreDeedsOf port ls → length (entries_in ls) ≡ length ls
own_count port [] own = refl
own_count port (l ∷ ls) own =
    let that = that_entry port l.deed own.0 in
    ap (λ (d : Deed). length (with_entry d (entries_in ls))) that.is ∙ ap suc (own_count port ls own.1)

-- all of them are the port's
own_numbers : (port : ℕ) (ls : List HistoryEntry) → AreDeedsOf port ls → length (numbers_of port (entries_in ls)) ≡ length (entries_in ls)
own_numbers port [] own = refl
own_numbers port (l ∷ ls) own =
    let that = that_entry port l.deed own.0 in
    let es = entries_in ls in
    let here : (that.entry.port == port) ≡ true = ap (λ (q : ℕ). q == port) that.own ∙ itself port in
    let first : length (numbers_of port (that.entry ∷ es)) ≡ suc (length (numbers_of port es)) =
    ap (λ (b : Bool). length (map (λ (e : EntryValue). e.number) (cond b (that.entry ∷ filter (λ (e : EntryValue). e.port == port) es) (filter (λ (e : EntryValue). e.port == port) es)))) here in
    ap (λ (d : Deed). length (numbers_of port (with_entry d es))) that.is
    ∙ (first ∙ (ap suc (own_numbers port ls own.1) ∙ sym (ap (λ (d : Deed). length (with_entry d es)) that.is)))

-- what they leave of a memory is their replay
own_replay : (port : ℕ) (m : Memory) (ls : List HistoryEntry) → AreDeedsOf port ls → fold after_link m ls ≡ replay m (entries_in ls)
own_replay port m [] own = refl
own_replay port m (l ∷ ls) own =
    let that = that_entry port l.deed own.0 in
    ap (λ (d : Deed). fold after_link (after_deed m d) ls) that.is
    ∙ (own_replay port (after_entry m that.entry) ls own.1 ∙ sym (ap (λ (d : Deed). replay m (with_entry d (entries_in ls))) that.is))

-- ---- the bank of one port

-- what the list has of the bank at a moment
pub record IsOwnSoFar (port k : ℕ) (bank : BankConfig) (before : List HistoryEntry) : Type 0 where
  pub numbers : length (numbers_of port (entries_of k before)) ≡ length (entries_of k before)
  pub few : length (entries_of k before) ≤ bank.room
  pub memory : (chain_of k before ≡ [] → ⊥) → memory_after k before ≡ replay (first_memory (Some bank)) (entries_of k before)

pub own_so_far : (port k : ℕ) (bank : BankConfig) (before whole : List HistoryEntry) → IsOwnBank port k bank whole → IsPrefix before whole → IsOwnSoFar port k bank before
own_so_far port k bank before whole is begins = let q = chain_prefix k before whole begins in by q.0 q.1 (chain_of k before) refl
  where
    by : (rest : List HistoryEntry) → chain_of k before ++ rest ≡ chain_of k whole → (ls : List HistoryEntry) → chain_of k before ≡ ls → IsOwnSoFar port k bank before
    by rest all [] here =
        let none : entries_of k before ≡ [] = ap entries_in here in
        record {
          numbers = ap (λ (es : List EntryValue). length (numbers_of port es)) none ∙ sym (ap length none);
          few = let size = ap length none in omega (arith, size);
          memory = λ some. absurd (some here);
        }
    by rest all (l ∷ ls) here =
        let chain : IsOwnChain port bank (l ∷ (ls ++ rest)) = subst (IsOwnChain port bank) (sym all ∙ ap (λ (xs : List HistoryEntry). xs ++ rest) here) is.chain in
        let own : AreDeedsOf port ls = own_front port ls rest chain.1 in
        let entries : entries_of k before ≡ entries_in ls = ap entries_in here ∙ ap (λ (d : Deed). with_entry d (entries_in ls)) chain.0 in
        let count : length (entries_of k before) ≡ length ls = ap length entries ∙ own_count port ls own in
        let size : length (ls ++ rest) ≡ length ls + length rest = length-append ls rest in
        let room = chain.2 in
        record {
          numbers = ap (λ (es : List EntryValue). length (numbers_of port es)) entries ∙ (own_numbers port ls own ∙ sym (ap length entries));
          few = omega (arith, count, size, room);
          memory = λ some.
              ap (fold after_link (zeros (0, 0))) here
              ∙ (ap (λ (d : Deed). fold after_link (after_deed (zeros (0, 0)) d) ls) chain.0
              ∙ (own_replay port (first_memory (Some bank)) ls own ∙ ap (replay (first_memory (Some bank))) (sym entries)));
        }

-- a bank that has an entry had begun before that
pub begun_before : (port k place next : ℕ) (bank : BankConfig) (before after whole : List HistoryEntry) (e : EntryValue) → IsOwnBank port k bank whole → after ≡ before ++ link k place (Does (Leaves e)) next ∷ [] → IsPrefix after whole
    → chain_of k before ≡ [] → ⊥
begun_before port k place next bank before after whole e is log begins none =
    let l = link k place (Does (Leaves e)) next in
    let q = chain_prefix k after whole begins in
    let first : chain_of k after ≡ l ∷ [] = ap (chain_of k) log ∙ (chain_last k place next before e ∙ ap (λ (ls : List HistoryEntry). ls ++ l ∷ []) none) in
    let chain : IsOwnChain port bank (l ∷ q.0) = subst (IsOwnChain port bank) (sym q.1 ∙ ap (λ (ls : List HistoryEntry). ls ++ q.0) first) is.chain in
    not_begun e (bank.base, bank.size, bank.room) chain.0
