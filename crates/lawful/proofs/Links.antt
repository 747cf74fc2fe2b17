-- What one link more changes of what a list says: who did what, what was published, what readers see, and what a bank's
-- chain has.
use Rattle.std.proofs.Common.{◌≡◌, ◌==◌, ◌+◌, ◌<◌, ◌≤◌, ℕ, Bool, true, false, cond, List, [], ◌∷◌, ◌++◌, length, refl, sym, ap, ◌∙◌, arith, length-append}
use Rattle.std.specs.Prelude.{drop, take}
use Rattle.std.proofs.lemmas.Bool.Decides.{nat_tests}
use Rattle.std.proofs.lemmas.List.{append-nil, length-take-le, take-append-drop, take_at}
use Rattle.std.proofs.lemmas.List.Elements.{filter-append}
use Rattle.std.proofs.lemmas.List.Sums.{sum_by-append}
use mathlib.Core.List.{IsPrefix}
use Rattle.bank.specs.Records.{EntryValue}
use Rattle.node_programs.specs.declared.publishes.Publish.{Publish}
use Rattle.annals.specs.declared.deed.Act.{Act}
use Rattle.annals.specs.declared.deed.Act.TheVariants.{Leaves, Sets, Rotates, Publishes}
use Rattle.annals.specs.declared.deed.Deed.{Deed}
use Rattle.annals.specs.declared.deed.Deed.TheVariants.{Opens, Does, Asks, Shows}
use Rattle.annals.specs.declared.deed.HistoryEntry.{HistoryEntry}
use Rattle.annals.specs.Banks.{entries_in, entries_of, with_entry}
use Rattle.annals.specs.Chains.{Due, chain_of, done_for, link, owner_of, with_done}
use Rattle.annals.specs.Publishes.{publishes_chain, publishes_in, publishes_of, with_publish}
use Rattle.annals.specs.Shown.{shown_in, shown_of, shows}
use Rattle.lemmas.proofs.Prefixes.{prefix_length, prefix_shorter, prefix_trans, prefix_whole}

-- ---- beginnings of one list

-- two beginnings of one list that are as long as each other are the same
pub same_begin : {A : Type 0} (xs ys zs : List A) → IsPrefix xs zs → IsPrefix ys zs → length xs ≡ length ys → xs ≡ ys
same_begin xs ys zs p q same = prefix_whole xs ys (prefix_shorter xs ys zs p q (omega (arith, same))) (omega (arith, same))

last_same : {A : Type 0} (xs : List A) (x y : A) → xs ++ x ∷ [] ≡ xs ++ y ∷ [] → x ≡ y
last_same [] x y is = cc is
last_same (z ∷ xs) x y is = last_same xs x y (cc is)

pub front_of : {A : Type 0} (xs zs : List A) (x : A) → IsPrefix (xs ++ x ∷ []) zs → IsPrefix xs zs
front_of xs zs x p = prefix_trans xs (xs ++ x ∷ []) zs (x ∷ [], refl) p

pub size_more : {A : Type 0} (xs : List A) (x : A) → length (xs ++ x ∷ []) ≡ length xs + 1
size_more xs x = length-append xs (x ∷ [])

-- what is at one place of a list
pub record IsThat {A : Type 0} (xs ys : List A) (x y : A) : Type 0 where
  pub front : xs ≡ ys
  pub item : x ≡ y

pub at_place : {A : Type 0} (xs ys zs : List A) (x y : A) → IsPrefix (xs ++ x ∷ []) zs → IsPrefix (ys ++ y ∷ []) zs → length xs ≡ length ys → IsThat xs ys x y
at_place {A} xs ys zs x y p q same =
    let front = same_begin xs ys zs (front_of xs zs x p) (front_of ys zs y q) same in
    let size_x = size_more xs x in
    let size_y = size_more ys y in
    let all : xs ++ x ∷ [] ≡ ys ++ y ∷ [] = same_begin (xs ++ x ∷ []) (ys ++ y ∷ []) zs p q (omega (arith, same, size_x, size_y)) in
    record { front = front; item = last_same ys x y (ap (λ (l : List A). l ++ x ∷ []) (sym front) ∙ all) }

-- a beginning that is longer has what is there
pub longer_has : {A : Type 0} (xs ys zs : List A) (x : A) → IsPrefix (xs ++ x ∷ []) zs → IsPrefix ys zs → length xs < length ys → IsPrefix (xs ++ x ∷ []) ys
longer_has xs ys zs x p q more = let size = size_more xs x in prefix_shorter (xs ++ x ∷ []) ys zs p q (omega (arith, more, size))

-- numbers that are tested as apart are not the same
pub not_same : (m k : ℕ) → (m == k) ≡ false → m ≡ k → ⊥
not_same m k apart same = absurd (grind (arith, nat_tests, apart, same))

-- ---- who did what

pub done_joined : (q c : ℕ) (d : Deed) (xs ys : List Due) → with_done q c d (xs ++ ys) ≡ with_done q c d xs ++ ys
done_joined q c (Opens x) xs ys = refl
done_joined q c (Does a) xs ys = here (owner_of a == q) where
  here : (b : Bool) → cond b ((c, a) ∷ (xs ++ ys)) (xs ++ ys) ≡ cond b ((c, a) ∷ xs) xs ++ ys
  here true = refl
  here false = refl
done_joined q c (Asks x) xs ys = refl
done_joined q c Shows xs ys = refl

pub done_append : (q : ℕ) (ls ms : List HistoryEntry) → done_for q (ls ++ ms) ≡ done_for q ls ++ done_for q ms
done_append q [] ms = refl
done_append q (l ∷ ls) ms = ap (with_done q l.chain l.deed) (done_append q ls ms) ∙ done_joined q l.chain l.deed (done_for q ls) (done_for q ms)

pub done_prefix : (q : ℕ) (xs ys : List HistoryEntry) → IsPrefix xs ys → IsPrefix (done_for q xs) (done_for q ys)
done_prefix q xs ys p = (done_for q p.0, sym (done_append q xs p.0) ∙ ap (done_for q) p.1)

-- who has more of a list has no fewer acts of it
pub done_few : (q : ℕ) (xs ys : List HistoryEntry) → IsPrefix xs ys → length (done_for q xs) ≤ length (done_for q ys)
done_few q xs ys p = prefix_length (done_for q xs) (done_for q ys) (done_prefix q xs ys p)

pub does : (q c : ℕ) (d : Deed) (a : Act) (rest : List Due) → d ≡ Does a → owner_of a ≡ q → with_done q c d rest ≡ (c, a) ∷ rest
does q c d a rest is own =
    let same : (owner_of a == q) ≡ true = grind (arith, nat_tests, own) in
    ap (λ (x : Deed). with_done q c x rest) is ∙ ap (λ (b : Bool). cond b ((c, a) ∷ rest) rest) same

-- an act of that owner
pub done_own : (q : ℕ) (pre : List HistoryEntry) (l : HistoryEntry) (a : Act) → l.deed ≡ Does a → owner_of a ≡ q → done_for q (pre ++ l ∷ []) ≡ done_for q pre ++ (l.chain, a) ∷ []
done_own q pre l a is own = done_append q pre (l ∷ []) ∙ ap (λ (ds : List Due). done_for q pre ++ ds) (does q l.chain l.deed a [] is own)

pub done_one : (q : ℕ) (pre : List HistoryEntry) (l : HistoryEntry) (a : Act) → l.deed ≡ Does a → owner_of a ≡ q → length (done_for q (pre ++ l ∷ [])) ≡ length (done_for q pre) + 1
done_one q pre l a is own = ap length (done_own q pre l a is own) ∙ size_more (done_for q pre) (l.chain, a)

-- no act of that owner
abbrev pub IsNoneOf : ℕ → Deed → Type 0
IsNoneOf q d = (c : ℕ) → with_done q c d [] ≡ []

pub none_other : (q : ℕ) (d : Deed) (a : Act) → d ≡ Does a → (owner_of a ≡ q → ⊥) → IsNoneOf q d
none_other q d a is other = λ c.
    let apart : (owner_of a == q) ≡ false = grind (arith, nat_tests, other) in
    ap (λ (x : Deed). with_done q c x []) is ∙ ap (λ (b : Bool). cond b ((c, a) ∷ []) []) apart

-- so it is no act of that owner
pub none_not : (q : ℕ) (d : Deed) (a : Act) → d ≡ Does a → owner_of a ≡ q → IsNoneOf q d → ⊥
none_not q d a is own none = let one = ap length (sym (does q 0 d a [] is own) ∙ none 0) in absurd (omega (arith, one))

pub none_opens : (q : ℕ) (d : Deed) (x : ℕ × ℕ × ℕ) → d ≡ Opens x → IsNoneOf q d
none_opens q d x is = λ c. ap (λ (y : Deed). with_done q c y []) is

pub none_asks : (q : ℕ) (d : Deed) (x : ℕ × Act) → d ≡ Asks x → IsNoneOf q d
none_asks q d x is = λ c. ap (λ (y : Deed). with_done q c y []) is

pub none_shows : (q : ℕ) (d : Deed) → d ≡ Shows → IsNoneOf q d
none_shows q d is = λ c. ap (λ (y : Deed). with_done q c y []) is

pub done_same : (q : ℕ) (pre : List HistoryEntry) (l : HistoryEntry) → IsNoneOf q l.deed → done_for q (pre ++ l ∷ []) ≡ done_for q pre
done_same q pre l none = done_append q pre (l ∷ []) ∙ (ap (λ (ds : List Due). done_for q pre ++ ds) (none l.chain) ∙ append-nil (done_for q pre))

-- ---- what was published

publish_joined : (d : Deed) (ps qs : List Publish) → with_publish d (ps ++ qs) ≡ with_publish d ps ++ qs
publish_joined (Opens x) ps qs = refl
publish_joined (Does (Leaves e)) ps qs = refl
publish_joined (Does (Sets x)) ps qs = refl
publish_joined (Does (Rotates x)) ps qs = refl
publish_joined (Does (Publishes x)) ps qs = refl
publish_joined (Asks x) ps qs = refl
publish_joined Shows ps qs = refl

publishes_append : (ls ms : List HistoryEntry) → publishes_in (ls ++ ms) ≡ publishes_in ls ++ publishes_in ms
publishes_append [] ms = refl
publishes_append (l ∷ ls) ms = ap (with_publish l.deed) (publishes_append ls ms) ∙ publish_joined l.deed (publishes_in ls) (publishes_in ms)

chain_snoc : (c : ℕ) (pre : List HistoryEntry) (l : HistoryEntry) → chain_of c (pre ++ l ∷ []) ≡ chain_of c pre ++ cond (l.chain == c) (l ∷ []) []
chain_snoc c pre l = filter-append (λ (x : HistoryEntry). x.chain == c) pre (l ∷ [])

-- what begins a list has a chain that begins the list's
pub chain_begin : (c : ℕ) (xs ys : List HistoryEntry) → IsPrefix xs ys → IsPrefix (chain_of c xs) (chain_of c ys)
chain_begin c xs ys p = (chain_of c p.0, sym (filter-append (λ (l : HistoryEntry). l.chain == c) xs p.0) ∙ ap (chain_of c) p.1)

pub published_prefix : (xs ys : List HistoryEntry) → IsPrefix xs ys → IsPrefix (publishes_of xs) (publishes_of ys)
published_prefix xs ys p =
    let q = chain_begin publishes_chain xs ys p in
    (publishes_in q.0, sym (publishes_append (chain_of publishes_chain xs) q.0) ∙ ap publishes_in q.1)

-- as many were published by two lists as by both
pub count_published : (xs ys : List HistoryEntry) → length (publishes_of (xs ++ ys)) ≡ length (publishes_of xs) + length (publishes_of ys)
count_published xs ys =
    ap (λ (ls : List HistoryEntry). length (publishes_in ls)) (filter-append (λ (l : HistoryEntry). l.chain == publishes_chain) xs ys)
    ∙ (ap length (publishes_append (chain_of publishes_chain xs) (chain_of publishes_chain ys)) ∙ length-append (publishes_of xs) (publishes_of ys))

pub published_few : (xs ys : List HistoryEntry) → IsPrefix xs ys → length (publishes_of xs) ≤ length (publishes_of ys)
published_few xs ys p = prefix_length (publishes_of xs) (publishes_of ys) (published_prefix xs ys p)

-- a publish more
pub published_one : (pre : List HistoryEntry) (l : HistoryEntry) (q : ℕ) (x : Publish) → l.chain ≡ publishes_chain → l.deed ≡ Does (Publishes (q, x)) → publishes_of (pre ++ l ∷ []) ≡ publishes_of pre ++ x ∷ []
published_one pre l q x chain is =
    let here : (l.chain == publishes_chain) ≡ true = grind (arith, nat_tests, chain) in
    ap publishes_in (chain_snoc publishes_chain pre l ∙ ap (λ (b : Bool). chain_of publishes_chain pre ++ cond b (l ∷ []) []) here)
    ∙ (publishes_append (chain_of publishes_chain pre) (l ∷ []) ∙ ap (λ (d : Deed). publishes_of pre ++ with_publish d []) is)

-- a deed that is no publish
pub published_same : (pre : List HistoryEntry) (l : HistoryEntry) → with_publish l.deed [] ≡ [] → publishes_of (pre ++ l ∷ []) ≡ publishes_of pre
published_same pre l none = ap publishes_in (chain_snoc publishes_chain pre l) ∙ here (l.chain == publishes_chain)
  where
    here : (b : Bool) → publishes_in (chain_of publishes_chain pre ++ cond b (l ∷ []) []) ≡ publishes_of pre
    here true = publishes_append (chain_of publishes_chain pre) (l ∷ []) ∙ (ap (λ (ps : List Publish). publishes_of pre ++ ps) none ∙ append-nil (publishes_of pre))
    here false = ap publishes_in (append-nil (chain_of publishes_chain pre))

-- ---- what readers see

shown_append : (xs ys : List HistoryEntry) → shown_in (xs ++ ys) ≡ shown_in xs + shown_in ys
shown_append xs ys = sum_by-append (λ (l : HistoryEntry). shows l.deed) xs ys

pub shown_few : (xs ys : List HistoryEntry) → IsPrefix xs ys → shown_in xs ≤ shown_in ys
shown_few xs ys p = let more = shown_append xs p.0 in let all = ap shown_in p.1 in omega (arith, all, more)

one_shown : (l : HistoryEntry) → shown_in (l ∷ []) ≡ shows l.deed
one_shown l = omega arith

pub shown_same : (pre : List HistoryEntry) (l : HistoryEntry) → shows l.deed ≡ 0 → shown_in (pre ++ l ∷ []) ≡ shown_in pre
shown_same pre l none = let more = shown_append pre (l ∷ []) in let one = one_shown l in omega (arith, more, one, none)

pub shown_one : (pre : List HistoryEntry) (l : HistoryEntry) → l.deed ≡ Shows → shown_in (pre ++ l ∷ []) ≡ shown_in pre + 1
shown_one pre l is = let more = shown_append pre (l ∷ []) in let one = one_shown l ∙ ap shows is in omega (arith, more, one)

-- of what was published readers see as many as they see
pub seen_count : (pre : List HistoryEntry) → shown_in pre ≤ length (publishes_of pre) → length (shown_of pre) ≡ shown_in pre
seen_count pre few = length-take-le (shown_in pre) (publishes_of pre) few

-- they see just those that begin what was published
pub seen_is : (pre : List HistoryEntry) (ps : List Publish) → IsPrefix ps (publishes_of pre) → length ps ≡ shown_in pre → shown_of pre ≡ ps
seen_is pre ps p many = ap (take (shown_in pre)) (sym p.1) ∙ take_at ps p.0 (shown_in pre) many

pub seen_prefix : (pre : List HistoryEntry) → IsPrefix (shown_of pre) (publishes_of pre)
seen_prefix pre = (drop (shown_in pre) (publishes_of pre), take-append-drop (shown_in pre) (publishes_of pre))

-- they see what they saw
pub seen_same : (pre : List HistoryEntry) (l : HistoryEntry) → shown_in pre ≤ length (publishes_of pre) → shows l.deed ≡ 0 → shown_of (pre ++ l ∷ []) ≡ shown_of pre
seen_same pre l few none =
    seen_is (pre ++ l ∷ []) (shown_of pre)
    (prefix_trans (shown_of pre) (publishes_of pre) (publishes_of (pre ++ l ∷ [])) (seen_prefix pre) (published_prefix pre (pre ++ l ∷ []) (l ∷ [], refl)))
    (seen_count pre few ∙ sym (shown_same pre l none))

-- ---- what a bank's chain has

entry_joined : (d : Deed) (xs ys : List EntryValue) → with_entry d (xs ++ ys) ≡ with_entry d xs ++ ys
entry_joined (Opens x) xs ys = refl
entry_joined (Does (Leaves e)) xs ys = refl
entry_joined (Does (Sets x)) xs ys = refl
entry_joined (Does (Rotates x)) xs ys = refl
entry_joined (Does (Publishes x)) xs ys = refl
entry_joined (Asks x) xs ys = refl
entry_joined Shows xs ys = refl

entries_joined : (ls ms : List HistoryEntry) → entries_in (ls ++ ms) ≡ entries_in ls ++ entries_in ms
entries_joined [] ms = refl
entries_joined (l ∷ ls) ms = ap (with_entry l.deed) (entries_joined ls ms) ∙ entry_joined l.deed (entries_in ls) (entries_in ms)

-- an entry at a bank is the last of its chain
pub chain_entry : (k place next : ℕ) (before : List HistoryEntry) (e : EntryValue) → chain_of k (before ++ link k place (Does (Leaves e)) next ∷ []) ≡ chain_of k before ++ link k place (Does (Leaves e)) next ∷ []
chain_entry k place next before e =
    let l = link k place (Does (Leaves e)) next in
    let here : (k == k) ≡ true = grind (arith, nat_tests) in
    chain_snoc k before l ∙ ap (λ (b : Bool). chain_of k before ++ cond b (l ∷ []) []) here

-- a deed that leaves no entry
pub entries_same : (k : ℕ) (pre : List HistoryEntry) (l : HistoryEntry) → with_entry l.deed [] ≡ [] → entries_of k (pre ++ l ∷ []) ≡ entries_of k pre
entries_same k pre l none = ap entries_in (chain_snoc k pre l) ∙ here (l.chain == k)
  where
    here : (b : Bool) → entries_in (chain_of k pre ++ cond b (l ∷ []) []) ≡ entries_of k pre
    here true = entries_joined (chain_of k pre) (l ∷ []) ∙ (ap (λ (es : List EntryValue). entries_of k pre ++ es) none ∙ append-nil (entries_of k pre))
    here false = ap entries_in (append-nil (chain_of k pre))

-- a deed of another chain
pub entries_elsewhere : (k : ℕ) (pre : List HistoryEntry) (l : HistoryEntry) → (l.chain ≡ k → ⊥) → entries_of k (pre ++ l ∷ []) ≡ entries_of k pre
entries_elsewhere k pre l other =
    let apart : (l.chain == k) ≡ false = grind (arith, nat_tests, other) in
    ap entries_in (chain_snoc k pre l ∙ (ap (λ (b : Bool). chain_of k pre ++ cond b (l ∷ []) []) apart ∙ append-nil (chain_of k pre)))
