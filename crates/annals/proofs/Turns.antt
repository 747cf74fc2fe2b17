-- The steps on the history keep its rule.
use Rattle.std.proofs.Common.{◌≡◌, ◌≢◌, ℕ, zero, suc, ◌+◌, ◌<◌, ◌==◌, Bool, true, false, cond, List, [], ◌∷◌, ◌++◌, length, refl, ap, sym, ◌∙◌, subst, arith, inl, length-append, None, slice_set}
use Rattle.std.proofs.lemmas.List.{append-nil, get_or-set_same, get_or-set_other, get_or-replicate, set-get_or}
use Rattle.std.proofs.lemmas.Bool.Decides.{nat_tests}
use mathlib.Core.List.{IsPrefix}
use lib.ListN.{replicate}
use prog.Atomic.{either}
use Rattle.logbook.specs.Pages.{Book, Named, Cell, cell, keeps, gives, adds, Nib, no_nib, may_write, step, Moves, Goes}
use Rattle.annals.specs.declared.deed.HistoryEntry.{HistoryEntry}
use Rattle.annals.specs.Chains.{asked_in, chain_of, next_of, with_asked, IsHome, AreHome, AreAskedBefore, IsDue, Draws, Begins, Adds, Looks, IsEntryAdded, IsFirstOfChain, chain_word_of}
use Rattle.annals.specs.Rule.{AreChained, shown_word}
use Rattle.annals.specs.Shown.{shows}
use Rattle.annals.specs.Banks.{memory_after, after_link, after_deed, zeros, entries_of, entries_in, with_entry}
use Rattle.std.specs.Prelude.{fold}
use Rattle.lemmas.proofs.Prefixes.{prefix_trans, prefix_length, prefix_whole}
use Rattle.annals.proofs.Dues.{LeavesNone, between_same, chain_prefix, chain_snoc, none_asked, own_snoc, still_asked}
use Rattle.annals.proofs.Listing.{due_quiet, listed_quiet, none_listed, shown_quiet}

abbrev pub shown : List HistoryEntry → List HistoryEntry
shown log = []

abbrev pub moved : List HistoryEntry → List HistoryEntry → ℕ → Type 0
moved xs ys n = Unit {0}

-- ---- cells

pub set_home : (cs : List Cell) (k n j : ℕ) → IsHome cs j → IsHome (slice_set cs k (n, true)) j
set_home [] k n j is = absurd (cc is)
set_home (c ∷ cs) zero n zero is = refl
set_home (c ∷ cs) zero n (suc j) is = is
set_home (c ∷ cs) (suc k) n zero is = is
set_home (c ∷ cs) (suc k) n (suc j) is = set_home cs k n j is

pub set_length : (cs : List Cell) (k : ℕ) (c : Cell) → length (slice_set cs k c) ≡ length cs
set_length [] k c = refl
set_length (d ∷ cs) zero c = refl
set_length (d ∷ cs) (suc k) c = ap suc (set_length cs k c)

more_home : (cs more : List Cell) (j : ℕ) → IsHome cs j → IsHome (cs ++ more) j
more_home [] more j is = absurd (cc is)
more_home (c ∷ cs) more zero is = is
more_home (c ∷ cs) more (suc j) is = more_home cs more j is

more_cell : (cs more : List Cell) (j : ℕ) → j < length cs → cell (cs ++ more) j ≡ cell cs j
more_cell [] more j in_it = absurd (omega (arith, in_it))
more_cell (c ∷ cs) more zero in_it = refl
more_cell (c ∷ cs) more (suc j) in_it = more_cell cs more j (omega (arith, in_it))

-- a cell that is at home, written with what it has, leaves all as it is
pub same_cell : (cs : List Cell) (k n : ℕ) → (cell cs k).1 ≡ true → n ≡ (cell cs k).0 → slice_set cs k (n, true) ≡ cs
same_cell cs k n home is =
    ap (λ (c : Cell). slice_set cs k c) (pair n true (cell cs k) is (sym home)) ∙ set-get_or cs k (0, false)
  where
    pair : (n : ℕ) (b : Bool) (c : Cell) → n ≡ c.0 → b ≡ c.1 → (n, b) ≡ c
    pair n b c p q = λ i. (p i, q i)

-- ---- chains

pub still_home : (cs ds : List Cell) (log : List HistoryEntry) → ((j : ℕ) → IsHome cs j → IsHome ds j) → AreHome cs log → AreHome ds log
still_home cs ds [] stays are = tt
still_home cs ds (l ∷ []) stays are = tt
still_home cs ds (l ∷ m ∷ ls) stays are = (stays l.next are.0, still_home cs ds (m ∷ ls) stays are.1)

nothing_after : (cs : List Cell) (v more : List HistoryEntry) → 0 < length v → AreHome cs (v ++ more) → (cell cs (next_of v)).1 ≡ false → more ≡ []
nothing_after cs [] more some are away = absurd (omega (arith, some))
nothing_after cs (l ∷ []) [] some are away = refl
nothing_after cs (l ∷ []) (m ∷ ms) some are away = absurd (cc (are.0, away))
nothing_after cs (l ∷ k ∷ ls) more some are away = nothing_after cs (k ∷ ls) more (omega arith) are.1 away

pub whole : (cs : List Cell) (v log : List HistoryEntry) → 0 < length v → IsPrefix v log → AreHome cs log → (cell cs (next_of v)).1 ≡ false → v ≡ log
whole cs v log some pre are away =
    let none = nothing_after cs v pre.0 some (subst (λ (l : List HistoryEntry). AreHome cs l) (sym pre.1) are) away in
    sym (append-nil v) ∙ (ap (λ (m : List HistoryEntry). v ++ m) (sym none) ∙ pre.1)

home_snoc : (cs : List Cell) (log : List HistoryEntry) (e : HistoryEntry) → AreHome cs log → (0 < length log → IsHome cs (next_of log)) → AreHome cs (log ++ e ∷ [])
home_snoc cs [] e are last = tt
home_snoc cs (l ∷ []) e are last = (last (omega arith), tt)
home_snoc cs (l ∷ m ∷ ls) e are last = (are.0, home_snoc cs (m ∷ ls) e are.1 (λ some. last (omega arith)))

pub next_snoc : (log : List HistoryEntry) (e : HistoryEntry) → next_of (log ++ e ∷ []) ≡ e.next
next_snoc [] e = refl
next_snoc (l ∷ []) e = refl
next_snoc (l ∷ m ∷ ls) e = next_snoc (m ∷ ls) e

pub other_snoc : (c : ℕ) (log : List HistoryEntry) (e : HistoryEntry) → e.chain ≢ c → chain_of c (log ++ e ∷ []) ≡ chain_of c log
other_snoc c log e not =
    let other : (e.chain == c) ≡ false = grind (arith, nat_tests, not) in
    chain_snoc c log e ∙ (ap (λ (b : Bool). chain_of c log ++ cond b (e ∷ []) []) other ∙ append-nil (chain_of c log))

-- ---- steps

-- an exchange of a number by itself changes nothing
stays : (old n : ℕ) → either (n == old) old n ≡ n
stays old n = same (n == old) refl where
  same : (b : Bool) → (n == old) ≡ b → either b old n ≡ n
  same true is = grind (arith, nat_tests)
  same false is = refl

-- the cells stay if the word of a chain is exchanged by itself
unchanged : (cs : List Cell) (log : List HistoryEntry) (c : ℕ) → c < 42 → AreChained cs log → slice_set cs c (either ((cell cs c).0 == 1) 1 (cell cs c).0, true) ≡ cs
unchanged cs log c few kept = same_cell cs c (either ((cell cs c).0 == 1) 1 (cell cs c).0) (kept.homes c few) (stays 1 (cell cs c).0)

draws_kept : (cs : List Cell) (log : List HistoryEntry) → AreChained cs log → AreChained (cs ++ (0, false) ∷ []) (log ++ [])
draws_kept cs log kept =
    let all : log ++ [] ≡ log = append-nil log in
    rw all (record {
      row = omega (arith, kept.row, length-append cs ((0, false) ∷ []));
      homes = λ c few. more_home cs ((0, false) ∷ []) c (kept.homes c few);
      begun = λ c few is. kept.begun c few (sym (ap (λ (d : Cell). d.0) (more_cell cs ((0, false) ∷ []) c (omega (arith, few, kept.row)))) ∙ is);
      used = λ c few. still_home cs (cs ++ (0, false) ∷ []) (chain_of c log) (λ j home. more_home cs ((0, false) ∷ []) j home) (kept.used c few);
      asked = kept.asked;
      home = more_home cs ((0, false) ∷ []) shown_word kept.home;
      shown = ap (λ (d : Cell). d.0) (more_cell cs ((0, false) ∷ []) shown_word (omega (arith, kept.row))) ∙ kept.shown;
      listed = kept.listed;
    })

pub draws_moves : (c : ℕ) (v : List HistoryEntry) (e : HistoryEntry) → c < 42
    → Moves AreChained shown moved c (v, (no_nib, None)) (λ n. either (n == 1) 1 n) (Draws (step c 1 1 e) (v, (no_nib, None)))
draws_moves c v e few cs log kept pre away = (
  omega (arith, few, kept.row),
  kept.homes c few,
  (
    adds,
    [],
    None,
    tt,
    rw (unchanged cs log c few kept) (draws_kept cs log kept),
    inl (refl, ap shown (append-nil log)),
    refl,
  ),
)

-- after a step that gives its pen's cell home, the entry that was added follows the one of its chain that names the
-- cell
adds_kept : (cs : List Cell) (log : List HistoryEntry) (e : HistoryEntry) (key value : ℕ) → key ≡ next_of (chain_of e.chain log) → key < length cs → (cell cs key).1 ≡ false → 0 < length (chain_of e.chain log) → AreAskedBefore (log ++ e ∷ []) → shows e.deed ≡ 0 → AreChained cs log
    → AreChained (slice_set cs key (value, true)) (log ++ e ∷ [])
adds_kept cs log e key value names few away some asked quiet kept =
    let ds = slice_set cs key (value, true) in
    let used : IsHome ds (next_of (chain_of e.chain log)) = subst (λ (k : ℕ). IsHome ds k) names (ap (λ (c : Cell). c.1) (get_or-set_same cs key (value, true) (0, false) few)) in
    record {
      row = omega (arith, kept.row, set_length cs key (value, true));
      homes = λ c row. set_home cs key value c (kept.homes c row);
      begun = λ c row is. begun c row is;
      used = λ c row. chained c row (e.chain == c) refl;
      asked = asked;
      home = set_home cs key value shown_word kept.home;
      shown = ap (λ (d : Cell). d.0) (get_or-set_other cs key shown_word (value, true) (0, false) aside) ∙ (kept.shown ∙ sym (shown_quiet log e quiet));
      listed = listed_quiet log e quiet kept.listed;
    }
  where
    ds : List Cell
    ds = slice_set cs key (value, true)

    apart : (c : ℕ) → c < 42 → c ≢ key
    apart c row same = absurd (cc (kept.homes c row, subst (λ (k : ℕ). (cell cs k).1 ≡ false) (sym same) away))

    aside : shown_word ≢ key
    aside same = absurd (cc (kept.home, subst (λ (k : ℕ). (cell cs k).1 ≡ false) (sym same) away))

    before : (c : ℕ) → c < 42 → (cell ds c).0 ≡ 0 → chain_of c log ≡ []
    before c row is = kept.begun c row (sym (ap (λ (d : Cell). d.0) (get_or-set_other cs key c (value, true) (0, false) (apart c row))) ∙ is)

    begun : (c : ℕ) → c < 42 → (cell ds c).0 ≡ 0 → chain_of c (log ++ e ∷ []) ≡ []
    begun c row is =
        let none = before c row is in
        let not : e.chain ≢ c = λ same. absurd (omega (arith, some, ap length (subst (λ (k : ℕ). chain_of k log ≡ []) (sym same) none))) in
        other_snoc c log e not ∙ none

    still : (c : ℕ) → c < 42 → AreHome ds (chain_of c log)
    still c row = still_home cs ds (chain_of c log) (λ j home. set_home cs key value j home) (kept.used c row)

    chained : (c : ℕ) → c < 42 → (b : Bool) → (e.chain == c) ≡ b → AreHome ds (chain_of c (log ++ e ∷ []))
    chained c row true is =
        let same : e.chain ≡ c = grind (arith, nat_tests, is) in
        let home : IsHome ds (next_of (chain_of c log)) = subst (λ (k : ℕ). IsHome ds (next_of (chain_of k log))) same (subst (λ (k : ℕ). IsHome ds k) names (ap (λ (d : Cell). d.1) (get_or-set_same cs key (value, true) (0, false) few))) in
        rw (own_snoc c log e same) (home_snoc ds (chain_of c log) e (still c row) (λ some. home))
    chained c row false is =
        let not : e.chain ≢ c = λ same. absurd (grind (arith, nat_tests, is, same)) in
        rw (other_snoc c log e not) (still c row)

-- whatever the book is, the exchange adds the entry to the chain of whoever has the pen
pub adds_moves : (c : ℕ) (own v : List HistoryEntry) (e : HistoryEntry) (p : Nib) → c < 42 → IsPrefix own v → 0 < length (chain_of c own) → p.right ≡ may_write → p.key ≡ next_of (chain_of c own)
    → e.chain ≡ c → e.place ≡ length (chain_of c own) → IsDue e.chain e.deed v
    → Moves AreChained shown moved c (v, (p, None)) (λ n. either (n == 1) 1 n) (Adds (step c 1 1 e) (v, (p, None)))
adds_moves c own v e p few begins some right key chain place due cs log kept pre away =
    let off = away right in
    let out : (cell cs (next_of (chain_of c own))).1 ≡ false = subst (λ (k : ℕ). (cell cs k).1 ≡ false) key off.1 in
    let same : chain_of c own ≡ chain_of c log = whole cs (chain_of c own) (chain_of c log) some (chain_prefix c own log (prefix_trans own v log begins pre)) (kept.used c few) out in
    let ours : chain_of e.chain log ≡ chain_of c own = ap (λ (k : ℕ). chain_of k log) chain ∙ sym same in
    let here : chain_of e.chain v ≡ chain_of e.chain log = subst (λ (k : ℕ). chain_of k v ≡ chain_of k log) (sym chain) (between_same c own v log begins pre same) in
    let asked : AreAskedBefore (log ++ e ∷ []) = still_asked log v e.chain e.place e.next e.deed pre here due kept.asked in (
      omega (arith, few, kept.row),
      kept.homes c few,
      (
        gives,
        e ∷ [],
        None,
        right,
        rw (unchanged cs log c few kept) (adds_kept cs log e p.key p.value (key ∙ ap next_of (sym ours)) off.0 off.1 (subst (λ (l : List HistoryEntry). 0 < length l) (sym ours) some) asked (due_quiet e.chain e.deed v due) kept),
        inl (refl, refl),
        record { before = log; log = refl; seen = pre; place = ap length ours ∙ sym place; asked = kept.asked },
      ),
    )

-- the first entry of a chain
begins_kept : (cs : List Cell) (log : List HistoryEntry) (e : HistoryEntry) → e.chain < 42 → chain_of e.chain log ≡ [] → LeavesNone e → shows e.deed ≡ 0 → AreChained cs log
    → AreChained (slice_set cs e.chain (1, true)) (log ++ e ∷ [])
begins_kept cs log e few none leaves quiet kept = record {
  row = omega (arith, kept.row, set_length cs e.chain (1, true));
  homes = λ c row. set_home cs e.chain 1 c (kept.homes c row);
  begun = λ c row is. begun c row (e.chain == c) refl is;
  used = λ c row. chained c row (e.chain == c) refl;
  asked = none_asked log e leaves kept.asked;
  home = set_home cs e.chain 1 shown_word kept.home;
  shown = ap (λ (d : Cell). d.0) (get_or-set_other cs e.chain shown_word (1, true) (0, false) aside) ∙ (kept.shown ∙ sym (shown_quiet log e quiet));
  listed = listed_quiet log e quiet kept.listed;
}
  where
    ds : List Cell
    ds = slice_set cs e.chain (1, true)

    aside : shown_word ≢ e.chain
    aside same = absurd (omega (arith, few, same))

    begun : (c : ℕ) → c < 42 → (b : Bool) → (e.chain == c) ≡ b → (cell ds c).0 ≡ 0 → chain_of c (log ++ e ∷ []) ≡ []
    begun c row true here is =
        let same : e.chain ≡ c = grind (arith, nat_tests, here) in
        let one : (cell ds e.chain).0 ≡ 1 = ap (λ (d : Cell). d.0) (get_or-set_same cs e.chain (1, true) (0, false) (omega (arith, few, kept.row))) in
        let zero_is : (cell ds e.chain).0 ≡ 0 = subst (λ (k : ℕ). (cell ds k).0 ≡ 0) (sym same) is in
        absurd (omega (arith, one, zero_is))
    begun c row false here is =
        let not : e.chain ≢ c = λ same. absurd (grind (arith, nat_tests, here, same)) in
        let apart : c ≢ e.chain = λ same. not (sym same) in
        other_snoc c log e not ∙ kept.begun c row (sym (ap (λ (d : Cell). d.0) (get_or-set_other cs e.chain c (1, true) (0, false) apart)) ∙ is)

    still : (c : ℕ) → c < 42 → AreHome ds (chain_of c log)
    still c row = still_home cs ds (chain_of c log) (λ j home. set_home cs e.chain 1 j home) (kept.used c row)

    chained : (c : ℕ) → c < 42 → (b : Bool) → (e.chain == c) ≡ b → AreHome ds (chain_of c (log ++ e ∷ []))
    chained c row true here =
        let same : e.chain ≡ c = grind (arith, nat_tests, here) in
        let empty : chain_of c log ≡ [] = subst (λ (k : ℕ). chain_of k log ≡ []) same none in
        rw (own_snoc c log e same, empty) tt
    chained c row false here =
        let not : e.chain ≢ c = λ same. absurd (grind (arith, nat_tests, here, same)) in
        rw (other_snoc c log e not) (still c row)

begins_goes : (cs : List Cell) (log v : List HistoryEntry) (e : HistoryEntry) → e.chain < 42 → e.place ≡ length (chain_of e.chain v) → LeavesNone e → shows e.deed ≡ 0 → IsPrefix v log → AreChained cs log → (b : Bool) → ((cell cs e.chain).0 == 0) ≡ b
    → Goes AreChained shown moved e.chain (v, (no_nib, None)) (λ n. either (n == 0) 1 n) (Begins (step e.chain 0 1 e) (v, (no_nib, None))) cs log
begins_goes cs log v e few place leaves quiet pre kept true is =
    let here : (cell cs e.chain).0 ≡ 0 = grind (arith, nat_tests, is) in
    let none : chain_of e.chain log ≡ [] = kept.begun e.chain few here in (
      keeps,
      e ∷ [],
      None,
      tt,
      rw is (begins_kept cs log e few none leaves quiet kept),
      inl (refl, refl),
      rw is (record { added = record { before = log; log = refl; seen = pre; place = omega (arith, place, ap length none, prefix_length (chain_of e.chain v) (chain_of e.chain log) (chain_prefix e.chain v log pre)); asked = kept.asked }; none = none }),
    )
begins_goes cs log v e few place leaves quiet pre kept false is = (
  keeps,
  [],
  None,
  tt,
  rw (is, same_cell cs e.chain (cell cs e.chain).0 (kept.homes e.chain few) refl, append-nil log) kept,
  inl (refl, ap shown (append-nil log)),
  rw is tt,
)

-- whatever the book is, the exchange adds the first entry of the chain, or finds that there is one
pub begins_moves : (c : ℕ) (v : List HistoryEntry) (e : HistoryEntry) → c < 42 → e.chain ≡ c → e.place ≡ length (chain_of c v) → LeavesNone e → shows e.deed ≡ 0
    → Moves AreChained shown moved c (v, (no_nib, None)) (λ n. either (n == 0) 1 n) (Begins (step c 0 1 e) (v, (no_nib, None)))
begins_moves c v e few chain place leaves quiet =
    subst (λ (k : ℕ). Moves AreChained shown moved k (v, (no_nib, None)) (λ n. either (n == 0) 1 n) (Begins (step k 0 1 e) (v, (no_nib, None)))) chain
    (λ cs log kept pre away.
    let row : e.chain < 42 = subst (λ (k : ℕ). k < 42) (sym chain) few in
    (omega (arith, row, kept.row), kept.homes e.chain row, begins_goes cs log v e row (place ∙ ap (λ (k : ℕ). length (chain_of k v)) (sym chain)) leaves quiet pre kept ((cell cs e.chain).0 == 0) refl))

-- the rule holds of 43 words and no entry
pub woven_at_first : AreChained (replicate 43 (0, true)) []
woven_at_first = record {
  row = omega arith;
  homes = λ c few. ap (λ (d : Cell). d.1) (get_or-replicate 43 c (0, true) (0, false) (omega (arith, few)));
  begun = λ c few is. refl;
  used = λ c few. tt;
  asked = λ owner. ([], refl);
  home = ap (λ (d : Cell). d.1) (get_or-replicate 43 42 (0, true) (0, false) (omega arith));
  shown = ap (λ (d : Cell). d.0) (get_or-replicate 43 42 (0, true) (0, false) (omega arith));
  listed = none_listed;
}

-- ---- what an added entry tells

pub added_same : (c : ℕ) (own v w : List HistoryEntry) (e : HistoryEntry) → e.chain ≡ c → e.place ≡ length (chain_of c own) → IsPrefix own v → (a : IsEntryAdded v w e) → chain_of c a.before ≡ chain_of c own
added_same c own v w e chain place begins a =
    let pre = chain_prefix c own a.before (prefix_trans own v a.before begins a.seen) in
    let size : length (chain_of c a.before) ≡ length (chain_of c own) = ap (λ (k : ℕ). length (chain_of k a.before)) (sym chain) ∙ (a.place ∙ place) in
    sym (prefix_whole (chain_of c own) (chain_of c a.before) pre (omega (arith, size)))

pub added_next : (c : ℕ) (v w : List HistoryEntry) (e : HistoryEntry) → e.chain ≡ c → IsEntryAdded v w e → next_of (chain_of c w) ≡ e.next
added_next c v w e chain a =
    ap (λ (l : List HistoryEntry). next_of (chain_of c l)) a.log ∙ (ap next_of (own_snoc c a.before e chain) ∙ next_snoc (chain_of c a.before) e)

pub added_some : (c : ℕ) (v w : List HistoryEntry) (e : HistoryEntry) → e.chain ≡ c → IsEntryAdded v w e → 0 < length (chain_of c w)
added_some c v w e chain a =
    let is : chain_of c w ≡ chain_of c a.before ++ e ∷ [] = ap (chain_of c) a.log ∙ own_snoc c a.before e chain in
    omega (arith, ap length is, length-append (chain_of c a.before) (e ∷ []))

-- the memory of a chain that begins is the first entry's word
pub first_memory : (c : ℕ) (v w : List HistoryEntry) (e : HistoryEntry) → e.chain ≡ c → IsFirstOfChain v w e → memory_after c w ≡ after_deed (zeros (0, 0)) e.deed
first_memory c v w e chain f =
    let none : chain_of c f.added.before ≡ [] = subst (λ (k : ℕ). chain_of k f.added.before ≡ []) chain f.none in
    let is : chain_of c w ≡ e ∷ [] = ap (chain_of c) f.added.log ∙ (own_snoc c f.added.before e chain ∙ ap (λ (l : List HistoryEntry). l ++ e ∷ []) none) in
    ap (λ (l : List HistoryEntry). fold after_link (zeros (0, 0)) l) is

-- a chain that begins asks for nothing
pub first_asked : (c : ℕ) (v w : List HistoryEntry) (e : HistoryEntry) → e.chain ≡ c → IsFirstOfChain v w e → asked_in (chain_of c w) ≡ with_asked e.deed []
first_asked c v w e chain f =
    let none : chain_of c f.added.before ≡ [] = subst (λ (k : ℕ). chain_of k f.added.before ≡ []) chain f.none in
    let is : chain_of c w ≡ e ∷ [] = ap (chain_of c) f.added.log ∙ (own_snoc c f.added.before e chain ∙ ap (λ (l : List HistoryEntry). l ++ e ∷ []) none) in
    ap asked_in is

-- a chain that begins has no entry of a journal
pub first_entries : (c : ℕ) (v w : List HistoryEntry) (e : HistoryEntry) → e.chain ≡ c → IsFirstOfChain v w e → entries_of c w ≡ with_entry e.deed []
first_entries c v w e chain f =
    let none : chain_of c f.added.before ≡ [] = subst (λ (k : ℕ). chain_of k f.added.before ≡ []) chain f.none in
    let is : chain_of c w ≡ e ∷ [] = ap (chain_of c) f.added.log ∙ (own_snoc c f.added.before e chain ∙ ap (λ (l : List HistoryEntry). l ++ e ∷ []) none) in
    ap entries_in is

-- a word of that book that is tracked is the word of its key
pub known_word : (w : Named) (home : Book) → w.tracked ≡ true → w.book ≡ home → w ≡ chain_word_of home w.key
known_word w home tracked book = λ i. record { tracked = tracked i; key = w.key; book = book i }

-- whatever the book is, the exchange finds that the chain is what the pen's owner has of it
pub looks_moves : (c : ℕ) (own v : List HistoryEntry) (e : HistoryEntry) (p : Nib) → c < 42 → IsPrefix own v → 0 < length (chain_of c own) → p.right ≡ may_write → p.key ≡ next_of (chain_of c own)
    → e.chain ≡ c → e.place ≡ length (chain_of c own)
    → Moves AreChained shown moved c (v, (p, None)) (λ n. either (n == 1) 1 n) (Looks (step c 1 1 e) (v, (p, None)))
looks_moves c own v e p few begins some right key chain place cs log kept pre away =
    let off = away right in
    let out : (cell cs (next_of (chain_of c own))).1 ≡ false = subst (λ (k : ℕ). (cell cs k).1 ≡ false) key off.1 in
    let same : chain_of c own ≡ chain_of c log = whole cs (chain_of c own) (chain_of c log) some (chain_prefix c own log (prefix_trans own v log begins pre)) (kept.used c few) out in
    let ours : chain_of e.chain log ≡ chain_of c own = ap (λ (k : ℕ). chain_of k log) chain ∙ sym same in
    let all : log ++ [] ≡ log = append-nil log in (
      omega (arith, few, kept.row),
      kept.homes c few,
      (
        keeps,
        [],
        None,
        tt,
        rw (unchanged cs log c few kept, all) kept,
        inl (refl, ap shown all),
        (ap (λ (l : List HistoryEntry). length (chain_of e.chain l)) all ∙ (ap length ours ∙ sym place), refl, subst AreAskedBefore (sym all) kept.asked),
      ),
    )
