-- The entries of a port in a whole history are those of its worker's commands.
use Rattle.std.proofs.Common.{◌≡◌, ℕ, zero, suc, ◌+◌, ◌<◌, ◌≤◌, ◌==◌, Bool, true, false, cond, List, [], ◌∷◌, ◌++◌, length, drop, sym, refl, ap, ◌∙◌, subst, arith, append_assoc, length-append, inl, inr}
use Rattle.std.specs.Prelude.{MatchBool, filter}
use Rattle.std.specs.List.{range_with_len}
use Rattle.std.proofs.lemmas.List.{length-map}
use Rattle.std.proofs.lemmas.List.Elements.{filter-append}
use Rattle.std.proofs.lemmas.Bool.Decides.{nat_tests}
use Rattle.std.proofs.lemmas.Bool.{and_parts}
use mathlib.Core.List.{IsPrefix}
use Rattle.spw.specs.Cargo.{Cargo}
use Rattle.rmap.specs.declared.places.Place.{Place}
use Rattle.rmap.specs.declared.places.Place.TheVariants.{Bank}
use Rattle.bank.specs.Records.{EntryValue, numbers_of, entry_of, numbered_entry}
use Rattle.node_parts.specs.Passes.{PassValue}
use Rattle.node_parts.specs.Applied.{share_of}
use Rattle.annals.specs.declared.deed.Act.TheVariants as acts
use Rattle.annals.specs.declared.deed.Deed.{Deed as BankDeed}
use Rattle.annals.specs.declared.deed.Deed.TheVariants as deeds
use Rattle.annals.specs.declared.deed.HistoryEntry.{HistoryEntry}
use Rattle.annals.specs.Chains.{chain_of, link}
use Rattle.annals.specs.Banks.{entries_by, entries_in, entries_of, with_entry}
use Rattle.annals.specs.Publishes.{publishes_of}
use Rattle.ports.specs.Due.{Judging, Deed, Standing, stand, Worked, IsBanked, IsJudgedInRun, judgings}
use Rattle.ports.specs.Due.Deed.{Dropped, Answered, Judged}
use Rattle.ports.specs.Laws.{AreEntriesOf, EntriesFollow, HasEntered, IsByShown, IsEntryOf, WorkersEntriesAreAll, is_bank_of, is_entry_at, next_number_at}
use Rattle.ports.proofs.Entries.{IsJudgedAfter, done_after, entered, entries_follow}
use Rattle.ports.proofs.Following.{bit, dealt_stays, judged_by, judged_number, judged_shown, one_at, shares_count}
use Rattle.lemmas.proofs.Prefixes.{prefix_same, prefix_trans, prefix_length}

-- ---- lists

range_length : (start n : ℕ) → length (range_with_len start n) ≡ n
range_length start zero = refl
range_length start (suc n) = ap suc (range_length (start + 1) n)

drop_past : {A : Type 0} (n : ℕ) (xs : List A) → length xs ≤ n → drop n xs ≡ []
drop_past zero [] few = refl
drop_past zero (x ∷ xs) few = absurd (omega (arith, few))
drop_past (suc n) [] few = refl
drop_past (suc n) (x ∷ xs) few = drop_past n xs (omega (arith, few))

drop_at : {A : Type 0} (n : ℕ) (xs ys : List A) → length xs ≡ n → drop n (xs ++ ys) ≡ ys
drop_at zero [] ys is = refl
drop_at zero (x ∷ xs) ys is = absurd (omega (arith, is))
drop_at (suc n) [] ys is = absurd (omega (arith, is))
drop_at (suc n) (x ∷ xs) ys is = drop_at n xs ys (omega (arith, is))

-- ---- entries

with_joined : (d : BankDeed) (xs ys : List EntryValue) → with_entry d (xs ++ ys) ≡ with_entry d xs ++ ys
with_joined (deeds.Opens x) xs ys = refl
with_joined (deeds.Does (acts.Leaves e)) xs ys = refl
with_joined (deeds.Does (acts.Sets x)) xs ys = refl
with_joined (deeds.Does (acts.Rotates x)) xs ys = refl
with_joined (deeds.Does (acts.Publishes x)) xs ys = refl
with_joined (deeds.Asks x) xs ys = refl
with_joined deeds.Shows xs ys = refl

entries_append : (ls ms : List HistoryEntry) → entries_in (ls ++ ms) ≡ entries_in ls ++ entries_in ms
entries_append [] ms = refl
entries_append (l ∷ ls) ms = ap (with_entry l.deed) (entries_append ls ms) ∙ with_joined l.deed (entries_in ls) (entries_in ms)

by_append : (port k : ℕ) (xs ys : List HistoryEntry) → entries_by port k (xs ++ ys) ≡ entries_by port k xs ++ entries_by port k ys
by_append port k xs ys =
    ap (λ ls. filter (λ (e : EntryValue). e.port == port) (entries_in ls)) (filter-append (λ (l : HistoryEntry). l.chain == k) xs ys)
    ∙ (ap (filter (λ (e : EntryValue). e.port == port)) (entries_append (chain_of k xs) (chain_of k ys))
    ∙ filter-append (λ (e : EntryValue). e.port == port) (entries_of k xs) (entries_of k ys))

-- the entry of one command
by_one : (port k place next : ℕ) (e : EntryValue) → e.port ≡ port → entries_by port k (link k place (deeds.Does (acts.Leaves e)) next ∷ []) ≡ e ∷ []
by_one port k place next e is =
    let here : (k == k) ≡ true = grind (arith, nat_tests) in
    let own : (e.port == port) ≡ true = grind (arith, nat_tests, is) in
    ap (λ (b : Bool). filter (λ (x : EntryValue). x.port == port) (entries_in (cond b (link k place (deeds.Does (acts.Leaves e)) next ∷ []) []))) here
    ∙ ap (λ (b : Bool). cond b (e ∷ []) []) own

-- ---- fronts

follow_prefix : (port : ℕ) (known : List HistoryEntry) (js : List Judging) (reached : List HistoryEntry) → EntriesFollow port known js reached → IsPrefix known reached
follow_prefix port known [] reached is = is
follow_prefix port known (j ∷ js) reached is = by j.entered is (λ from rest. follow_prefix port from js reached rest) where
  by : (b : Bool) → MatchBool b ((between : List HistoryEntry) × HasEntered port known between j × EntriesFollow port between js reached) (EntriesFollow port known js reached)
      → ((from : List HistoryEntry) → EntriesFollow port from js reached → IsPrefix from reached) → IsPrefix known reached
  by true here later =
      let last = here.1.done.last in
      let begins : IsPrefix last.before here.0 = (_, sym last.log) in
      prefix_trans known here.0 reached (prefix_trans known last.before here.0 last.seen begins) (later here.0 here.2)
  by false here later = later known here

-- ---- one command

-- what a command left at a bank: its entry, after as many of its port as the share counted
record HasLeft (port k : ℕ) (j : Judging) (h after : Standing) : Type 0 where
  before : List EntryValue
  entry : EntryValue
  all : entries_by port k after.front ≡ before ++ entry ∷ []
  count : length before ≡ next_number_at h.pass k
  is : IsEntryOf port after.front (next_number_at h.pass k) j entry

place_is : (k n : ℕ) (place : Place) → place ≡ Bank n → is_bank_of k place ≡ true → n ≡ k
place_is k n place at here =
    let same : (n == k) ≡ true = subst (λ (p : Place). is_bank_of k p ≡ true) at here in
    grind (arith, nat_tests, same)

left_at : (port k : ℕ) (known : List HistoryEntry) (j : Judging) (h after : Standing) → j.judged.port ≡ port → IsJudgedAfter port j h.pass → IsByShown known h.front j → IsBanked j h after → is_entry_at k j ≡ true → HasLeft port k j h after
unfolding entered
left_at port k known j h after own by moment is here =
    let parts = and_parts j.entered (is_bank_of k j.judged.place) here in
    let following = done_after j h after is parts.0 in
    let done = following.done in
    let n = is.ended.before.chain.number in
    let same : n ≡ k = place_is k n j.judged.place done.place parts.1 in
    let share = share_of h.pass j.judged.place in
    let number : share.number ≡ next_number_at h.pass k = ap (λ (p : Place). (share_of h.pass p).number) done.place ∙ ap (next_number_at h.pass) same in
    let before = done.last.before in
    let e = entry_of share j.judged is.ended.result.status in
    let place = length (chain_of n before) in
    let one : entries_by port k (link n place (deeds.Does (acts.Leaves e)) done.last.next ∷ []) ≡ e ∷ [] =
    ap (λ (i : ℕ). entries_by port k (link i place (deeds.Does (acts.Leaves e)) done.last.next ∷ [])) same ∙ by_one port k place done.last.next e own in
    let numbers : numbers_of port (entries_of k before) ≡ range_with_len 0 share.number =
    subst (λ (p : ℕ). numbers_of p (entries_of k before) ≡ range_with_len 0 share.number) own
    (subst (λ (i : ℕ). numbers_of j.judged.port (entries_of i before) ≡ range_with_len 0 share.number) same done.numbers) in
    record {
      before = entries_by port k before;
      entry = e;
      all = ap (entries_by port k) done.last.log ∙ (by_append port k before (link n place (deeds.Does (acts.Leaves e)) done.last.next ∷ []) ∙ ap (λ (es : List EntryValue). entries_by port k before ++ es) one);
      count = sym (length-map (entries_by port k before) (λ (x : EntryValue). x.number)) ∙ (ap length numbers ∙ (range_length 0 share.number ∙ number));
      is = record {
        known = known;
        reached = after.front;
        entered = entered port known j h after by moment is parts.0;
        stands = prefix_same after.front after.front refl;
        entry_is = ap (λ (i : ℕ). numbered_entry i j.judged is.ended.result.status) number;
      };
    }

windowed_none : (k : ℕ) (j : Judging) → j.entered ≡ false → is_entry_at k j ≡ true → ⊥
windowed_none k j none here = cc (none, (and_parts j.entered (is_bank_of k j.judged.place) here).0)

-- a judged command that left an entry at the bank
judged_left : (k : ℕ) (j : Judging) (p : Cargo) (h after : Standing) → IsJudgedInRun j p h after → is_entry_at k j ≡ true → HasLeft h.pass.port k j h after
judged_left k j p h after is here =
    let port = h.pass.port in
    let own : j.judged.port ≡ port = is.judgement.judged_for.port_of in
    let middle = stand is.between h.asked is.reached in
    let number : next_number_at is.between k ≡ next_number_at h.pass k = ap (λ (x : PassValue). next_number_at x k) is.judgement.asked in
    elim is.ended [
      | inl banked ↦
          let left = left_at port k h.front j middle after own (λ published begins. judged_by j p h after published is begins) (judged_shown j p h after is) banked here in record {
            before = left.before;
            entry = left.entry;
            all = left.all;
            count = left.count ∙ number;
            is = subst (λ (i : ℕ). IsEntryOf port after.front i j left.entry) number left.is;
          }
      | inr windowed ↦ absurd (windowed_none k j windowed.entered here)
    ]

-- ---- all commands

-- an entry that is in a history is in one that goes on from it
entry_in_longer : (port : ℕ) (front log : List HistoryEntry) (n : ℕ) (j : Judging) (e : EntryValue) → IsPrefix front log → IsEntryOf port front n j e → IsEntryOf port log n j e
entry_in_longer port front log n j e begins is = record {
  known = is.known;
  reached = is.reached;
  entered = is.entered;
  stands = prefix_trans is.reached front log is.stands begins;
  entry_is = is.entry_is;
}

-- the commands at a bank, with one more before them
more_entries : (port : ℕ) (log : List HistoryEntry) (k n : ℕ) (j : Judging) (js : List Judging) (before rest all : List EntryValue) (e : EntryValue) → is_entry_at k j ≡ true → length before ≡ n → IsEntryOf port log n j e → all ≡ (before ++ e ∷ []) ++ rest
    → AreEntriesOf port log (n + 1) (filter (is_entry_at k) js) (drop (n + 1) all) → AreEntriesOf port log n (filter (is_entry_at k) (j ∷ js)) (drop n all)
more_entries port log k n j js before rest all e here count is whole others =
    let first : drop n all ≡ e ∷ rest = ap (drop n) (whole ∙ append_assoc before (e ∷ []) rest) ∙ drop_at n before (e ∷ rest) count in
    let size : length (before ++ e ∷ []) ≡ n + 1 = length-append before (e ∷ []) ∙ ap (λ (i : ℕ). i + 1) count in
    let later : drop (n + 1) all ≡ rest = ap (drop (n + 1)) whole ∙ drop_at (n + 1) (before ++ e ∷ []) rest size in
    let both : AreEntriesOf port log n (j ∷ filter (is_entry_at k) js) (e ∷ rest) = (is, subst (AreEntriesOf port log (n + 1) (filter (is_entry_at k) js)) later others) in
    subst (λ (es : List EntryValue). AreEntriesOf port log n (filter (is_entry_at k) (j ∷ js)) es) (sym first)
    (subst (λ (b : Bool). AreEntriesOf port log n (cond b (j ∷ filter (is_entry_at k) js) (filter (is_entry_at k) js)) (e ∷ rest)) (sym here) both)

-- one judged command before the others
one_before : (k : ℕ) (log : List HistoryEntry) (j : Judging) (p : Cargo) (h between : Standing) (js : List Judging) → IsJudgedInRun j p h between → IsPrefix between.front log → k < length h.pass.shares
    → AreEntriesOf h.pass.port log (next_number_at between.pass k) (filter (is_entry_at k) js) (drop (next_number_at between.pass k) (entries_by h.pass.port k log))
    → AreEntriesOf h.pass.port log (next_number_at h.pass k) (filter (is_entry_at k) (j ∷ js)) (drop (next_number_at h.pass k) (entries_by h.pass.port k log))
one_before k log j p h between js is front below rest = by (is_entry_at k j) refl where
  n : ℕ
  n = next_number_at h.pass k

  all : List EntryValue
  all = entries_by h.pass.port k log

  number : next_number_at between.pass k ≡ n + one_at k j
  number = judged_number k j p h between is below

  by : (b : Bool) → is_entry_at k j ≡ b → AreEntriesOf h.pass.port log n (filter (is_entry_at k) (j ∷ js)) (drop n all)
  by true here =
      let left = judged_left k j p h between is here in
      let next : next_number_at between.pass k ≡ n + 1 = number ∙ ap (λ (b : Bool). n + bit b) here in
      let whole : all ≡ (left.before ++ left.entry ∷ []) ++ entries_by h.pass.port k front.0 =
      ap (entries_by h.pass.port k) (sym front.1) ∙ (by_append h.pass.port k between.front front.0 ∙ ap (λ (es : List EntryValue). es ++ entries_by h.pass.port k front.0) left.all) in
      more_entries h.pass.port log k n j js left.before (entries_by h.pass.port k front.0) all left.entry here left.count
      (entry_in_longer h.pass.port between.front log n j left.entry front left.is) whole
      (subst (λ (i : ℕ). AreEntriesOf h.pass.port log i (filter (is_entry_at k) js) (drop i all)) next rest)
  by false here =
      let next : next_number_at between.pass k ≡ n = number ∙ (ap (λ (b : Bool). n + bit b) here ∙ omega arith) in
      subst (λ (b : Bool). AreEntriesOf h.pass.port log n (cond b (j ∷ filter (is_entry_at k) js) (filter (is_entry_at k) js)) (drop n all)) (sym here)
      (subst (λ (i : ℕ). AreEntriesOf h.pass.port log i (filter (is_entry_at k) js) (drop i all)) next rest)

all_entries : (k : ℕ) (log : List HistoryEntry) (h after : Standing) (ps : List Cargo) (ds : List Deed) → Worked h ps ds after → IsPrefix after.front log → k < length h.pass.shares
    → IsPrefix (numbers_of h.pass.port (entries_of k log)) (range_with_len 0 (next_number_at after.pass k))
    → AreEntriesOf h.pass.port log (next_number_at h.pass k) (filter (is_entry_at k) (judgings ds)) (drop (next_number_at h.pass k) (entries_by h.pass.port k log))
all_entries k log h after [] [] w begins below counted =
    let n = next_number_at h.pass k in
    let few : length (numbers_of h.pass.port (entries_of k log)) ≤ length (range_with_len 0 (next_number_at after.pass k)) = prefix_length _ _ counted in
    let size = length-map (entries_by h.pass.port k log) (λ (x : EntryValue). x.number) in
    let range = range_length 0 (next_number_at after.pass k) in
    let same : next_number_at after.pass k ≡ n = ap (λ (x : Standing). next_number_at x.pass k) w in
    subst (AreEntriesOf h.pass.port log n []) (sym (drop_past n (entries_by h.pass.port k log) (omega (arith, few, size, range, same)))) tt
all_entries k log h after [] (d ∷ ds) w begins below counted = absurd w
all_entries k log h after (p ∷ ps) [] w begins below counted = absurd w
all_entries k log h after (p ∷ ps) (Dropped ∷ ds) w begins below counted =
    let same = w.1.same in
    subst (λ (x : Standing). AreEntriesOf x.pass.port log (next_number_at x.pass k) (filter (is_entry_at k) (judgings ds)) (drop (next_number_at x.pass k) (entries_by x.pass.port k log))) same
    (all_entries k log w.0 after ps ds w.2 begins (subst (λ (x : Standing). k < length x.pass.shares) (sym same) below)
    (subst (λ (x : Standing). IsPrefix (numbers_of x.pass.port (entries_of k log)) (range_with_len 0 (next_number_at after.pass k))) (sym same) counted))
all_entries k log h after (p ∷ ps) (Answered reply ∷ ds) w begins below counted =
    let same = w.1.same in
    subst (λ (x : Standing). AreEntriesOf x.pass.port log (next_number_at x.pass k) (filter (is_entry_at k) (judgings ds)) (drop (next_number_at x.pass k) (entries_by x.pass.port k log))) same
    (all_entries k log w.0 after ps ds w.2 begins (subst (λ (x : Standing). k < length x.pass.shares) (sym same) below)
    (subst (λ (x : Standing). IsPrefix (numbers_of x.pass.port (entries_of k log)) (range_with_len 0 (next_number_at after.pass k))) (sym same) counted))
all_entries k log h after (p ∷ ps) (Judged j ∷ ds) w begins below counted =
    let stays = dealt_stays (Judged j) p h w.0 w.1 in
    let within : k < length w.0.pass.shares = subst (λ (i : ℕ). k < i) (sym stays.count) below in
    let rest = all_entries k log w.0 after ps ds w.2 begins within
    (subst (λ (i : ℕ). IsPrefix (numbers_of i (entries_of k log)) (range_with_len 0 (next_number_at after.pass k))) (sym stays.port) counted) in
    let front : IsPrefix w.0.front log = prefix_trans w.0.front after.front log (follow_prefix w.0.pass.port w.0.front (judgings ds) after.front (entries_follow w.0 after ps ds w.2)) begins in
    one_before k log j p h w.0 (judgings ds) w.1 front below
    (subst (λ (i : ℕ). AreEntriesOf i log (next_number_at w.0.pass k) (filter (is_entry_at k) (judgings ds)) (drop (next_number_at w.0.pass k) (entries_by i k log))) stays.port rest)

pub entries_are_all : WorkersEntriesAreAll
entries_are_all = λ h after ps ds log w begins counted k below.
    let stays = shares_count h after ps ds w in
    let within : k < length after.pass.shares = subst (λ (i : ℕ). k < i) (sym stays.count) below in
    all_entries k log h after ps ds w begins below
    (subst (λ (i : ℕ). IsPrefix (numbers_of i (entries_of k log)) (range_with_len 0 (next_number_at after.pass k))) stays.port (counted k within))
