-- A bank's chain that has entries of any ports, and how a judged command ends at such a bank.
use Rattle.std.proofs.Common.{◌≡◌, ◌==◌, ◌+◌, ◌-◌, ◌<◌, ◌≤◌, ◌^◌, ℕ, suc, Bool, true, false, cond, List, [], ◌∷◌, ◌++◌, length, Option, Some, None, refl, sym, ap, subst, ◌∙◌, length-append, arith}
use Rattle.std.specs.Prelude.{fold, filter, if◌then◌else◌, map, nat_lt, slice_get}
use Rattle.std.specs.List.{range_with_len}
use Rattle.std.proofs.lemmas.Bool.{and_from}
use Rattle.std.proofs.lemmas.Bool.Decides.{nat_tests}
use mathlib.Core.List.{IsPrefix}
use Rattle.spw.specs.Cargo.{Cargo}
use Rattle.rmap.specs.declared.places.Place.{Place}
use Rattle.rmap.specs.declared.places.Place.TheVariants as places
use Rattle.rmap.specs.declared.status.Status.{Status}
use Rattle.rmap.specs.Command.{command_of}
use Rattle.bank.specs.Answer.{Answer, answer}
use Rattle.bank.specs.Effect.{Memory}
use Rattle.bank.specs.Records.{EntryValue, checked_entry, entry_of, numbers_of, replay}
use Rattle.brun.specs.declared.turns.Turn.{Turn}
use Rattle.brun.specs.declared.turns.Turn.TheVariants as turns
use Rattle.annals.specs.declared.deed.Act.TheVariants.{Leaves, Sets, Rotates, Publishes}
use Rattle.annals.specs.declared.deed.Deed.{Deed}
use Rattle.annals.specs.declared.deed.Deed.TheVariants.{Opens, Does, Asks, Shows}
use Rattle.annals.specs.declared.deed.HistoryEntry.{HistoryEntry}
use Rattle.annals.specs.Banks.{after_deed, after_link, answer_after, entries_in, entries_of, memory_after, with_entry, zeros}
use Rattle.annals.specs.Chains.{chain_of, link}
use Rattle.node_parts.specs.declared.config.BankConfig.{BankConfig}
use Rattle.ports.specs.Due.{Judging, Standing}
use Rattle.sched.specs.declared.event.Event.TheVariants.{Effect}
use Rattle.sched.specs.declared.event.Outcome.TheVariants.{Done}
use Rattle.sched.specs.History.{History, Then, Open, opened}
use Rattle.sched.specs.Lawful.{IsOutcomeAtExceptAnswer, bank_answer, effect_outcome}
use Rattle.sched.specs.Looking.{Node, entered, entries, entry_left, first_memory, has_entry_room, memory, place_in, turn_of, verdict_at}
use Rattle.lawful.specs.Together.{AreSomeEntries, IsBankOfPorts, IsChainOf, IsSomeEntry}
use Rattle.lawful.proofs.Entering.{IsDoneAt}
use Rattle.lawful.proofs.Keeping.{apart, itself}
use Rattle.lawful.proofs.Links.{chain_begin, chain_entry, front_of}
use Rattle.lawful.proofs.Loading.{effect_reported, entries_done}
use Rattle.lawful.proofs.Owning.{entry_last, not_begun, range_length}

-- ---- entries

-- a deed that is an entry
record IsEntry (d : Deed) : Type 0 where
  entry : EntryValue
  is : d ≡ Does (Leaves entry)

is_entry : (d : Deed) → IsSomeEntry d → IsEntry d
is_entry (Opens x) is = absurd is
is_entry (Does (Leaves e)) is = record { entry = e; is = refl }
is_entry (Does (Sets x)) is = absurd is
is_entry (Does (Rotates x)) is = absurd is
is_entry (Does (Publishes x)) is = absurd is
is_entry (Asks x) is = absurd is
is_entry Shows is = absurd is

first_entries : (xs ys : List HistoryEntry) → AreSomeEntries (xs ++ ys) → AreSomeEntries xs
first_entries [] ys all = tt
first_entries (x ∷ xs) ys all = (all.0, first_entries xs ys all.1)

-- as many entries as deeds
count_entries : (ls : List HistoryEntry) → AreSomeEntries ls → length (entries_in ls) ≡ length ls
count_entries [] all = refl
count_entries (l ∷ ls) all =
    let that = is_entry l.deed all.0 in
    ap (λ (d : Deed). length (with_entry d (entries_in ls))) that.is ∙ ap suc (count_entries ls all.1)

-- what they leave of a memory is their replay
replay_entries : (m : Memory) (ls : List HistoryEntry) → AreSomeEntries ls → fold after_link m ls ≡ replay m (entries_in ls)
replay_entries m [] all = refl
replay_entries m (l ∷ ls) all =
    let that = is_entry l.deed all.0 in
    ap (λ (d : Deed). fold after_link (after_deed m d) ls) that.is
    ∙ (replay_entries (after_deed m (Does (Leaves that.entry))) ls all.1 ∙ sym (ap (λ (d : Deed). replay m (with_entry d (entries_in ls))) that.is))

-- ---- the bank at a moment

pub record IsBankSoFar (k : ℕ) (bank : BankConfig) (before : List HistoryEntry) : Type 0 where
  pub few : length (entries_of k before) ≤ bank.room
  pub memory : (chain_of k before ≡ [] → ⊥) → memory_after k before ≡ replay (first_memory (Some bank)) (entries_of k before)

pub bank_so_far : (k : ℕ) (bank : BankConfig) (before whole : List HistoryEntry) → IsBankOfPorts k bank whole → IsPrefix before whole → IsBankSoFar k bank before
bank_so_far k bank before whole is begins = let q = chain_begin k before whole begins in by q.0 q.1 (chain_of k before) refl
  where
    by : (rest : List HistoryEntry) → chain_of k before ++ rest ≡ chain_of k whole → (ls : List HistoryEntry) → chain_of k before ≡ ls → IsBankSoFar k bank before
    by rest all [] here =
        let none : entries_of k before ≡ [] = ap entries_in here in
        record {
          few = let size = ap length none in omega (arith, size);
          memory = λ some. absurd (some here);
        }
    by rest all (l ∷ ls) here =
        let chain : IsChainOf bank (l ∷ (ls ++ rest)) = subst (IsChainOf bank) (sym all ∙ ap (λ (xs : List HistoryEntry). xs ++ rest) here) is.chain in
        let left : AreSomeEntries ls = first_entries ls rest chain.1 in
        let entries_are : entries_of k before ≡ entries_in ls = ap entries_in here ∙ ap (λ (d : Deed). with_entry d (entries_in ls)) chain.0 in
        let count : length (entries_of k before) ≡ length ls = ap length entries_are ∙ count_entries ls left in
        let size : length (ls ++ rest) ≡ length ls + length rest = length-append ls rest in
        let room = chain.2 in
        record {
          few = omega (arith, count, size, room);
          memory = λ some.
              ap (fold after_link (zeros (0, 0))) here
              ∙ (ap (λ (d : Deed). fold after_link (after_deed (zeros (0, 0)) d) ls) chain.0
              ∙ (replay_entries (first_memory (Some bank)) ls left ∙ ap (replay (first_memory (Some bank))) (sym entries_are)));
        }

-- a bank that has an entry had begun before that
begun : (k place next : ℕ) (bank : BankConfig) (before whole : List HistoryEntry) (e : EntryValue) → IsBankOfPorts k bank whole → IsPrefix (before ++ link k place (Does (Leaves e)) next ∷ []) whole → chain_of k before ≡ [] → ⊥
begun k place next bank before whole e is begins none =
    let l = link k place (Does (Leaves e)) next in
    let q = chain_begin k (before ++ l ∷ []) whole begins in
    let first : chain_of k (before ++ l ∷ []) ≡ l ∷ [] = chain_entry k place next before e ∙ ap (λ (ls : List HistoryEntry). ls ++ l ∷ []) none in
    let chain : IsChainOf bank (l ∷ q.0) = subst (IsChainOf bank) (sym q.1 ∙ ap (λ (ls : List HistoryEntry). ls ++ q.0) first) is.chain in
    not_begun e (bank.base, bank.size, bank.room) chain.0

one_number : (port : ℕ) (e : EntryValue) (es : List EntryValue) (b : Bool) → length (numbers_of port es) ≤ length es
    → length (map (λ (x : EntryValue). x.number) (cond b (e ∷ filter (λ (x : EntryValue). x.port == port) es) (filter (λ (x : EntryValue). x.port == port) es))) ≤ length (e ∷ es)
one_number port e es true rest = omega (arith, rest)
one_number port e es false rest = omega (arith, rest)

-- a port has no more entries than all have
few_numbers : (port : ℕ) (es : List EntryValue) → length (numbers_of port es) ≤ length es
few_numbers port [] = omega arith
few_numbers port (e ∷ es) = one_number port e es (e.port == port) (few_numbers port es)

-- ---- the end of a command

below : (x y z : ℕ) → x + 1 ≤ y → y < z → x < z - 1
below x y z a b = omega (arith, a, b)

-- The end of a command at a bank is lawful. The bank then has the entries that the list has of it.
pub record EndsWithEntry (n : Node) (port k : ℕ) (now : History) (o : Open) (reply : List ℕ) (after : List HistoryEntry) : Type 0 where
  pub status : Status
  pub outcome : IsOutcomeAtExceptAnswer n now (Effect port) (Done status reply None)
  pub own : entries n (Then now (Effect port) (Done status reply None)) k ≡ entries_of k after
  pub others : (m : ℕ) → (m ≡ k → ⊥) → entries n (Then now (Effect port) (Done status reply None)) m ≡ entries n now m

pub entry_thus : (n : Node) (port k : ℕ) (bank : BankConfig) (whole : List HistoryEntry) (now : History) (o : Open) (j : Judging) (h after : Standing) → slice_get n.banks k ≡ Some bank → IsBankOfPorts k bank whole
    → opened now port ≡ Some o → turn_of n port o ≡ Some (turns.Verdict j.judged.verdict) → place_in n o.packet ≡ Some j.judged.place → j.judged.packet ≡ o.packet
    → o.generation ≡ j.judged.generation → j.judged.port ≡ port → j.judged.place ≡ places.Bank k → (done : IsDoneAt k j h after) → IsPrefix after.front whole → entries n now k ≡ entries_of k done.before
    → EndsWithEntry n port k now o j.reply after.front
entry_thus n port k bank whole now o j h after there bank_is is_open stands at_place packet generation port_is place done begins same =
    let v = j.judged.verdict in
    let es = entries n now k in
    let before = done.before in
    let e = entry_of done.share j.judged done.status in
    let l = link k (length (chain_of k before)) (Does (Leaves e)) done.next in
    let stands_at : IsPrefix (before ++ l ∷ []) whole = subst (λ (ls : List HistoryEntry). IsPrefix ls whole) done.log begins in
    let begins_before : IsPrefix before whole = front_of before whole l stands_at in
    let so_before = bank_so_far k bank before whole bank_is begins_before in
    let later = bank_so_far k bank after.front whole bank_is begins in
    let last : entries_of k after.front ≡ entries_of k before ++ e ∷ [] = ap (entries_of k) done.log ∙ entry_last k (length (chain_of k before)) done.next before e in
    let numbers : numbers_of port (entries_of k before) ≡ range_with_len 0 done.share.number =
    subst (λ (q : ℕ). numbers_of q (entries_of k before) ≡ range_with_len 0 done.share.number) port_is done.numbers in
    let counted : length (numbers_of port (entries_of k before)) ≡ done.share.number = ap length numbers ∙ range_length 0 done.share.number in
    let number_is : length (numbers_of port es) ≡ done.share.number = ap (λ (xs : List EntryValue). length (numbers_of port xs)) same ∙ counted in
    let many : length es ≡ length (entries_of k before) = ap length same in
    let one_more : length (entries_of k after.front) ≡ length es + 1 =
    ap length last ∙ (length-append (entries_of k before) (e ∷ []) ∙ ap (λ (x : ℕ). x + 1) (sym many)) in
    let few : length es + 1 ≤ bank.room = let fits = later.few in omega (arith, fits, one_more) in
    let own_few = few_numbers port es in
    let below_room : length es < bank.room = omega (arith, few) in
    let below_all : length (numbers_of port es) < 2 ^ 64 - 1 = below (length (numbers_of port es)) bank.room (2 ^ 64) (omega (arith, own_few, few)) bank_is.few in
    let has_place : nat_lt (length es) bank.room ≡ true = grind (arith, nat_tests, below_room) in
    let has_number : nat_lt (length (numbers_of port es)) (2 ^ 64 - 1) ≡ true = grind (arith, nat_tests, below_all) in
    let room : has_entry_room (slice_get n.banks k) port es ≡ true =
    ap (λ (b : Option BankConfig). has_entry_room b port es) there ∙ and_from (nat_lt (length es) bank.room) (nat_lt (length (numbers_of port es)) (2 ^ 64 - 1)) has_place has_number in
    let memory_is : memory n now k ≡ memory_after k before =
    ap (λ (b : Option BankConfig). replay (first_memory b) es) there ∙ (ap (replay (first_memory (Some bank))) same ∙ sym (so_before.memory (begun k (length (chain_of k before)) done.next bank before whole e bank_is stands_at))) in
    let answer_is : bank_answer n now k port (command_of o.packet) v ≡ answer_after k before j.judged =
    ap (λ (m : Memory). answer m (has_entry_room (slice_get n.banks k) port es) (command_of o.packet) v) memory_is
    ∙ (ap (λ (r : Bool). answer (memory_after k before) r (command_of o.packet) v) room ∙ ap (λ (p : Cargo). answer (memory_after k before) true (command_of p) v) (sym packet)) in
    let a = bank_answer n now k port (command_of o.packet) v in
    let status_is : done.status ≡ a.status = done.status_is ∙ sym (ap (λ (x : Answer). x.status) answer_is) in
    let reply_is : j.reply ≡ a.reply = done.reply_is ∙ sym (ap (λ (x : Answer). x.reply) answer_is) in
    let lies : place_in n o.packet ≡ Some (places.Bank k) = at_place ∙ ap (λ (x : Place). Some x) place in
    let lawful : Done done.status j.reply None ≡ effect_outcome n now port (opened now port) =
    ap (λ (x : Status). Done x j.reply None) status_is ∙ (ap (λ (bytes : List ℕ). Done a.status bytes None) reply_is ∙ sym (effect_reported n now port v o (places.Bank k) is_open stands lies)) in
    let entry_is : entry_left n port (length (numbers_of port es)) o done.status ≡ e =
    ap (λ (x : ℕ). entry_left n port x o done.status) number_is
    ∙ (ap (λ (x : Option Turn). checked_entry port done.share.number o.packet o.generation (verdict_at x) done.status) stands
    ∙ (ap (λ (x : Cargo). checked_entry port done.share.number x o.generation v done.status) (sym packet)
    ∙ (ap (λ (x : ℕ). checked_entry port done.share.number j.judged.packet x v done.status) generation
    ∙ ap (λ (x : ℕ). checked_entry x done.share.number j.judged.packet j.judged.generation v done.status) (sym port_is)))) in
    let more = entries_done n now (Effect port) done.status j.reply None o (Some (places.Bank k)) is_open lies in
    let own : entries n (Then now (Effect port) (Done done.status j.reply None)) k ≡ entries_of k after.front =
    more k
    ∙ (ap (λ (b : Bool). if b then entered n (slice_get n.banks k) port o done.status es else es) (itself k)
    ∙ (ap (λ (r : Bool). if r then es ++ entry_left n port (length (numbers_of port es)) o done.status ∷ [] else es) room
    ∙ (ap (λ (x : EntryValue). es ++ x ∷ []) entry_is ∙ (ap (λ (xs : List EntryValue). xs ++ e ∷ []) same ∙ sym last)))) in
    record {
      status = done.status;
      outcome = lawful;
      own = own;
      others = λ m other. more m ∙ ap (λ (b : Bool). if b then entered n (slice_get n.banks m) port o done.status (entries n now m) else entries n now m) (apart k m other);
    }
