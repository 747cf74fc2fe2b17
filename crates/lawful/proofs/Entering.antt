-- How a judged command ends at a bank at which only one port leaves entries.
use Rattle.std.proofs.Common.{◌≡◌, ◌+◌, ◌-◌, ◌<◌, ◌≤◌, ◌^◌, ℕ, Bool, true, List, [], ◌∷◌, ◌++◌, length, Option, Some, None, refl, sym, ap, subst, ◌∙◌, arith, length-append}
use Rattle.std.specs.Prelude.{IfNone, IfSome, if◌then◌else◌, nat_lt, slice_get}
use Rattle.std.specs.List.{range_with_len}
use Rattle.std.proofs.lemmas.Bool.{and_from, and_parts}
use Rattle.std.proofs.lemmas.Bool.Decides.{nat_tests}
use mathlib.Core.List.{IsPrefix}
use Rattle.spw.specs.Cargo.{Cargo}
use Rattle.rmap.specs.declared.places.Place.{Place}
use Rattle.rmap.specs.declared.places.Place.TheVariants as places
use Rattle.rmap.specs.declared.status.Status.{Status}
use Rattle.rmap.specs.Command.{command_of}
use Rattle.bank.specs.declared.bank.Applied.{Applied}
use Rattle.bank.specs.Answer.{Answer, answer}
use Rattle.bank.specs.Effect.{Memory}
use Rattle.bank.specs.Records.{BankValue, EntryValue, JudgedValue, ShareValue, checked_entry, entry_of, number_left, numbers_of, replay}
use Rattle.bank.specs.Records as banks
use Rattle.brun.specs.declared.turns.Turn.{Turn}
use Rattle.node_programs.specs.declared.publishes.Publish.{Publish}
use Rattle.node_parts.specs.declared.config.BankConfig.{BankConfig}
use Rattle.node_parts.specs.Applied.{share_of, with_share}
use Rattle.node_parts.specs.Passes.{PassValue}
use Rattle.annals.specs.declared.deed.Act.TheVariants.{Leaves}
use Rattle.annals.specs.declared.deed.Deed.TheVariants.{Does}
use Rattle.annals.specs.declared.deed.HistoryEntry.{HistoryEntry}
use Rattle.annals.specs.Banks.{IsDoneAtBank, answer_after, entries_of, memory_after, takes}
use Rattle.annals.specs.Chains.{Due, chain_of, link}
use Rattle.target.specs.Finished.{IsDoneAfter}
use Rattle.ports.specs.Due.{IsBanked, Judging, Standing}
use Rattle.ports.specs.Laws.{next_number_at}
use Rattle.sched.specs.declared.event.Event.TheVariants.{Effect}
use Rattle.sched.specs.declared.event.Outcome.TheVariants.{Done}
use Rattle.sched.specs.History.{History, Then, Open, opened}
use Rattle.sched.specs.Lawful.{IsOutcomeAtExceptAnswer, bank_answer, effect_outcome}
use Rattle.sched.specs.Looking.{Node, entered, entries, entry_left, first_memory, has_entry_room, memory, place_in, staged_at, staged_after, verdict_at}
use Rattle.lawful.specs.Alone.{IsOwnBank}
use Rattle.lawful.proofs.Idling.{IsLeftSoFar}
use Rattle.lawful.proofs.Keeping.{apart, itself}
use Rattle.lawful.proofs.Loading.{IsNow, effect_reported, entries_done}
use Rattle.lawful.proofs.Owning.{begun_before, entries_prefix, entry_last, own_so_far, range_length}
use Rattle.lemmas.proofs.Prefixes.{prefix_same, prefix_trans, prefix_whole}

left_some : (b : BankValue) (share : ShareValue) (j : JudgedValue) → banks.has_room b j.port ≡ true → number_left b share j ≡ Some share.number
left_some b share j room = ap (λ (r : Bool). if r then Some share.number else None) room

-- a command that left an entry was done, with the port's share of its place
done_after : (j : Judging) (h after : Standing) (is : IsBanked j h after) → j.entered ≡ true
    → IsDoneAfter h.pass.programs is.ended.before.chain.number h.front after.front (share_of h.pass j.judged.place) j.judged is.ended.result j.reply
done_after j h after is left =
    let share = share_of h.pass j.judged.place in let before = is.ended.before in let end = is.ended.finished in
    let parts = and_parts (takes before share j.judged) (banks.has_room before.bank j.judged.port) (sym is.entered ∙ left) in
    let number = (end.applied parts.0).number ∙ left_some before.bank share j.judged parts.1 in
    subst (λ (o : Option ℕ). IfSome o (λ n. IsDoneAfter h.pass.programs before.chain.number h.front after.front share j.judged is.ended.result j.reply)) number end.done

-- and its port asked for that entry
pub asks_one : (j : Judging) (h after : Standing) (is : IsBanked j h after) → j.entered ≡ true → length after.asked ≡ length h.asked + 1
asks_one j h after is left =
    let share = share_of h.pass j.judged.place in let before = is.ended.before in let end = is.ended.finished in
    let parts = and_parts (takes before share j.judged) (banks.has_room before.bank j.judged.port) (sym is.entered ∙ left) in
    let number = (end.applied parts.0).number ∙ left_some before.bank share j.judged parts.1 in
    let due : Due = (before.chain.number, Leaves (entry_of share j.judged is.ended.result.status)) in
    let more : after.asked ≡ h.asked ++ due ∷ [] =
    subst (λ (o : Option ℕ). IfSome o (λ n. after.asked ≡ h.asked ++ due ∷ [])) number is.ended.asks_for.entry in
    ap length more ∙ length-append h.asked (due ∷ [])

same_bank : (place : Place) (m k : ℕ) → place ≡ places.Bank m → place ≡ places.Bank k → m ≡ k
same_bank place m k a b = cc (a, b)

below : (x y z : ℕ) → x + 1 ≤ y → y < z → x < z - 1
below x y z a b = omega (arith, a, b)

share_staging : (h : PassValue) (place : Place) (share : ShareValue) → (with_share h place share).staging ≡ h.staging
share_staging h (places.Bank k) share = refl
share_staging h places.Staging share = refl
share_staging h places.LoadResult share = refl
share_staging h places.Control share = refl

-- a bank's command leaves the port its staging
banked_staging : (j : Judging) (h after : Standing) → IsBanked j h after → after.pass.staging ≡ h.pass.staging
banked_staging j h after is = ap (λ (x : PassValue). x.staging) is.ended.finished.shares ∙ share_staging h.pass j.judged.place is.ended.finished.share

-- what looking back finds of a staging after a command at a bank
pub bank_staging : (n : Node) (o : Open) (j : Judging) (k : ℕ) (status : Status) (h after : Standing) → place_in n o.packet ≡ Some j.judged.place → j.judged.place ≡ places.Bank k → IsBanked j h after
    → staged_after n (Some o) status None h.pass.staging ≡ after.pass.staging
bank_staging n o j k status h after lies place is =
    ap (λ (x : Option Place). staged_at x status (command_of o.packet) h.pass.staging) (lies ∙ ap (λ (x : Place). Some x) place) ∙ sym (banked_staging j h after is)

-- a port knows more of the list, or what it knew
pub finished_front : (number : Option ℕ) (programs : List Publish) (k : ℕ) (known reached : List HistoryEntry) (share : ShareValue) (j : JudgedValue) (result : Applied) (reply : List ℕ)
    → IfSome number (λ x. IsDoneAfter programs k known reached share j result reply) → IfNone number (reached ≡ known) → IsPrefix known reached
finished_front None programs k known reached share j result reply some none = prefix_same known reached none
finished_front (Some x) programs k known reached share j result reply some none =
    prefix_trans known some.done.last.before reached some.done.last.seen (_, sym some.done.last.log)

-- the command was done at the bank of that number
pub record IsDoneAt (k : ℕ) (j : Judging) (h after : Standing) : Type 0 where
  pub status : Status
  pub share : ShareValue
  pub share_is : share ≡ share_of h.pass j.judged.place
  pub before : List HistoryEntry
  pub next : ℕ
  pub log : after.front ≡ before ++ link k (length (chain_of k before)) (Does (Leaves (entry_of share j.judged status))) next ∷ []
  pub seen : IsPrefix h.front before
  pub status_is : status ≡ (answer_after k before j.judged).status
  pub numbers : numbers_of j.judged.port (entries_of k before) ≡ range_with_len 0 share.number
  pub reply_is : j.reply ≡ (answer_after k before j.judged).reply

pub done_at : (k : ℕ) (j : Judging) (h after : Standing) (is : IsBanked j h after) → j.judged.place ≡ places.Bank k → j.entered ≡ true → IsDoneAt k j h after
done_at k j h after is place left =
    let following = done_after j h after is left in
    let m = is.ended.before.chain.number in
    let same : m ≡ k = same_bank j.judged.place m k following.done.place place in
    let done = subst (λ (i : ℕ). IsDoneAtBank i h.front after.front (share_of h.pass j.judged.place) j.judged is.ended.result j.reply) same following.done in
    record {
      status = is.ended.result.status;
      share = share_of h.pass j.judged.place;
      share_is = refl;
      before = done.last.before;
      next = done.last.next;
      log = done.last.log;
      seen = done.last.seen;
      status_is = done.status;
      numbers = done.numbers;
      reply_is = done.reply_is;
    }

-- The end of a command at a bank is lawful. The bank then has the entries that the list has of it, one more than
-- before.
pub record EndsAtBank (n : Node) (port k : ℕ) (now : History) (o : Open) (reply : List ℕ) (h after : Standing) : Type 0 where
  pub grown : IsPrefix h.front after.front
  pub status : Status
  pub outcome : IsOutcomeAtExceptAnswer n now (Effect port) (Done status reply None)
  pub own : entries n (Then now (Effect port) (Done status reply None)) k ≡ entries_of k after.front
  pub more : length (entries_of k after.front) ≡ length (entries n now k) + 1
  pub others : (m : ℕ) → (m ≡ k → ⊥) → entries n (Then now (Effect port) (Done status reply None)) m ≡ entries n now m

pub bank_thus : (n : Node) (port k : ℕ) (bank : BankConfig) (whole : List HistoryEntry) (now : History) (o : Open) (j : Judging) (s h after : Standing) → slice_get n.banks k ≡ Some bank → IsOwnBank port k bank whole
    → IsNow n port now o j h.pass → o.generation ≡ j.judged.generation → j.judged.port ≡ port → j.judged.place ≡ places.Bank k → j.entered ≡ true → (is : IsBanked j h after)
    → IsPrefix s.front h.front → IsPrefix after.front whole → IsLeftSoFar (entries n now k) k s → next_number_at h.pass k ≡ next_number_at s.pass k
    → EndsAtBank n port k now o j.reply h after
bank_thus n port k bank whole now o j s h after there own_bank is generation port_is place left banked known begins so_far number =
    let done = done_at k j h after banked place left in
    let v = j.judged.verdict in
    let es = entries n now k in
    let before = done.before in
    let e = entry_of done.share j.judged done.status in
    let into : IsPrefix s.front before = prefix_trans s.front h.front before known done.seen in
    let out : IsPrefix before after.front = (_, sym done.log) in
    let so_before = own_so_far port k bank before whole own_bank (prefix_trans before after.front whole out begins) in
    let later = own_so_far port k bank after.front whole own_bank begins in
    let last : entries_of k after.front ≡ entries_of k before ++ e ∷ [] = ap (entries_of k) done.log ∙ entry_last k (length (chain_of k before)) done.next before e in
    let share_number : done.share.number ≡ next_number_at s.pass k =
    ap (λ (x : ShareValue). x.number) done.share_is ∙ (ap (λ (x : Place). (share_of h.pass x).number) place ∙ number) in
    let numbers : numbers_of port (entries_of k before) ≡ range_with_len 0 done.share.number =
    subst (λ (q : ℕ). numbers_of q (entries_of k before) ≡ range_with_len 0 done.share.number) port_is done.numbers in
    let counted : length (numbers_of port (entries_of k before)) ≡ done.share.number = ap length numbers ∙ range_length 0 done.share.number in
    let many : length (entries_of k before) ≡ length es = sym so_before.numbers ∙ (counted ∙ (share_number ∙ sym so_far.number)) in
    let same : es ≡ entries_of k before =
    prefix_whole es (entries_of k before) (prefix_trans es (entries_of k s.front) (entries_of k before) so_far.begin (entries_prefix k s.front before into)) (omega (arith, many)) in
    let one_more : length (entries_of k after.front) ≡ length es + 1 =
    ap length last ∙ (length-append (entries_of k before) (e ∷ []) ∙ ap (λ (x : ℕ). x + 1) many) in
    let few : length es + 1 ≤ bank.room = let fits = later.few in omega (arith, fits, one_more) in
    let port_many : length (numbers_of port es) ≡ length es = ap (λ (xs : List EntryValue). length (numbers_of port xs)) same ∙ (so_before.numbers ∙ many) in
    let below_room : length es < bank.room = omega (arith, few) in
    let below_all : length (numbers_of port es) < 2 ^ 64 - 1 = subst (λ (x : ℕ). x < 2 ^ 64 - 1) (sym port_many) (below (length es) bank.room (2 ^ 64) few own_bank.few) in
    let has_place : nat_lt (length es) bank.room ≡ true = grind (arith, nat_tests, below_room) in
    let has_number : nat_lt (length (numbers_of port es)) (2 ^ 64 - 1) ≡ true = grind (arith, nat_tests, below_all) in
    let room : has_entry_room (slice_get n.banks k) port es ≡ true =
    ap (λ (b : Option BankConfig). has_entry_room b port es) there ∙ and_from (nat_lt (length es) bank.room) (nat_lt (length (numbers_of port es)) (2 ^ 64 - 1)) has_place has_number in
    let memory_is : memory n now k ≡ memory_after k before =
    ap (λ (b : Option BankConfig). replay (first_memory b) es) there ∙ (ap (replay (first_memory (Some bank))) same ∙ sym (so_before.memory (begun_before port k (length (chain_of k before)) done.next bank before after.front whole e own_bank done.log begins))) in
    let answer_is : bank_answer n now k port (command_of o.packet) v ≡ answer_after k before j.judged =
    ap (λ (m : Memory). answer m (has_entry_room (slice_get n.banks k) port es) (command_of o.packet) v) memory_is
    ∙ (ap (λ (r : Bool). answer (memory_after k before) r (command_of o.packet) v) room ∙ ap (λ (p : Cargo). answer (memory_after k before) true (command_of p) v) (sym is.packet)) in
    let a = bank_answer n now k port (command_of o.packet) v in
    let status_is : done.status ≡ a.status = done.status_is ∙ sym (ap (λ (x : Answer). x.status) answer_is) in
    let reply_is : j.reply ≡ a.reply = done.reply_is ∙ sym (ap (λ (x : Answer). x.reply) answer_is) in
    let lies : place_in n o.packet ≡ Some (places.Bank k) = is.lies ∙ ap (λ (x : Place). Some x) place in
    let lawful : Done done.status j.reply None ≡ effect_outcome n now port (opened now port) =
    ap (λ (x : Status). Done x j.reply None) status_is ∙ (ap (λ (bytes : List ℕ). Done a.status bytes None) reply_is ∙ sym (effect_reported n now port v o (places.Bank k) is.is_open is.stands lies)) in
    let number_is : length (numbers_of port es) ≡ done.share.number = ap (λ (xs : List EntryValue). length (numbers_of port xs)) same ∙ counted in
    let entry_is : entry_left n port (length (numbers_of port es)) o done.status ≡ e =
    ap (λ (x : ℕ). entry_left n port x o done.status) number_is
    ∙ (ap (λ (x : Option Turn). checked_entry port done.share.number o.packet o.generation (verdict_at x) done.status) is.stands
    ∙ (ap (λ (x : Cargo). checked_entry port done.share.number x o.generation v done.status) (sym is.packet)
    ∙ (ap (λ (x : ℕ). checked_entry port done.share.number j.judged.packet x v done.status) generation
    ∙ ap (λ (x : ℕ). checked_entry x done.share.number j.judged.packet j.judged.generation v done.status) (sym port_is)))) in
    let more = entries_done n now (Effect port) done.status j.reply None o (Some (places.Bank k)) is.is_open lies in
    let own : entries n (Then now (Effect port) (Done done.status j.reply None)) k ≡ entries_of k after.front =
    more k
    ∙ (ap (λ (b : Bool). if b then entered n (slice_get n.banks k) port o done.status es else es) (itself k)
    ∙ (ap (λ (r : Bool). if r then es ++ entry_left n port (length (numbers_of port es)) o done.status ∷ [] else es) room
    ∙ (ap (λ (x : EntryValue). es ++ x ∷ []) entry_is ∙ (ap (λ (xs : List EntryValue). xs ++ e ∷ []) same ∙ sym last)))) in
    record {
      grown = prefix_trans h.front before after.front done.seen out;
      status = done.status;
      outcome = lawful;
      own = own;
      more = one_more;
      others = λ m other. more m ∙ ap (λ (b : Bool). if b then entered n (slice_get n.banks m) port o done.status (entries n now m) else entries n now m) (apart k m other);
    }
