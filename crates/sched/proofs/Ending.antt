-- Effect: how a judged command ends is lawful, and the world goes on.
use Rattle.std.proofs.Common.{◌≡◌, ◌≢◌, ◌<◌, ◌+◌, ◌==◌, ℕ, List, [], ◌∷◌, ◌++◌, length, get_or, set, Bool, true, false, Option, Some, None, refl, sym, ap, subst, ◌∙◌, arith, eqb-true}
use Rattle.std.specs.Prelude.{slice_get, slice_set, if◌then◌else◌}
use Rattle.std.proofs.lemmas.Bool.{eqb-false, eq-eqb}
use Rattle.std.proofs.lemmas.Grind.{get_or-set_at}
use Rattle.std.proofs.lemmas.List.{length-set, get_or-set_other}
use Rattle.std.proofs.lemmas.Option.{slice_get_within, slice_get-get_or}
use Rattle.spw.specs.Cargo.{Cargo}
use Rattle.rmap.specs.declared.places.Place.{Place}
use Rattle.rmap.specs.declared.places.Place.TheVariants as places
use Rattle.rmap.specs.declared.status.Status.{Status}
use Rattle.rmap.specs.Command.{command_of}
use Rattle.brun.specs.declared.turns.Turn.{Turn}
use Rattle.brun.specs.declared.turns.Turn.TheVariants as turns
use Rattle.bank.specs.Answer.{Answer, answer, effect_at as effect_with}
use Rattle.bank.specs.Effect.{Memory, memory_at}
use Rattle.bank.specs.Records.{BankValue, EntryValue, JudgedValue, ShareValue, after_command, after_record, answer_of, answer_on, base_of, entry_of, first_share, memory_of, next_share, numbers_of, replay}
use Rattle.bank.specs.Records as banks
use Rattle.node_programs.specs.Staged.{Staged, staged}
use Rattle.node_parts.specs.Stagings.{answer_at_place, after_place}
use Rattle.sched.specs.declared.event.Event.{Event}
use Rattle.sched.specs.declared.event.Event.TheVariants.{Effect}
use Rattle.sched.specs.declared.event.Outcome.TheVariants.{Refused, Done}
use Rattle.sched.specs.Ends.{judged_with, share_in, with_share_in, EndsAt}
use Rattle.sched.specs.History.{History, Then, Open, port_of, opened}
use Rattle.sched.specs.Lawful.{bank_answer, staging_answer, load_result_answer, done, effect_at_place, effect_at_turn, effect_outcome}
use Rattle.sched.specs.Looking.{Node, place_in, turn_of, verdict_at, staging, staged_at, staged_after, entry_left, has_entry_room, entered, entries_at, entries, first_memory, memory}
use Rattle.sched.specs.Worlds.{RunValue, PortValue, WorldValue, AreBanksOf, GoesOnLawfully, IsBankOf, IsJudging, IsPortOf, IsRunOfOpen, IsShareWith, effect_due, effect_due_at, verdict_of_turn}
use Rattle.sched.proofs.Outcomes.{then_lawful}
use Rattle.sched.proofs.Growth.{IsPortAfter, OthersKeepCounts, at_written, ports_changed, left_all}
use Rattle.lemmas.proofs.Places.{at_other}
use Rattle.sched.proofs.Entering.{entries_done, numbers_same, numbers_other, entered_other, entered_memory}
use Rattle.sched.proofs.Reporting.{outcome_here}

-- ---- the open command

-- a command that is judged is the open one
pub record IsOpenRun (n : Node) (h : History) (port : ℕ) (r : RunValue) : Type 0 where
  pub command : Open
  pub is_open : opened h port ≡ Some command
  pub run : IsRunOfOpen n port command r

open_by : (n : Node) (h : History) (port : ℕ) (r : RunValue) (last : Option Open) → opened h port ≡ last → IsJudging n port last (Some r) → IsOpenRun n h port r
open_by n h port r None is judging = absurd judging
open_by n h port r (Some o) is judging = record { command = o; is_open = is; run = judging }

pub open_run : (n : Node) (h : History) (port : ℕ) (p : PortValue) (r : RunValue) (s : Staged) (es : ℕ → List EntryValue) → p.run ≡ Some r → IsPortOf n port s (opened h port) es p → IsOpenRun n h port r
open_run n h port p r s es is here =
    open_by n h port r (opened h port) refl (subst (λ (run : Option RunValue). IsJudging n port (opened h port) run) is here.judging)

-- ---- at a bank

-- there is room in a bank exactly if looking back finds it
same_room : (n : Node) (k port : ℕ) (es : List EntryValue) (m : Memory) (b : BankValue) → port < n.ports → IsBankOf n k es m b → banks.has_room b port ≡ has_entry_room (slice_get n.banks k) port es
same_room n k port es m b below is = rw (is.entries_are, is.room, is.counts port below) refl

-- the answer of a bank is the one that looking back gives
same_answer : (n : Node) (h : History) (k port verdict : ℕ) (o : Open) (r : RunValue) (b : BankValue) → port < n.ports → r.packet ≡ o.packet → IsBankOf n k (entries n h k) (memory n h k) b
    → answer_of b (judged_with port verdict r) ≡ bank_answer n h k port (command_of o.packet) verdict
same_answer n h k port verdict o r b below packet is =
    ap (λ (p : Cargo). answer (memory_of b) (banks.has_room b port) (command_of p) verdict) packet
    ∙ ap (λ (m : Memory). answer m (banks.has_room b port) (command_of o.packet) verdict) is.memory_is
    ∙ ap (λ (room : Bool). answer (memory n h k) room (command_of o.packet) verdict) (same_room n k port (entries n h k) (memory n h k) b below is)

-- the entry that a bank makes is the one that looking back finds
same_entry : (n : Node) (port verdict number : ℕ) (o : Open) (r : RunValue) (share : ShareValue) (status given : Status) → share.number ≡ number → r.packet ≡ o.packet → r.generation ≡ o.generation → verdict ≡ verdict_at (turn_of n port o) → given ≡ status
    → entry_of share (judged_with port verdict r) given ≡ entry_left n port number o status
same_entry n port verdict number o r share status given counts packet generation turn is = rw (counts, packet, generation, turn, is) refl

-- the bank with that entry, or as it was, is the one that looking back finds
record IsEntry (n : Node) (port : ℕ) (b : BankValue) (share : ShareValue) (judged : JudgedValue) (es : List EntryValue) (e : EntryValue) : Type 0 where
  made : entry_of share judged (answer_of b judged).status ≡ e
  mine : e.port ≡ port
  port_is : judged.port ≡ port
  next : share.number ≡ length (numbers_of port es)

bank_by : (n : Node) (k port : ℕ) (es : List EntryValue) (m : Memory) (e : EntryValue) (b : BankValue) (share : ShareValue) (judged : JudgedValue) (room : Bool) → IsEntry n port b share judged es e → port < n.ports → IsBankOf n k es m b
    → memory_of (if room then after_record b share judged (answer_of b judged) else b) ≡ replay (first_memory (slice_get n.banks k)) (if room then es ++ e ∷ [] else es)
    → IsBankOf n k (if room then es ++ e ∷ [] else es) (replay (first_memory (slice_get n.banks k)) (if room then es ++ e ∷ [] else es)) (if room then after_record b share judged (answer_of b judged) else b)
bank_by n k port es m e b share judged false entry below is replayed = record {
  base_is = is.base_is;
  memory_is = replayed;
  entries_are = is.entries_are;
  room = is.room;
  ports = is.ports;
  counts = is.counts;
}
bank_by n k port es m e b share judged true entry below is replayed = record {
  base_is = is.base_is;
  memory_is = replayed;
  entries_are = ap (λ (l : List EntryValue). l ++ entry_of share judged (answer_of b judged).status ∷ []) is.entries_are ∙ ap (λ (x : EntryValue). es ++ x ∷ []) entry.made;
  room = is.room;
  ports = length-set b.counts judged.port (share.number + 1) ∙ is.ports;
  counts = λ q inside. count q inside (port == q) refl;
}
  where
    count : (q : ℕ) → q < n.ports → (own : Bool) → (port == q) ≡ own → get_or (set b.counts judged.port (share.number + 1)) q 0 ≡ length (numbers_of q (es ++ e ∷ []))
    count q inside true own =
        let same = eqb-true port q own in
        let mine : (e.port == q) ≡ true = eq-eqb e.port q (entry.mine ∙ same) in
        let long : judged.port < length b.counts = rw (entry.port_is, is.ports) below in
        get_or-set_at b.counts judged.port q (share.number + 1) 0 (sym (entry.port_is ∙ same)) long
        ∙ ap (λ (x : ℕ). x + 1) (entry.next ∙ ap (λ (x : ℕ). length (numbers_of x es)) same) ∙ sym (numbers_same q es e mine)
    count q inside false own =
        let apart = eqb-false port q own in
        let other : (e.port == q) ≡ false = ap (λ (x : ℕ). x == q) entry.mine ∙ own in
        get_or-set_other b.counts judged.port q (share.number + 1) 0 (λ is_q. apart (sym entry.port_is ∙ sym is_q)) ∙ is.counts q inside ∙ sym (numbers_other q es e other)

-- what is known if a command of the port ends at bank k
record IsAtBank (n : Node) (h : History) (port verdict k : ℕ) (p : PortValue) (r : RunValue) (o : Open) (b : BankValue) (status : Status) : Type 0 where
  below : port < n.ports
  is_open : opened h port ≡ Some o
  run : IsRunOfOpen n port o r
  lies : place_in n o.packet ≡ Some (places.Bank k)
  ended : verdict ≡ verdict_at (turn_of n port o)
  bank : IsBankOf n k (entries n h k) (memory n h k) b
  holder : (share_in p k port).port ≡ port
  next : (share_in p k port).number ≡ length (numbers_of port (entries n h k))
  status_is : status ≡ (answer_of b (judged_with port verdict r)).status
  memory_is : memory_of (after_command b (share_in p k port) (judged_with port verdict r)) ≡ (answer_of b (judged_with port verdict r)).memory

-- the entries of the bank have that of the command, while there is room
entries_here : (n : Node) (h : History) (port k : ℕ) (o : Open) (status : Status) (reply : List ℕ) → opened h port ≡ Some o → place_in n o.packet ≡ Some (places.Bank k)
    → entries n (Then h (Effect port) (Done status reply None)) k ≡ entered n (slice_get n.banks k) port o status (entries n h k)
entries_here n h port k o status reply is lies =
    entries_done n h (Effect port) status reply None o (Some (places.Bank k)) is lies k
    ∙ ap (λ (own : Bool). if own then entered n (slice_get n.banks k) port o status (entries n h k) else entries n h k) (eq-eqb k k refl)

-- those of every other bank stay
entries_there : (n : Node) (h : History) (port k j : ℕ) (o : Open) (status : Status) (reply : List ℕ) → opened h port ≡ Some o → place_in n o.packet ≡ Some (places.Bank k) → (k == j) ≡ false
    → entries n (Then h (Effect port) (Done status reply None)) j ≡ entries n h j
entries_there n h port k j o status reply is lies apart =
    entries_done n h (Effect port) status reply None o (Some (places.Bank k)) is lies j
    ∙ ap (λ (own : Bool). if own then entered n (slice_get n.banks j) port o status (entries n h j) else entries n h j) apart

bank_after : (n : Node) (h : History) (port verdict k : ℕ) (p : PortValue) (r : RunValue) (o : Open) (b : BankValue) (status : Status) (reply : List ℕ) → IsAtBank n h port verdict k p r o b status
    → IsBankOf n k (entries n (Then h (Effect port) (Done status reply None)) k) (memory n (Then h (Effect port) (Done status reply None)) k) (after_command b (share_in p k port) (judged_with port verdict r))
bank_after n h port verdict k p r o b status reply here =
    let judged = judged_with port verdict r in
    let share = share_in p k port in
    let bank = slice_get n.banks k in
    let es = entries n h k in
    let base = first_memory bank in
    let e = entry_left n port (length (numbers_of port es)) o status in
    let room = has_entry_room bank port es in
    let same = same_room n k port es (memory n h k) b here.below here.bank in
    let answers = same_answer n h k port verdict o r b here.below here.run.packet here.bank in
    let entry : IsEntry n port b share judged es e = record {
      made = same_entry n port verdict (length (numbers_of port es)) o r share status (answer_of b judged).status here.next here.run.packet here.run.generation here.ended (sym here.status_is);
      mine = refl;
      port_is = refl;
      next = here.next;
    } in
    let reported : status ≡ (answer (replay base es) room (command_of o.packet) verdict).status = here.status_is ∙ ap (λ (a : Answer). a.status) answers in
    let left = here.memory_is ∙ ap (λ (a : Answer). a.memory) answers ∙ sym (entered_memory base es e room (command_of o.packet) verdict refl reported) in
    let with_room = subst (λ (x : Bool). memory_of (if x then after_record b share judged (answer_of b judged) else b) ≡ replay base (if room then es ++ e ∷ [] else es)) same left in
    let made = bank_by n k port es (memory n h k) e b share judged room entry here.below here.bank with_room in
    let its = subst (λ (x : Bool). IsBankOf n k (if room then es ++ e ∷ [] else es) (replay base (if room then es ++ e ∷ [] else es)) (if x then after_record b share judged (answer_of b judged) else b)) (sym same) made in
    subst (λ (now : List EntryValue). IsBankOf n k now (replay base now) (after_command b share judged)) (sym (entries_here n h port k o status reply here.is_open here.lies)) its

-- the banks after a command that ended at one of them
banks_after : (n : Node) (h : History) (port verdict k : ℕ) (p : PortValue) (r : RunValue) (o : Open) (b : BankValue) (status : Status) (reply : List ℕ) (all : List BankValue) → IsAtBank n h port verdict k p r o b status
    → slice_get all k ≡ Some b → AreBanksOf n (entries n h) (memory n h) all
    → AreBanksOf n (entries n (Then h (Effect port) (Done status reply None))) (memory n (Then h (Effect port) (Done status reply None))) (slice_set all k (after_command b (share_in p k port) (judged_with port verdict r)))
banks_after n h port verdict k p r o b status reply all here there are = record {
  count = length-set all k new ∙ are.count;
  each = λ j x found. each j x found (k == j) refl;
}
  where
    new : BankValue
    new = after_command b (share_in p k port) (judged_with port verdict r)

    each : (j : ℕ) (x : BankValue) → slice_get (set all k (after_command b (share_in p k port) (judged_with port verdict r))) j ≡ Some x → (own : Bool) → (k == j) ≡ own
        → IsBankOf n j (entries n (Then h (Effect port) (Done status reply None)) j) (memory n (Then h (Effect port) (Done status reply None)) j) x
    each j x found true own =
        let same = eqb-true k j own in
        let is = at_written all k j b _ x there (sym same) found in
        let made = bank_after n h port verdict k p r o b status reply here in
        subst (λ (v : BankValue). IsBankOf n j (entries n (Then h (Effect port) (Done status reply None)) j) (memory n (Then h (Effect port) (Done status reply None)) j) v) (sym is)
        (subst (λ (i : ℕ). IsBankOf n i (entries n (Then h (Effect port) (Done status reply None)) i) (memory n (Then h (Effect port) (Done status reply None)) i) (after_command b (share_in p k port) (judged_with port verdict r))) same made)
    each j x found false own =
        let before = at_other all k j _ x (λ e. eqb-false k j own (sym e)) found in
        subst (λ (es : List EntryValue). IsBankOf n j es (replay (first_memory (slice_get n.banks j)) es) x) (sym (entries_there n h port k j o status reply here.is_open here.lies own)) (are.each j x before)

-- of every other port there are as many entries as before
counts_after : (n : Node) (h : History) (port k : ℕ) (o : Open) (status : Status) (reply : List ℕ) → opened h port ≡ Some o → place_in n o.packet ≡ Some (places.Bank k) → OthersKeepCounts n h (Effect port) (Done status reply None)
counts_after n h port k o status reply is lies = λ q j apart.
    ap (λ (es : List EntryValue). length (numbers_of q es)) (entries_done n h (Effect port) status reply None o (Some (places.Bank k)) is lies j) ∙ at_bank q j apart (k == j)
  where
    at_bank : (q j : ℕ) → (port == q) ≡ false → (own : Bool) → length (numbers_of q (if own then entered n (slice_get n.banks j) port o status (entries n h j) else entries n h j)) ≡ length (numbers_of q (entries n h j))
    at_bank q j apart true = entered_other n (slice_get n.banks j) port o status (entries n h j) q apart
    at_bank q j apart false = refl

-- the share of the port counts the entry, while there is room
share_by : (port : ℕ) (share : ShareValue) (es : List EntryValue) (e : EntryValue) (room : Bool) → (e.port == port) ≡ true → IsShareWith port (length (numbers_of port es)) share
    → IsShareWith port (length (numbers_of port (if room then es ++ e ∷ [] else es))) (if room then record { port = share.port; number = share.number + 1 } else share)
share_by port share es e true own is = record { holder = is.holder; next = ap (λ (x : ℕ). x + 1) is.next ∙ sym (numbers_same port es e own) }
share_by port share es e false own is = is

share_after : (n : Node) (h : History) (port verdict k : ℕ) (p : PortValue) (r : RunValue) (o : Open) (b : BankValue) (status : Status) (reply : List ℕ) → IsAtBank n h port verdict k p r o b status
    → IsShareWith port (length (numbers_of port (entries n (Then h (Effect port) (Done status reply None)) k))) (next_share b (share_in p k port) (judged_with port verdict r))
share_after n h port verdict k p r o b status reply here =
    let share = share_in p k port in
    let bank = slice_get n.banks k in
    let es = entries n h k in
    let e = entry_left n port (length (numbers_of port es)) o status in
    let room = has_entry_room bank port es in
    let same = same_room n k port es (memory n h k) b here.below here.bank in
    let made = share_by port share es e room (eq-eqb port port refl) (record { holder = here.holder; next = here.next }) in
    let its = subst (λ (x : Bool). IsShareWith port (length (numbers_of port (if room then es ++ e ∷ [] else es))) (if x then record { port = share.port; number = share.number + 1 } else share)) (sym same) made in
    subst (λ (now : List EntryValue). IsShareWith port (length (numbers_of port now)) (next_share b share (judged_with port verdict r))) (sym (entries_here n h port k o status reply here.is_open here.lies)) its

-- the port after a command that ended at a bank
port_at_bank : (n : Node) (h : History) (port verdict k : ℕ) (p : PortValue) (r : RunValue) (o : Open) (b : BankValue) (status : Status) (reply : List ℕ) → IsAtBank n h port verdict k p r o b status → k < length p.shares
    → IsPortOf n port (staging n h port) (opened h port) (entries n h) p
    → IsPortAfter n h (Effect port) (Done status reply None) port (with_share_in (record p { run = None }) k (next_share b (share_in p k port) (judged_with port verdict r)))
port_at_bank n h port verdict k p r o b status reply here shared before = record {
  staging_is = before.staging_is ∙ sym (ap (λ (last : Option Open). staged_after n last status None (staging n h port)) here.is_open
      ∙ ap (λ (place : Option Place). staged_at place status (command_of o.packet) (staging n h port)) here.lies);
  judging = tt;
  count = length-set p.shares k _ ∙ before.count;
  shares = λ j share found. each j share found (k == j) refl;
}
  where
    each : (j : ℕ) (share : ShareValue) → slice_get (set p.shares k (next_share b (share_in p k port) (judged_with port verdict r))) j ≡ Some share → (own : Bool) → (k == j) ≡ own
        → IsShareWith port (length (numbers_of port (entries n (Then h (Effect port) (Done status reply None)) j))) share
    each j share found true own =
        let same = eqb-true k j own in
        let old = slice_get-get_or p.shares k (first_share port) shared in
        let is = at_written p.shares k j _ _ share old (sym same) found in
        let made = share_after n h port verdict k p r o b status reply here in
        subst (λ (i : ℕ). IsShareWith port (length (numbers_of port (entries n (Then h (Effect port) (Done status reply None)) i))) share) same
        (subst (λ (v : ShareValue). IsShareWith port (length (numbers_of port (entries n (Then h (Effect port) (Done status reply None)) k))) v) (sym is) made)
    each j share found false own =
        let old = at_other p.shares k j _ share (λ e. eqb-false k j own (sym e)) found in
        subst (λ (es : List EntryValue). IsShareWith port (length (numbers_of port es)) share) (sym (entries_there n h port k j o status reply here.is_open here.lies own)) (before.shares j share old)

-- ---- what is told

-- if a command of the port has its verdict, its end is by its place
pub effect_reported : (n : Node) (h : History) (port verdict : ℕ) (o : Open) (place : Option Place) → opened h port ≡ Some o → turn_of n port o ≡ Some (turns.Verdict verdict) → place_in n o.packet ≡ place
    → effect_outcome n h port (opened h port) ≡ effect_at_place n h port (command_of o.packet) verdict place
effect_reported n h port verdict o place is stands lies =
    ap (effect_outcome n h port) is ∙ ap (effect_at_turn n h port o) stands ∙ ap (effect_at_place n h port (command_of o.packet) verdict) lies

done_as : (status : Status) (reply : List ℕ) (a : Answer) → status ≡ a.status → reply ≡ a.reply → Done status reply None ≡ done a
done_as status reply a same_status same_reply = rw (same_status, same_reply) refl

-- ---- at the port's staging

-- banks of which the history says nothing new
pub banks_same : (n : Node) (old new : ℕ → List EntryValue) (all : List BankValue) → ((k : ℕ) → new k ≡ old k) → AreBanksOf n old (λ k. replay (first_memory (slice_get n.banks k)) (old k)) all
    → AreBanksOf n new (λ k. replay (first_memory (slice_get n.banks k)) (new k)) all
banks_same n old new all same are = record {
  count = are.count;
  each = λ k b there. subst (λ (es : List EntryValue). IsBankOf n k es (replay (first_memory (slice_get n.banks k)) es) b) (sym (same k)) (are.each k b there);
}

-- a place that is no bank
abbrev pub IsNoBank : Place → Type 0
IsNoBank (places.Bank k) = ⊥
IsNoBank places.Staging = Unit {0}
IsNoBank places.LoadResult = Unit {0}
IsNoBank places.Control = Unit {0}

-- a command that was done elsewhere leaves the entries of all banks
entries_elsewhere : (n : Node) (k port : ℕ) (place : Place) (o : Open) (status : Status) (es : List EntryValue) → IsNoBank place → entries_at n k port (Some place) o status es ≡ es
entries_elsewhere n k port (places.Bank j) o status es is = absurd is
entries_elsewhere n k port places.Staging o status es is = refl
entries_elsewhere n k port places.LoadResult o status es is = refl
entries_elsewhere n k port places.Control o status es is = refl

pub entries_stay : (n : Node) (h : History) (event : Event) (status : Status) (reply : List ℕ) (loaded : Option (List ℕ)) (o : Open) (place : Place) → opened h (port_of event) ≡ Some o → place_in n o.packet ≡ Some place → IsNoBank place
    → (k : ℕ) → entries n (Then h event (Done status reply loaded)) k ≡ entries n h k
entries_stay n h event status reply loaded o place is lies none k =
    entries_done n h event status reply loaded o (Some place) is lies k ∙ entries_elsewhere n k (port_of event) place o status (entries n h k) none

-- the answer to a command that ends at a staging, and what it leaves there
record IsStagedAs (n : Node) (h : History) (port verdict : ℕ) (o : Open) (place : Place) (s t : Staged) (status : Status) (reply : List ℕ) : Type 0 where
  none : IsNoBank place
  reported : effect_at_place n h port (command_of o.packet) verdict (Some place) ≡ Done status reply None
  staged_is : t ≡ staged_at (Some place) status (command_of o.packet) s

staged_as : (n : Node) (h : History) (port verdict : ℕ) (o : Open) (r : RunValue) (place : Place) (old new : List BankValue) (p q : PortValue) (status : Status) (reply : List ℕ) → IsNoBank place → r.place ≡ place → r.packet ≡ o.packet → p.staging ≡ staging n h port
    → EndsAt place old new p q (judged_with port verdict r) status reply → IsStagedAs n h port verdict o place (staging n h port) q.staging status reply
staged_as n h port verdict o r (places.Bank k) old new p q status reply none is packet staged end = absurd none
staged_as n h port verdict o r places.Control old new p q status reply none is packet staged end = absurd end
staged_as n h port verdict o r places.Staging old new p q status reply none is packet staged_p end =
    let judged = judged_with port verdict r in
    let c = command_of o.packet in
    let same = ap (λ (v : Staged). answer_on 0 v.bytes judged) staged_p ∙ ap (λ (d : Cargo). answer (memory_at 0 (staging n h port).bytes) true (command_of d) verdict) packet in
    let reported = end.staged.status ∙ ap (λ (place : Place). (answer_at_place place p.staging judged).status) is ∙ ap (λ (a : Answer). a.status) same in
    let answered = end.staged.reply ∙ ap (λ (place : Place). (answer_at_place place p.staging judged).reply) is ∙ ap (λ (a : Answer). a.reply) same in
    let left = end.staged.staging ∙ ap (λ (place : Place). after_place place p.staging judged) is ∙ ap (λ (a : Answer). staged a.memory.bytes p.staging.load_result) same ∙ ap (λ (v : Staged). staged (staging_answer n h port c verdict).memory.bytes v.load_result) staged_p in
    record {
      none = tt;
      reported = sym (done_as status reply (staging_answer n h port c verdict) reported answered);
      staged_is = left ∙ ap (λ (x : Status). staged (effect_with x (memory_at 0 (staging n h port).bytes) c).memory.bytes (staging n h port).load_result) (sym reported);
    }
staged_as n h port verdict o r places.LoadResult old new p q status reply none is packet staged_p end =
    let judged = judged_with port verdict r in
    let c = command_of o.packet in
    let same = ap (λ (v : Staged). answer_on 0x10000 v.load_result judged) staged_p ∙ ap (λ (d : Cargo). answer (memory_at 0x10000 (staging n h port).load_result) true (command_of d) verdict) packet in
    let reported = end.staged.status ∙ ap (λ (place : Place). (answer_at_place place p.staging judged).status) is ∙ ap (λ (a : Answer). a.status) same in
    let answered = end.staged.reply ∙ ap (λ (place : Place). (answer_at_place place p.staging judged).reply) is ∙ ap (λ (a : Answer). a.reply) same in
    record {
      none = tt;
      reported = sym (done_as status reply (load_result_answer n h port c verdict) reported answered);
      staged_is = end.staged.staging ∙ ap (λ (place : Place). after_place place p.staging judged) is ∙ staged_p;
    }

banks_kept : (place : Place) (old new : List BankValue) (p q : PortValue) (j : JudgedValue) (status : Status) (reply : List ℕ) → IsNoBank place → EndsAt place old new p q j status reply → (new ≡ old) × (q ≡ record p { staging = q.staging })
banks_kept (places.Bank k) old new p q j status reply none end = absurd none
banks_kept places.Staging old new p q j status reply none end = (end.banks_are, end.port_is)
banks_kept places.LoadResult old new p q j status reply none end = (end.banks_are, end.port_is)
banks_kept places.Control old new p q j status reply none end = absurd end

-- the port after a command that ended at its staging
port_at_staging : (n : Node) (h : History) (port : ℕ) (o : Open) (place : Place) (p q : PortValue) (status : Status) (reply : List ℕ) → opened h port ≡ Some o → place_in n o.packet ≡ Some place → IsNoBank place
    → q.staging ≡ staged_at (Some place) status (command_of o.packet) (staging n h port) → q ≡ record p { staging = q.staging; run = None } → IsPortOf n port (staging n h port) (opened h port) (entries n h) p
    → IsPortAfter n h (Effect port) (Done status reply None) port q
port_at_staging n h port o place p q status reply is lies none staging_is rest before = record {
  staging_is = staging_is ∙ sym (ap (λ (last : Option Open). staged_after n last status None (staging n h port)) is
      ∙ ap (λ (x : Option Place). staged_at x status (command_of o.packet) (staging n h port)) lies);
  judging = subst (λ (v : PortValue). IsJudging n port None v.run) (sym rest) tt;
  count = ap (λ (v : PortValue). length v.shares) rest ∙ before.count;
  shares = λ k share there. subst (λ (es : List EntryValue). IsShareWith port (length (numbers_of port es)) share) (sym (entries_stay n h (Effect port) status reply None o place is lies none k))
      (before.shares k share (ap (λ (v : PortValue). slice_get v.shares k) (sym rest) ∙ there));
}

-- ---- the world

-- a judged command of a port of the world, with its verdict
pub record IsJudgedIn (w : WorldValue) (port verdict : ℕ) (p : PortValue) (r : RunValue) : Type 0 where
  pub there : slice_get w.ports port ≡ Some p
  pub below : port < length w.ports
  pub run_is : p.run ≡ Some r
  pub turn_is : r.turn ≡ turns.Verdict verdict

-- where the program of the command is, by its history
pub stands_at : (n : Node) (port verdict : ℕ) (o : Open) (r : RunValue) → r.turn ≡ turns.Verdict verdict → IsRunOfOpen n port o r → turn_of n port o ≡ Some (turns.Verdict verdict)
stands_at n port verdict o r is run = run.turn ∙ ap (λ (turn : Turn). Some turn) is

pub lies_at : (n : Node) (port : ℕ) (o : Open) (r : RunValue) (place : Place) → r.place ≡ place → IsRunOfOpen n port o r → place_in n o.packet ≡ Some place
lies_at n port o r place is run = run.placed.lies ∙ ap (λ (x : Place). Some x) is

effect_at_bank : (w : WorldValue) (port verdict k : ℕ) (p : PortValue) (r : RunValue) (b : BankValue) (status : Status) (reply : List ℕ) → IsJudgedIn w port verdict p r → r.place ≡ places.Bank k
    → slice_get w.banks k ≡ Some b → status ≡ (answer_of b (judged_with port verdict r)).status → memory_of (after_command b (share_in p k port) (judged_with port verdict r)) ≡ (answer_of b (judged_with port verdict r)).memory
    → reply ≡ (answer_of b (judged_with port verdict r)).reply
    → GoesOnLawfully (Effect port) (Done status reply None) w (record w { banks = slice_set w.banks k (after_command b (share_in p k port) (judged_with port verdict r)); ports = slice_set w.ports port (with_share_in (record p { run = None }) k (next_share b (share_in p k port) (judged_with port verdict r))) })
effect_at_bank w port verdict k p r b status reply judged place there status_is memory_is reply_is n h world =
    let old = world.world in
    let before = old.ports_are.each port p judged.there in
    let command = open_run n h port p r (staging n h port) (entries n h) judged.run_is before in
    let o = command.command in
    let stands = stands_at n port verdict o r judged.turn_is command.run in
    let lies = lies_at n port o r (places.Bank k) place command.run in
    let below : port < n.ports = omega (arith, judged.below, old.ports_are.count) in
    let bank_there : k < length w.banks = slice_get_within w.banks k b there in
    let shared : k < length p.shares = omega (arith, bank_there, before.count, old.banks_are.count) in
    let share = before.shares k (share_in p k port) (slice_get-get_or p.shares k (first_share port) shared) in
    let here : IsAtBank n h port verdict k p r o b status = record {
      below = below;
      is_open = command.is_open;
      run = command.run;
      lies = lies;
      ended = sym (ap verdict_at stands);
      bank = old.banks_are.each k b there;
      holder = share.holder;
      next = share.next;
      status_is = status_is;
      memory_is = memory_is;
    } in
    let answers = same_answer n h k port verdict o r b below command.run.packet here.bank in
    let reported = done_as status reply (bank_answer n h k port (command_of o.packet) verdict) (status_is ∙ ap (λ (a : Answer). a.status) answers) (reply_is ∙ ap (λ (a : Answer). a.reply) answers) in
    let lawful = reported ∙ sym (effect_reported n h port verdict o (Some (places.Bank k)) command.is_open stands lies) in
    record {
      lawful = then_lawful n h (Effect port) (Done status reply None) world.lawful (outcome_here n h (Effect port) (Done status reply None) w.ports judged.below old.ports_are.count lawful) tt;
      world = record {
        windows_are = old.windows_are;
        sizes_are = old.sizes_are;
        banks_are = banks_after n h port verdict k p r o b status reply w.banks here there old.banks_are;
        words_are = old.words_are;
        programs_are = old.programs_are;
        count_is = old.count_is;
        ports_are = ports_changed n h (Effect port) (Done status reply None) w.ports p _ judged.there (port_at_bank n h port verdict k p r o b status reply here shared before) (counts_after n h port k o status reply command.is_open lies) old.ports_are;
      };
    }

effect_at_staging : (w : WorldValue) (port verdict : ℕ) (p q : PortValue) (r : RunValue) (new : List BankValue) (status : Status) (reply : List ℕ) (place : Place) → IsJudgedIn w port verdict p r → r.place ≡ place → IsNoBank place
    → EndsAt place w.banks new (record p { run = None }) q (judged_with port verdict r) status reply → GoesOnLawfully (Effect port) (Done status reply None) w (record w { ports = slice_set w.ports port q })
effect_at_staging w port verdict p q r new status reply place judged is none end n h world =
    let old = world.world in
    let before = old.ports_are.each port p judged.there in
    let command = open_run n h port p r (staging n h port) (entries n h) judged.run_is before in
    let o = command.command in
    let stands = stands_at n port verdict o r judged.turn_is command.run in
    let lies = lies_at n port o r place is command.run in
    let ends = staged_as n h port verdict o r place w.banks new (record p { run = None }) q status reply none is command.run.packet before.staging_is end in
    let kept = banks_kept place w.banks new (record p { run = None }) q (judged_with port verdict r) status reply none end in
    let lawful = sym ends.reported ∙ sym (effect_reported n h port verdict o (Some place) command.is_open stands lies) in
    let stay = entries_stay n h (Effect port) status reply None o place command.is_open lies none in
    record {
      lawful = then_lawful n h (Effect port) (Done status reply None) world.lawful (outcome_here n h (Effect port) (Done status reply None) w.ports judged.below old.ports_are.count lawful) tt;
      world = record {
        windows_are = old.windows_are;
        sizes_are = old.sizes_are;
        banks_are = banks_same n (entries n h) (entries n (Then h (Effect port) (Done status reply None))) w.banks stay old.banks_are;
        words_are = old.words_are;
        programs_are = old.programs_are;
        count_is = old.count_is;
        ports_are = ports_changed n h (Effect port) (Done status reply None) w.ports p q judged.there
            (port_at_staging n h port o place p q status reply command.is_open lies none ends.staged_is kept.1 before)
            (λ other k apart. ap (λ (es : List EntryValue). length (numbers_of other es)) (stay k)) old.ports_are;
      };
    }

-- how an effect of a port goes on
effect_by : (w : WorldValue) (port verdict : ℕ) (p q : PortValue) (r : RunValue) (new : List BankValue) (status : Status) (reply : List ℕ) (place : Place) → IsJudgedIn w port verdict p r → r.place ≡ place
    → EndsAt place w.banks new (record p { run = None }) q (judged_with port verdict r) status reply → GoesOnLawfully (Effect port) (Done status reply None) w (record w { banks = new; ports = slice_set w.ports port q })
effect_by w port verdict p q r new status reply (places.Bank k) judged is end =
    let made = effect_at_bank w port verdict k p r end.bank status reply judged is end.there end.status_is end.memory_is end.reply_is in
    let at_banks = subst (λ (bs : List BankValue). GoesOnLawfully (Effect port) (Done status reply None) w (record w { banks = bs; ports = slice_set w.ports port (with_share_in (record p { run = None }) k (next_share end.bank (share_in p k port) (judged_with port verdict r))) })) (sym end.banks_are) made in
    subst (λ (v : PortValue). GoesOnLawfully (Effect port) (Done status reply None) w (record w { banks = new; ports = slice_set w.ports port v })) (sym end.port_is) at_banks
effect_by w port verdict p q r new status reply places.Staging judged is end =
    subst (λ (bs : List BankValue). GoesOnLawfully (Effect port) (Done status reply None) w (record w { banks = bs; ports = slice_set w.ports port q })) (sym end.banks_are)
    (effect_at_staging w port verdict p q r new status reply places.Staging judged is tt end)
effect_by w port verdict p q r new status reply places.LoadResult judged is end =
    subst (λ (bs : List BankValue). GoesOnLawfully (Effect port) (Done status reply None) w (record w { banks = bs; ports = slice_set w.ports port q })) (sym end.banks_are)
    (effect_at_staging w port verdict p q r new status reply places.LoadResult judged is tt end)
effect_by w port verdict p q r new status reply places.Control judged is end = absurd end

pub effect_goes_on : (w : WorldValue) (port verdict : ℕ) (p q : PortValue) (r : RunValue) (new : List BankValue) (status : Status) (reply : List ℕ) → IsJudgedIn w port verdict p r
    → EndsAt r.place w.banks new (record p { run = None }) q (judged_with port verdict r) status reply → GoesOnLawfully (Effect port) (Done status reply None) w (record w { banks = new; ports = slice_set w.ports port q })
effect_goes_on w port verdict p q r new status reply judged end = effect_by w port verdict p q r new status reply r.place judged refl end

-- ---- what is due

-- the command that is judged has a verdict, and ends by an Effect
pub record IsEffectDue (run : Option RunValue) (verdict : ℕ) : Type 0 where
  pub r : RunValue
  pub run_is : run ≡ Some r
  pub turn_is : r.turn ≡ turns.Verdict verdict
  pub other : r.place ≢ places.Control

verdict_is : (turn : Turn) (verdict : ℕ) → Some verdict ≡ verdict_of_turn turn → turn ≡ turns.Verdict verdict
verdict_is (turns.Ask question) verdict is = absurd cc
verdict_is (turns.Verdict v) verdict is = let same : verdict ≡ v = cc in ap turns.Verdict (sym same)

due_at : (place : Place) (turn : Turn) (verdict : ℕ) → Some verdict ≡ effect_due_at place turn → (turn ≡ turns.Verdict verdict) × (place ≢ places.Control)
due_at (places.Bank k) turn verdict is = (verdict_is turn verdict is, λ e. absurd cc)
due_at places.Staging turn verdict is = (verdict_is turn verdict is, λ e. absurd cc)
due_at places.LoadResult turn verdict is = (verdict_is turn verdict is, λ e. absurd cc)
due_at places.Control turn verdict is = absurd cc

pub effect_is_due : (run : Option RunValue) (verdict : ℕ) → Some verdict ≡ effect_due run → IsEffectDue run verdict
effect_is_due None verdict is = absurd cc
effect_is_due (Some r) verdict is = let both = due_at r.place r.turn verdict is in record { r = r; run_is = refl; turn_is = both.0; other = both.1 }

-- ---- refused

no_verdict : (n : Node) (h : History) (port : ℕ) (o : Open) (turn : Turn) → None ≡ verdict_of_turn turn → Refused ≡ effect_at_turn n h port o (Some turn)
no_verdict n h port o (turns.Ask question) none = refl
no_verdict n h port o (turns.Verdict v) none = absurd cc

-- an Effect does nothing at a control write
control_refused : (n : Node) (h : History) (port : ℕ) (o : Open) (turn : Turn) → place_in n o.packet ≡ Some places.Control → Refused ≡ effect_at_turn n h port o (Some turn)
control_refused n h port o (turns.Ask question) lies = refl
control_refused n h port o (turns.Verdict v) lies = sym (ap (effect_at_place n h port (command_of o.packet) v) lies)

undue_at : (n : Node) (h : History) (port : ℕ) (o : Open) (place : Place) (turn : Turn) → place_in n o.packet ≡ Some place → None ≡ effect_due_at place turn → Refused ≡ effect_at_turn n h port o (Some turn)
undue_at n h port o (places.Bank k) turn lies none = no_verdict n h port o turn none
undue_at n h port o places.Staging turn lies none = no_verdict n h port o turn none
undue_at n h port o places.LoadResult turn lies none = no_verdict n h port o turn none
undue_at n h port o places.Control turn lies none = control_refused n h port o turn lies

no_effect : (n : Node) (h : History) (port : ℕ) (last : Option Open) (run : Option RunValue) → IsJudging n port last run → None ≡ effect_due run → Refused ≡ effect_outcome n h port last
no_effect n h port None run is none = refl
no_effect n h port (Some o) None is none = absurd is
no_effect n h port (Some o) (Some r) is none = undue_at n h port o r.place r.turn is.placed.lies none ∙ sym (ap (effect_at_turn n h port o) is.turn)

-- an effect is refused if none is due
pub effect_refused : (w : WorldValue) (port : ℕ) (p : PortValue) → slice_get w.ports port ≡ Some p → port < length w.ports → None ≡ effect_due p.run → GoesOnLawfully (Effect port) Refused w w
effect_refused w port p there below none n h world =
    let here = world.world.ports_are.each port p there in
    record {
      lawful = then_lawful n h (Effect port) Refused world.lawful (outcome_here n h (Effect port) Refused w.ports below world.world.ports_are.count (no_effect n h port (opened h port) p.run here.judging none)) tt;
      world = left_all n h (Effect port) Refused w tt world.world;
    }
