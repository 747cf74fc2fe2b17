-- If entries are handed out at once, no journal has one between two lines.
use Rattle.std.proofs.Common.{◌≡◌, ◌≤◌, ℕ, zero, suc, Bool, true, false, List, [], ◌∷◌, length, Option, None, Some, set, refl, sym, ap, subst, ◌∙◌, arith, inl, inr}
use Rattle.std.specs.Prelude.{◌==◌, nat_lt, slice_get, if◌then◌else◌}
use Rattle.std.proofs.lemmas.List.{length-append, length-set}
use Rattle.bank.specs.Records.{BankValue, JournalValue, JudgedValue, ShareValue, after_record, after_rotation, after_setting, answer_of, entry_of, has_room}
use Rattle.spw.specs.Cargo.{Cargo}
use Rattle.node_parts.specs.Applied.{share_of}
use Rattle.node_parts.specs.Passes.{PassValue}
use Rattle.node_parts.specs.Served.{IsAnswered, PartsValue, parts}
use Rattle.node_parts.specs.declared.served.Served.{Served}
use Rattle.node_parts.specs.declared.served.Served.TheVariants.{Stopped, Unread, Done, Window}
use Rattle.single_node.specs.Nodes.{SingleNodeValue, port_slot_in}
use Rattle.single_node.specs.Serving.{ServesInto}
use Rattle.single_node.specs.declared.served.ServedDetail.{ServedDetail}
use Rattle.scrub.specs.Counting.{is_due, renewed}
use Rattle.scrub.specs.Guarded.{AnswersBy, AnswersOn, IsRemade, LooksAtSlots, LooksAt, Repairs, RepairsUnless, Scrubs, ScrubsFirst, ScrubsSlot, Watched, beside, counting_on}
use Rattle.scrub.specs.Kept.{is_withheld}
use Rattle.scrub.specs.declared.answer.ServedAnswer.{ServedAnswer}
use Rattle.scrub.specs.declared.guard.ScrubFindings.{ScrubFindings}
use Rattle.scrub.specs.declared.guard.Guard.{Guard}
use Rattle.scrub.specs.declared.guard.Health.{Health}
use Rattle.scrub.specs.declared.guard.Health.TheVariants.{Whole, Mended, Unmended, Withdrawn}
use Rattle.scrub.specs.declared.guard.Scrubbed.{Scrubbed}
use Rattle.scrub.specs.declared.guard.SlotsFound.{SlotsFound}
use Rattle.scrub.specs.declared.kept.SlotSums.{SlotSums}
use Rattle.job_nodes.specs.JobNode.{HandsOut, JobNodeValue, SetsNodeBytes, alone, emptied, journal_of, with_held}
use Rattle.job_nodes.specs.LiveNodes.{LiveNodeValue, ServesLive, TakesPacketLine, with_node}
use Rattle.job_nodes.specs.declared.live_node.LineResult.{LineResult}
use Rattle.job_parts.specs.declared.bad_lines.BadLine.{BadLine}
use Rattle.job_live.specs.Answering.{AnswersTalkLine, DoesAsked, DoesBy, PrintsTaken, TakesOrRefuses}
use Rattle.job_live.specs.Entries.{AreEmptyJournals, HandsOutLeft, TurnsLeft, has_one}
use Rattle.job_live.specs.Journals.{TurnsJournals, TurnsOne, is_journal_due as is_handed_out}
use Rattle.job_live.specs.declared.answering.TheConstants.{MAX_LINE}
use Rattle.job_live.specs.declared.asks.Asks.{Asks}
use Rattle.job_live.specs.declared.asks.Asks.TheVariants.{Packet, Journal, Cells, Set}

-- how many entries the journal of a bank has
abbrev count : BankValue → ℕ
count b = length b.journal.entries

-- each journal has at most one entry
abbrev AreShort : List BankValue → Type 0
AreShort [] = Unit {0}
AreShort (b ∷ banks) = (count b ≤ 1) × AreShort banks

-- the first `turned` of them have none
abbrev AreTurned : (turned : ℕ) → List BankValue → Type 0
AreTurned turned [] = Unit {0}
AreTurned zero (b ∷ banks) = (count b ≤ 1) × AreTurned zero banks
AreTurned (suc turned) (b ∷ banks) = (count b ≡ 0) × AreTurned turned banks

-- none is at most one
empty_short : (banks : List BankValue) → AreEmptyJournals banks → AreShort banks
empty_short [] none = tt
empty_short (b ∷ banks) none = (omega (arith, none.0), empty_short banks none.1)

-- a bank that has none
empty_get : (banks : List BankValue) (k : ℕ) → AreEmptyJournals banks → length (journal_of (slice_get banks k)).entries ≡ 0
empty_get [] k none = refl
empty_get (b ∷ banks) zero none = none.0
empty_get (b ∷ banks) (suc k) none = empty_get banks k none.1

empty_at : (banks : List BankValue) (k : ℕ) (b : BankValue) → AreEmptyJournals banks → slice_get banks k ≡ Some b → count b ≡ 0
empty_at banks k b none at =
    ap (λ (o : Option BankValue). length (journal_of o).entries) (sym at) ∙ empty_get banks k none

-- another bank in its place
empty_set : (banks : List BankValue) (k : ℕ) (new : BankValue) → AreEmptyJournals banks → count new ≡ 0 → AreEmptyJournals (set banks k new)
empty_set [] k new none one = tt
empty_set (b ∷ banks) zero new none one = (one, none.1)
empty_set (b ∷ banks) (suc k) new none one = (none.0, empty_set banks k new none.1 one)

short_set : (banks : List BankValue) (k : ℕ) (new : BankValue) → AreShort banks → count new ≤ 1 → AreShort (set banks k new)
short_set [] k new all one = tt
short_set (b ∷ banks) zero new all one = (one, all.1)
short_set (b ∷ banks) (suc k) new all one = (all.0, short_set banks k new all.1 one)

-- ---- a packet

-- a judged command leaves one entry or none
by_room : (t : Bool) (b : BankValue) (share : ShareValue) (judged : JudgedValue) → count b ≡ 0
    → count (if t then after_record b share judged (answer_of b judged) else b) ≤ 1
by_room true b share judged none = omega (arith, none, length-append b.journal.entries (entry_of share judged (answer_of b judged).status ∷ []))
by_room false b share judged none = omega (arith, none)

-- the banks after a packet
answered_short : (served : Served) (p : Cargo) (old new : PartsValue) (h after : PassValue) (reply : List ℕ) → IsAnswered served p old new h after reply
    → AreEmptyJournals old.banks → AreShort new.banks
answered_short (Stopped stop) p old new h after reply s none =
    subst (λ (x : PartsValue). AreShort x.banks) (sym s.1.node) (empty_short old.banks none)
answered_short Unread p old new h after reply s none =
    subst (λ (x : PartsValue). AreShort x.banks) (sym s.1.node) (empty_short old.banks none)
answered_short (Done result) p old new h after reply s none =
    let one : count s.following ≤ 1 =
    subst (λ (b : BankValue). count b ≤ 1) (sym s.ended.bank)
    (by_room (has_room s.before s.judged.port) s.before (share_of s.between s.judged.place) s.judged (empty_at old.banks s.number s.before none s.bank)) in
    subst (λ (x : PartsValue). AreShort x.banks) (sym s.node) (short_set old.banks s.number s.following (empty_short old.banks none) one)
answered_short (Window status) p old new h after reply s none =
    subst (λ (banks : List BankValue). AreShort banks) (sym s.banks) (empty_short old.banks none)

into_short : (reported : ServedDetail) (size port : ℕ) (packet : Cargo) (before after : SingleNodeValue) (room left : List ℕ)
    → ServesInto reported size port packet before after room left → AreEmptyJournals before.banks → AreShort after.banks
into_short reported size port packet before after room left s none =
    let own = s.serves.serves in
    answered_short reported.served packet (parts before.banks before.programs) (parts after.banks after.programs) own.holder own.left s.reply own.answered none

-- a scrub leaves the banks
looked_banks : (whole : Bool) (slot : ℕ) (before after : Watched) → LooksAt whole slot before after → after.node.banks ≡ before.node.banks
looked_banks true slot before after s = ap (λ (g : Watched). g.node.banks) s.after_is
looked_banks false slot before after s = ap (λ (g : Watched). g.node.banks) s.same

looks_banks : (seen : SlotsFound) (before after : Watched) → LooksAtSlots seen before after → after.node.banks ≡ before.node.banks
looks_banks seen before after s =
    looked_banks seen.window 3 s.three after s.window ∙ looked_banks seen.rmws 2 s.two s.three s.rmws
    ∙ looked_banks seen.writes 1 s.one s.two s.writes ∙ looked_banks seen.reads 0 before s.one s.reads

remade_banks : (slot : ℕ) (image : List ℕ) (kept : SlotSums) (before after : Watched) → IsRemade slot image kept before after → after.node.banks ≡ before.node.banks
remade_banks slot image kept before after is = elim is [
  | inl own ↦ ap (λ (g : Watched). g.node.banks) own.again.after_is
  | inr lent ↦ ap (λ (g : Watched). g.node.banks) lent.after_is
]

repaired_banks : (health : Health) (slot : ℕ) (image : List ℕ) (before after : Watched) → Repairs health slot image before after
    → after.node.banks ≡ before.node.banks
repaired_banks Whole slot image before after s = absurd s
repaired_banks Mended slot image before after s = remade_banks slot image s.kept before after s.remade
repaired_banks Withdrawn slot image before after s = ap (λ (g : Watched). g.node.banks) s.after_is
repaired_banks Unmended slot image before after s = ap (λ (g : Watched). g.node.banks) s.after_is

unless_banks : (whole : Bool) (health : Health) (slot : ℕ) (image : List ℕ) (before after : Watched) → RepairsUnless whole health slot image before after
    → after.node.banks ≡ before.node.banks
unless_banks true health slot image before after s = ap (λ (g : Watched). g.node.banks) s.1
unless_banks false health slot image before after s = repaired_banks health slot image before after s

scrubs_banks : (reported : Scrubbed) (image : List ℕ) (before after : Watched) → Scrubs reported image before after → after.node.banks ≡ before.node.banks
scrubs_banks reported image before after s =
    unless_banks s.seen.window reported.window 3 image s.three after s.window ∙ unless_banks s.seen.rmws reported.rmws 2 image s.two s.three s.rmws
    ∙ unless_banks s.seen.writes reported.writes 1 image s.one s.two s.writes ∙ unless_banks s.seen.reads reported.reads 0 image s.between s.one s.reads
    ∙ looks_banks s.seen before s.between s.looks

slot_banks : (health : Health) (slot : ℕ) (before after : Watched) → ScrubsSlot health slot before after → after.node.banks ≡ before.node.banks
slot_banks health slot before after s = elim s [
  | inl whole ↦ ap (λ (g : Watched). g.node.banks) whole.1.after_is
  | inr all ↦ scrubs_banks all.reported [] all.between after all.scrubs ∙ ap (λ (g : Watched). g.node.banks) all.found.same
]

first_banks : (due : Bool) (slot : Option ℕ) (found : Option ScrubFindings) (before after : Watched) → ScrubsFirst due slot found before after
    → after.node.banks ≡ before.node.banks
first_banks false slot found before after s = ap (λ (g : Watched). g.node.banks) s.same
first_banks true None found before after s = ap (λ (g : Watched). g.node.banks) s.same
first_banks true (Some slot) found before after s = slot_banks s.health slot (counting_on before (renewed before.guard.counting)) after s.scrubs

by_short : (withheld : Bool) (reported : ServedDetail) (size port : ℕ) (packet : Cargo) (before after : Watched) (room left : List ℕ)
    → AnswersBy withheld reported size port packet before after room left → AreEmptyJournals before.node.banks → AreShort after.node.banks
by_short true reported size port packet before after room left s none =
    subst (λ (g : Watched). AreShort g.node.banks) (sym s.after_is) (empty_short before.node.banks none)
by_short false reported size port packet before after room left s none =
    into_short reported size port packet before.node after.node room left s.serves none

on_short : (old new : Option Guard) (answer : ServedAnswer) (port : ℕ) (packet : Cargo) (before after : SingleNodeValue) (room left : List ℕ)
    → AnswersOn old new answer port packet before after room left → AreEmptyJournals before.banks → AreShort after.banks
on_short None new answer port packet before after room left s none =
    into_short answer.reported answer.size port packet before after room left s.2 none
on_short (Some old) new answer port packet before after room left s none =
    let between : Watched = s.2.between in
    let same : between.node.banks ≡ before.banks =
    first_banks (is_due old.counting) (port_slot_in (slice_get before.passes port) packet) answer.found (beside old before) between s.2.scrubs in
    by_short (is_withheld between.guard.sums (port_slot_in (slice_get between.node.passes port) packet)) answer.reported answer.size port packet between
    (beside s.0 after) room left s.2.answers (subst (λ (banks : List BankValue). AreEmptyJournals banks) (sym same) none)

live_short : (answer : ServedAnswer) (port : ℕ) (packet : Cargo) (before after : LiveNodeValue) → ServesLive answer port packet before after
    → AreEmptyJournals before.node.banks → AreShort after.node.banks
live_short answer port packet before after s none =
    on_short before.guard after.guard answer port packet (alone before.node) (alone after.node) s.room s.left s.serves none

-- ---- journals that are handed out

-- the bank whose journal is handed out
handed_set : (number : ℕ) (before after : JobNodeValue) (old : JournalValue) (h : HandsOut number before after old)
    → (new : BankValue) × (after.banks ≡ set before.banks number new) × (count new ≡ 0)
handed_set number before after old h = (after_rotation h.rotated.bank (emptied before number), ap (λ (s : SingleNodeValue). s.banks) h.rotated.rotated, refl)

-- none stays none
one_empty : (due : Bool) (number : ℕ) (before after : LiveNodeValue) → TurnsOne due number before after → AreEmptyJournals before.node.banks → AreEmptyJournals after.node.banks
one_empty true number before after s none =
    let new = handed_set number before.node after.node (journal_of (slice_get before.node.banks number)) s.0 in
    subst (λ (banks : List BankValue). AreEmptyJournals banks) (sym new.1) (empty_set before.node.banks number new.0 none new.2)
one_empty false number before after s none = subst (λ (l : LiveNodeValue). AreEmptyJournals l.node.banks) (sym s) none

turns_empty : (each : Bool) (banks : ℕ) (before after : LiveNodeValue) → TurnsJournals each banks before after → AreEmptyJournals before.node.banks → AreEmptyJournals after.node.banks
turns_empty each zero before after s none = subst (λ (l : LiveNodeValue). AreEmptyJournals l.node.banks) (sym s) none
turns_empty each (suc banks) before after s none =
    one_empty (is_handed_out each s.0.node.banks banks) banks s.0 after s.2 (turns_empty each banks before s.0 s.1 none)

-- before the first
none_turned : (banks : List BankValue) → AreShort banks → AreTurned zero banks
none_turned [] all = tt
none_turned (b ∷ banks) all = (all.0, none_turned banks all.1)

-- one more that has none
next_turned : (k : ℕ) (banks : List BankValue) (new : BankValue) → count new ≡ 0 → AreTurned k banks → AreTurned (suc k) (set banks k new)
next_turned k [] new one all = tt
next_turned zero (b ∷ banks) new one all = (one, all.1)
next_turned (suc k) (b ∷ banks) new one all = (all.0, next_turned k banks new one all.1)

-- at most one, and not one
none_of : (n : ℕ) → (n == 1) ≡ false → n ≤ 1 → n ≡ 0
none_of zero not few = refl
none_of (suc zero) not few = cc
none_of (suc (suc n)) not few = absurd (omega (arith, few))

-- one that had none
next_kept : (k : ℕ) (banks : List BankValue) → has_one (slice_get banks k) ≡ false → AreTurned k banks → AreTurned (suc k) banks
next_kept k [] had all = tt
next_kept zero (b ∷ banks) had all = (none_of (count b) had all.0, all.1)
next_kept (suc k) (b ∷ banks) had all = (all.0, next_kept k banks had all.1)

-- all
all_turned : (n : ℕ) (banks : List BankValue) → length banks ≤ n → AreTurned n banks → AreEmptyJournals banks
all_turned n [] few all = tt
all_turned zero (b ∷ banks) few all = absurd (omega (arith, few))
all_turned (suc n) (b ∷ banks) few all = (all.0, all_turned n banks (omega (arith, few)) all.1)

step_turned : (due : Bool) (k : ℕ) (before after : LiveNodeValue) → due ≡ has_one (slice_get before.node.banks k) → TurnsOne due k before after
    → AreTurned k before.node.banks → AreTurned (suc k) after.node.banks
step_turned true k before after is s all =
    let new = handed_set k before.node after.node (journal_of (slice_get before.node.banks k)) s.0 in
    subst (λ (banks : List BankValue). AreTurned (suc k) banks) (sym new.1) (next_turned k before.node.banks new.0 new.2 all)
step_turned false k before after is s all =
    subst (λ (l : LiveNodeValue). AreTurned (suc k) l.node.banks) (sym s) (next_kept k before.node.banks (sym is) all)

left_turned : (k : ℕ) (before after : LiveNodeValue) → TurnsLeft k before after → AreShort before.node.banks → AreTurned k after.node.banks
left_turned zero before after s all = subst (λ (l : LiveNodeValue). AreTurned zero l.node.banks) (sym s) (none_turned before.node.banks all)
left_turned (suc k) before after s all = step_turned (has_one (slice_get s.0.node.banks k)) k s.0 after refl s.2 (left_turned k before s.0 s.1 all)

-- as many banks
one_length : (due : Bool) (number : ℕ) (before after : LiveNodeValue) → TurnsOne due number before after
    → length after.node.banks ≡ length before.node.banks
one_length true number before after s =
    let new = handed_set number before.node after.node (journal_of (slice_get before.node.banks number)) s.0 in
    ap (λ (banks : List BankValue). length banks) new.1 ∙ length-set before.node.banks number new.0
one_length false number before after s = ap (λ (l : LiveNodeValue). length l.node.banks) s

left_length : (k : ℕ) (before after : LiveNodeValue) → TurnsLeft k before after → length after.node.banks ≡ length before.node.banks
left_length zero before after s = ap (λ (l : LiveNodeValue). length l.node.banks) s
left_length (suc k) before after s = one_length (has_one (slice_get s.0.node.banks k)) k s.0 after s.2 ∙ left_length k before s.0 s.1

left_empty : (before after : LiveNodeValue) → HandsOutLeft true before after → AreShort before.node.banks → AreEmptyJournals after.node.banks
left_empty before after s all =
    all_turned (length before.node.banks) after.node.banks (omega (arith, left_length (length before.node.banks) before after s))
    (left_turned (length before.node.banks) before after s all)

-- ---- a line

set_empty : (number address : ℕ) (bytes : List ℕ) (before after : JobNodeValue) (old : JournalValue) → SetsNodeBytes number address bytes before after old
    → AreEmptyJournals before.banks → AreEmptyJournals after.banks
set_empty number address bytes before after old s none =
    subst (λ (own : SingleNodeValue). AreEmptyJournals own.banks) (sym s.set.set) (empty_set before.banks number (after_setting s.set.bank address bytes (emptied before number)) none refl)

taken_empty : (line : List ℕ) (taken : Option LineResult) (before served after : LiveNodeValue) (old new : Option (List ℕ))
    → TakesPacketLine line taken before served → PrintsTaken true taken served after old new → AreEmptyJournals before.node.banks → AreEmptyJournals after.node.banks
taken_empty line None before served after old new takes printed none =
    subst (λ (l : LiveNodeValue). AreEmptyJournals l.node.banks) (sym printed.0) (subst (λ (n : JobNodeValue). AreEmptyJournals n.banks) (sym takes.0.same) none)
taken_empty line (Some taken) before served after old new takes printed none =
    left_empty served after printed.1 (live_short taken.answer taken.port takes.packet (with_node before (with_held before.node takes.held)) served takes.step none)

takes_empty : (line : List ℕ) (fault : Option BadLine) (before after : LiveNodeValue) (old new : Option (List ℕ))
    → TakesOrRefuses true line fault before after old new → AreEmptyJournals before.node.banks → AreEmptyJournals after.node.banks
takes_empty line None before after old new s none = taken_empty line s.0 before s.1 after old new s.2 s.3 none
takes_empty line (Some fault) before after old new s none = subst (λ (n : JobNodeValue). AreEmptyJournals n.banks) (sym s.0.same) none

asked_empty : (asks : Asks) (line : List ℕ) (fault : Option BadLine) (before after : LiveNodeValue) (old new : Option (List ℕ))
    → DoesAsked true asks line fault before after old new → AreEmptyJournals before.node.banks → AreEmptyJournals after.node.banks
asked_empty Packet line fault before after old new s none =
    takes_empty line fault s.ready after s.between new s.taken (turns_empty false (length before.node.banks) before s.ready s.room.turned none)
asked_empty Journal line fault before after old new s none = turns_empty true (length before.node.banks) before after s.1.turned none
asked_empty Cells line fault before after old new s none = subst (λ (l : LiveNodeValue). AreEmptyJournals l.node.banks) (sym s.1.same) none
asked_empty Set line None before after old new s none = set_empty s.0.extended s.0.address s.0.bytes.items before.node after.node s.2.journal s.2.set none
asked_empty Set line (Some fault) before after old new s none = subst (λ (l : LiveNodeValue). AreEmptyJournals l.node.banks) (sym s.1) none

does_empty : (is_long : Bool) (asks : Asks) (line : List ℕ) (fault : Option BadLine) (before after : LiveNodeValue) (old new : Option (List ℕ))
    → DoesBy true is_long asks line fault before after old new → AreEmptyJournals before.node.banks → AreEmptyJournals after.node.banks
does_empty true asks line None before after old new s none = absurd s
does_empty true asks line (Some fault) before after old new s none = subst (λ (l : LiveNodeValue). AreEmptyJournals l.node.banks) (sym s.1) none
does_empty false asks line fault before after old new s none = asked_empty asks line fault before after old new s none

-- no journal has an entry after a line, if none had one before it
pub answers_empty : (line : List ℕ) (number : ℕ) (before after : LiveNodeValue) (old new : Option (List ℕ)) (is_bad : Bool)
    → AnswersTalkLine true line number before after old new is_bad → AreEmptyJournals before.node.banks → AreEmptyJournals after.node.banks
answers_empty line number before after old new is_bad s none =
    does_empty (nat_lt MAX_LINE (length line)) s.asks line s.answered.fault before after old s.answered.between s.answered.done none
