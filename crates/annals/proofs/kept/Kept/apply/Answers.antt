use Rattle.std.specs.Prelude.{IfSome, IfNone, ◌<◌, slice_index}
use Rattle.std.specs.List.{range_with_len}
use Rattle.std.proofs.Common.{Option, ◌≡◌, ℕ, refl, true, [], ◌∷◌, ◌++◌, length, sym, ◌∙◌, ap, subst}
use Rattle.bank.specs.Records.{EntryValue, BankValue, memory_of, answer_of, has_room, entry_of, fits, is_place_of, numbers_of}
use Rattle.bank.specs.Answer.{Answer}
use Rattle.annals.specs.declared.deed.Act.TheVariants.{Leaves}
use Rattle.annals.specs.declared.deed.Deed.TheVariants.{Does}
use Rattle.annals.specs.Chains.{chain_of, line_with, link}
use Rattle.annals.specs.Banks.{CountsOn, KeptValue, memory_after, answer_after, entries_of, IsDoneAtBank}
use Rattle.annals.proofs.Counts.{counts_on, counts_same, share_stays, next_share_is, numbers_before, counts_after, still_counted}
use Rattle.bank.proofs.Banks.{fitting}
use Rattle.annals.proofs.Replays.{last_is, room_of, number_is, entries_after, same_memory, answers, replayed, at_place}
use Rattle.annals.proofs.kept.Kept.apply.Goals as goal

pub invariant_of-self : goal.invariant_of-self
invariant_of-self g c =
    let b = c.self.inside.bank in
    let s = c.args.share.now in
    let j = c.args.judged in
    let k = c.self.inside.chain.number in
    let h = c.self.invariant.1 in
    let applied = c.apply-applied.ensures in
    let new = c.apply-applied.new.self in
    let last = c.leave.ensures.added.last in
    let chain = c.leave.ensures.added.whole in
    let before = last.before in
    let entry = c.in-Some.entry.now in
    let fit : fits b s j ≡ true = ap (λ (v : KeptValue). fits v.bank s j) c.self.view_is ∙ c.requires.fits in
    let room : has_room b j.port ≡ true = room_of b s j c.apply-applied.result.number applied.number (sym c.is_some.ensures ∙ c.if-is_some.true) in
    let entries = c.entries.ensures ∙ (ap (λ (v : BankValue). v.journal.entries) applied.bank ∙ entries_after b s j room) in
    let is : entry ≡ entry_of s j (answer_of b j).status = last_is b.journal.entries c.entries.result.now (entry_of s j (answer_of b j).status) entry entries c.in-Some.ensures.value in
    let same : memory_after k before ≡ memory_of b = same_memory k c.self.inside.chain.log before b h.replayed chain in
    let log = c.leave.new.chain.log in
    let more = c.leave.ensures.log ∙ last.log in (
      c.self.invariant.0 ∙ sym c.leave.ensures.number,
      record {
        replayed = subst (λ (n : ℕ). memory_of new ≡ memory_after n log) (sym c.leave.ensures.number)
            (replayed k (length (chain_of k before)) last.next before log b new s j entry same applied.memory is more);
        counted = subst (λ (n : ℕ). (port : ℕ) → port < length new.counts → numbers_of port (entries_of n log) ≡ range_with_len 0 (slice_index new.counts port)) (sym c.leave.ensures.number)
            (still_counted k (length (chain_of k before)) last.next c.self.inside.chain.log before log b new.counts s j entry fit h.counted chain
            (ap (λ (v : BankValue). v.counts) applied.bank ∙ counts_after b s j room) (ap (λ (e : EntryValue). e.port) is) (ap (λ (e : EntryValue). e.number) is) more);
      },
    )

pub returns-in-Some-clause-done : goal.returns-in-Some-clause-done
returns-in-Some-clause-done g c =
    let b = c.self.inside.bank in
    let s = c.args.share.now in
    let j = c.args.judged in
    let k = c.self.inside.chain.number in
    let h = c.self.invariant.1 in
    let applied = c.apply-applied.ensures in
    let result = c.apply-applied.result in
    let last = c.leave.ensures.added.last in
    let chain = c.leave.ensures.added.whole in
    let before = last.before in
    let entry = c.in-Some.entry.now in
    let fit : fits b s j ≡ true = ap (λ (v : KeptValue). fits v.bank s j) c.self.view_is ∙ c.requires.fits in
    let room : has_room b j.port ≡ true = room_of b s j result.number applied.number (sym c.is_some.ensures ∙ c.if-is_some.true) in
    let entries = c.entries.ensures ∙ (ap (λ (v : BankValue). v.journal.entries) applied.bank ∙ entries_after b s j room) in
    let is : entry ≡ entry_of s j (answer_of b j).status = last_is b.journal.entries c.entries.result.now (entry_of s j (answer_of b j).status) entry entries c.in-Some.ensures.value in
    let reported : entry ≡ entry_of s j result.status = is ∙ ap (λ t. entry_of s j t) (sym applied.status) in
    let same : memory_after k before ≡ memory_of b = same_memory k c.self.inside.chain.log before b h.replayed chain in
    let answer_is : answer_of b j ≡ answer_after k before j = answers k before b j room same in
    let done : IsDoneAtBank k c.args.front.now c.leave.new.front s j result c.apply-applied.new.reply = record {
      place = at_place k j.place (ap (λ (v : KeptValue). is_place_of v.chain.number j.place) c.self.view_is ∙ c.requires.place);
      last = record {
        before = before;
        next = last.next;
        log = last.log ∙ ap (λ (e : EntryValue). before ++ link k (length (chain_of k before)) (Does (Leaves e)) last.next ∷ []) reported;
        seen = last.seen;
      };
      status = applied.status ∙ ap (λ (a : Answer). a.status) answer_is;
      numbers = numbers_before k c.self.inside.chain.log before b s j fit h.counted chain;
      reply_is = applied.reply ∙ ap (λ (a : Answer). a.reply) answer_is;
    } in
    rw (← c.self.view_is) (subst (λ (o : Option ℕ). IfSome o (λ n. IsDoneAtBank k c.args.front.now c.leave.new.front s j result c.apply-applied.new.reply)) (sym (applied.number ∙ number_is b s j room)) done)

pub leave-requires-clause-own : goal.leave-requires-clause-own
leave-requires-clause-own g c =
    let b = c.self.inside.bank in
    let s = c.args.share.now in
    let j = c.args.judged in
    let applied = c.apply-applied.ensures in
    let entry = c.in-Some.entry.now in
    let fit : fits b s j ≡ true = ap (λ (v : KeptValue). fits v.bank s j) c.self.view_is ∙ c.requires.fits in
    let room : has_room b j.port ≡ true = room_of b s j c.apply-applied.result.number applied.number (sym c.is_some.ensures ∙ c.if-is_some.true) in
    let entries = c.entries.ensures ∙ (ap (λ (v : BankValue). v.journal.entries) applied.bank ∙ entries_after b s j room) in
    let is : entry ≡ entry_of s j (answer_of b j).status = last_is b.journal.entries c.entries.result.now (entry_of s j (answer_of b j).status) entry entries c.in-Some.ensures.value in
    ap (λ (e : EntryValue). e.port) is ∙ (sym (fitting b s j fit).port ∙ sym c.requires.line)

pub returns-in-Some-clause-asked : goal.returns-in-Some-clause-asked
returns-in-Some-clause-asked g c =
    let b = c.self.inside.bank in
    let s = c.args.share.now in
    let j = c.args.judged in
    let k = c.self.inside.chain.number in
    let applied = c.apply-applied.ensures in
    let result = c.apply-applied.result in
    let entry = c.in-Some.entry.now in
    let room : has_room b j.port ≡ true = room_of b s j result.number applied.number (sym c.is_some.ensures ∙ c.if-is_some.true) in
    let entries = c.entries.ensures ∙ (ap (λ (v : BankValue). v.journal.entries) applied.bank ∙ entries_after b s j room) in
    let is : entry ≡ entry_of s j (answer_of b j).status = last_is b.journal.entries c.entries.result.now (entry_of s j (answer_of b j).status) entry entries c.in-Some.ensures.value in
    let reported : entry ≡ entry_of s j result.status = is ∙ ap (λ t. entry_of s j t) (sym applied.status) in
    let asked : c.leave.new.self ≡ line_with c.args.line.now k (Leaves (entry_of s j result.status)) =
    c.leave.ensures.asked ∙ (ap (λ (n : ℕ). line_with c.args.line.now n (Leaves entry)) c.self.invariant.0 ∙ ap (λ (e : EntryValue). line_with c.args.line.now k (Leaves e)) reported) in
    rw (← c.self.view_is) (subst (λ (o : Option ℕ). IfSome o (λ n. c.leave.new.self ≡ line_with c.args.line.now k (Leaves (entry_of s j result.status)))) (sym (applied.number ∙ number_is b s j room)) asked)

pub returns-in-Some-clause-unasked : goal.returns-in-Some-clause-unasked
returns-in-Some-clause-unasked g c =
    let b = c.self.inside.bank in
    let s = c.args.share.now in
    let j = c.args.judged in
    let applied = c.apply-applied.ensures in
    let result = c.apply-applied.result in
    let room : has_room b j.port ≡ true = room_of b s j result.number applied.number (sym c.is_some.ensures ∙ c.if-is_some.true) in
    subst (λ (o : Option ℕ). IfNone o (c.leave.new.self ≡ c.args.line.now)) (sym (applied.number ∙ number_is b s j room)) tt

pub returns-in-Some-clause-counted : goal.returns-in-Some-clause-counted
returns-in-Some-clause-counted g c =
    let b = c.self.inside.bank in
    let s = c.args.share.now in
    let j = c.args.judged in
    let k = c.self.inside.chain.number in
    let applied = c.apply-applied.ensures in
    let result = c.apply-applied.result in
    let entry = c.in-Some.entry.now in
    let room : has_room b j.port ≡ true = room_of b s j result.number applied.number (sym c.is_some.ensures ∙ c.if-is_some.true) in
    let entries = c.entries.ensures ∙ (ap (λ (v : BankValue). v.journal.entries) applied.bank ∙ entries_after b s j room) in
    let is : entry ≡ entry_of s j (answer_of b j).status = last_is b.journal.entries c.entries.result.now (entry_of s j (answer_of b j).status) entry entries c.in-Some.ensures.value in
    let asked : c.leave.new.self ≡ line_with c.args.line.now k (Leaves entry) = c.leave.ensures.asked ∙ ap (λ (n : ℕ). line_with c.args.line.now n (Leaves entry)) c.self.invariant.0 in
    let on : CountsOn k s c.apply-applied.new.share c.args.line.now c.leave.new.self =
    counts_on k s c.apply-applied.new.share c.args.line.now c.leave.new.self entry (applied.share ∙ next_share_is b s j room) (ap (λ (e : EntryValue). e.number) is) asked in
    subst (λ (v : KeptValue). CountsOn v.chain.number s c.apply-applied.new.share c.args.line.now c.leave.new.self) c.self.view_is on

pub returns-else-is_some-clause-counted : goal.returns-else-is_some-clause-counted
returns-else-is_some-clause-counted g c =
    let b = c.self.inside.bank in
    let s = c.args.share.now in
    let j = c.args.judged in
    let applied = c.apply-applied.ensures in
    let still : c.apply-applied.new.share ≡ s = applied.share ∙ share_stays b s j c.apply-applied.result.number applied.number (sym c.is_some.ensures ∙ c.if-is_some.false) in
    counts_same c.args.self.now.chain.number s c.apply-applied.new.share c.args.line.now c.args.line.now still refl
