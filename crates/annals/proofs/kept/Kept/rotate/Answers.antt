use Rattle.std.specs.Prelude.{◌<◌, slice_index}
use Rattle.std.specs.List.{range_with_len}
use Rattle.std.proofs.Common.{◌≡◌, ℕ, List, length, refl, sym, ◌∙◌, ap, subst}
use Rattle.bank.specs.Records.{BankValue, memory_of, numbers_of}
use Rattle.annals.specs.declared.deed.Act.TheVariants.{Rotates}
use Rattle.annals.specs.declared.deed.Deed.TheVariants.{Does}
use Rattle.annals.specs.Chains.{chain_of, link}
use Rattle.annals.specs.Banks.{memory_after, entries_of}
use Rattle.annals.proofs.Counts.{set_counted}
use Rattle.annals.proofs.Replays.{same_memory, replayed_more}
use Rattle.annals.proofs.kept.Kept.rotate.Goals as goal

pub invariant_of-self : goal.invariant_of-self
invariant_of-self g c =
    let b = c.self.inside.bank in
    let k = c.self.inside.chain.number in
    let old = c.self.inside.chain.log in
    let h = c.self.invariant.1 in
    let rotated = c.rotate-journal.ensures in
    let new = c.rotate-journal.new.self in
    let last = c.leave.ensures.added.last in
    let chain = c.leave.ensures.added.whole in
    let before = last.before in
    let l = link k (length (chain_of k before)) (Does (Rotates c.journal_room_left-room.result)) last.next in
    let log = c.leave.new.chain.log in
    let more = c.leave.ensures.log ∙ last.log in
    let same : memory_after k before ≡ memory_of b = same_memory k old before b h.replayed chain in
    let counts : new.counts ≡ b.counts = ap (λ (v : BankValue). v.counts) rotated.bank in
    let memory : memory_of new ≡ memory_of b = ap memory_of rotated.bank in (
      c.self.invariant.0 ∙ sym c.leave.ensures.number,
      record {
        replayed = subst (λ (n : ℕ). memory_of new ≡ memory_after n log) (sym c.leave.ensures.number)
            (memory ∙ sym (replayed_more k before log l (memory_of b) refl same more));
        counted = subst (λ (n : ℕ). (port : ℕ) → port < length new.counts → numbers_of port (entries_of n log) ≡ range_with_len 0 (slice_index new.counts port)) (sym c.leave.ensures.number)
            (set_counted k old before log l new.counts
            (subst (λ (n : List ℕ). (port : ℕ) → port < length n → numbers_of port (entries_of k old) ≡ range_with_len 0 (slice_index n port)) (sym counts) h.counted)
            chain refl refl more);
      },
    )
