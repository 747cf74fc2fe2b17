use Rattle.std.proofs.Common.{◌<◌, ℕ, List, length, sym, subst, rules}
use Rattle.std.specs.Io.KnownBytes.{Appends}
use Rattle.std.proofs.KnownBytes.{Appends-nil, Appends-trans}
use Rattle.job_live.proofs.EntryLines.{entries_at}
use Rattle.job_live.proofs.reporting.print_journal.Goals as goal

pub loop-entry-init : goal.loop-entry-init
loop-entry-init g c = Appends-nil (g.W.Write.contents c.args.out.now)

pub loop-entry-preserved : goal.loop-entry-preserved
loop-entry-preserved g c =
    let entries = c.args.entries.now in let k = c.loop-entry.entry-index in
    let below : k < length entries = search rules in
    let P : List ℕ → Type 0 = λ text. Appends (g.W.Write.contents c.args.out.now) (g.W.Write.contents c.print_entry.new.out) text in
    subst P (sym (entries_at entries k _ _ below c.entry-item.is))
    (Appends-trans _ _ _ _ _ c.loop-entry.invariant c.in_ok-print_entry.ensures)
