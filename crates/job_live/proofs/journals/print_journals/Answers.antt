use Rattle.std.proofs.Common.{refl}
use Rattle.job_live.specs.Journals.{due_text}
use Rattle.job_live.proofs.CellRows.{row_printed}
use Rattle.job_live.proofs.journals.print_journals.Goals as goal

pub loop-bank-preserved : goal.loop-bank-preserved
loop-bank-preserved g c =
    row_printed (due_text c.args.each c.args.node.now.banks) c.loop-bank.bank _ _ _ _ refl c.loop-bank.invariant c.in_ok-print_due.ensures
