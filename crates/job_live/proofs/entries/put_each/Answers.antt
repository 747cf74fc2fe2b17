use Rattle.std.proofs.Common.{arith, sym}
use Rattle.std.proofs.lemmas.List.{append-nil}
use Rattle.job_live.proofs.EntriesLeft.{left_more}
use Rattle.job_live.proofs.entries.put_each.Goals as goal

pub loop-bank-init : goal.loop-bank-init
loop-bank-init c = (sym (append-nil c.args.text.now.items), omega arith, omega arith)

pub loop-bank-preserved : goal.loop-bank-preserved
loop-bank-preserved c = (
  left_more c.args.node.now.banks c.loop-bank.bank _ _ _ c.loop-bank.invariant.0 c.put_left_of.ensures.items,
  omega (arith, c.loop-bank.invariant.1, c.put_left_of.ensures.len),
  omega (arith, c.loop-bank.invariant.2, c.put_left_of.ensures.room),
)
