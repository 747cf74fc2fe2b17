use Rattle.std.proofs.Common.{rules}
use Rattle.annals.proofs.Turns.{woven_at_first}
use Rattle.annals.proofs.chains.EmptyHistory.new.Goals as goal

pub open_row-seen-requires : goal.open_row-seen-requires
open_row-seen-requires c = (woven_at_first, search rules, search rules)
