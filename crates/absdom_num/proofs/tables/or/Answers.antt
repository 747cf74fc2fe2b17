use Rattle.std.proofs.Common.{arith}
use Rattle.absdom_num.proofs.Ones.{ones_over_above}
use Rattle.absdom_num.proofs.tables.or.Goals as goal

pub new-requires : goal.new-requires
new-requires c = omega (arith, ones_over_above c.max-2.result (omega arith))
