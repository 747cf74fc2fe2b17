use Rattle.std.proofs.Common.{arith}
use Rattle.absdom_num.proofs.Shifts.{shifted_ends}
use Rattle.absdom_num.proofs.tables.left.Goals as goal

pub new-requires : goal.new-requires
new-requires c = shifted_ends _ _ _ (omega arith) (omega arith) c.distance-distance.ensures.bound

pub overflow_cast-low-then-high-modulus : goal.overflow_cast-low-then-high-modulus
overflow_cast-low-then-high-modulus c = omega (arith, new-requires c)
