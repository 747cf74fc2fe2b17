use Rattle.std.proofs.Common.{arith}
use Rattle.rcrc.proofs.RemainderLemmas.{IsRemainder-crc_of, AreBytes}
use Rattle.rcrc.proofs.crc.Goals as goal

pub returns-clause-remainder : goal.returns-clause-remainder
returns-clause-remainder c =
    let fit : AreBytes c.args.bytes.now = λ k. omega (arith, c.type_inv.bytes k) in
    rw c.crc_more.ensures.value (IsRemainder-crc_of c.args.bytes.now fit)
